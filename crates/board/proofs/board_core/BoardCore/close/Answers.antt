use Rattle.std.proofs.Common.{arith, ◌≡◌, [], ◌∷◌, ◌++◌, length, ap, sym, ◌∙◌, subst, refl, false}
use Rattle.board.specs.declared.entry.BoardEntry.TheVariants.{Close}
use Rattle.board.specs.Entries.{entries_of, is_shared, submissions, front, told, collected}
use Rattle.board.specs.Legal.{MayManage, IsOpen}
use Rattle.board.specs.Places.{places}
use Rattle.board.specs.RunQueue.{IsChain, HasRequest}
use Rattle.board.proofs.KeptUsed.{used_same}
use Rattle.board.proofs.Kept.{shut-same, left_here}
use Rattle.board.proofs.KeptCalls.{kept_open, close_step}
use Rattle.board.proofs.RunQueuesHold.{ready_left, queues_left}
use Rattle.board.proofs.board_core.BoardCore.close.Goals as goal

pub push_reserved-requires : goal.push_reserved-requires
push_reserved-requires g c =
    let open_ : IsOpen (entries_of c.args.pipe c.self.inside.log.items) = subst (λ h. IsOpen (entries_of c.args.pipe h)) (sym c.self.view_is) c.requires.pipe in
    let there = kept_open g.W.Work.asked g.W.Work.meaning (places c.self.inside.pipes) c.self.inside.born c.self.inside.log.items c.args.pipe c.self.invariant.0 open_ in
    let left = left_here c.self.inside.pipes c.remove.new.self c.args.pipe there.0 there.1 c.remove.ensures.updates c.remove.ensures.entries in
    let may : MayManage (entries_of c.args.pipe c.self.inside.log.items) c.args.caller = subst (λ h. MayManage (entries_of c.args.pipe h) c.args.caller) (sym c.self.view_is) c.requires.caller in
    let alone = subst (λ h. is_shared (entries_of c.args.pipe h) ≡ false) (sym c.self.view_is) c.requires.alone in
    let f = subst (λ h. front (entries_of c.args.pipe h) ≡ length (submissions (entries_of c.args.pipe h))) (sym c.self.view_is) c.requires.finished in
    let d = subst (λ h. collected (entries_of c.args.pipe h) ≡ length (told (entries_of c.args.pipe h))) (sym c.self.view_is) c.requires.collected in
    let s = close_step g.W.Work.asked g.W.Work.meaning c.self.inside.pipes c.self.inside.born c.self.inside.log.items c.args.pipe there.0 c.self.invariant.0 there.1 c.remove.new.self c.args.caller left may open_ alone f d in
    omega (arith, s.1, c.self.invariant.2, c.self.invariant.3)

pub overflow_sub-self : goal.overflow_sub-self
overflow_sub-self g c =
    let open_ : IsOpen (entries_of c.args.pipe c.self.inside.log.items) = subst (λ h. IsOpen (entries_of c.args.pipe h)) (sym c.self.view_is) c.requires.pipe in
    let there = kept_open g.W.Work.asked g.W.Work.meaning (places c.self.inside.pipes) c.self.inside.born c.self.inside.log.items c.args.pipe c.self.invariant.0 open_ in
    let left = left_here c.self.inside.pipes c.remove.new.self c.args.pipe there.0 there.1 c.remove.ensures.updates c.remove.ensures.entries in
    let may : MayManage (entries_of c.args.pipe c.self.inside.log.items) c.args.caller = subst (λ h. MayManage (entries_of c.args.pipe h) c.args.caller) (sym c.self.view_is) c.requires.caller in
    let alone = subst (λ h. is_shared (entries_of c.args.pipe h) ≡ false) (sym c.self.view_is) c.requires.alone in
    let f = subst (λ h. front (entries_of c.args.pipe h) ≡ length (submissions (entries_of c.args.pipe h))) (sym c.self.view_is) c.requires.finished in
    let d = subst (λ h. collected (entries_of c.args.pipe h) ≡ length (told (entries_of c.args.pipe h))) (sym c.self.view_is) c.requires.collected in
    let s = close_step g.W.Work.asked g.W.Work.meaning c.self.inside.pipes c.self.inside.born c.self.inside.log.items c.args.pipe there.0 c.self.invariant.0 there.1 c.remove.new.self c.args.caller left may open_ alone f d in
    omega (arith, s.1, c.self.invariant.3)

pub invariant_of-self : goal.invariant_of-self
invariant_of-self g c =
    let open_ : IsOpen (entries_of c.args.pipe c.self.inside.log.items) = subst (λ h. IsOpen (entries_of c.args.pipe h)) (sym c.self.view_is) c.requires.pipe in
    let there = kept_open g.W.Work.asked g.W.Work.meaning (places c.self.inside.pipes) c.self.inside.born c.self.inside.log.items c.args.pipe c.self.invariant.0 open_ in
    let left = left_here c.self.inside.pipes c.remove.new.self c.args.pipe there.0 there.1 c.remove.ensures.updates c.remove.ensures.entries in
    let may : MayManage (entries_of c.args.pipe c.self.inside.log.items) c.args.caller = subst (λ h. MayManage (entries_of c.args.pipe h) c.args.caller) (sym c.self.view_is) c.requires.caller in
    let alone = subst (λ h. is_shared (entries_of c.args.pipe h) ≡ false) (sym c.self.view_is) c.requires.alone in
    let f = subst (λ h. front (entries_of c.args.pipe h) ≡ length (submissions (entries_of c.args.pipe h))) (sym c.self.view_is) c.requires.finished in
    let d = subst (λ h. collected (entries_of c.args.pipe h) ≡ length (told (entries_of c.args.pipe h))) (sym c.self.view_is) c.requires.collected in
    let s = close_step g.W.Work.asked g.W.Work.meaning c.self.inside.pipes c.self.inside.born c.self.inside.log.items c.args.pipe there.0 c.self.invariant.0 there.1 c.remove.new.self c.args.caller left may open_ alone f d in (
      rw c.push_reserved.ensures.items s.0,
      rw c.push_reserved.ensures.items (shut-same c.self.inside.log.items (Close c.args.caller c.args.pipe) refl ∙ c.self.invariant.1),
      omega (arith, s.1, c.self.invariant.2, c.self.invariant.3, c.push_reserved.ensures.len, c.push_reserved.ensures.capacity),
      omega (arith, s.1, c.self.invariant.3),
      rw c.push_reserved.ensures.items (used_same g.W.Work.weight c.self.inside.used c.self.inside.log.items (Close c.args.caller c.args.pipe) refl c.self.invariant.4),
      queues_left c.self.inside.pipes c.remove.new.self c.self.inside.ready c.leave.new.self c.args.pipe there.0 c.self.invariant.5 left c.leave.ensures,
      ready_left IsChain HasRequest c.self.inside.pipes c.remove.new.self c.self.inside.passing c.leave-2.new.self c.args.pipe there.0 c.self.invariant.6 left c.leave-2.ensures.others,
    )

pub returns : goal.returns
returns g c = record {
  closed = c.push_reserved.ensures.items ∙ ap (λ h. h ++ Close c.args.caller c.args.pipe ∷ []) c.self.view_is;
  legal = (invariant_of-self g c).0.legal;
}
