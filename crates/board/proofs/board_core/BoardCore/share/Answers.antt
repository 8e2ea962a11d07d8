use Rattle.std.proofs.Common.{arith, refl, sym, ◌∙◌, subst, true}
use Rattle.board.specs.declared.entry.BoardEntry.TheVariants.{Share}
use Rattle.board.specs.Entries.{entries_of}
use Rattle.board.specs.Legal.{MayManage, IsOpen}
use Rattle.board.specs.Places.{places}
use Rattle.board.proofs.KeptUsed.{used_same}
use Rattle.board.proofs.Kept.{shut-same, loan_here, loan_some, set_here}
use Rattle.board.proofs.KeptCalls.{kept_open, share_step}
use Rattle.board.proofs.KeptRunQueues.{passing_same}
use Rattle.board.proofs.RunQueuesHold.{admits_same, queues_same}
use Rattle.board.proofs.board_core.BoardCore.share.Goals as goal

pub unwrap-place-requires : goal.unwrap-place-requires
unwrap-place-requires g c =
    let open_ : IsOpen (entries_of c.args.pipe c.self.inside.log.items) = subst (λ h. IsOpen (entries_of c.args.pipe h)) (sym c.self.view_is) c.requires.pipe in
    let there = kept_open g.W.Work.asked g.W.Work.meaning (places c.self.inside.pipes) c.self.inside.born c.self.inside.log.items c.args.pipe c.self.invariant.0 open_ in
    loan_some c.get_mut.result (places c.self.inside.pipes c.args.pipe) there.0 c.get_mut.ensures.value there.1

pub invariant_of-self-2 : goal.invariant_of-self-2
invariant_of-self-2 g c =
    let open_ : IsOpen (entries_of c.args.pipe c.self.inside.log.items) = subst (λ h. IsOpen (entries_of c.args.pipe h)) (sym c.self.view_is) c.requires.pipe in
    let may : MayManage (entries_of c.args.pipe c.self.inside.log.items) c.args.caller = subst (λ h. MayManage (entries_of c.args.pipe h) c.args.caller) (sym c.self.view_is) c.requires.caller in
    let pipe = c.unwrap-place.result.now in
    let here = loan_here (places c.self.inside.pipes c.args.pipe) c.get_mut.result c.unwrap-place.result c.get_mut.ensures.value c.unwrap-place.ensures in
    let next = c.get_mut.follows.lender (record pipe { shared = true }) in
    let set = set_here c.self.inside.pipes next c.args.pipe pipe (record pipe { shared = true }) here (c.get_mut.follows.holds (record pipe { shared = true })) in
    let s = share_step g.W.Work.asked g.W.Work.meaning c.self.inside.pipes c.self.inside.born c.self.inside.log.items c.args.pipe pipe c.self.invariant.0 here next c.args.caller set may open_ in (
      rw (c.push_reserved.ensures.items, c.in_ok-reserve_entries.ensures.items) s.0,
      rw (c.push_reserved.ensures.items, c.in_ok-reserve_entries.ensures.items) (shut-same c.self.inside.log.items (Share c.args.caller c.args.pipe) refl ∙ c.self.invariant.1),
      omega (arith, c.push_reserved.ensures.len, c.push_reserved.ensures.capacity, c.in_ok-reserve_entries.ensures.ok),
      omega (arith, s.1, c.self.invariant.3),
      rw (c.push_reserved.ensures.items, c.in_ok-reserve_entries.ensures.items) (used_same g.W.Work.weight c.self.inside.used c.self.inside.log.items (Share c.args.caller c.args.pipe) refl c.self.invariant.4),
      queues_same c.self.inside.pipes next c.self.inside.ready c.args.pipe pipe (record pipe { shared = true }) c.self.invariant.5 set (λ m. m) (admits_same pipe (record pipe { shared = true }) refl refl refl refl),
      passing_same c.self.inside.pipes next c.self.inside.passing c.args.pipe pipe (record pipe { shared = true }) c.self.invariant.6 set refl (λ m. m),
    )

pub returns-clause-legal : goal.returns-clause-legal
returns-clause-legal g c = (invariant_of-self-2 g c).0.legal
