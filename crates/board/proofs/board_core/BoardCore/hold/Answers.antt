use Rattle.std.proofs.Common.{arith, inr, true, refl, sym, ◌∙◌, ap, subst}
use Rattle.board.specs.declared.entry.BoardEntry.TheVariants.{Hold}
use Rattle.board.specs.Entries.{entries_of}
use Rattle.board.proofs.KeptUsed.{used_same}
use Rattle.board.specs.Places.{places}
use Rattle.board.proofs.Kept.{shut-same, loan_here, loan_some, set_here}
use Rattle.board.specs.Legal.{MayManage, IsOpenQueue}
use Rattle.board.proofs.KeptCalls.{kept_open, server_here, hold_step}
use Rattle.board.proofs.RunQueuesHold.{admits_same, hold_queue, hold_chain, queues_told}
use Rattle.board.proofs.KeptRunQueues.{serves, says, says_passing, passing_told}
use Rattle.board.proofs.board_core.BoardCore.hold.Goals as goal

pub unwrap-place-requires : goal.unwrap-place-requires
unwrap-place-requires g c =
    let open_ : IsOpenQueue (entries_of c.args.pipe c.self.inside.log.items) = subst (λ h. IsOpenQueue (entries_of c.args.pipe h)) (sym c.self.view_is) c.requires.pipe in
    let there = kept_open g.W.Work.asked g.W.Work.meaning (places c.self.inside.pipes) c.self.inside.born c.self.inside.log.items c.args.pipe c.self.invariant.0 (inr open_) in
    loan_some c.get_mut.result (places c.self.inside.pipes c.args.pipe) there.0 c.get_mut.ensures.value there.1

pub set_held-requires : goal.set_held-requires
set_held-requires g c =
    let open_ : IsOpenQueue (entries_of c.args.pipe c.self.inside.log.items) = subst (λ h. IsOpenQueue (entries_of c.args.pipe h)) (sym c.self.view_is) c.requires.pipe in
    let here = loan_here (places c.self.inside.pipes c.args.pipe) c.get_mut.result c.unwrap-place.result c.get_mut.ensures.value c.unwrap-place.ensures in
    server_here g.W.Work.asked g.W.Work.meaning c.self.inside.pipes c.self.inside.born c.self.inside.log.items c.args.pipe c.unwrap-place.result.now c.self.invariant.0 here open_.0

pub invariant_of-self-2 : goal.invariant_of-self-2
invariant_of-self-2 g c =
    let open_ : IsOpenQueue (entries_of c.args.pipe c.self.inside.log.items) = subst (λ h. IsOpenQueue (entries_of c.args.pipe h)) (sym c.self.view_is) c.requires.pipe in
    let here = loan_here (places c.self.inside.pipes c.args.pipe) c.get_mut.result c.unwrap-place.result c.get_mut.ensures.value c.unwrap-place.ensures in
    let next = c.get_mut.follows.lender (record c.unwrap-place.result.now { stage = c.set_held.new.self }) in
    let set = set_here c.self.inside.pipes next c.args.pipe c.unwrap-place.result.now (record c.unwrap-place.result.now { stage = c.set_held.new.self }) here (c.get_mut.follows.holds (record c.unwrap-place.result.now { stage = c.set_held.new.self })) in
    let may : MayManage (entries_of c.args.pipe c.self.inside.log.items) c.args.caller = subst (λ h. MayManage (entries_of c.args.pipe h) c.args.caller) (sym c.self.view_is) c.requires.caller in
    let s = hold_step g.W.Work.asked g.W.Work.meaning c.self.inside.pipes c.self.inside.born c.self.inside.log.items c.args.pipe c.unwrap-place.result.now c.self.invariant.0 here next c.args.caller (record c.unwrap-place.result.now { stage = c.set_held.new.self }) set may open_ (ap (λ x. record c.unwrap-place.result.now { stage = x }) c.set_held.ensures) in (
      rw (c.push_reserved.ensures.items, c.in_ok-reserve_entries.ensures.items) s.0,
      rw (c.push_reserved.ensures.items, c.in_ok-reserve_entries.ensures.items) (shut-same c.self.inside.log.items (Hold c.args.caller c.args.pipe) refl ∙ c.self.invariant.1),
      omega (arith, c.push_reserved.ensures.len, c.push_reserved.ensures.capacity, c.in_ok-reserve_entries.ensures.ok),
      omega (arith, s.1, c.self.invariant.3),
      rw (c.push_reserved.ensures.items, c.in_ok-reserve_entries.ensures.items) (used_same g.W.Work.weight c.self.inside.used c.self.inside.log.items (Hold c.args.caller c.args.pipe) refl c.self.invariant.4),
      queues_told c.self.inside.pipes next c.self.inside.ready c.set_ready.new.self c.args.pipe c.unwrap-place.result.now (record c.unwrap-place.result.now { stage = c.set_held.new.self }) c.may_serve-had_job.result c.may_serve-has_job.result c.self.invariant.5 set c.set_ready.ensures (admits_same c.unwrap-place.result.now (record c.unwrap-place.result.now { stage = c.set_held.new.self }) refl refl refl (hold_queue c.unwrap-place.result.now.stage c.set_held.new.self true c.set_held.ensures)) (serves c.unwrap-place.result.now.stage c.may_serve-had_job.result c.may_serve-had_job.ensures) (says c.set_held.new.self c.may_serve-has_job.result c.may_serve-has_job.ensures),
      passing_told c.self.inside.pipes next c.self.inside.passing c.args.pipe c.unwrap-place.result.now (record c.unwrap-place.result.now { stage = c.set_held.new.self }) c.self.invariant.6 set c.set.new.self c.may_pass-may_pass.result c.set.ensures (hold_chain c.unwrap-place.result.now.stage c.set_held.new.self true c.set_held.ensures) (says_passing c.set_held.new.self c.may_pass-may_pass.result c.may_pass-may_pass.ensures),
    )

pub returns-clause-legal : goal.returns-clause-legal
returns-clause-legal g c = (invariant_of-self-2 g c).0.legal
