use Rattle.std.proofs.Common.{arith, inl, ◌≡◌, ◌<◌, false, refl, sym, ◌∙◌, ap, subst}
use Rattle.std.specs.Prelude.{◌^◌}
use Rattle.board.specs.declared.entry.BoardEntry.TheVariants.{Mask}
use Rattle.board.specs.Shapes.{width_born}
use Rattle.board.specs.Entries.{entries_of, birth, is_shared}
use Rattle.board.proofs.KeptUsed.{used_same}
use Rattle.board.specs.Stages.{is_queue, is_chain, MayServe, MayPass}
use Rattle.board.specs.Kept.{IsKeptPipe, owes}
use Rattle.board.specs.Places.{places}
use Rattle.board.proofs.Kept.{shut-same, loan_here, loan_some, set_here, swap_step}
use Rattle.board.specs.Legal.{MayManage, IsOpenPad}
use Rattle.board.proofs.KeptCalls.{kept_open, pad_here, mask_step, lists_passes}
use Rattle.board.proofs.KeptRunQueues.{passing_same, lists_queue, lists_chain, lists_serves}
use Rattle.board.proofs.RunQueuesHold.{admits_same, queues_kept, queues_same, queues_masked}
use Rattle.board.proofs.board_core.BoardCore.mask.Goals as goal

pub unwrap-place-requires : goal.unwrap-place-requires
unwrap-place-requires g c =
    let open_ : IsOpenPad (entries_of c.args.pipe c.self.inside.log.items) = subst (λ h. IsOpenPad (entries_of c.args.pipe h)) (sym c.self.view_is) c.requires.pipe in
    let there = kept_open g.W.Work.asked g.W.Work.meaning (places c.self.inside.pipes) c.self.inside.born c.self.inside.log.items c.args.pipe c.self.invariant.0 (inl open_) in
    loan_some c.get_mut.result (places c.self.inside.pipes c.args.pipe) there.0 c.get_mut.ensures.value there.1

pub remask-requires-clause-pad : goal.remask-requires-clause-pad
remask-requires-clause-pad g c =
    let open_ : IsOpenPad (entries_of c.args.pipe c.self.inside.log.items) = subst (λ h. IsOpenPad (entries_of c.args.pipe h)) (sym c.self.view_is) c.requires.pipe in
    let here = loan_here (places c.self.inside.pipes c.args.pipe) c.get_mut.result c.unwrap-place.result c.get_mut.ensures.value c.unwrap-place.ensures in
    pad_here g.W.Work.asked g.W.Work.meaning c.self.inside.pipes c.self.inside.born c.self.inside.log.items c.args.pipe c.unwrap-place.result.now c.self.invariant.0 here open_.0

pub invariant_of-self-in_err-remask : goal.invariant_of-self-in_err-remask
invariant_of-self-in_err-remask g c =
    let open_ : IsOpenPad (entries_of c.args.pipe c.self.inside.log.items) = subst (λ h. IsOpenPad (entries_of c.args.pipe h)) (sym c.self.view_is) c.requires.pipe in
    let here = loan_here (places c.self.inside.pipes c.args.pipe) c.get_mut.result c.unwrap-place.result c.get_mut.ensures.value c.unwrap-place.ensures in
    let next = c.get_mut.follows.lender (record c.unwrap-place.result.now { stage = c.remask.new.self }) in
    let set = set_here c.self.inside.pipes next c.args.pipe c.unwrap-place.result.now (record c.unwrap-place.result.now { stage = c.remask.new.self }) here (c.get_mut.follows.holds (record c.unwrap-place.result.now { stage = c.remask.new.self })) in
    let s = swap_step g.W.Work.asked g.W.Work.meaning c.self.inside.pipes next c.self.inside.born c.self.inside.log.items c.args.pipe c.unwrap-place.result.now (record c.unwrap-place.result.now { stage = c.remask.new.self }) c.self.invariant.0 set (subst (λ x. IsKeptPipe g.W.Work.asked g.W.Work.meaning (record c.unwrap-place.result.now { stage = x }) (entries_of c.args.pipe c.self.inside.log.items)) (sym c.in_err-remask.ensures.err) (c.self.invariant.0.each c.args.pipe c.unwrap-place.result.now here)) in
    let o : owes (record c.unwrap-place.result.now { stage = c.remask.new.self }) ≡ owes c.unwrap-place.result.now = ap (λ x. owes (record c.unwrap-place.result.now { stage = x })) c.in_err-remask.ensures.err in (
      rw c.in_ok-reserve_entries.ensures.items s.0,
      rw c.in_ok-reserve_entries.ensures.items c.self.invariant.1,
      omega (arith, c.self.invariant.2, c.in_ok-reserve_entries.ensures.len, c.in_ok-reserve_entries.ensures.capacity),
      omega (arith, s.1, o, c.self.invariant.3),
      rw c.in_ok-reserve_entries.ensures.items c.self.invariant.4,
      queues_same c.self.inside.pipes next c.join_workers.new.self c.args.pipe c.unwrap-place.result.now (record c.unwrap-place.result.now { stage = c.remask.new.self }) (queues_kept c.self.inside.pipes c.self.inside.ready c.join_workers.new.self c.self.invariant.5 c.in_ok-join_workers.ensures.kept) set (λ m. subst (λ x. MayServe x) c.in_err-remask.ensures.err m) (admits_same c.unwrap-place.result.now (record c.unwrap-place.result.now { stage = c.remask.new.self }) refl refl refl (ap is_queue c.in_err-remask.ensures.err)),
      passing_same c.self.inside.pipes next c.self.inside.passing c.args.pipe c.unwrap-place.result.now (record c.unwrap-place.result.now { stage = c.remask.new.self }) c.self.invariant.6 set (ap is_chain c.in_err-remask.ensures.err) (λ m. subst (λ x. MayPass x) c.in_err-remask.ensures.err m),
    )

pub invariant_of-self-2 : goal.invariant_of-self-2
invariant_of-self-2 g c =
    let open_ : IsOpenPad (entries_of c.args.pipe c.self.inside.log.items) = subst (λ h. IsOpenPad (entries_of c.args.pipe h)) (sym c.self.view_is) c.requires.pipe in
    let here = loan_here (places c.self.inside.pipes c.args.pipe) c.get_mut.result c.unwrap-place.result c.get_mut.ensures.value c.unwrap-place.ensures in
    let next = c.get_mut.follows.lender (record c.unwrap-place.result.now { mask = c.args.mask; stage = c.remask.new.self }) in
    let set = set_here c.self.inside.pipes next c.args.pipe c.unwrap-place.result.now (record c.unwrap-place.result.now { mask = c.args.mask; stage = c.remask.new.self }) here (c.get_mut.follows.holds (record c.unwrap-place.result.now { mask = c.args.mask; stage = c.remask.new.self })) in
    let may : MayManage (entries_of c.args.pipe c.self.inside.log.items) c.args.caller = subst (λ h. MayManage (entries_of c.args.pipe h) c.args.caller) (sym c.self.view_is) c.requires.caller in
    let alone = subst (λ h. is_shared (entries_of c.args.pipe h) ≡ false) (sym c.self.view_is) c.requires.alone in
    let bits = subst (λ h. c.args.mask < 2 ^ width_born (birth (entries_of c.args.pipe h))) (sym c.self.view_is) c.requires.bits in
    let s = mask_step g.W.Work.asked g.W.Work.meaning c.self.inside.pipes c.self.inside.born c.self.inside.log.items c.args.pipe c.unwrap-place.result.now c.self.invariant.0 here next c.args.caller c.max.result c.args.mask (record c.unwrap-place.result.now { mask = c.args.mask; stage = c.remask.new.self }) set may open_ alone bits c.max.ensures (ap (λ x. record c.unwrap-place.result.now { mask = c.args.mask; stage = x }) c.in_ok-remask.ensures.ok) in (
      rw (c.push_reserved.ensures.items, c.in_ok-reserve_entries.ensures.items) s.0,
      rw (c.push_reserved.ensures.items, c.in_ok-reserve_entries.ensures.items) (shut-same c.self.inside.log.items (Mask c.args.caller c.args.pipe c.args.mask) refl ∙ c.self.invariant.1),
      omega (arith, c.push_reserved.ensures.len, c.push_reserved.ensures.capacity, c.in_ok-reserve_entries.ensures.ok),
      omega (arith, s.1, c.self.invariant.3),
      rw (c.push_reserved.ensures.items, c.in_ok-reserve_entries.ensures.items) (used_same g.W.Work.weight c.self.inside.used c.self.inside.log.items (Mask c.args.caller c.args.pipe c.args.mask) refl c.self.invariant.4),
      queues_masked c.self.inside.pipes next c.join_workers.new.self c.readmit.new.self c.args.pipe c.unwrap-place.result.now (record c.unwrap-place.result.now { mask = c.args.mask; stage = c.remask.new.self }) (queues_kept c.self.inside.pipes c.self.inside.ready c.join_workers.new.self c.self.invariant.5 c.in_ok-join_workers.ensures.kept) set c.readmit.ensures.queues c.readmit.ensures.own refl refl (lists_queue c.unwrap-place.result.now.stage c.remask.new.self c.max.result c.in_ok-remask.ensures.ok) (lists_serves c.unwrap-place.result.now.stage c.remask.new.self c.max.result c.in_ok-remask.ensures.ok) c.in_ok-join_workers.ensures.joined,
      passing_same c.self.inside.pipes next c.self.inside.passing c.args.pipe c.unwrap-place.result.now (record c.unwrap-place.result.now { mask = c.args.mask; stage = c.remask.new.self }) c.self.invariant.6 set (lists_chain c.unwrap-place.result.now.stage c.remask.new.self c.max.result c.in_ok-remask.ensures.ok) (lists_passes c.unwrap-place.result.now.stage c.remask.new.self c.max.result c.in_ok-remask.ensures.ok),
    )

pub returns-clause-legal : goal.returns-clause-legal
returns-clause-legal g c = (invariant_of-self-2 g c).0.legal

pub invariant_of-self-in_err-join_workers : goal.invariant_of-self-in_err-join_workers
invariant_of-self-in_err-join_workers g c = (
  rw c.in_ok-reserve_entries.ensures.items c.self.invariant.0,
  rw c.in_ok-reserve_entries.ensures.items c.self.invariant.1,
  omega (arith, c.self.invariant.2, c.in_ok-reserve_entries.ensures.len, c.in_ok-reserve_entries.ensures.capacity),
  c.self.invariant.3,
  rw c.in_ok-reserve_entries.ensures.items c.self.invariant.4,
  queues_kept c.self.inside.pipes c.self.inside.ready c.join_workers.new.self c.self.invariant.5 c.in_err-join_workers.ensures.kept,
  c.self.invariant.6,
)
