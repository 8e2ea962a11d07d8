use Rattle.std.proofs.Common.{arith, true, refl, ◌∙◌, ap, subst}
use Rattle.board.specs.declared.entry.BoardEntry.{BoardEntry}
use Rattle.board.specs.Entries.{NoneFor}
use Rattle.board.specs.Stages.{is_queue}
use Rattle.board.specs.RunQueue.{HasJob, Admits}
use Rattle.board.proofs.KeptRunQueues.{says, passing_same, taken_chain}
use Rattle.board.proofs.KeptUsed.{used_same}
use Rattle.board.specs.declared.pipeline.Pipeline.{Pipeline}
use Rattle.board.specs.Places.{places}
use Rattle.board.proofs.Kept.{shut-same, loan_here, loan_some, one_here, set_here}
use Rattle.board.proofs.KeptWork.{first_taken, first_made, first_is_queue, first_quiet, take_step, take_none, take_passes, take_entry_is}
use Rattle.board.proofs.KeptPassOn.{apart_here}
use Rattle.board.proofs.RunQueuesHold.{admits_same, queues_told}
use Rattle.board.proofs.board_core.BoardCore.take.Goals as goal

pub unwrap-place-requires : goal.unwrap-place-requires
unwrap-place-requires g c = loan_some c.get_mut.result (places c.self.inside.pipes c.in_ok-pipe.pipe) c.in_ok-pipe.ensures.next.0 c.get_mut.ensures.value c.in_ok-pipe.ensures.next.1

pub take-requires : goal.take-requires
take-requires g c =
    let pipe = c.unwrap-place.result.now in
    let here = loan_here (places c.self.inside.pipes c.in_ok-pipe.pipe) c.get_mut.result c.unwrap-place.result c.get_mut.ensures.value c.unwrap-place.ensures in
    apart_here g.W.Work.asked g.W.Work.meaning c.self.inside.pipes c.self.inside.born c.self.inside.log.items c.in_ok-pipe.pipe pipe c.self.invariant.0 here

pub returns-in_err-pipe-clause-taken : goal.returns-in_err-pipe-clause-taken
returns-in_err-pipe-clause-taken g c = rw c.from_residual.ensures (
  c.self.view_is,
  subst (λ h. NoneFor h c.args.caller) c.self.view_is
      (take_none g.W.Work.asked g.W.Work.meaning (places c.self.inside.pipes) c.self.inside.born c.self.inside.log.items c.args.caller c.self.invariant.0 c.in_err-pipe.ensures.next),
)

pub invariant_of-self-2 : goal.invariant_of-self-2
invariant_of-self-2 g c =
    let k = c.self.invariant.0 in
    let pipe = c.unwrap-place.result.now in
    let here = loan_here (places c.self.inside.pipes c.in_ok-pipe.pipe) c.get_mut.result c.unwrap-place.result c.get_mut.ensures.value c.unwrap-place.ensures in
    let m = one_here (λ (x : Pipeline _ _). HasJob x × Admits x c.args.caller) (places c.self.inside.pipes c.in_ok-pipe.pipe) pipe c.in_ok-pipe.ensures.next.1 c.in_ok-pipe.ensures.next.2 here in
    let next = c.get_mut.follows.lender (record pipe { stage = c.take.new.self }) in
    let set = set_here c.self.inside.pipes next c.in_ok-pipe.pipe pipe (record pipe { stage = c.take.new.self }) here (c.get_mut.follows.holds (record pipe { stage = c.take.new.self })) in
    let made = c.take_entry-entry.ensures ∙ first_made pipe.stage c.args.caller c.in_ok-pipe.pipe c.in_ok-number.field-0.number c.in_ok-number.field-0.started (is_queue c.take.new.self) (ap is_queue c.in_ok-number.ensures.3 ∙ first_is_queue pipe.stage _) c.in_ok-number.ensures.0 c.in_ok-number.ensures.1 in
    let s = take_step g.W.Work.asked g.W.Work.meaning c.self.inside.pipes c.self.inside.born c.self.inside.log.items c.in_ok-pipe.pipe c.args.caller pipe c.take.new.self c.in_ok-number.field-0.item next k set m.0 m.1 c.in_ok-number.ensures.2 c.in_ok-number.ensures.3 in
    let e : BoardEntry g.row.W-Ask.Denot = first_taken pipe.stage c.args.caller c.in_ok-pipe.pipe in
    let q = first_quiet g.row.W-Ask.Denot pipe.stage c.args.caller c.in_ok-pipe.pipe in (
      rw (c.push_reserved.ensures.items, made) s.0,
      rw (c.push_reserved.ensures.items, made) (shut-same c.self.inside.log.items e q.0 ∙ c.self.invariant.1),
      omega (arith, s.1, c.self.invariant.2, c.self.invariant.3, c.push_reserved.ensures.len, c.push_reserved.ensures.capacity),
      omega (arith, s.1, c.self.invariant.3),
      rw (c.push_reserved.ensures.items, made) (used_same g.W.Work.weight c.self.inside.used c.self.inside.log.items e q.1 c.self.invariant.4),
      queues_told c.self.inside.pipes next c.next_job.new.self c.set_ready.new.self c.in_ok-pipe.pipe pipe (record pipe { stage = c.take.new.self }) true c.may_serve-has_job.result c.in_ok-pipe.ensures.ready set c.set_ready.ensures (admits_same pipe (record pipe { stage = c.take.new.self }) refl refl refl (ap is_queue c.in_ok-number.ensures.3 ∙ first_is_queue pipe.stage _)) (λ h. m.0) (says c.take.new.self c.may_serve-has_job.result c.may_serve-has_job.ensures),
      passing_same c.self.inside.pipes next c.self.inside.passing c.in_ok-pipe.pipe pipe (record pipe { stage = c.take.new.self }) c.self.invariant.6 set (taken_chain pipe.stage c.take.new.self _ c.in_ok-number.ensures.3) (take_passes pipe.stage c.take.new.self _ c.in_ok-number.ensures.3),
    )

pub returns-clause-taken : goal.returns-clause-taken
returns-clause-taken g c =
    let k = c.self.invariant.0 in
    let pipe = c.unwrap-place.result.now in
    let here = loan_here (places c.self.inside.pipes c.in_ok-pipe.pipe) c.get_mut.result c.unwrap-place.result c.get_mut.ensures.value c.unwrap-place.ensures in
    let m = one_here (λ (x : Pipeline _ _). HasJob x × Admits x c.args.caller) (places c.self.inside.pipes c.in_ok-pipe.pipe) pipe c.in_ok-pipe.ensures.next.1 c.in_ok-pipe.ensures.next.2 here in
    let next = c.get_mut.follows.lender (record pipe { stage = c.take.new.self }) in
    let set = set_here c.self.inside.pipes next c.in_ok-pipe.pipe pipe (record pipe { stage = c.take.new.self }) here (c.get_mut.follows.holds (record pipe { stage = c.take.new.self })) in
    let made = c.take_entry-entry.ensures ∙ first_made pipe.stage c.args.caller c.in_ok-pipe.pipe c.in_ok-number.field-0.number c.in_ok-number.field-0.started (is_queue c.take.new.self) (ap is_queue c.in_ok-number.ensures.3 ∙ first_is_queue pipe.stage _) c.in_ok-number.ensures.0 c.in_ok-number.ensures.1 in
    let s = take_step g.W.Work.asked g.W.Work.meaning c.self.inside.pipes c.self.inside.born c.self.inside.log.items c.in_ok-pipe.pipe c.args.caller pipe c.take.new.self c.in_ok-number.field-0.item next k set m.0 m.1 c.in_ok-number.ensures.2 c.in_ok-number.ensures.3 in
    let kp = k.each c.in_ok-pipe.pipe pipe here in
    let named = take_entry_is g.W.Work.asked g.W.Work.meaning c.self.inside.log.items pipe c.args.caller c.in_ok-pipe.pipe kp in (
      rw (← c.self.view_is, c.in_ok-number.ensures.0, ← named, ← made) c.push_reserved.ensures.items,
      rw (← c.self.view_is, c.in_ok-number.ensures.0) s.2,
    )

pub returns-clause-ready : goal.returns-clause-ready
returns-clause-ready g c =
    let k = c.self.invariant.0 in
    let pipe = c.unwrap-place.result.now in
    let here = loan_here (places c.self.inside.pipes c.in_ok-pipe.pipe) c.get_mut.result c.unwrap-place.result c.get_mut.ensures.value c.unwrap-place.ensures in
    let m = one_here (λ (x : Pipeline _ _). HasJob x × Admits x c.args.caller) (places c.self.inside.pipes c.in_ok-pipe.pipe) pipe c.in_ok-pipe.ensures.next.1 c.in_ok-pipe.ensures.next.2 here in
    let next = c.get_mut.follows.lender (record pipe { stage = c.take.new.self }) in
    let set = set_here c.self.inside.pipes next c.in_ok-pipe.pipe pipe (record pipe { stage = c.take.new.self }) here (c.get_mut.follows.holds (record pipe { stage = c.take.new.self })) in
    let made = c.take_entry-entry.ensures ∙ first_made pipe.stage c.args.caller c.in_ok-pipe.pipe c.in_ok-number.field-0.number c.in_ok-number.field-0.started (is_queue c.take.new.self) (ap is_queue c.in_ok-number.ensures.3 ∙ first_is_queue pipe.stage _) c.in_ok-number.ensures.0 c.in_ok-number.ensures.1 in
    let s = take_step g.W.Work.asked g.W.Work.meaning c.self.inside.pipes c.self.inside.born c.self.inside.log.items c.in_ok-pipe.pipe c.args.caller pipe c.take.new.self c.in_ok-number.field-0.item next k set m.0 m.1 c.in_ok-number.ensures.2 c.in_ok-number.ensures.3 in
    rw (c.push_reserved.ensures.items, made, c.in_ok-number.ensures.0) s.3

pub returns-clause-legal : goal.returns-clause-legal
returns-clause-legal g c = (invariant_of-self-2 g c).0.legal
