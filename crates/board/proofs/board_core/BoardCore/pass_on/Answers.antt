use Rattle.std.proofs.Common.{arith, ◌∙◌, subst, refl}
use Rattle.board.specs.declared.entry.BoardEntry.{BoardEntry}
use Rattle.board.specs.Entries.{NonePasses}
use Rattle.board.specs.RunQueue.{HasRequest}
use Rattle.board.proofs.KeptRunQueues.{serves, says, says_passing, passing_told, passing_searched, none_passes, passed_is_queue, passed_is_chain}
use Rattle.board.proofs.KeptUsed.{used_same}
use Rattle.board.specs.declared.pipeline.Pipeline.{Pipeline}
use Rattle.board.specs.Places.{places}
use Rattle.board.proofs.Kept.{shut-same, loan_here, loan_some, one_here, set_here}
use Rattle.board.proofs.KeptPassOn.{passed_entry, pass_step, pass_none, few_here, linked_here, apart_here, entry_made}
use Rattle.board.proofs.RunQueuesHold.{admits_same, queues_told}
use Rattle.board.proofs.board_core.BoardCore.pass_on.Goals as goal

pub returns-in_default-clause-passed : goal.returns-in_default-clause-passed
returns-in_default-clause-passed g c = (
  subst (λ h. NonePasses h) c.self.view_is
      (pass_none g.W.Work.asked g.W.Work.meaning (places c.self.inside.pipes) c.self.inside.born c.self.inside.log.items c.self.invariant.0 (none_passes c.self.inside.pipes c.self.inside.passing c.self.invariant.6 c.in_default.ensures.next)),
  c.self.view_is,
)

pub invariant_of-self : goal.invariant_of-self
invariant_of-self g c = (
  c.self.invariant.0,
  c.self.invariant.1,
  c.self.invariant.2,
  c.self.invariant.3,
  c.self.invariant.4,
  c.self.invariant.5,
  passing_searched c.self.inside.pipes c.self.inside.passing c.next_request.new.passing c.self.invariant.6 c.in_default.ensures.kept,
)

pub unwrap-place-requires : goal.unwrap-place-requires
unwrap-place-requires g c = loan_some c.get_mut.result (places c.self.inside.pipes c.in-Some.pipe) c.in-Some.ensures.next.0 c.get_mut.ensures.value c.in-Some.ensures.next.1

pub pass_on-requires-clause-placed : goal.pass_on-requires-clause-placed
pass_on-requires-clause-placed g c =
    let pipe = c.unwrap-place.result.now in
    let here = loan_here (places c.self.inside.pipes c.in-Some.pipe) c.get_mut.result c.unwrap-place.result c.get_mut.ensures.value c.unwrap-place.ensures in
    (linked_here g.W.Work.asked g.W.Work.meaning c.self.inside.pipes c.self.inside.born c.self.inside.log.items c.in-Some.pipe pipe c.self.invariant.0 here).0

pub pass_on-requires-clause-linked : goal.pass_on-requires-clause-linked
pass_on-requires-clause-linked g c =
    let pipe = c.unwrap-place.result.now in
    let here = loan_here (places c.self.inside.pipes c.in-Some.pipe) c.get_mut.result c.unwrap-place.result c.get_mut.ensures.value c.unwrap-place.ensures in
    (linked_here g.W.Work.asked g.W.Work.meaning c.self.inside.pipes c.self.inside.born c.self.inside.log.items c.in-Some.pipe pipe c.self.invariant.0 here).1

pub pass_on-requires-clause-apart : goal.pass_on-requires-clause-apart
pass_on-requires-clause-apart g c =
    let pipe = c.unwrap-place.result.now in
    let here = loan_here (places c.self.inside.pipes c.in-Some.pipe) c.get_mut.result c.unwrap-place.result c.get_mut.ensures.value c.unwrap-place.ensures in
    apart_here g.W.Work.asked g.W.Work.meaning c.self.inside.pipes c.self.inside.born c.self.inside.log.items c.in-Some.pipe pipe c.self.invariant.0 here

pub pass_on-requires-clause-few : goal.pass_on-requires-clause-few
pass_on-requires-clause-few g c =
    let pipe = c.unwrap-place.result.now in
    let here = loan_here (places c.self.inside.pipes c.in-Some.pipe) c.get_mut.result c.unwrap-place.result c.get_mut.ensures.value c.unwrap-place.ensures in
    let m = one_here (λ (x : Pipeline _ _). HasRequest x) (places c.self.inside.pipes c.in-Some.pipe) pipe c.in-Some.ensures.next.1 c.in-Some.ensures.next.2 here in
    let f = few_here g.W.Work.asked g.W.Work.meaning c.self.inside.pipes c.self.inside.born c.self.inside.log.items c.in-Some.pipe pipe c.self.invariant.0 here m in
    omega (arith, f, c.self.inside.log.ok.0, c.self.inside.log.ok.1, c.self.inside.log.small)

pub push_reserved-requires : goal.push_reserved-requires
push_reserved-requires g c =
    let pipe = c.unwrap-place.result.now in
    let here = loan_here (places c.self.inside.pipes c.in-Some.pipe) c.get_mut.result c.unwrap-place.result c.get_mut.ensures.value c.unwrap-place.ensures in
    let m = one_here (λ (x : Pipeline _ _). HasRequest x) (places c.self.inside.pipes c.in-Some.pipe) pipe c.in-Some.ensures.next.1 c.in-Some.ensures.next.2 here in
    let next = c.get_mut.follows.lender (record pipe { stage = c.pass_on.new.self }) in
    let set = set_here c.self.inside.pipes next c.in-Some.pipe pipe (record pipe { stage = c.pass_on.new.self }) here (c.get_mut.follows.holds (record pipe { stage = c.pass_on.new.self })) in
    let s = pass_step g.W.Work.asked g.W.Work.meaning c.self.inside.pipes c.self.inside.born c.self.inside.log.items c.in-Some.pipe c.args.caller pipe c.pass_on.new.self next c.self.invariant.0 set m c.in-Some-pass_on.ensures.2 in
    omega (arith, s.1, c.self.invariant.2, c.self.invariant.3)

pub overflow_sub-self : goal.overflow_sub-self
overflow_sub-self g c =
    let pipe = c.unwrap-place.result.now in
    let here = loan_here (places c.self.inside.pipes c.in-Some.pipe) c.get_mut.result c.unwrap-place.result c.get_mut.ensures.value c.unwrap-place.ensures in
    let m = one_here (λ (x : Pipeline _ _). HasRequest x) (places c.self.inside.pipes c.in-Some.pipe) pipe c.in-Some.ensures.next.1 c.in-Some.ensures.next.2 here in
    let next = c.get_mut.follows.lender (record pipe { stage = c.pass_on.new.self }) in
    let set = set_here c.self.inside.pipes next c.in-Some.pipe pipe (record pipe { stage = c.pass_on.new.self }) here (c.get_mut.follows.holds (record pipe { stage = c.pass_on.new.self })) in
    let s = pass_step g.W.Work.asked g.W.Work.meaning c.self.inside.pipes c.self.inside.born c.self.inside.log.items c.in-Some.pipe c.args.caller pipe c.pass_on.new.self next c.self.invariant.0 set m c.in-Some-pass_on.ensures.2 in
    omega (arith, s.1, c.self.invariant.3)

pub invariant_of-self-2 : goal.invariant_of-self-2
invariant_of-self-2 g c =
    let pipe = c.unwrap-place.result.now in
    let here = loan_here (places c.self.inside.pipes c.in-Some.pipe) c.get_mut.result c.unwrap-place.result c.get_mut.ensures.value c.unwrap-place.ensures in
    let m = one_here (λ (x : Pipeline _ _). HasRequest x) (places c.self.inside.pipes c.in-Some.pipe) pipe c.in-Some.ensures.next.1 c.in-Some.ensures.next.2 here in
    let next = c.get_mut.follows.lender (record pipe { stage = c.pass_on.new.self }) in
    let set = set_here c.self.inside.pipes next c.in-Some.pipe pipe (record pipe { stage = c.pass_on.new.self }) here (c.get_mut.follows.holds (record pipe { stage = c.pass_on.new.self })) in
    let s = pass_step g.W.Work.asked g.W.Work.meaning c.self.inside.pipes c.self.inside.born c.self.inside.log.items c.in-Some.pipe c.args.caller pipe c.pass_on.new.self next c.self.invariant.0 set m c.in-Some-pass_on.ensures.2 in
    let e : BoardEntry g.row.W-Ask.Denot = passed_entry pipe.stage c.args.caller c.in-Some.pipe in
    let made = entry_made g.row.W-Ask.Denot pipe.stage c.args.caller c.in-Some.pipe c.in-Some-pass_on.number c.in-Some-pass_on.started c.in-Some-pass_on.ensures.0 c.in-Some-pass_on.ensures.1 in (
      rw (c.push_reserved.ensures.items, made) s.0,
      rw (c.push_reserved.ensures.items, made) (shut-same c.self.inside.log.items e refl ∙ c.self.invariant.1),
      omega (arith, s.1, c.self.invariant.2, c.self.invariant.3, c.push_reserved.ensures.len, c.push_reserved.ensures.capacity),
      omega (arith, s.1, c.self.invariant.3),
      rw (c.push_reserved.ensures.items, made) (used_same g.W.Work.weight c.self.inside.used c.self.inside.log.items e refl c.self.invariant.4),
      queues_told c.self.inside.pipes next c.self.inside.ready c.set_ready.new.self c.in-Some.pipe pipe (record pipe { stage = c.pass_on.new.self }) c.may_serve-had_job.result c.may_serve-has_job.result c.self.invariant.5 set c.set_ready.ensures (admits_same pipe (record pipe { stage = c.pass_on.new.self }) refl refl refl (passed_is_queue pipe.stage c.pass_on.new.self c.in-Some-pass_on.ensures.2)) (serves pipe.stage c.may_serve-had_job.result c.may_serve-had_job.ensures) (says c.pass_on.new.self c.may_serve-has_job.result c.may_serve-has_job.ensures),
      passing_told c.self.inside.pipes next c.next_request.new.passing c.in-Some.pipe pipe (record pipe { stage = c.pass_on.new.self }) (passing_searched c.self.inside.pipes c.self.inside.passing c.next_request.new.passing c.self.invariant.6 c.in-Some.ensures.kept) set c.set.new.self c.may_pass-may_pass.result c.set.ensures (passed_is_chain pipe.stage c.pass_on.new.self c.in-Some-pass_on.ensures.2) (says_passing c.pass_on.new.self c.may_pass-may_pass.result c.may_pass-may_pass.ensures),
    )

pub returns-clause-passed : goal.returns-clause-passed
returns-clause-passed g c =
    let pipe = c.unwrap-place.result.now in
    let here = loan_here (places c.self.inside.pipes c.in-Some.pipe) c.get_mut.result c.unwrap-place.result c.get_mut.ensures.value c.unwrap-place.ensures in
    let m = one_here (λ (x : Pipeline _ _). HasRequest x) (places c.self.inside.pipes c.in-Some.pipe) pipe c.in-Some.ensures.next.1 c.in-Some.ensures.next.2 here in
    let next = c.get_mut.follows.lender (record pipe { stage = c.pass_on.new.self }) in
    let set = set_here c.self.inside.pipes next c.in-Some.pipe pipe (record pipe { stage = c.pass_on.new.self }) here (c.get_mut.follows.holds (record pipe { stage = c.pass_on.new.self })) in
    let s = pass_step g.W.Work.asked g.W.Work.meaning c.self.inside.pipes c.self.inside.born c.self.inside.log.items c.in-Some.pipe c.args.caller pipe c.pass_on.new.self next c.self.invariant.0 set m c.in-Some-pass_on.ensures.2 in
    let e : BoardEntry g.row.W-Ask.Denot = passed_entry pipe.stage c.args.caller c.in-Some.pipe in
    let made = entry_made g.row.W-Ask.Denot pipe.stage c.args.caller c.in-Some.pipe c.in-Some-pass_on.number c.in-Some-pass_on.started c.in-Some-pass_on.ensures.0 c.in-Some-pass_on.ensures.1 in
    (c.in-Some.pipe, rw (← c.self.view_is) s.2, rw (← c.self.view_is, ← s.3, ← made) c.push_reserved.ensures.items)

pub returns-clause-legal : goal.returns-clause-legal
returns-clause-legal g c = (invariant_of-self-2 g c).0.legal
