use Rattle.std.proofs.Common.{ap, sym, ◌∙◌, refl, subst}
use Rattle.kc_base.specs.declared.error_numbers.Errno.TheVariants.{ENOENT}
use Rattle.dialogues.specs.Dialogues.{for_live}
use Rattle.std.specs.Arc.{arc_value}
use Rattle.dialogues.specs.BoardCalls.{asked_by}
use Rattle.script_session.specs.Keyed.{IsJob, IsNotTaken}
use Rattle.dialogues.specs.RequestCommands.{requests_under, requests_in}
use Rattle.dialogues.specs.ScriptState.{Live}
use Rattle.script_session.specs.States.{State}
use Rattle.script_session.proofs.Arms.{or-stops, answer-holds}
use Rattle.script_session.proofs.Breaking.{stops-none}
use Rattle.script_session.proofs.Moving.{fails}
use Rattle.std.specs.BTreeMap.{get}
use Rattle.std.specs.Ordering.{nat_cmp}
use Rattle.board.proofs.Kept.{loan_here}
use Rattle.script_session.proofs.Filed.{filed-set}
use Rattle.script_session.proofs.Living.{live-at, no-live, either-at, is-live, is-there, loan-there, pipe-there, request-arm, request-stops, written}
use Rattle.script_session.proofs.Requests.{no-key, not-taken, job-asks, job-origin}
use Rattle.script_session.proofs.scripts.Session.request.Goals as goal

pub request_shared-requires-clause-none : goal.request_shared-requires-clause-none
request_shared-requires-clause-none g c = no-live c.args.self.now c.self.inside.lives c.self.invariant c.self.view_is c.args.label.now c.as_slice.result.now c.as_slice.ensures c.in_default.ensures

pub get-requires : goal.get-requires
get-requires g c = is-there c.args.self.now c.self.inside.lives c.self.invariant c.self.view_is c.args.label.now c.as_slice.result.now c.as_slice.ensures c.in-Some.place c.in-Some.ensures

pub returns-in-Ok-None : goal.returns-in-Ok-None
returns-in-Ok-None g c =
    let s = c.args.self.now in
    let at = live-at c.args.self.now c.self.inside.lives c.self.invariant c.self.view_is c.args.label.now c.as_slice.result.now c.as_slice.ensures c.in-Some.place c.in-Some.ensures in
    let was = is-live c.args.self.now c.self.inside.lives c.self.invariant c.self.view_is c.args.label.now c.as_slice.result.now c.as_slice.ensures c.in-Some.place c.in-Some.ensures c.get.result.now c.get.ensures in
    let why = rw c.in-Ok-None.field-0-is at c.in-Ok-None.ensures in
    or-stops c.answer_errno.result c.answer_errno.ensures
    (answer-holds _ s s _ _ _
    (ap (λ o. for_live s.script_state c.args.number o ENOENT (λ (live : Live). requests_under s.script_state c.args.number live c.args.asked c.args.backlog live.key)) (either-at s c.self.inside.lives c.self.invariant c.self.view_is c.args.label.now c.as_slice.result.now c.as_slice.ensures c.in-Some.place c.in-Some.ensures)
    ∙ no-key s.script_state c.args.number at.live c.args.asked c.args.backlog (sym (ap (λ (l : Live). l.key) was) ∙ why))
    refl refl refl refl c.requires.state.stands c.requires.state.posted)
    (stops-none _ s c.requires.state.stands)

pub returns-in-Err-Inval : goal.returns-in-Err-Inval
returns-in-Err-Inval g c =
    let s = c.args.self.now in
    let at = live-at c.args.self.now c.self.inside.lives c.self.invariant c.self.view_is c.args.label.now c.as_slice.result.now c.as_slice.ensures c.in-Some.place c.in-Some.ensures in
    let was = is-live c.args.self.now c.self.inside.lives c.self.invariant c.self.view_is c.args.label.now c.as_slice.result.now c.as_slice.ensures c.in-Some.place c.in-Some.ensures c.get.result.now c.get.ensures in
    let why = rw c.in-Err-Inval.field-0-is at c.in-Err-Inval.ensures in
    or-stops c.answer_errno-in-Err-Inval.result c.answer_errno-in-Err-Inval.ensures
    (answer-holds _ s s _ _ _
    (ap (λ o. for_live s.script_state c.args.number o ENOENT (λ (live : Live). requests_under s.script_state c.args.number live c.args.asked c.args.backlog live.key)) (either-at s c.self.inside.lives c.self.invariant c.self.view_is c.args.label.now c.as_slice.result.now c.as_slice.ensures c.in-Some.place c.in-Some.ensures)
    ∙ not-taken s.script_state c.args.number at.live c.args.asked c.args.backlog at.live.key (subst (λ (l : Live). IsNotTaken l c.args.asked l.key) was why))
    refl refl refl refl c.requires.state.stands c.requires.state.posted)
    (stops-none _ s c.requires.state.stands)

pub unwrap-live-requires : goal.unwrap-live-requires
unwrap-live-requires g c = loan-there c.args.self.now c.self.inside.lives c.self.invariant c.self.view_is c.args.label.now c.as_slice.result.now c.as_slice.ensures c.in-Some.place c.in-Some.ensures c.get_mut.result c.get_mut.ensures.value

-- its label stays, whether a pipeline accepted it or memory was wanting
pub invariant_of-self : goal.invariant_of-self
invariant_of-self g c =
    let is = loan_here (get nat_cmp c.self.inside.lives.transforms c.in-Some.place) c.get_mut.result c.unwrap-live.result c.get_mut.ensures.value c.unwrap-live.ensures in
    let set = c.get_mut.follows.holds c.take_job.new.live in
    filed-set c.self.inside.lives _ c.in-Some.place c.unwrap-live.result.now c.take_job.new.live c.self.invariant is c.take_job.ensures.named refl refl set.0 set.1

pub invariant_of-self-2 : goal.invariant_of-self-2
invariant_of-self-2 g c =
    let is = loan_here (get nat_cmp c.self.inside.lives.transforms c.in-Some.place) c.get_mut.result c.unwrap-live.result c.get_mut.ensures.value c.unwrap-live.ensures in
    let set = c.get_mut.follows.holds c.take_job.new.live in
    filed-set c.self.inside.lives _ c.in-Some.place c.unwrap-live.result.now c.take_job.new.live c.self.invariant is c.take_job.ensures.named refl refl set.0 set.1

pub take_job-requires-clause-pipe : goal.take_job-requires-clause-pipe
take_job-requires-clause-pipe g c =
    let is = loan_here (get nat_cmp c.self.inside.lives.transforms c.in-Some.place) c.get_mut.result c.unwrap-live.result c.get_mut.ensures.value c.unwrap-live.ensures in
    pipe-there c.args.self.now c.self.inside.lives c.self.invariant c.self.view_is c.args.label.now c.as_slice.result.now c.as_slice.ensures c.in-Some.place c.in-Some.ensures c.unwrap-live.result.now is c.requires.state.posted

pub take_job-requires-clause-line : goal.take_job-requires-clause-line
take_job-requires-clause-line g c =
    let live = c.get.result.now in
    job-origin c.args.number c.self.inside.client live c.args.asked (asked_by (arc_value c.in-Ok-Some.job.ask)) live.key (rw c.in-Ok-Some.field-0-is at c.in-Ok-Some.ensures)

pub returns : goal.returns
returns g c =
    let s = c.args.self.now in
    let e = c.in_ok-accepted.ensures in
    let ask = arc_value c.in-Ok-Some.job.ask in
    let old = c.unwrap-live.result.now in
    let is = loan_here (get nat_cmp c.self.inside.lives.transforms c.in-Some.place) c.get_mut.result c.unwrap-live.result c.get_mut.ensures.value c.unwrap-live.ensures in
    let first = is-live c.args.self.now c.self.inside.lives c.self.invariant c.self.view_is c.args.label.now c.as_slice.result.now c.as_slice.ensures c.in-Some.place c.in-Some.ensures c.get.result.now c.get.ensures in
    let then_is = is-live c.args.self.now c.self.inside.lives c.self.invariant c.self.view_is c.args.label.now c.as_slice.result.now c.as_slice.ensures c.in-Some.place c.in-Some.ensures old is in
    let job = subst (λ (l : Live). IsJob c.self.inside.client c.args.number l c.args.asked (asked_by ask)) (first ∙ sym then_is) (rw c.in-Ok-Some.field-0-is at c.in-Ok-Some.ensures) in
    request-arm c.args.self.now c.self.inside.lives c.self.invariant c.self.view_is c.args.label.now c.as_slice.result.now c.as_slice.ensures c.args.number c.in-Some.place c.in-Some.ensures old c.take_job.new.live _
    (λ script_state live. requests_under script_state c.args.number live c.args.asked c.args.backlog live.key) (λ script_state. requests_in script_state c.args.number old (asked_by ask) c.args.backlog old.pipe) c.count.new.self c.take_job.new.caller c.in_ok-accepted.accepted c.size-size.result ask _ _
    (job-asks s.script_state c.args.number c.self.inside.client old c.args.asked (asked_by ask) c.args.backlog old.key (ap (λ (x : State). x.script_state.client) (sym c.self.view_is)) job)
    is (written c.args.self.now c.self.inside.lives c.self.invariant c.self.view_is c.args.label.now c.as_slice.result.now c.as_slice.ensures c.in-Some.place c.in-Some.ensures c.unwrap-live.result.now c.take_job.new.live _ is c.take_job.ensures.named (c.get_mut.follows.holds c.take_job.new.live).0) e.lock c.requires.state.stands c.requires.state.posted c.size-size.ensures e.held c.count.ensures

pub returns-in-Err-Memory : goal.returns-in-Err-Memory
returns-in-Err-Memory g c = stops-none _ c.args.self.now c.requires.state.stands

pub returns-in_err-accepted : goal.returns-in_err-accepted
returns-in_err-accepted g c =
    let s = c.args.self.now in
    let ask = arc_value c.in-Ok-Some.job.ask in
    let old = c.unwrap-live.result.now in
    let is = loan_here (get nat_cmp c.self.inside.lives.transforms c.in-Some.place) c.get_mut.result c.unwrap-live.result c.get_mut.ensures.value c.unwrap-live.ensures in
    let first = is-live s c.self.inside.lives c.self.invariant c.self.view_is c.args.label.now c.as_slice.result.now c.as_slice.ensures c.in-Some.place c.in-Some.ensures c.get.result.now c.get.ensures in
    let then_is = is-live s c.self.inside.lives c.self.invariant c.self.view_is c.args.label.now c.as_slice.result.now c.as_slice.ensures c.in-Some.place c.in-Some.ensures old is in
    let job = subst (λ (l : Live). IsJob c.self.inside.client c.args.number l c.args.asked (asked_by ask)) (first ∙ sym then_is) (rw c.in-Ok-Some.field-0-is at c.in-Ok-Some.ensures) in
    fails c.from_residual.result _ c.from_residual.ensures.0
    (request-stops s c.self.inside.lives c.self.invariant c.self.view_is c.args.label.now c.as_slice.result.now c.as_slice.ensures c.args.number c.in-Some.place c.in-Some.ensures old _
    (λ script_state live. requests_under script_state c.args.number live c.args.asked c.args.backlog live.key) (λ script_state. requests_in script_state c.args.number old (asked_by ask) c.args.backlog old.pipe) c.take_job.new.caller
    (job-asks s.script_state c.args.number c.self.inside.client old c.args.asked (asked_by ask) c.args.backlog old.key (ap (λ (x : State). x.script_state.client) (sym c.self.view_is)) job)
    is c.take_job.ensures.lock c.requires.state.stands c.requires.state.posted c.in_err-accepted.ensures.held)
