use Rattle.std.proofs.Common.{ap, sym, ◌∙◌, refl, None, Some}
use Rattle.std.specs.Arc.{arc_value}
use Rattle.kc_base.specs.declared.error_numbers.Errno.TheVariants.{ENOENT}
use Rattle.dialogues.specs.BoardCalls.{asked_by}
use Rattle.dialogues.specs.Dialogues.{for_live}
use Rattle.dialogues.specs.RequestCommands.{requests_under, requests_in}
use Rattle.dialogues.specs.ScriptState.{Live}
use Rattle.script_session.specs.States.{State}
use Rattle.script_session.proofs.Arms.{or-stops, answer-holds}
use Rattle.script_session.proofs.Breaking.{stops-none}
use Rattle.script_session.proofs.Gives.{either-shared, shared-at, pipe-at, give-arm, gives-stops}
use Rattle.script_session.proofs.Moving.{fails}
use Rattle.script_session.proofs.Requests.{no-key, not-taken, job-asks}
use Rattle.script_session.proofs.scripts.Session.request_shared.Goals as goal

pub returns-in_default : goal.returns-in_default
returns-in_default g c =
    let s = c.args.self.now in
    let none = either-shared s.script_state c.args.label.now None c.requires.none (shared-at s c.self.view_is c.args.label.now c.as_slice.result.now c.as_slice.ensures None c.in_default.ensures) in
    or-stops c.answer_errno.result c.answer_errno.ensures
    (answer-holds _ s s _ _ _ (ap (λ o. for_live s.script_state c.args.number o ENOENT (λ (live : Live). requests_under s.script_state c.args.number live c.args.asked c.args.backlog live.key)) none) refl refl refl refl c.requires.state.stands c.requires.state.posted)
    (stops-none _ s c.requires.state.stands)

pub returns-in-Ok-None : goal.returns-in-Ok-None
returns-in-Ok-None g c =
    let s = c.args.self.now in
    let live = c.in-Some.live.now in
    let found = either-shared s.script_state c.args.label.now (Some live) c.requires.none (shared-at s c.self.view_is c.args.label.now c.as_slice.result.now c.as_slice.ensures (Some live) c.in-Some.ensures) in
    let why = rw c.in-Ok-None.field-0-is at c.in-Ok-None.ensures in
    or-stops c.answer_errno-in-Ok-None.result c.answer_errno-in-Ok-None.ensures
    (answer-holds _ s s _ _ _
    (ap (λ o. for_live s.script_state c.args.number o ENOENT (λ (live : Live). requests_under s.script_state c.args.number live c.args.asked c.args.backlog live.key)) found ∙ no-key s.script_state c.args.number live c.args.asked c.args.backlog why)
    refl refl refl refl c.requires.state.stands c.requires.state.posted)
    (stops-none _ s c.requires.state.stands)

pub returns-in-Err-Inval : goal.returns-in-Err-Inval
returns-in-Err-Inval g c =
    let s = c.args.self.now in
    let live = c.in-Some.live.now in
    let found = either-shared s.script_state c.args.label.now (Some live) c.requires.none (shared-at s c.self.view_is c.args.label.now c.as_slice.result.now c.as_slice.ensures (Some live) c.in-Some.ensures) in
    let why = rw c.in-Err-Inval.field-0-is at c.in-Err-Inval.ensures in
    or-stops c.answer_errno-in-Err-Inval.result c.answer_errno-in-Err-Inval.ensures
    (answer-holds _ s s _ _ _
    (ap (λ o. for_live s.script_state c.args.number o ENOENT (λ (live : Live). requests_under s.script_state c.args.number live c.args.asked c.args.backlog live.key)) found ∙ not-taken s.script_state c.args.number live c.args.asked c.args.backlog live.key why)
    refl refl refl refl c.requires.state.stands c.requires.state.posted)
    (stops-none _ s c.requires.state.stands)

pub give_job-requires-clause-pipe : goal.give_job-requires-clause-pipe
give_job-requires-clause-pipe g c =
    pipe-at c.args.self.now c.self.view_is c.args.label.now c.as_slice.result.now c.as_slice.ensures c.in-Some.live.now c.in-Some.ensures c.requires.shared

pub returns-in_err-accepted : goal.returns-in_err-accepted
returns-in_err-accepted g c =
    fails c.from_residual.result _ c.from_residual.ensures.0
    (let s = c.args.self.now in
    let ask = arc_value c.in-Ok-Some.job.ask in
    let live = c.in-Some.live.now in
    let job = rw c.in-Ok-Some.field-0-is at c.in-Ok-Some.ensures in
    gives-stops s c.self.view_is c.args.label.now c.as_slice.result.now c.as_slice.ensures c.args.number live
    (λ script_state live. requests_under script_state c.args.number live c.args.asked c.args.backlog live.key) (λ script_state. requests_in script_state c.args.number live (asked_by ask) c.args.backlog live.pipe) c.give_job.new.caller c.in-Some.ensures c.requires.none
    (job-asks s.script_state c.args.number c.self.inside.client live c.args.asked (asked_by ask) c.args.backlog live.key (ap (λ (x : State). x.script_state.client) (sym c.self.view_is)) job)
    c.give_job.ensures.lock c.requires.state.stands c.requires.state.posted c.in_err-accepted.ensures.held)

pub returns : goal.returns
returns g c =
    let s = c.args.self.now in
    let e = c.in_ok-accepted.ensures in
    let ask = arc_value c.in-Ok-Some.job.ask in
    let live = c.in-Some.live.now in
    let job = rw c.in-Ok-Some.field-0-is at c.in-Ok-Some.ensures in
    give-arm s c.self.view_is c.args.label.now c.as_slice.result.now c.as_slice.ensures c.args.number live
    (λ script_state live. requests_under script_state c.args.number live c.args.asked c.args.backlog live.key) (λ script_state. requests_in script_state c.args.number live (asked_by ask) c.args.backlog live.pipe) c.count.new.self c.give_job.new.caller c.in_ok-accepted.accepted c.size-size.result ask _ _
    c.in-Some.ensures c.requires.none
    (job-asks s.script_state c.args.number c.self.inside.client live c.args.asked (asked_by ask) c.args.backlog live.key (ap (λ (x : State). x.script_state.client) (sym c.self.view_is)) job)
    e.lock c.requires.state.stands c.requires.state.posted c.size-size.ensures e.held c.count.ensures

pub returns-in-Err-Memory : goal.returns-in-Err-Memory
returns-in-Err-Memory g c = stops-none _ c.args.self.now c.requires.state.stands
