use Rattle.std.proofs.Common.{ap, sym, ◌∙◌, ◌++◌, ◌∷◌, [], subst}
use Rattle.std.specs.Arc.{arc_value}
use Rattle.board.specs.declared.entry.Entered.{Entered}
use Rattle.board.specs.declared.entry.Entered.TheVariants.{InProgress, Busy, NoSpace}
use Rattle.dialogues.specs.RequestCommands.{value_said}
use Rattle.dialogues.specs.ScriptState.{Live, PipelineState}
use Rattle.recorded_calls.specs.Passes.{known}
use Rattle.script_session.specs.Offers.{Offered}
use Rattle.script_session.proofs.Moving.{fails}
use Rattle.script_session.proofs.Piped.{says-for, says-kept, request-plain, request-mask_is_empty, request-big, request-holds, request-stopped, accepted-live}
use Rattle.script_session.proofs.Stopping.{for-nothing, for-kept}
use Rattle.script_session.proofs.pipeline_requests.take_job.Goals as goal

pub returns-in_default-clause-held : goal.returns-in_default-clause-held
returns-in_default-clause-held g c =
    says-for _ c.args.live.now (known c.args.caller.now) _ _ _ c.requires.pipe c.requires.legal (λ script_state found posted. request-plain script_state c.args.of.line c.args.live.now _ c.args.backlog (sym c.in_default.ensures))
    (c.in_ok-say.ensures ∙ ap (λ a. c.args.answers.now.items ++ a ∷ []) (c.value_answer.ensures ∙ ap (value_said c.args.of.line) c.run.ensures))

pub returns-then-pipe-clause-held : goal.returns-then-pipe-clause-held
returns-then-pipe-clause-held g c =
    says-for _ c.args.live.now (known c.args.caller.now) _ _ _ c.requires.pipe c.requires.legal
    (λ script_state found posted. request-mask_is_empty script_state c.args.of.line c.args.live.now c.in-Some.pipe.now _ c.args.backlog (sym c.in-Some.ensures) (sym (ap (λ (p : PipelineState). p.mask_is_empty) c.pipe-2.view_is) ∙ c.if-pipe.true))
    c.in_ok-answer_errno.ensures

pub offer-requires-clause-manned : goal.offer-requires-clause-manned
offer-requires-clause-manned g c = sym (ap (λ (p : PipelineState). p.mask_is_empty) c.pipe-2.view_is) ∙ c.if-pipe.false

pub returns-in_ok-accept-in-Ok-InProgress-clause-held : goal.returns-in_ok-accept-in-Ok-InProgress-clause-held
returns-in_ok-accept-in-Ok-InProgress-clause-held g c =
    let e = c.in-Ok-InProgress.ensures in
    let pipe = c.in-Some.pipe.now in
    let ask = arc_value c.args.job.ask in
    let has = sym c.in-Some.ensures in
    request-holds (known c.args.caller.now) (known c.offer.new.caller) c.args.live.now c.accept.new.self pipe c.args.of.line ask c.args.backlog (InProgress c.in-Ok-InProgress.field-0-0) _ _ has (sym (ap (λ (p : PipelineState). p.mask_is_empty) c.pipe-2.view_is) ∙ c.if-pipe.false)
    (subst (λ (x : Entered). Offered (known c.args.caller.now) (known c.offer.new.caller) pipe ask c.args.backlog x) c.in-Ok-InProgress.field-0-is e.offered) e.allowed
    (let a = c.in_ok-accept-in-Ok-InProgress.ensures in accepted-live c.args.live.now c.accept.new.self pipe ask c.args.of has c.requires.line a.ok) c.in_ok-answer_errno-in-Ok-InProgress.ensures

pub returns-in_ok-accept-in-Ok-Busy-clause-held : goal.returns-in_ok-accept-in-Ok-Busy-clause-held
returns-in_ok-accept-in-Ok-Busy-clause-held g c =
    let e = c.in-Ok-Busy.ensures in
    let pipe = c.in-Some.pipe.now in
    let ask = arc_value c.args.job.ask in
    let has = sym c.in-Some.ensures in
    request-holds (known c.args.caller.now) (known c.offer.new.caller) c.args.live.now c.accept-in-Ok-Busy.new.self pipe c.args.of.line ask c.args.backlog (Busy c.in-Ok-Busy.field-0-0) _ _ has (sym (ap (λ (p : PipelineState). p.mask_is_empty) c.pipe-2.view_is) ∙ c.if-pipe.false)
    (subst (λ (x : Entered). Offered (known c.args.caller.now) (known c.offer.new.caller) pipe ask c.args.backlog x) c.in-Ok-Busy.field-0-is e.offered) e.allowed
    (let a = c.in_ok-accept-in-Ok-Busy.ensures in accepted-live c.args.live.now c.accept-in-Ok-Busy.new.self pipe ask c.args.of has c.requires.line a.ok) c.in_ok-answer_errno-in-Ok-Busy.ensures

pub returns-in_ok-answer_errno-in-Ok-NoSpace-clause-held : goal.returns-in_ok-answer_errno-in-Ok-NoSpace-clause-held
returns-in_ok-answer_errno-in-Ok-NoSpace-clause-held g c =
    let e = c.in-Ok-NoSpace.ensures in
    let pipe = c.in-Some.pipe.now in
    let ask = arc_value c.args.job.ask in
    let has = sym c.in-Some.ensures in
    request-holds (known c.args.caller.now) (known c.offer.new.caller) c.args.live.now c.args.live.now pipe c.args.of.line ask c.args.backlog NoSpace _ _ has (sym (ap (λ (p : PipelineState). p.mask_is_empty) c.pipe-2.view_is) ∙ c.if-pipe.false)
    (subst (λ (x : Entered). Offered (known c.args.caller.now) (known c.offer.new.caller) pipe ask c.args.backlog x) c.in-Ok-NoSpace.field-0-is e.offered) e.allowed
    (ap (λ o. let l : Live = record c.args.live.now { pipe = o } in l) has) c.in_ok-answer_errno-in-Ok-NoSpace.ensures

pub returns-in_ok-answer_errno-in-Err-TooBig-clause-held : goal.returns-in_ok-answer_errno-in-Err-TooBig-clause-held
returns-in_ok-answer_errno-in-Err-TooBig-clause-held g c =
    let e = c.in-Err-TooBig.ensures in
    says-kept _ c.args.live.now (known c.args.caller.now) (known c.offer.new.caller) _ _ _ c.requires.pipe e.offered
    (λ script_state posted. request-big script_state (known c.args.caller.now) c.args.of.line c.args.live.now c.in-Some.pipe.now (arc_value c.args.job.ask) c.args.backlog (sym c.in-Some.ensures) (sym (ap (λ (p : PipelineState). p.mask_is_empty) c.pipe-2.view_is) ∙ c.if-pipe.false) (e.allowed.0 c.in-Err-TooBig.field-0-is) posted)
    c.in_ok-answer_errno-in-Err-TooBig.ensures

pub returns-in_err-say-clause-held : goal.returns-in_err-say-clause-held
returns-in_err-say-clause-held g c =
    fails c.from_residual.result _ c.from_residual.ensures.0
    (for-nothing _ _ _)

pub returns-in_err-answer_errno-clause-held : goal.returns-in_err-answer_errno-clause-held
returns-in_err-answer_errno-clause-held g c =
    fails c.from_residual-in_err-answer_errno.result _ c.from_residual-in_err-answer_errno.ensures.0
    (for-nothing _ _ _)

pub returns-in_err-answer_errno-in-Ok-InProgress-clause-held : goal.returns-in_err-answer_errno-in-Ok-InProgress-clause-held
returns-in_err-answer_errno-in-Ok-InProgress-clause-held g c =
    fails c.from_residual-in_err-answer_errno-in-Ok-InProgress.result _ c.from_residual-in_err-answer_errno-in-Ok-InProgress.ensures.0
    (let pipe = c.in-Some.pipe.now in
    let ask = arc_value c.args.job.ask in
    request-stopped (known c.args.caller.now) (known c.offer.new.caller) c.args.live.now pipe c.args.of.line ask c.args.backlog (InProgress c.in-Ok-InProgress.field-0-0) (sym c.in-Some.ensures) (sym (ap (λ (p : PipelineState). p.mask_is_empty) c.pipe-2.view_is) ∙ c.if-pipe.false)
    (subst (λ (x : Entered). Offered (known c.args.caller.now) (known c.offer.new.caller) pipe ask c.args.backlog x) c.in-Ok-InProgress.field-0-is c.in-Ok-InProgress.ensures.offered) c.in-Ok-InProgress.ensures.allowed)

pub returns-in_err-accept-in-Ok-InProgress-clause-held : goal.returns-in_err-accept-in-Ok-InProgress-clause-held
returns-in_err-accept-in-Ok-InProgress-clause-held g c =
    fails c.from_residual-in_err-accept-in-Ok-InProgress.result _ c.from_residual-in_err-accept-in-Ok-InProgress.ensures.0
    (let pipe = c.in-Some.pipe.now in
    let ask = arc_value c.args.job.ask in
    request-stopped (known c.args.caller.now) (known c.offer.new.caller) c.args.live.now pipe c.args.of.line ask c.args.backlog (InProgress c.in-Ok-InProgress.field-0-0) (sym c.in-Some.ensures) (sym (ap (λ (p : PipelineState). p.mask_is_empty) c.pipe-2.view_is) ∙ c.if-pipe.false)
    (subst (λ (x : Entered). Offered (known c.args.caller.now) (known c.offer.new.caller) pipe ask c.args.backlog x) c.in-Ok-InProgress.field-0-is c.in-Ok-InProgress.ensures.offered) c.in-Ok-InProgress.ensures.allowed)

pub returns-in_err-answer_errno-in-Ok-Busy-clause-held : goal.returns-in_err-answer_errno-in-Ok-Busy-clause-held
returns-in_err-answer_errno-in-Ok-Busy-clause-held g c =
    fails c.from_residual-in_err-answer_errno-in-Ok-Busy.result _ c.from_residual-in_err-answer_errno-in-Ok-Busy.ensures.0
    (let pipe = c.in-Some.pipe.now in
    let ask = arc_value c.args.job.ask in
    request-stopped (known c.args.caller.now) (known c.offer.new.caller) c.args.live.now pipe c.args.of.line ask c.args.backlog (Busy c.in-Ok-Busy.field-0-0) (sym c.in-Some.ensures) (sym (ap (λ (p : PipelineState). p.mask_is_empty) c.pipe-2.view_is) ∙ c.if-pipe.false)
    (subst (λ (x : Entered). Offered (known c.args.caller.now) (known c.offer.new.caller) pipe ask c.args.backlog x) c.in-Ok-Busy.field-0-is c.in-Ok-Busy.ensures.offered) c.in-Ok-Busy.ensures.allowed)

pub returns-in_err-accept-in-Ok-Busy-clause-held : goal.returns-in_err-accept-in-Ok-Busy-clause-held
returns-in_err-accept-in-Ok-Busy-clause-held g c =
    fails c.from_residual-in_err-accept-in-Ok-Busy.result _ c.from_residual-in_err-accept-in-Ok-Busy.ensures.0
    (let pipe = c.in-Some.pipe.now in
    let ask = arc_value c.args.job.ask in
    request-stopped (known c.args.caller.now) (known c.offer.new.caller) c.args.live.now pipe c.args.of.line ask c.args.backlog (Busy c.in-Ok-Busy.field-0-0) (sym c.in-Some.ensures) (sym (ap (λ (p : PipelineState). p.mask_is_empty) c.pipe-2.view_is) ∙ c.if-pipe.false)
    (subst (λ (x : Entered). Offered (known c.args.caller.now) (known c.offer.new.caller) pipe ask c.args.backlog x) c.in-Ok-Busy.field-0-is c.in-Ok-Busy.ensures.offered) c.in-Ok-Busy.ensures.allowed)

pub returns-in_err-answer_errno-in-Ok-NoSpace-clause-held : goal.returns-in_err-answer_errno-in-Ok-NoSpace-clause-held
returns-in_err-answer_errno-in-Ok-NoSpace-clause-held g c =
    fails c.from_residual-in_err-answer_errno-in-Ok-NoSpace.result _ c.from_residual-in_err-answer_errno-in-Ok-NoSpace.ensures.0
    (let pipe = c.in-Some.pipe.now in
    let ask = arc_value c.args.job.ask in
    request-stopped (known c.args.caller.now) (known c.offer.new.caller) c.args.live.now pipe c.args.of.line ask c.args.backlog (NoSpace) (sym c.in-Some.ensures) (sym (ap (λ (p : PipelineState). p.mask_is_empty) c.pipe-2.view_is) ∙ c.if-pipe.false)
    (subst (λ (x : Entered). Offered (known c.args.caller.now) (known c.offer.new.caller) pipe ask c.args.backlog x) c.in-Ok-NoSpace.field-0-is c.in-Ok-NoSpace.ensures.offered) c.in-Ok-NoSpace.ensures.allowed)

pub returns-in_err-answer_errno-in-Err-TooBig-clause-held : goal.returns-in_err-answer_errno-in-Err-TooBig-clause-held
returns-in_err-answer_errno-in-Err-TooBig-clause-held g c =
    fails c.from_residual-in_err-answer_errno-in-Err-TooBig.result _ c.from_residual-in_err-answer_errno-in-Err-TooBig.ensures.0
    (for-kept _ c.args.live.now (known c.args.caller.now) (known c.offer.new.caller) c.in-Err-TooBig.ensures.offered)

pub returns-in-Err-Memory-clause-held : goal.returns-in-Err-Memory-clause-held
returns-in-Err-Memory-clause-held g c =
    for-kept _ c.args.live.now (known c.args.caller.now) (known c.offer.new.caller) c.in-Err-Memory.ensures.offered
