use Rattle.std.proofs.Common.{◌≡◌, ap, sym, ◌∙◌}
use Rattle.std.specs.Prelude.{not, is_some}
use Rattle.dialogues.specs.ScriptState.{PipelineState}
use Rattle.recorded_calls.specs.Passes.{known}
use Rattle.script_session.proofs.Arms.{or-stops}
use Rattle.script_session.proofs.Moving.{fails}
use Rattle.script_session.proofs.Piped.{says-for, hold-none, hold-pad, none-of, queue-of, hold-holds, hold-stops}
use Rattle.script_session.proofs.Stopping.{for-nothing, for-kept}
use Rattle.script_session.proofs.settings.hold_live.Goals as goal

pub returns-in_default-clause-held : goal.returns-in_default-clause-held
returns-in_default-clause-held g c =
    or-stops c.answer_errno.result c.answer_errno.ensures
    (says-for _ c.args.live.now (known c.args.caller.now) _ _ _ c.requires.pipe c.requires.legal (λ script_state found posted. hold-none c.args.held script_state c.args.line c.args.live.now (sym c.in_default.ensures) found))
    (for-nothing _ _ _)

pub returns-then-is_none-clause-held : goal.returns-then-is_none-clause-held
returns-then-is_none-clause-held g c =
    let pipe = c.in-Some.pipe.now in
    or-stops c.answer_errno-then-is_none.result c.answer_errno-then-is_none.ensures
    (says-for _ c.args.live.now (known c.args.caller.now) _ _ _ c.requires.pipe c.requires.legal
    (λ script_state found posted. hold-pad c.args.held script_state c.args.line c.args.live.now pipe (sym c.in-Some.ensures)
    (sym (ap (λ (p : PipelineState). p.bound) c.pipe-2.view_is) ∙ none-of c.pipe-2.inside.bound (c.is_none.ensures ∙ ap not c.if-is_none.true)) found))
    (for-nothing _ _ _)

pub hold_pipe-requires-clause-queue : goal.hold_pipe-requires-clause-queue
hold_pipe-requires-clause-queue g c =
    let pipe = c.in-Some.pipe.now in
    let bound : pipe.bound ≡ c.pipe-2.inside.bound = sym (ap (λ (p : PipelineState). p.bound) c.pipe-2.view_is) in
    queue-of pipe.bound (ap is_some bound ∙ (c.is_none.ensures ∙ ap not c.if-is_none.false))

pub returns-clause-held : goal.returns-clause-held
returns-clause-held g c =
    let pipe = c.in-Some.pipe.now in
    let bound : pipe.bound ≡ c.pipe-2.inside.bound = sym (ap (λ (p : PipelineState). p.bound) c.pipe-2.view_is) in
    hold-holds c.args.held (known c.args.caller.now) (known c.hold_pipe.new.caller) c.args.live.now c.set_held.new.self pipe c.args.line _ _ (sym c.in-Some.ensures)
    (queue-of pipe.bound (ap is_some bound ∙ (c.is_none.ensures ∙ ap not c.if-is_none.false))) c.in_ok-hold_pipe.ensures.changed c.set_held.ensures c.in_ok-say.ensures

pub returns-in_err-hold_pipe-clause-held : goal.returns-in_err-hold_pipe-clause-held
returns-in_err-hold_pipe-clause-held g c =
    fails c.from_residual.result _ c.from_residual.ensures.0 (for-kept _ c.args.live.now (known c.args.caller.now) (known c.hold_pipe.new.caller) c.in_err-hold_pipe.ensures.changed)

-- the queue was held or let go, but not answered
pub returns-in_err-say-clause-held : goal.returns-in_err-say-clause-held
returns-in_err-say-clause-held g c =
    let pipe = c.in-Some.pipe.now in
    let bound : pipe.bound ≡ c.pipe-2.inside.bound = sym (ap (λ (p : PipelineState). p.bound) c.pipe-2.view_is) in
    fails c.from_residual-in_err-say.result _ c.from_residual-in_err-say.ensures.0
    (hold-stops c.args.held (known c.args.caller.now) (known c.hold_pipe.new.caller) c.args.live.now pipe c.args.line (sym c.in-Some.ensures)
    (queue-of pipe.bound (ap is_some bound ∙ (c.is_none.ensures ∙ ap not c.if-is_none.false))) c.in_ok-hold_pipe.ensures.changed)
