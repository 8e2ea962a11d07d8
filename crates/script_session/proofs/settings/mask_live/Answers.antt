use Rattle.std.proofs.Common.{◌≡◌, ◌<◌, ap, sym, subst, ◌∙◌}
use Rattle.std.specs.Prelude.{is_some, ◌^◌, ◌==◌}
use Rattle.board.specs.Entries.{entries_of, birth}
use Rattle.board.specs.Shapes.{width_born}
use Rattle.dialogues.specs.ScriptState.{PipelineState}
use Rattle.recorded_calls.specs.Passes.{known}
use Rattle.recorded_calls.specs.Pipelines.{KnowsPipe}
use Rattle.script_session.specs.States.{HasPipe}
use Rattle.script_session.proofs.Arms.{or-stops}
use Rattle.script_session.proofs.Moving.{fails}
use Rattle.script_session.proofs.Piped.{says-for, mask-none, mask-queue, pad-of, mask-holds, mask-stops, manned-live}
use Rattle.script_session.proofs.Stopping.{for-nothing, for-kept}
use Rattle.script_session.proofs.Widths.{kept-below}
use Rattle.script_session.proofs.settings.mask_live.Goals as goal

pub returns-in_default-clause-held : goal.returns-in_default-clause-held
returns-in_default-clause-held g c =
    or-stops c.answer_errno.result c.answer_errno.ensures
    (says-for _ c.args.live.now (known c.args.caller.now) _ _ _ c.requires.pipe c.requires.legal (λ script_state found posted. mask-none c.args.workers script_state c.args.line c.args.bits c.args.live.now (sym c.in_default.ensures) found))
    (for-nothing _ _ _)

pub returns-then-is_some-clause-held : goal.returns-then-is_some-clause-held
returns-then-is_some-clause-held g c =
    let pipe = c.in-Some.pipe.now in
    let bound : pipe.bound ≡ c.pipe-2.inside.bound = sym (ap (λ (p : PipelineState). p.bound) c.pipe-2.view_is) in
    or-stops c.answer_errno-then-is_some.result c.answer_errno-then-is_some.ensures
    (says-for _ c.args.live.now (known c.args.caller.now) _ _ _ c.requires.pipe c.requires.legal
    (λ script_state found posted. mask-queue c.args.workers script_state c.args.line c.args.bits c.args.live.now pipe (sym c.in-Some.ensures) (ap is_some bound ∙ (sym c.is_some.ensures ∙ c.if-is_some.true)) found))
    (for-nothing _ _ _)

pub mask-requires-clause-pad : goal.mask-requires-clause-pad
mask-requires-clause-pad g c =
    let pipe = c.in-Some.pipe.now in
    let bound : pipe.bound ≡ c.pipe-2.inside.bound = sym (ap (λ (p : PipelineState). p.bound) c.pipe-2.view_is) in
    pad-of pipe.bound (ap is_some bound ∙ (sym c.is_some.ensures ∙ c.if-is_some.false))

pub mask-requires-clause-bits : goal.mask-requires-clause-bits
mask-requires-clause-bits g c =
    let k = known c.args.caller.now in
    let pipe = c.in-Some.pipe.now in
    let bound : pipe.bound ≡ c.pipe-2.inside.bound = sym (ap (λ (p : PipelineState). p.bound) c.pipe-2.view_is) in
    let on : KnowsPipe k pipe = subst (HasPipe k) (sym c.in-Some.ensures) c.requires.pipe in
    subst (λ bits. bits < 2 ^ width_born (birth (entries_of pipe.number k.seen))) (sym c.bits_beside_workers-kept.ensures)
    (kept-below c.args.workers c.args.bits k pipe c.requires.wide on (pad-of pipe.bound (ap is_some bound ∙ (sym c.is_some.ensures ∙ c.if-is_some.false))))

pub returns-clause-held : goal.returns-clause-held
returns-clause-held g c =
    let pipe = c.in-Some.pipe.now in
    let live = c.args.live.now in
    let has = sym c.in-Some.ensures in
    let kept = c.bits_beside_workers-kept.result in
    let bound : pipe.bound ≡ c.pipe-2.inside.bound = sym (ap (λ (p : PipelineState). p.bound) c.pipe-2.view_is) in
    mask-holds (known c.args.caller.now) (known c.mask.new.self) live c.set_mask_is_empty.new.self pipe c.args.workers c.args.line c.args.bits kept _ _ has
    (ap is_some bound ∙ (sym c.is_some.ensures ∙ c.if-is_some.false)) c.bits_beside_workers-kept.ensures c.in_ok-mask.ensures.masked
    (manned-live live c.set_mask_is_empty.new.self pipe (kept == 0) has c.set_mask_is_empty.ensures) c.in_ok-say.ensures

pub returns-in_err-mask-clause-held : goal.returns-in_err-mask-clause-held
returns-in_err-mask-clause-held g c =
    fails c.from_residual.result _ c.from_residual.ensures.0 (for-kept _ c.args.live.now (known c.args.caller.now) (known c.mask.new.self) c.in_err-mask.ensures.masked.1)

-- the pad was masked, but not answered
pub returns-in_err-say-clause-held : goal.returns-in_err-say-clause-held
returns-in_err-say-clause-held g c =
    let pipe = c.in-Some.pipe.now in
    let kept = c.bits_beside_workers-kept.result in
    let bound : pipe.bound ≡ c.pipe-2.inside.bound = sym (ap (λ (p : PipelineState). p.bound) c.pipe-2.view_is) in
    fails c.from_residual-in_err-say.result _ c.from_residual-in_err-say.ensures.0
    (mask-stops (known c.args.caller.now) (known c.mask.new.self) c.args.live.now pipe c.args.workers c.args.line c.args.bits kept (sym c.in-Some.ensures)
    (ap is_some bound ∙ (sym c.is_some.ensures ∙ c.if-is_some.false)) c.bits_beside_workers-kept.ensures c.in_ok-mask.ensures.masked)
