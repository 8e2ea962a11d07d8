use Rattle.std.proofs.Common.{◌≡◌, inl, Some, sym, ◌∙◌, ◌∷◌, [], subst, MatchResult}
use Rattle.std.specs.Prelude.{◌↔◌}
use Rattle.std.specs.Arc.{arc_value}
use Rattle.board.specs.Allowance.{IsAllowed}
use Rattle.board.specs.declared.board_core.BoardErr.TheVariants.{TooBig}
use Rattle.transforms.specs.AskValue.{ask_size}
use Rattle.dialogues.specs.BoardCalls.{Enqueues, asked_by}
use Rattle.dialogues.specs.ScriptState.{PipelineState}
use Rattle.recorded_calls.specs.Passes.{known}
use Rattle.recorded_calls.specs.Pipelines.{KnowsPipe, Unchanged, Changed, entered_pipe, entered_asks}
use Rattle.recorded_calls.proofs.BoardCalls.{enqueue-changed, enqueue-refused, not-unserved, by-allowance}
use Rattle.recorded_calls.proofs.board_caller.BoardCaller.enqueue.Goals as goal

pub enqueue-pass-requires-clause-caller : goal.enqueue-pass-requires-clause-caller
enqueue-pass-requires-clause-caller g c κs within =
    let i = c.pipe.inside in
    let p : PipelineState = record { number = i.number; bound = i.bound; held = i.held; mask_is_empty = i.mask_is_empty; lines = i.lines; delivered = i.delivered } in
    let on = subst (λ o. KnowsPipe (known o) p) c.take_pass-pass.ensures (subst (KnowsPipe (known c.args.self.now)) (sym c.pipe.view_is) c.requires.pipe) in
    (on.managed.0, inl on.managed.1)

pub returns-clause-entered : goal.returns-clause-entered
returns-clause-entered g c =
    let i = c.pipe.inside in
    let p : PipelineState = record { number = i.number; bound = i.bound; held = i.held; mask_is_empty = i.mask_is_empty; lines = i.lines; delivered = i.delivered } in
    let laws = c.board_laws.ensures in
    let ask = arc_value c.args.job.ask in
    subst (λ o. MatchResult c.enqueue-pass.result.1 (λ answer. Changed (known o) (known (Some c.enqueue-pass.result.0)) c.args.pipe.now (entered_pipe c.args.pipe.now ask answer) (Enqueues c.args.pipe.now.number (asked_by ask) c.args.backlog answer ∷ []) (entered_asks ask answer)) (λ _. Unchanged (known o) (known (Some c.enqueue-pass.result.0)))) (sym c.take_pass-pass.ensures)
    (subst (λ (p : PipelineState). MatchResult c.enqueue-pass.result.1 (λ answer. Changed (known (Some c.take_pass-pass.result)) (known (Some c.enqueue-pass.result.0)) p (entered_pipe p ask answer) (Enqueues p.number (asked_by ask) c.args.backlog answer ∷ []) (entered_asks ask answer)) (λ _. Unchanged (known (Some c.take_pass-pass.result)) (known (Some c.enqueue-pass.result.0)))) c.pipe.view_is
    (enqueue-changed laws (known (Some c.take_pass-pass.result)) (known (Some c.enqueue-pass.result.0)) p ask c.args.backlog _ c.enqueue-pass.result.1 (subst (λ o. KnowsPipe (known o) p) c.take_pass-pass.ensures (subst (KnowsPipe (known c.args.self.now)) (sym c.pipe.view_is) c.requires.pipe)) c.enqueue-pass.ensures.turn))

pub returns-clause-allowed : goal.returns-clause-allowed
returns-clause-allowed g c =
    let ask = arc_value c.args.job.ask in
    let r = c.enqueue-pass.result.1 in
    subst (λ o. MatchResult r (λ _. IsAllowed ask_size (known o).seen (known o).number ask) (λ e. (e ≡ TooBig) ↔ (IsAllowed ask_size (known o).seen (known o).number ask → ⊥))) (sym c.take_pass-pass.ensures)
    (by-allowance r _ _ (enqueue-refused c.board_laws.ensures (known (Some c.take_pass-pass.result)) (known (Some c.enqueue-pass.result.0)) ask r _ _ c.enqueue-pass.ensures.turn))

pub returns-clause-served : goal.returns-clause-served
returns-clause-served g c =
    let r = c.enqueue-pass.result.1 in
    not-unserved r _ _ (enqueue-refused c.board_laws.ensures (known (Some c.take_pass-pass.result)) (known (Some c.enqueue-pass.result.0)) (arc_value c.args.job.ask) r _ _ c.enqueue-pass.ensures.turn)
