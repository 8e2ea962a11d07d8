use Rattle.std.proofs.Common.{◌≡◌, Some, sym, ◌∙◌, ◌∷◌, [], true, subst, MatchResult}
use Rattle.board.specs.declared.board_core.BoardErr.TheVariants.{Memory}
use Rattle.dialogues.specs.BoardCalls.{Holds}
use Rattle.dialogues.specs.ScriptState.{PipelineState}
use Rattle.recorded_calls.specs.Passes.{known}
use Rattle.recorded_calls.specs.Pipelines.{IsQueue, KnowsPipe, Unchanged, Changed}
use Rattle.recorded_calls.proofs.BoardCalls.{hold-changed}
use Rattle.recorded_calls.proofs.board_caller.BoardCaller.hold.Goals as goal

pub returns-clause-held : goal.returns-clause-held
returns-clause-held g c =
    let i = c.pipe.inside in
    let p : PipelineState = record { number = i.number; bound = i.bound; held = i.held; mask_is_empty = i.mask_is_empty; lines = i.lines; delivered = i.delivered } in
    let on = subst (λ o. KnowsPipe (known o) p) c.take_pass-pass.ensures (subst (KnowsPipe (known c.args.self.now)) (sym c.pipe.view_is) c.requires.pipe) in
    let queue = subst (λ (x : PipelineState). IsQueue x.bound) (sym c.pipe.view_is) c.requires.queue in
    let after = known (Some c.hold-pass.result.0) in
    subst (λ o. MatchResult c.hold-pass.result.1 (λ _. Changed (known o) after c.args.pipe.now (record (c.args.pipe.now) { held = true }) (Holds c.args.pipe.now.number ∷ []) []) (λ e. (e ≡ Memory) × Unchanged (known o) after)) (sym c.take_pass-pass.ensures)
    (subst (λ (p : PipelineState). MatchResult c.hold-pass.result.1 (λ _. Changed (known (Some c.take_pass-pass.result)) after p (record p { held = true }) (Holds p.number ∷ []) []) (λ e. (e ≡ Memory) × Unchanged (known (Some c.take_pass-pass.result)) after)) c.pipe.view_is
    (hold-changed c.board_laws.ensures (known (Some c.take_pass-pass.result)) after p c.hold-pass.result.1 on queue c.hold-pass.ensures.turn))
