use Rattle.std.proofs.Common.{◌≡◌, Some, sym, ◌∙◌, subst, MatchResult}
use Rattle.board.specs.declared.board_core.BoardErr.TheVariants.{Memory}
use Rattle.dialogues.specs.ScriptState.{PipelineState}
use Rattle.recorded_calls.specs.Passes.{known}
use Rattle.recorded_calls.specs.Pipelines.{KnowsPipe, Unchanged}
use Rattle.recorded_calls.specs.SharedCalls.{Lends}
use Rattle.recorded_calls.proofs.Lendings.{share-lends}
use Rattle.recorded_calls.proofs.board_caller.BoardCaller.share.Goals as goal

pub returns-clause-shared : goal.returns-clause-shared
returns-clause-shared g c =
    let i = c.pipe.inside in
    let p : PipelineState = record { number = i.number; bound = i.bound; held = i.held; mask_is_empty = i.mask_is_empty; lines = i.lines; delivered = i.delivered } in
    let r = c.share-pass.result.1 in
    let l = known (Some c.share-pass.result.0) in
    subst (λ o. MatchResult r (λ _. Lends (known o) l c.args.pipe.now) (λ e. (e ≡ Memory) × Unchanged (known o) l)) (sym c.take_pass-pass.ensures)
    (subst (λ (p : PipelineState). MatchResult r (λ _. Lends (known (Some c.take_pass-pass.result)) l p) (λ e. (e ≡ Memory) × Unchanged (known (Some c.take_pass-pass.result)) l)) c.pipe.view_is
    (share-lends c.sharing_laws.ensures (known (Some c.take_pass-pass.result)) l p r (subst (λ o. KnowsPipe (known o) p) c.take_pass-pass.ensures (subst (KnowsPipe (known c.args.self.now)) (sym c.pipe.view_is) c.requires.pipe)) c.share-pass.ensures.turn))
