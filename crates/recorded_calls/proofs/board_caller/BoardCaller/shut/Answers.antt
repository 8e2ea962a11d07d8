use Rattle.std.proofs.Common.{◌≡◌, Some, sym, ◌∙◌, subst}
use Rattle.board.specs.Alone.{PeersGone}
use Rattle.dialogues.specs.ScriptState.{PipelineState}
use Rattle.recorded_calls.specs.Passes.{known}
use Rattle.recorded_calls.specs.Pipelines.{IsShut}
use Rattle.recorded_calls.specs.SharedCalls.{KnowsGathered}
use Rattle.recorded_calls.proofs.BoardCalls.{shut-changed}
use Rattle.recorded_calls.proofs.Gathers.{shut-ended, shut-gathered}
use Rattle.recorded_calls.proofs.board_caller.BoardCaller.shut.Goals as goal

pub returns-clause-shut : goal.returns-clause-shut
returns-clause-shut g c =
    subst (λ o. IsShut (known o) (known (Some c.shut.result))) (sym c.take_pass-pass.ensures)
    (shut-changed c.sharing_laws.ensures.laws (known (Some c.take_pass-pass.result)) (known (Some c.shut.result)) c.shut.ensures.turn)

pub returns-clause-ended : goal.returns-clause-ended
returns-clause-ended g c =
    subst (λ o. (known (Some c.shut.result)).ended ≡ (known o).ended) (sym c.take_pass-pass.ensures)
    (shut-ended (known (Some c.take_pass-pass.result)) (known (Some c.shut.result)) c.shut.ensures.turn)

pub returns-clause-gathered : goal.returns-clause-gathered
returns-clause-gathered g c =
    let after = known (Some c.shut.result) in
    subst (λ o. PeersGone (known o) → (pipe : PipelineState) → KnowsGathered (known o) pipe → KnowsGathered after pipe) (sym c.take_pass-pass.ensures)
    (λ gone pipe on. shut-gathered c.sharing_laws.ensures (known (Some c.take_pass-pass.result)) after pipe c.shut.ensures.turn gone on)
