use Rattle.std.proofs.Common.{◌≡◌, Some, sym, ◌∙◌, subst}
use Rattle.board.specs.Alone.{PeersGone}
use Rattle.board.specs.Entries.{caller_of}
use Rattle.board.specs.Legal.{LegalBoard}
use Rattle.board.specs.declared.entry.BoardEntry.{BoardEntry}
use Rattle.transforms.specs.declared.ask.Ask.{Ask}
use Rattle.turn_lock.specs.PassLaws.{AtTurn, Leaves, IsOwn}
use Rattle.turn_lock.specs.Turns.{Known}
use Rattle.recorded_calls.specs.Passes.{known}
use Rattle.recorded_calls.specs.Pipelines.{Unchanged}
use Rattle.dialogues.specs.ScriptState.{PipelineState}
use Rattle.recorded_calls.specs.SharedCalls.{KnowsLent, Rejoined, Rejoins, HaveEnded}
use Rattle.recorded_calls.proofs.Boarding.{leaves-kept}
use Rattle.recorded_calls.proofs.Gathers.{joined-gone, sees-own}
use Rattle.recorded_calls.proofs.Lendings.{rejoins, lent-at}
use Rattle.recorded_calls.proofs.board_caller.BoardCaller.meet.Goals as goal

pub returns-clause-turn : goal.returns-clause-turn
returns-clause-turn g c =
    subst (λ o. AtTurn caller_of LegalBoard (known o) (λ h. Leaves (known o) h (known (Some c.is_shut-pass.result.0)))) (sym c.take_pass-pass.ensures) c.is_shut-pass.ensures.turn

pub returns-clause-kept : goal.returns-clause-kept
returns-clause-kept g c =
    let t = c.is_shut-pass.ensures.turn in
    subst (λ o. Unchanged (known o) (known (Some c.is_shut-pass.result.0))) (sym c.take_pass-pass.ensures)
    (leaves-kept c.sharing_laws.ensures.laws (known (Some c.take_pass-pass.result)) (known (Some c.is_shut-pass.result.0)) t.0 t.1 t.2)

pub returns-clause-own : goal.returns-clause-own
returns-clause-own g c = sees-own (known (Some c.take_pass-pass.result)) (known (Some c.is_shut-pass.result.0)) c.is_shut-pass.ensures.turn

pub returns-clause-again : goal.returns-clause-again
returns-clause-again g c =
    let after = known (Some c.is_shut-pass.result.0) in
    let t = c.is_shut-pass.ensures.turn in
    subst (λ o. (k : Known (BoardEntry Ask)) → IsOwn caller_of k → Rejoined k (known o) → Rejoins k after) (sym c.take_pass-pass.ensures)
    (λ k mine again. subst (Rejoins k) (sym t.2) (rejoins c.sharing_laws.ensures k (known (Some c.take_pass-pass.result)) t.0 mine again t.1))

pub returns-clause-gone : goal.returns-clause-gone
returns-clause-gone g c =
    subst (λ o. HaveEnded (known o) → PeersGone (known (Some c.is_shut-pass.result.0))) (sym c.take_pass-pass.ensures)
    (λ ended. joined-gone c.sharing_laws.ensures (known (Some c.take_pass-pass.result)) (known (Some c.is_shut-pass.result.0)) ended c.is_shut-pass.ensures.turn)

pub returns-clause-lent : goal.returns-clause-lent
returns-clause-lent g c =
    let after = known (Some c.is_shut-pass.result.0) in
    let t = c.is_shut-pass.ensures.turn in
    subst (λ o. (pipe : PipelineState) → KnowsLent (known o) pipe → KnowsLent after pipe) (sym c.take_pass-pass.ensures)
    (λ pipe on. subst (λ x. KnowsLent x pipe) (sym t.2) (lent-at c.sharing_laws.ensures (known (Some c.take_pass-pass.result)) t.0 pipe t.1 on))
