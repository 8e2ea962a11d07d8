use Rattle.std.proofs.Common.{◌≡◌, Some, sym, refl, ◌∙◌, subst}
use Rattle.board.specs.Alone.{PeersGone}
use Rattle.dialogues.specs.ScriptState.{PipelineState}
use Rattle.recorded_calls.specs.Passes.{known}
use Rattle.recorded_calls.specs.SharedCalls.{KnowsLent, KnowsGathered, Beside}
use Rattle.recorded_calls.proofs.Gathers.{leaves-beside, gather-knows}
use Rattle.recorded_calls.proofs.board_caller.BoardCaller.gather.Goals as goal

pub returns-in_err-lines-clause-beside : goal.returns-in_err-lines-clause-beside
returns-in_err-lines-clause-beside g c =
    let after = known (Some c.asks-pass.result.0) in
    subst (λ o. Beside (known o) after) (sym c.take_pass-pass.ensures)
    (leaves-beside c.sharing_laws.ensures (known (Some c.take_pass-pass.result)) after (subst (λ o. PeersGone (known o)) c.take_pass-pass.ensures c.requires.gone) c.asks-pass.ensures.turn)

pub returns-clause-beside : goal.returns-clause-beside
returns-clause-beside g c =
    let after = known (Some c.asks-pass.result.0) in
    subst (λ o. Beside (known o) after) (sym c.take_pass-pass.ensures)
    (leaves-beside c.sharing_laws.ensures (known (Some c.take_pass-pass.result)) after (subst (λ o. PeersGone (known o)) c.take_pass-pass.ensures c.requires.gone) c.asks-pass.ensures.turn)

pub returns-clause-gathered : goal.returns-clause-gathered
returns-clause-gathered g c =
    let i = c.pipe.inside in
    let p : PipelineState = record { number = i.number; bound = i.bound; held = i.held; mask_is_empty = i.mask_is_empty; lines = i.lines; delivered = i.delivered } in
    let after = known (Some c.asks-pass.result.0) in
    let on : KnowsLent after c.args.pipe.now = (returns-clause-beside g c).lent c.args.pipe.now c.requires.pipe in
    let lines = c.in_ok-lines.lines in
    let new : PipelineState = record p { lines = lines } in
    subst (λ (q : PipelineState). (new ≡ record q { lines = lines }) × KnowsGathered after new) c.pipe.view_is
    (refl, gather-knows (λ v. v.items) after p lines c.asks-pass.result.1 (subst (KnowsLent after) (sym c.pipe.view_is) on) c.asks-pass.ensures.asks c.in_ok-lines.ensures)
