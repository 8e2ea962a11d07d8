use Rattle.std.proofs.Common.{◌≡◌, Some, sym, ◌∙◌, length, subst}
use Rattle.board.specs.Entries.{entries_of}
use Rattle.dialogues.specs.ScriptState.{PipelineState}
use Rattle.recorded_calls.specs.Passes.{known}
use Rattle.recorded_calls.specs.Pipelines.{KnowsPipe, Closed}
use Rattle.board.specs.Legal.{LegalBoard}
use Rattle.recorded_calls.proofs.BoardCalls.{close-closed, all-drained, is-open}
use Rattle.recorded_calls.proofs.board_caller.BoardCaller.close.Goals as goal

pub close-requires-clause-pipe : goal.close-requires-clause-pipe
close-requires-clause-pipe g c κs within =
    let i = c.pipe.inside in
    let p : PipelineState = record { number = i.number; bound = i.bound; held = i.held; mask_is_empty = i.mask_is_empty; lines = i.lines; delivered = i.delivered } in
    let on = subst (λ o. KnowsPipe (known o) p) c.take_pass-pass.ensures (subst (KnowsPipe (known c.args.self.now)) (sym c.pipe.view_is) c.requires.pipe) in
    is-open p.bound (entries_of p.number (known (Some c.take_pass-pass.result)).seen) on.opened

pub close-requires-clause-alone : goal.close-requires-clause-alone
close-requires-clause-alone g c κs within =
    let i = c.pipe.inside in
    let p : PipelineState = record { number = i.number; bound = i.bound; held = i.held; mask_is_empty = i.mask_is_empty; lines = i.lines; delivered = i.delivered } in
    let on = subst (λ o. KnowsPipe (known o) p) c.take_pass-pass.ensures (subst (KnowsPipe (known c.args.self.now)) (sym c.pipe.view_is) c.requires.pipe) in
    on.unshared

pub close-requires-clause-drained : goal.close-requires-clause-drained
close-requires-clause-drained g c κs within =
    let i = c.pipe.inside in
    let p : PipelineState = record { number = i.number; bound = i.bound; held = i.held; mask_is_empty = i.mask_is_empty; lines = i.lines; delivered = i.delivered } in
    let on = subst (λ o. KnowsPipe (known o) p) c.take_pass-pass.ensures (subst (KnowsPipe (known c.args.self.now)) (sym c.pipe.view_is) c.requires.pipe) in
    let paid : p.delivered ≡ length p.lines = subst (λ (x : PipelineState). x.delivered ≡ length x.lines) (sym c.pipe.view_is) c.requires.done in
    all-drained c.board_laws.ensures (known (Some c.take_pass-pass.result)) p (subst (λ o. LegalBoard (known o).seen) c.take_pass-pass.ensures c.requires.legal) on paid

pub returns-clause-closed : goal.returns-clause-closed
returns-clause-closed g c =
    let i = c.pipe.inside in
    let p : PipelineState = record { number = i.number; bound = i.bound; held = i.held; mask_is_empty = i.mask_is_empty; lines = i.lines; delivered = i.delivered } in
    let laws = c.board_laws.ensures in
    subst (λ o. Closed (known o) (known (Some c.close.result)) c.args.pipe.now) (sym c.take_pass-pass.ensures)
    (subst (Closed (known (Some c.take_pass-pass.result)) (known (Some c.close.result))) c.pipe.view_is
    (close-closed laws (known (Some c.take_pass-pass.result)) (known (Some c.close.result)) p c.close.ensures.turn))
