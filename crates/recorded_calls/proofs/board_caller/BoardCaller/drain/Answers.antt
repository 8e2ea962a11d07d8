use Rattle.std.proofs.Common.{◌≡◌, ◌+◌, length, Some, sym, ◌∙◌, ◌++◌, List, subst, MatchResult}
use Rattle.kc_base.specs.declared.callback_list.Callback.{Callback}
use Rattle.board.specs.Entries.{entries_of}
use Rattle.board.specs.HandedOut.{completions}
use Rattle.board.specs.Legal.{LegalBoard}
use Rattle.board.specs.declared.board_core.BoardErr.TheVariants.{Memory}
use Rattle.transforms.specs.declared.request.Finished.{Finished}
use Rattle.dialogues.specs.ScriptState.{PipelineState}
use Rattle.board.specs.Allowance.{accepted_by}
use Rattle.recorded_calls.specs.Bounds.{AreWithin}
use Rattle.recorded_calls.specs.Passes.{known}
use Rattle.recorded_calls.specs.Pipelines.{KnowsPipe, Unchanged, Drained}
use Rattle.recorded_calls.proofs.BoardCalls.{crew-drained, is-open}
use Rattle.recorded_calls.proofs.board_caller.BoardCaller.drain.Goals as goal

pub drain-pass-requires-clause-pipe : goal.drain-pass-requires-clause-pipe
drain-pass-requires-clause-pipe g c κs within =
    let i = c.pipe.inside in
    let p : PipelineState = record { number = i.number; bound = i.bound; held = i.held; mask_is_empty = i.mask_is_empty; lines = i.lines; delivered = i.delivered } in
    let on = subst (λ o. KnowsPipe (known o) p) c.take_pass-pass.ensures (subst (KnowsPipe (known c.args.self.now)) (sym c.pipe.view_is) c.requires.pipe) in
    is-open p.bound (entries_of p.number (known (Some c.take_pass-pass.result)).seen) on.opened

pub returns-clause-drained : goal.returns-clause-drained
returns-clause-drained g c =
    let i = c.pipe.inside in
    let p : PipelineState = record { number = i.number; bound = i.bound; held = i.held; mask_is_empty = i.mask_is_empty; lines = i.lines; delivered = i.delivered } in
    let on = subst (λ o. KnowsPipe (known o) p) c.take_pass-pass.ensures (subst (KnowsPipe (known c.args.self.now)) (sym c.pipe.view_is) c.requires.pipe) in
    let into = c.args.into.now.list in
    let into' = c.drain-pass.new.into.list in
    let before = known (Some c.take_pass-pass.result) in
    let after = known (Some c.drain-pass.result.0) in
    subst (λ o. MatchResult c.drain-pass.result.1 (λ _. (callbacks : List (Callback Finished)) × (into' ≡ into ++ callbacks) × Drained (known o) after c.args.pipe.now callbacks × (c.args.pipe.now.delivered + completions callbacks ≡ length c.args.pipe.now.lines) × AreWithin (length c.args.pipe.now.lines) (accepted_by (known o).number (known o).seen) callbacks) (λ e. (e ≡ Memory) × (into' ≡ into) × Unchanged (known o) after)) (sym c.take_pass-pass.ensures)
    (subst (λ (p : PipelineState). MatchResult c.drain-pass.result.1 (λ _. (callbacks : List (Callback Finished)) × (into' ≡ into ++ callbacks) × Drained before after p callbacks × (p.delivered + completions callbacks ≡ length p.lines) × AreWithin (length p.lines) (accepted_by before.number before.seen) callbacks) (λ e. (e ≡ Memory) × (into' ≡ into) × Unchanged before after)) c.pipe.view_is
    (crew-drained c.board_laws.ensures before after p into into' c.drain-pass.result.1 (subst (λ o. LegalBoard (known o).seen) c.take_pass-pass.ensures c.requires.legal) on c.drain-pass.ensures.drained))
