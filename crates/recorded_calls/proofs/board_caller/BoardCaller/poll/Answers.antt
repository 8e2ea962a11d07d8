use Rattle.std.proofs.Common.{◌≡◌, length, Some, sym, ◌∙◌, ◌++◌, List, Bool, subst, MatchResult}
use Rattle.kc_base.specs.declared.callback_list.Callback.{Callback}
use Rattle.board.specs.Entries.{entries_of}
use Rattle.board.specs.declared.board_core.BoardErr.TheVariants.{Memory}
use Rattle.transforms.specs.declared.request.Finished.{Finished}
use Rattle.dialogues.specs.ScriptState.{PipelineState}
use Rattle.board.specs.Allowance.{accepted_by}
use Rattle.recorded_calls.specs.Bounds.{AreWithin}
use Rattle.recorded_calls.specs.Passes.{known}
use Rattle.recorded_calls.specs.Pipelines.{KnowsPipe, Unchanged, Polled}
use Rattle.recorded_calls.proofs.BoardCalls.{poll-changed, is-open}
use Rattle.recorded_calls.proofs.board_caller.BoardCaller.poll.Goals as goal

pub poll-pass-requires-clause-pipe : goal.poll-pass-requires-clause-pipe
poll-pass-requires-clause-pipe g c κs within =
    let i = c.pipe.inside in
    let p : PipelineState = record { number = i.number; bound = i.bound; held = i.held; mask_is_empty = i.mask_is_empty; lines = i.lines; delivered = i.delivered } in
    let on = subst (λ o. KnowsPipe (known o) p) c.take_pass-pass.ensures (subst (KnowsPipe (known c.args.self.now)) (sym c.pipe.view_is) c.requires.pipe) in
    is-open p.bound (entries_of p.number (known (Some c.take_pass-pass.result)).seen) on.opened

pub returns-clause-polled : goal.returns-clause-polled
returns-clause-polled g c =
    let i = c.pipe.inside in
    let p : PipelineState = record { number = i.number; bound = i.bound; held = i.held; mask_is_empty = i.mask_is_empty; lines = i.lines; delivered = i.delivered } in
    let on = subst (λ o. KnowsPipe (known o) p) c.take_pass-pass.ensures (subst (KnowsPipe (known c.args.self.now)) (sym c.pipe.view_is) c.requires.pipe) in
    let into = c.args.into.now.list in
    let into' = c.poll-pass.new.into.list in
    let before = known (Some c.take_pass-pass.result) in
    let after = known (Some c.poll-pass.result.0) in
    subst (λ o. MatchResult c.poll-pass.result.1 (λ _. (callbacks : List (Callback Finished)) × (all : Bool) × (into' ≡ into ++ callbacks) × Polled (known o) after c.args.pipe.now callbacks all × AreWithin (length c.args.pipe.now.lines) (accepted_by (known o).number (known o).seen) callbacks) (λ e. (e ≡ Memory) × (into' ≡ into) × Unchanged (known o) after)) (sym c.take_pass-pass.ensures)
    (subst (λ (p : PipelineState). MatchResult c.poll-pass.result.1 (λ _. (callbacks : List (Callback Finished)) × (all : Bool) × (into' ≡ into ++ callbacks) × Polled before after p callbacks all × AreWithin (length p.lines) (accepted_by before.number before.seen) callbacks) (λ e. (e ≡ Memory) × (into' ≡ into) × Unchanged before after)) c.pipe.view_is
    (poll-changed c.board_laws.ensures before after p into into' c.poll-pass.result.1 on c.poll-pass.ensures.turn))
