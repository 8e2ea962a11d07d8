use Rattle.std.proofs.Common.{◌≡◌, Some, sym, ◌∙◌, ◌∷◌, [], subst, MatchResult}
use Rattle.std.specs.Prelude.{◌==◌, ◌<◌, ◌^◌}
use Rattle.board.specs.Entries.{entries_of, birth}
use Rattle.board.specs.Shapes.{width_born}
use Rattle.board.specs.declared.board_core.BoardErr.TheVariants.{Memory}
use Rattle.dialogues.specs.BoardCalls.{Masks}
use Rattle.dialogues.specs.ScriptState.{PipelineState}
use Rattle.recorded_calls.specs.Passes.{known}
use Rattle.recorded_calls.specs.Pipelines.{IsPad, KnowsPipe, Unchanged, Changed}
use Rattle.recorded_calls.proofs.BoardCalls.{mask-changed, open-pad}
use Rattle.recorded_calls.proofs.board_caller.BoardCaller.mask.Goals as goal

pub mask-pass-requires-clause-pipe : goal.mask-pass-requires-clause-pipe
mask-pass-requires-clause-pipe g c κs within =
    let i = c.pipe.inside in
    let p : PipelineState = record { number = i.number; bound = i.bound; held = i.held; mask_is_empty = i.mask_is_empty; lines = i.lines; delivered = i.delivered } in
    let on = subst (λ o. KnowsPipe (known o) p) c.take_pass-pass.ensures (subst (KnowsPipe (known c.args.self.now)) (sym c.pipe.view_is) c.requires.pipe) in
    open-pad p.bound (entries_of p.number (known (Some c.take_pass-pass.result)).seen) (subst (λ (x : PipelineState). IsPad x.bound) (sym c.pipe.view_is) c.requires.pad) on.opened

pub mask-pass-requires-clause-alone : goal.mask-pass-requires-clause-alone
mask-pass-requires-clause-alone g c κs within =
    let i = c.pipe.inside in
    let p : PipelineState = record { number = i.number; bound = i.bound; held = i.held; mask_is_empty = i.mask_is_empty; lines = i.lines; delivered = i.delivered } in
    let on = subst (λ o. KnowsPipe (known o) p) c.take_pass-pass.ensures (subst (KnowsPipe (known c.args.self.now)) (sym c.pipe.view_is) c.requires.pipe) in
    on.unshared

pub mask-pass-requires-clause-bits : goal.mask-pass-requires-clause-bits
mask-pass-requires-clause-bits g c κs within =
    subst (λ o. c.args.bits < 2 ^ width_born (birth (entries_of c.pipe.inside.number (known o).seen))) c.take_pass-pass.ensures
    (subst (λ (x : PipelineState). c.args.bits < 2 ^ width_born (birth (entries_of x.number (known c.args.self.now).seen))) (sym c.pipe.view_is) c.requires.bits)

pub returns-clause-masked : goal.returns-clause-masked
returns-clause-masked g c =
    let i = c.pipe.inside in
    let bits = c.args.bits in
    let p : PipelineState = record { number = i.number; bound = i.bound; held = i.held; mask_is_empty = i.mask_is_empty; lines = i.lines; delivered = i.delivered } in
    let on = subst (λ o. KnowsPipe (known o) p) c.take_pass-pass.ensures (subst (KnowsPipe (known c.args.self.now)) (sym c.pipe.view_is) c.requires.pipe) in
    let after = known (Some c.mask-pass.result.0) in
    subst (λ o. MatchResult c.mask-pass.result.1 (λ _. Changed (known o) after c.args.pipe.now (record (c.args.pipe.now) { mask_is_empty = bits == 0 }) (Masks c.args.pipe.now.number bits ∷ []) []) (λ e. (e ≡ Memory) × Unchanged (known o) after)) (sym c.take_pass-pass.ensures)
    (subst (λ (p : PipelineState). MatchResult c.mask-pass.result.1 (λ _. Changed (known (Some c.take_pass-pass.result)) after p (record p { mask_is_empty = bits == 0 }) (Masks p.number bits ∷ []) []) (λ e. (e ≡ Memory) × Unchanged (known (Some c.take_pass-pass.result)) after)) c.pipe.view_is
    (mask-changed c.board_laws.ensures (known (Some c.take_pass-pass.result)) after p bits c.mask-pass.result.1 on c.mask-pass.ensures.turn))
