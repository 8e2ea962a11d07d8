use Rattle.std.proofs.Common.{◌≡◌, Some, sym, ◌∙◌, ◌∷◌, [], false, subst, MatchResult}
use Rattle.board.specs.Alone.{PeersGone}
use Rattle.board.specs.declared.board_core.BoardErr.TheVariants.{Memory}
use Rattle.dialogues.specs.BoardCalls.{Goes}
use Rattle.dialogues.specs.ScriptState.{PipelineState}
use Rattle.recorded_calls.specs.Passes.{known}
use Rattle.recorded_calls.specs.SharedCalls.{KnowsLent, Beside, Gathers}
use Rattle.recorded_calls.proofs.Gathers.{go-gathers}
use Rattle.recorded_calls.proofs.board_caller.BoardCaller.go_gathered.Goals as goal

pub returns-clause-held : goal.returns-clause-held
returns-clause-held g c =
    let i = c.pipe.inside in
    let p : PipelineState = record { number = i.number; bound = i.bound; held = i.held; mask_is_empty = i.mask_is_empty; lines = i.lines; delivered = i.delivered } in
    let on = subst (λ o. KnowsLent (known o) p) c.take_pass-pass.ensures (subst (KnowsLent (known c.args.self.now)) (sym c.pipe.view_is) c.requires.pipe) in
    let before = known (Some c.take_pass-pass.result) in
    let after = known (Some c.go-pass.result.0) in
    let r = c.go-pass.result.1 in
    subst (λ o. MatchResult r (λ _. Gathers (known o) after c.args.pipe.now (record (c.args.pipe.now) { held = false }) (Goes c.args.pipe.now.number ∷ [])) (λ e. (e ≡ Memory) × Beside (known o) after)) (sym c.take_pass-pass.ensures)
    (subst (λ (p : PipelineState). MatchResult r (λ _. Gathers before after p (record p { held = false }) (Goes p.number ∷ [])) (λ e. (e ≡ Memory) × Beside before after)) c.pipe.view_is
    (go-gathers c.sharing_laws.ensures before after p r (subst (λ o. PeersGone (known o)) c.take_pass-pass.ensures c.requires.gone) on c.go-pass.ensures.turn))
