use Rattle.std.proofs.Common.{◌≡◌, Some, sym, ◌∙◌, ◌∷◌, [], false, subst, MatchResult}
use Rattle.std.specs.Prelude.{◌↔◌}
use Rattle.std.specs.Arc.{arc_value}
use Rattle.board.specs.Allowance.{IsAllowed}
use Rattle.board.specs.declared.board_core.BoardErr.TheVariants.{TooBig}
use Rattle.transforms.specs.AskValue.{ask_size}
use Rattle.dialogues.specs.BoardCalls.{Submits, asked_by}
use Rattle.dialogues.specs.ScriptState.{PipelineState}
use Rattle.recorded_calls.specs.Passes.{known}
use Rattle.recorded_calls.specs.Pipelines.{IsPad, Unchanged}
use Rattle.recorded_calls.specs.SharedCalls.{KnowsShared, Gave}
use Rattle.recorded_calls.proofs.BoardCalls.{not-unserved, by-allowance}
use Rattle.recorded_calls.proofs.Sharings.{submit-gave, submit-shared-refused}
use Rattle.recorded_calls.proofs.board_caller.BoardCaller.submit_shared.Goals as goal

pub returns-clause-submitted : goal.returns-clause-submitted
returns-clause-submitted g c =
    let i = c.pipe.inside in
    let p : PipelineState = record { number = i.number; bound = i.bound; held = i.held; mask_is_empty = i.mask_is_empty; lines = i.lines; delivered = i.delivered } in
    let ask = arc_value c.args.job.ask in
    subst (λ o. MatchResult c.submit-pass.result.1 (λ number. Gave (known o) (known (Some c.submit-pass.result.0)) (Submits c.args.pipe.now.number number (asked_by ask) ∷ []) (ask ∷ [])) (λ _. Unchanged (known o) (known (Some c.submit-pass.result.0)))) (sym c.take_pass-pass.ensures)
    (subst (λ (p : PipelineState). MatchResult c.submit-pass.result.1 (λ number. Gave (known (Some c.take_pass-pass.result)) (known (Some c.submit-pass.result.0)) (Submits p.number number (asked_by ask) ∷ []) (ask ∷ [])) (λ _. Unchanged (known (Some c.take_pass-pass.result)) (known (Some c.submit-pass.result.0)))) c.pipe.view_is
    (submit-gave c.sharing_laws.ensures (known (Some c.take_pass-pass.result)) (known (Some c.submit-pass.result.0)) p ask c.submit-pass.result.1 (subst (λ o. KnowsShared (known o) p) c.take_pass-pass.ensures (subst (KnowsShared (known c.args.self.now)) (sym c.pipe.view_is) c.requires.pipe)) c.submit-pass.ensures.turn))

pub returns-clause-allowed : goal.returns-clause-allowed
returns-clause-allowed g c =
    let i = c.pipe.inside in
    let p : PipelineState = record { number = i.number; bound = i.bound; held = i.held; mask_is_empty = i.mask_is_empty; lines = i.lines; delivered = i.delivered } in
    let on = subst (λ o. KnowsShared (known o) p) c.take_pass-pass.ensures (subst (KnowsShared (known c.args.self.now)) (sym c.pipe.view_is) c.requires.pipe) in
    let pad = subst (λ (x : PipelineState). IsPad x.bound) (sym c.pipe.view_is) c.requires.pad in
    let manned = subst (λ (x : PipelineState). x.mask_is_empty ≡ false) (sym c.pipe.view_is) c.requires.manned in
    let ask = arc_value c.args.job.ask in
    let r = c.submit-pass.result.1 in
    subst (λ o. MatchResult r (λ _. IsAllowed ask_size (known o).seen (known o).number ask) (λ e. (e ≡ TooBig) ↔ (IsAllowed ask_size (known o).seen (known o).number ask → ⊥))) (sym c.take_pass-pass.ensures)
    (by-allowance r _ _ (submit-shared-refused c.sharing_laws.ensures (known (Some c.take_pass-pass.result)) (known (Some c.submit-pass.result.0)) p ask r _ on pad manned c.submit-pass.ensures.turn))

pub returns-clause-served : goal.returns-clause-served
returns-clause-served g c =
    let i = c.pipe.inside in
    let p : PipelineState = record { number = i.number; bound = i.bound; held = i.held; mask_is_empty = i.mask_is_empty; lines = i.lines; delivered = i.delivered } in
    let on = subst (λ o. KnowsShared (known o) p) c.take_pass-pass.ensures (subst (KnowsShared (known c.args.self.now)) (sym c.pipe.view_is) c.requires.pipe) in
    let pad = subst (λ (x : PipelineState). IsPad x.bound) (sym c.pipe.view_is) c.requires.pad in
    let manned = subst (λ (x : PipelineState). x.mask_is_empty ≡ false) (sym c.pipe.view_is) c.requires.manned in
    let r = c.submit-pass.result.1 in
    not-unserved r _ _ (submit-shared-refused c.sharing_laws.ensures (known (Some c.take_pass-pass.result)) (known (Some c.submit-pass.result.0)) p (arc_value c.args.job.ask) r _ on pad manned c.submit-pass.ensures.turn)
