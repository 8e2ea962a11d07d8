use Rattle.std.proofs.Common.{◌≡◌, Some, sym, ◌∙◌, ◌∷◌, [], subst, MatchResult}
use Rattle.std.specs.Prelude.{◌↔◌}
use Rattle.std.specs.Arc.{arc_value}
use Rattle.board.specs.Allowance.{IsAllowed}
use Rattle.board.specs.declared.board_core.BoardErr.TheVariants.{TooBig}
use Rattle.transforms.specs.AskValue.{ask_size}
use Rattle.dialogues.specs.BoardCalls.{Enqueues, asked_by}
use Rattle.dialogues.specs.ScriptState.{PipelineState}
use Rattle.recorded_calls.specs.Passes.{known}
use Rattle.recorded_calls.specs.Pipelines.{Unchanged, entered_asks}
use Rattle.recorded_calls.specs.SharedCalls.{KnowsShared, Gave}
use Rattle.recorded_calls.proofs.BoardCalls.{enqueue-refused, not-unserved, by-allowance}
use Rattle.recorded_calls.proofs.Sharings.{enqueue-gave}
use Rattle.recorded_calls.proofs.board_caller.BoardCaller.enqueue_shared.Goals as goal

pub returns-clause-entered : goal.returns-clause-entered
returns-clause-entered g c =
    let i = c.pipe.inside in
    let p : PipelineState = record { number = i.number; bound = i.bound; held = i.held; mask_is_empty = i.mask_is_empty; lines = i.lines; delivered = i.delivered } in
    let ask = arc_value c.args.job.ask in
    let backlog = c.args.backlog in
    let r = c.enqueue-pass.result.1 in
    let l = known (Some c.enqueue-pass.result.0) in
    subst (λ o. MatchResult r (λ answer. Gave (known o) l (Enqueues c.args.pipe.now.number (asked_by ask) backlog answer ∷ []) (entered_asks ask answer)) (λ _. Unchanged (known o) l)) (sym c.take_pass-pass.ensures)
    (subst (λ (p : PipelineState). MatchResult r (λ answer. Gave (known (Some c.take_pass-pass.result)) l (Enqueues p.number (asked_by ask) backlog answer ∷ []) (entered_asks ask answer)) (λ _. Unchanged (known (Some c.take_pass-pass.result)) l)) c.pipe.view_is
    (enqueue-gave c.sharing_laws.ensures (known (Some c.take_pass-pass.result)) l p ask backlog _ r (subst (λ o. KnowsShared (known o) p) c.take_pass-pass.ensures (subst (KnowsShared (known c.args.self.now)) (sym c.pipe.view_is) c.requires.pipe)) c.enqueue-pass.ensures.turn))

pub returns-clause-allowed : goal.returns-clause-allowed
returns-clause-allowed g c =
    let ask = arc_value c.args.job.ask in
    let r = c.enqueue-pass.result.1 in
    subst (λ o. MatchResult r (λ _. IsAllowed ask_size (known o).seen (known o).number ask) (λ e. (e ≡ TooBig) ↔ (IsAllowed ask_size (known o).seen (known o).number ask → ⊥))) (sym c.take_pass-pass.ensures)
    (by-allowance r _ _ (enqueue-refused c.sharing_laws.ensures.laws (known (Some c.take_pass-pass.result)) (known (Some c.enqueue-pass.result.0)) ask r _ _ c.enqueue-pass.ensures.turn))

pub returns-clause-served : goal.returns-clause-served
returns-clause-served g c =
    let r = c.enqueue-pass.result.1 in
    not-unserved r _ _ (enqueue-refused c.sharing_laws.ensures.laws (known (Some c.take_pass-pass.result)) (known (Some c.enqueue-pass.result.0)) (arc_value c.args.job.ask) r _ _ c.enqueue-pass.ensures.turn)
