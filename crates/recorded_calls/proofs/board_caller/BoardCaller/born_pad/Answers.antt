use Rattle.std.proofs.Common.{◌≡◌, Some, sym, ◌∙◌, subst, MatchResult}
use Rattle.board.specs.declared.board_core.BoardErr.TheVariants.{Memory}
use Rattle.board.specs.declared.entry.Shape.TheVariants.{Pad}
use Rattle.board.specs.Legal.{IsNoWorker}
use Rattle.recorded_calls.specs.Passes.{known}
use Rattle.recorded_calls.specs.Pipelines.{Unchanged, Opened}
use Rattle.recorded_calls.proofs.BoardCalls.{born-opened}
use Rattle.recorded_calls.proofs.board_caller.BoardCaller.born_pad.Goals as goal

pub returns-clause-opened : goal.returns-clause-opened
returns-clause-opened g c =
    let after = known (Some c.born_pad-pass.result.0) in
    subst (λ o. MatchResult c.born_pad-pass.result.1 (λ number. Opened (known o) after number (Pad c.args.lists)) (λ e. (e ≡ Memory) × Unchanged (known o) after)) (sym c.take_pass-pass.ensures)
    (born-opened c.board_laws.ensures (known (Some c.take_pass-pass.result)) after (Pad c.args.lists) c.born_pad-pass.result.1 (subst (λ o. IsNoWorker (known o).number) c.take_pass-pass.ensures c.requires.caller) c.born_pad-pass.ensures.turn)
