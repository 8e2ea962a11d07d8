use Rattle.std.proofs.Common.{◌≡◌}
use Rattle.turn_lock.specs.Passes.{knows}
use Rattle.board.specs.declared.entry.Shape.TheVariants as shape
use Rattle.board.specs.declared.entry.BoardEntry.TheVariants as entry
use Rattle.board.specs.declared.board_core.BoardErr.TheVariants as error
use Rattle.board.specs.Legal.{pipelines, LegalBoard}
use Rattle.turn_lock.specs.TurnLaws.{made_turn}
use Rattle.board.specs.Entries.{caller_of}
use Rattle.shared_board.proofs.Knowing.{itself}
use Rattle.shared_board.proofs.shared.SharedBoard.born_queue.Goals as goal

pub returns-clause-turn : goal.returns-clause-turn
returns-clause-turn g c =
    let t = c.turn-turn.ensures in
    let a = c.born_queue-answer.ensures in
    made_turn caller_of (λ xs. LegalBoard xs) itself (knows c.args.pass) _ (knows c.give.result) _ _ c.born_queue-answer.new.self _ c.number-caller.ensures c.get.ensures.value t.sees t.meets a.legal c.born_queue-answer.result
    (λ pipe j xs. entry.Born j pipe (shape.Queue c.args.max)) (λ xs pipe. pipe ≡ pipelines xs) (λ e. e ≡ error.Memory) _ c.is_ok-added.ensures.value a.made a.refused c.give.ensures.view
