use Rattle.std.proofs.Common.{◌≡◌}
use Rattle.turn_lock.specs.Passes.{knows}
use Rattle.board.specs.declared.entry.BoardEntry.TheVariants as entry
use Rattle.board.specs.declared.board_core.BoardErr.TheVariants as error
use Rattle.turn_lock.specs.TurnLaws.{done_turn}
use Rattle.board.specs.Shapes.{has_queue}
use Rattle.board.specs.Entries.{caller_of}
use Rattle.board.specs.Legal.{LegalBoard}
use Rattle.shared_board.proofs.Knowing.{itself}
use Rattle.shared_board.proofs.shared.SharedBoard.hold.Goals as goal

pub hold-answer-requires-clause-caller : goal.hold-answer-requires-clause-caller
hold-answer-requires-clause-caller g c κs within =
    let s = c.turn-turn.ensures.holds.known c.args.pipe c.requires.caller in
    rw (c.number-caller.ensures, c.get.ensures.value) s.managed

pub hold-answer-requires-clause-pipe : goal.hold-answer-requires-clause-pipe
hold-answer-requires-clause-pipe g c κs within =
    let s = c.turn-turn.ensures.holds.known c.args.pipe c.requires.caller in
    let o = s.opened has_queue c.requires.pipe in
    rw c.get.ensures.value o

pub returns-clause-turn : goal.returns-clause-turn
returns-clause-turn g c =
    let t = c.turn-turn.ensures in
    let a = c.hold-answer.ensures in
    done_turn caller_of (λ xs. LegalBoard xs) itself (knows c.args.pass) _ (knows c.give.result) _ _ c.hold-answer.new.self _ c.number-caller.ensures c.get.ensures.value t.sees t.meets a.legal c.hold-answer.result
    (λ j xs. entry.Hold j c.args.pipe) (λ e. e ≡ error.Memory) _ c.is_ok-added.ensures.value a.held a.refused c.give.ensures.view
