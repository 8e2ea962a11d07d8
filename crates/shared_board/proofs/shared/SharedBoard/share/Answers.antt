use Rattle.std.proofs.Common.{◌≡◌}
use Rattle.turn_lock.specs.Passes.{knows}
use Rattle.board.specs.declared.entry.BoardEntry.TheVariants as entry
use Rattle.board.specs.declared.board_core.BoardErr.TheVariants as error
use Rattle.turn_lock.specs.TurnLaws.{done_turn}
use Rattle.board.specs.Entries.{caller_of}
use Rattle.board.specs.Legal.{LegalBoard}
use Rattle.shared_board.proofs.Knowing.{itself}
use Rattle.shared_board.proofs.shared.SharedBoard.share.Goals as goal

pub share-answer-requires-clause-caller : goal.share-answer-requires-clause-caller
share-answer-requires-clause-caller g c κs within =
    let s = c.turn-turn.ensures.holds.known c.args.pipe c.requires.caller in
    rw (c.number-caller.ensures, c.get.ensures.value) s.managed

pub share-answer-requires-clause-pipe : goal.share-answer-requires-clause-pipe
share-answer-requires-clause-pipe g c κs within =
    let s = c.turn-turn.ensures.holds.known c.args.pipe c.requires.caller in
    let o = c.turn-turn.ensures.holds.open_ c.args.pipe c.requires.caller c.requires.pipe in
    rw c.get.ensures.value o

pub returns-clause-turn : goal.returns-clause-turn
returns-clause-turn g c =
    let t = c.turn-turn.ensures in
    let a = c.share-answer.ensures in
    done_turn caller_of (λ xs. LegalBoard xs) itself (knows c.args.pass) _ (knows c.give.result) _ _ c.share-answer.new.self _ c.number-caller.ensures c.get.ensures.value t.sees t.meets a.legal c.share-answer.result
    (λ j xs. entry.Share j c.args.pipe) (λ e. e ≡ error.Memory) _ c.is_ok-added.ensures.value a.shared a.refused c.give.ensures.view
