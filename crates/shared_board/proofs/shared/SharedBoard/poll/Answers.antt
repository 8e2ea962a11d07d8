use Rattle.std.proofs.Common.{◌≡◌, ◌++◌, length}
use Rattle.turn_lock.specs.Passes.{knows}
use Rattle.board.specs.declared.entry.BoardEntry.TheVariants as entry
use Rattle.board.specs.declared.board_core.BoardErr.TheVariants as error
use Rattle.board.specs.Entries.{entries_of, told, delivered, caller_of}
use Rattle.turn_lock.specs.TurnLaws.{handed_turn}
use Rattle.board.specs.Legal.{LegalBoard}
use Rattle.shared_board.proofs.Knowing.{itself}
use Rattle.shared_board.proofs.shared.SharedBoard.poll.Goals as goal

pub poll-answer-requires-clause-caller : goal.poll-answer-requires-clause-caller
poll-answer-requires-clause-caller g c κs within =
    let s = c.turn-turn.ensures.holds.known c.args.pipe c.requires.caller in
    rw (c.number-caller.ensures, c.get.ensures.value) s.managed

pub poll-answer-requires-clause-pipe : goal.poll-answer-requires-clause-pipe
poll-answer-requires-clause-pipe g c κs within =
    let s = c.turn-turn.ensures.holds.known c.args.pipe c.requires.caller in
    let o = c.turn-turn.ensures.holds.open_ c.args.pipe c.requires.caller c.requires.pipe in
    rw c.get.ensures.value o

pub returns-clause-turn : goal.returns-clause-turn
returns-clause-turn g c =
    let t = c.turn-turn.ensures in
    let a = c.poll-answer.ensures in
    handed_turn caller_of (λ xs. LegalBoard xs) itself (knows c.args.pass) _ (knows c.give.result) _ _ c.poll-answer.new.self _ c.number-caller.ensures c.get.ensures.value t.sees t.meets a.legal c.poll-answer.result
    (λ j xs. entry.Collect j c.args.pipe (length (told (entries_of c.args.pipe xs))))
    (λ xs. c.poll-answer.new.into.list ≡ c.args.into.now.list ++ delivered g.W.Work.meaning (entries_of c.args.pipe xs) (length (told (entries_of c.args.pipe xs))))
    (c.poll-answer.new.into.list ≡ c.args.into.now.list) (λ e. e ≡ error.Memory) _ c.is_ok-added.ensures.value a.board a.handed a.refused c.give.ensures.view
