use Rattle.std.proofs.Common.{◌∙◌}
use Rattle.turn_lock.specs.Passes.{knows}
use Rattle.board.specs.declared.entry.BoardEntry.TheVariants as entry
use Rattle.turn_lock.specs.TurnLaws.{sure_turn}
use Rattle.board.specs.Entries.{caller_of}
use Rattle.board.specs.Legal.{LegalBoard}
use Rattle.shared_board.proofs.Knowing.{itself}
use Rattle.shared_board.proofs.shared.SharedBoard.close.Goals as goal

pub close-requires-clause-caller : goal.close-requires-clause-caller
close-requires-clause-caller g c κs within =
    let s = c.turn-turn.ensures.holds.known c.args.pipe c.requires.caller in
    rw (c.number-caller.ensures, c.get.ensures.value) s.managed

pub close-requires-clause-pipe : goal.close-requires-clause-pipe
close-requires-clause-pipe g c κs within =
    let o = c.turn-turn.ensures.holds.open_ c.args.pipe c.requires.caller c.requires.pipe in
    rw c.get.ensures.value o

pub close-requires-clause-alone : goal.close-requires-clause-alone
close-requires-clause-alone g c κs within =
    let s = c.turn-turn.ensures.holds.known c.args.pipe c.requires.caller in
    rw c.get.ensures.value (s.shared ∙ c.requires.alone)

pub close-requires-clause-finished : goal.close-requires-clause-finished
close-requires-clause-finished g c κs within =
    let d = c.turn-turn.ensures.holds.drained c.args.pipe c.requires.caller c.requires.pipe c.requires.alone c.requires.drained in
    rw c.get.ensures.value d.0

pub close-requires-clause-collected : goal.close-requires-clause-collected
close-requires-clause-collected g c κs within =
    let d = c.turn-turn.ensures.holds.drained c.args.pipe c.requires.caller c.requires.pipe c.requires.alone c.requires.drained in
    rw c.get.ensures.value d.1

pub returns-clause-turn : goal.returns-clause-turn
returns-clause-turn g c =
    let t = c.turn-turn.ensures in
    let a = c.close.ensures in
    sure_turn caller_of (λ xs. LegalBoard xs) itself (knows c.args.pass) _ (knows c.give.result) _ _ c.close.new.self _ c.number-caller.ensures c.get.ensures.value t.sees t.meets a.legal
    (λ j xs. entry.Close j c.args.pipe) a.closed c.give.ensures.view
