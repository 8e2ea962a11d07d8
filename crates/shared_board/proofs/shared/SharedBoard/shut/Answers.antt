use Rattle.turn_lock.specs.Passes.{knows}
use Rattle.board.specs.declared.entry.BoardEntry.TheVariants as entry
use Rattle.turn_lock.specs.TurnLaws.{sure_turn}
use Rattle.board.specs.Entries.{caller_of}
use Rattle.board.specs.Legal.{LegalBoard}
use Rattle.shared_board.proofs.Knowing.{itself}
use Rattle.shared_board.proofs.shared.SharedBoard.shut.Goals as goal

pub shut-requires-clause-once : goal.shut-requires-clause-once
shut-requires-clause-once g c κs within =
    let o = c.turn-turn.ensures.holds.unshut c.requires.caller c.requires.once in
    rw c.get.ensures.value o

pub returns-clause-turn : goal.returns-clause-turn
returns-clause-turn g c =
    let t = c.turn-turn.ensures in
    let a = c.shut.ensures in
    sure_turn caller_of (λ xs. LegalBoard xs) itself (knows c.args.pass) _ (knows c.give-pass.result) _ _ c.shut.new.self _ c.number-caller.ensures c.get.ensures.value t.sees t.meets a.legal
    (λ j xs. entry.Shut j) a.shut c.give-pass.ensures.view
