use Rattle.turn_lock.specs.Passes.{knows}
use Rattle.board.specs.Entries.{finish_entry, caller_of}
use Rattle.turn_lock.specs.TurnLaws.{sure_turn}
use Rattle.board.specs.Legal.{LegalBoard}
use Rattle.shared_board.proofs.Knowing.{itself}
use Rattle.shared_board.proofs.shared.SharedBoard.finish.Goals as goal

pub finish-requires-clause-took : goal.finish-requires-clause-took
finish-requires-clause-took g c κs within =
    let s = c.turn-turn.ensures.holds.slip c.args.slip.pipe c.args.slip.number c.args.out c.requires.took in
    rw (c.number-caller.ensures, c.get.ensures.value) s.0

pub finish-requires-clause-once : goal.finish-requires-clause-once
finish-requires-clause-once g c κs within =
    let s = c.turn-turn.ensures.holds.slip c.args.slip.pipe c.args.slip.number c.args.out c.requires.took in
    rw c.get.ensures.value s.1

pub finish-requires-clause-right : goal.finish-requires-clause-right
finish-requires-clause-right g c κs within =
    let s = c.turn-turn.ensures.holds.slip c.args.slip.pipe c.args.slip.number c.args.out c.requires.took in
    rw c.get.ensures.value s.2

pub returns-clause-turn : goal.returns-clause-turn
returns-clause-turn g c =
    let t = c.turn-turn.ensures in
    let a = c.finish.ensures in
    sure_turn caller_of (λ xs. LegalBoard xs) itself (knows c.args.pass) _ (knows c.give-pass.result) _ _ c.finish.new.self _ c.number-caller.ensures c.get.ensures.value t.sees t.meets a.legal
    (λ j xs. finish_entry xs j c.args.slip.pipe c.args.slip.number) a.finished c.give-pass.ensures.view
