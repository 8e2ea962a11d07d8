use Rattle.std.proofs.Common.{refl, false}
use Rattle.turn_lock.specs.Passes.{knows}
use Rattle.turn_lock.specs.TurnLaws.{leaves}
use Rattle.board.specs.Entries.{caller_of}
use Rattle.board.specs.Legal.{LegalBoard}
use Rattle.shared_board.proofs.Knowing.{itself}
use Rattle.shared_board.proofs.shared.SharedBoard.asks.Goals as goal

pub returns-clause-turn : goal.returns-clause-turn
returns-clause-turn g c =
    let k = knows c.args.pass in
    let t = c.turn-turn.ensures in
    (_, t.meets, leaves caller_of (λ xs. LegalBoard xs) itself k _ (knows c.give.result) _ _ t.sees false refl c.give.ensures.view)
