use Rattle.std.proofs.Common.{sym, subst}
use Rattle.turn_lock.specs.Turns.{Shows}
use Rattle.turn_lock.specs.Passes.{knows}
use Rattle.board.specs.Entries.{caller_of}
use Rattle.turn_lock.specs.TurnLaws.{meets}
use Rattle.board.specs.Legal.{LegalBoard}
use Rattle.shared_board.proofs.shared.SharedBoard.turn.Goals as goal

pub returns-clause-meets : goal.returns-clause-meets
returns-clause-meets g c = let k = knows c.args.pass in meets caller_of (λ xs. LegalBoard xs) k _ (subst (λ h. Shows caller_of k h) (sym c.get.ensures.value) c.take-turn.ensures.shows) c.is_legal.ensures

pub returns-clause-holds : goal.returns-clause-holds
returns-clause-holds g c = c.known_holds.ensures g.W.Work.meaning (knows c.args.pass) _ (returns-clause-meets g c)
