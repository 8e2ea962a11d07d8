use Rattle.turn_lock.specs.Passes.{knows}
use Rattle.board.specs.Shapes.{is_chain}
use Rattle.board.specs.Entries.{entries_of, pass_entry, NonePasses, caller_of}
use Rattle.board.specs.Legal.{Is, LegalBoard}
use Rattle.shared_board.proofs.Knowing.{itself}
use Rattle.shared_board.proofs.Refusing.{passed_turn}
use Rattle.shared_board.proofs.shared.SharedBoard.pass_on.Goals as goal

pub returns-clause-turn : goal.returns-clause-turn
returns-clause-turn g c =
    let t = c.turn-turn.ensures in
    let a = c.pass_on-passed.ensures in
    passed_turn caller_of (λ xs. LegalBoard xs) itself (knows c.args.pass) _ (knows c.give-pass.result) _ _ c.pass_on-passed.new.self _ c.number-caller.ensures c.get.ensures.value t.sees t.meets a.legal c.pass_on-passed.result
    (λ p j xs. pass_entry xs j p) (λ xs p. Is is_chain (entries_of p xs)) (λ xs. NonePasses xs) a.passed c.give-pass.ensures.view
