use Rattle.std.proofs.Common.{◌≡◌, ◌∷◌, [], ◌++◌, slice_get, Some, subst}
use Rattle.std.specs.Prelude.{MatchOption}
use Rattle.turn_lock.specs.Passes.{knows}
use Rattle.board.specs.Entries.{entries_of, submissions, take_entry, NoneFor, caller_of}
use Rattle.board.specs.Legal.{MayFinish, LegalBoard}
use Rattle.turn_lock.specs.TurnLaws.{found_turn}
use Rattle.shared_board.proofs.Knowing.{itself}
use Rattle.shared_board.proofs.shared.SharedBoard.take.Goals as goal

pub returns-clause-turn : goal.returns-clause-turn
returns-clause-turn g c =
    let t = c.turn-turn.ensures in
    let a = c.take-answer.ensures in
    let old = c.get.result.now in
    let own = subst (λ j. MatchOption c.take-answer.result ((c.take-answer.new.self ≡ old) × NoneFor old j) (λ t. (c.take-answer.new.self ≡ old ++ take_entry old c.number-caller.result t.slip.pipe t.slip.number ∷ []) × (slice_get (submissions (entries_of t.slip.pipe old)) t.slip.number ≡ Some (g.W.Work.asked t.job)))) c.number-caller.ensures a.taken in
    found_turn caller_of (λ xs. LegalBoard xs) itself (knows c.args.pass) _ (knows c.give-pass.result) _ _ c.take-answer.new.self _ c.number-caller.ensures c.get.ensures.value t.sees t.meets a.legal c.take-answer.result
    (λ v j xs. take_entry xs j v.slip.pipe v.slip.number) (λ xs. NoneFor xs (knows c.args.pass).number)
    (λ xs v. slice_get (submissions (entries_of v.slip.pipe xs)) v.slip.number ≡ Some (g.W.Work.asked v.job))
    (λ xs j v. MayFinish g.W.Work.meaning (entries_of v.slip.pipe xs) j v.slip.number (g.W.Work.meaning (g.W.Work.asked v.job)))
    _ c.is_some-added.ensures own a.ready c.give-pass.ensures.view
