use Rattle.std.proofs.Common.{◌≡◌, slice_get, Some, true, refl, sym, ◌∙◌, subst}
use Rattle.turn_lock.specs.Passes.{knows}
use Rattle.board.specs.Shapes.{is_chain}
use Rattle.board.specs.Entries.{entries_of, submissions, take_entry, pass_entry, NoneFor, NonePasses, caller_of}
use Rattle.board.specs.Legal.{Is, MayFinish, LegalBoard}
use Rattle.turn_lock.specs.TurnLaws.{found_turn}
use Rattle.shared_board.proofs.Knowing.{itself}
use Rattle.shared_board.proofs.Refusing.{passed_after}
use Rattle.shared_board.proofs.shared.SharedBoard.take_or_pass_on.Goals as goal

pub returns-in-Some-clause-turn : goal.returns-in-Some-clause-turn
returns-in-Some-clause-turn g c =
    let t = c.turn-turn.ensures in
    let a = c.in-Some.ensures in
    found_turn caller_of (λ xs. LegalBoard xs) itself (knows c.args.pass) _ (knows c.give-pass.result) _ _ c.take-taken.new.self _ c.number-caller.ensures c.get.ensures.value t.sees t.meets a.legal (Some c.in-Some.job)
    (λ v j xs. take_entry xs j v.slip.pipe v.slip.number) (λ xs. NoneFor xs (knows c.args.pass).number)
    (λ xs v. slice_get (submissions (entries_of v.slip.pipe xs)) v.slip.number ≡ Some (g.W.Work.asked v.job))
    (λ xs j v. MayFinish g.W.Work.meaning (entries_of v.slip.pipe xs) j v.slip.number (g.W.Work.meaning (g.W.Work.asked v.job)))
    true refl a.taken a.ready c.give-pass.ensures.view

pub returns-in-None-clause-turn : goal.returns-in-None-clause-turn
returns-in-None-clause-turn g c =
    let t = c.turn-turn.ensures in
    let a = c.in-None.ensures in
    let b = c.pass_on-passed.ensures in
    let same : c.get-in-None.result.now ≡ c.get.result.now = c.get-in-None.ensures.value ∙ a.taken.0 in
    let none = subst (λ j. NoneFor c.get.result.now j) c.number-caller.ensures a.taken.1 in
    passed_after caller_of (λ xs. LegalBoard xs) itself (knows c.args.pass) _ (knows c.give-pass-in-None.result) _ _ c.pass_on-passed.new.self _ c.number-caller.ensures (same ∙ c.get.ensures.value) t.sees t.meets b.legal
    (λ xs. NoneFor xs (knows c.args.pass).number) (subst (λ xs. NoneFor xs (knows c.args.pass).number) (sym same) none) c.pass_on-passed.result
    (λ p j xs. pass_entry xs j p) (λ xs p. Is is_chain (entries_of p xs)) (λ xs. NonePasses xs) b.passed c.give-pass-in-None.ensures.view
