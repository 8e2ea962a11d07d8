use Rattle.std.proofs.Common.{◌≡◌, ◌<◌, length}
use Rattle.std.specs.Prelude.{◌↔◌}
use Rattle.std.specs.Arc.{arc_value}
use Rattle.turn_lock.specs.Passes.{knows}
use Rattle.board.specs.declared.entry.BoardEntry.TheVariants as entry
use Rattle.board.specs.declared.board_core.BoardErr.TheVariants as error
use Rattle.board.specs.Entries.{entries_of, submissions, mask, caller_of}
use Rattle.board.specs.Allowance.{IsAllowed}
use Rattle.board.specs.Legal.{LegalBoard}
use Rattle.shared_board.proofs.Knowing.{itself}
use Rattle.shared_board.proofs.Refusing.{refused_turn}
use Rattle.shared_board.proofs.shared.SharedBoard.submit.Goals as goal

pub submit-answer-requires-clause-caller : goal.submit-answer-requires-clause-caller
submit-answer-requires-clause-caller g c κs within =
    let may = c.turn-turn.ensures.holds.submits c.args.pipe c.requires.caller in
    rw (c.number-caller.ensures, c.get.ensures.value) may

pub submit-answer-requires-clause-pipe : goal.submit-answer-requires-clause-pipe
submit-answer-requires-clause-pipe g c κs within =
    let o = c.turn-turn.ensures.holds.pad c.args.pipe c.requires.caller c.requires.pipe in
    rw c.get.ensures.value o

pub returns-clause-turn : goal.returns-clause-turn
returns-clause-turn g c =
    let t = c.turn-turn.ensures in
    let a = c.submit-answer.ensures in
    let ask = g.W.Work.asked c.args.job in
    refused_turn caller_of (λ xs. LegalBoard xs) itself (knows c.args.pass) _ (knows c.give-pass.result) _ _ c.submit-answer.new.self _ c.number-caller.ensures c.get.ensures.value t.sees t.meets a.legal c.submit-answer.result
    (λ v shared j xs. entry.Submit j c.args.pipe v shared) (λ shared. arc_value shared ≡ ask) (λ xs v. v ≡ length (submissions (entries_of c.args.pipe xs)))
    (λ xs j. IsAllowed g.W.Work.weight xs j ask) (λ xs e. (e ≡ error.NoWorker) ↔ (mask (entries_of c.args.pipe xs) ≡ 0)) (λ xs j e. (e ≡ error.TooBig) ↔ ((0 < mask (entries_of c.args.pipe xs)) × (IsAllowed g.W.Work.weight xs j ask → ⊥)))
    _ c.is_ok-added.ensures.value a.submitted a.allowed a.unmasked a.refused c.give-pass.ensures.view
