use Rattle.std.proofs.Common.{◌≡◌, ◌≢◌}
use Rattle.std.specs.Prelude.{◌↔◌}
use Rattle.std.specs.Arc.{arc_value}
use Rattle.turn_lock.specs.Passes.{knows}
use Rattle.board.specs.declared.entry.BoardEntry.TheVariants as entry
use Rattle.board.specs.declared.board_core.BoardErr.TheVariants as error
use Rattle.board.specs.Entries.{entries_of, verdict, caller_of}
use Rattle.board.specs.Allowance.{IsAllowed}
use Rattle.board.specs.Legal.{LegalBoard}
use Rattle.shared_board.proofs.Knowing.{itself}
use Rattle.shared_board.proofs.Refusing.{refused_turn}
use Rattle.shared_board.proofs.shared.SharedBoard.enqueue.Goals as goal

pub enqueue-answer-requires-clause-caller : goal.enqueue-answer-requires-clause-caller
enqueue-answer-requires-clause-caller g c κs within =
    let may = c.turn-turn.ensures.holds.submits c.args.pipe c.requires.caller in
    rw (c.number-caller.ensures, c.get.ensures.value) may

pub enqueue-answer-requires-clause-pipe : goal.enqueue-answer-requires-clause-pipe
enqueue-answer-requires-clause-pipe g c κs within =
    let o = c.turn-turn.ensures.holds.queue c.args.pipe c.requires.caller c.requires.pipe in
    rw c.get.ensures.value o

pub returns-clause-turn : goal.returns-clause-turn
returns-clause-turn g c =
    let t = c.turn-turn.ensures in
    let a = c.enqueue-answer.ensures in
    let ask = g.W.Work.asked c.args.job in
    refused_turn caller_of (λ xs. LegalBoard xs) itself (knows c.args.pass) _ (knows c.give-pass.result) _ _ c.enqueue-answer.new.self _ c.number-caller.ensures c.get.ensures.value t.sees t.meets a.legal c.enqueue-answer.result
    (λ v shared j xs. entry.Enq j c.args.pipe shared c.args.backlog v) (λ shared. arc_value shared ≡ ask) (λ xs v. v ≡ verdict (entries_of c.args.pipe xs) c.args.backlog)
    (λ xs j. IsAllowed g.W.Work.weight xs j ask) (λ xs e. e ≢ error.NoWorker) (λ xs j e. (e ≡ error.TooBig) ↔ (IsAllowed g.W.Work.weight xs j ask → ⊥))
    _ c.is_ok-added.ensures.value a.answered a.allowed a.other a.refused c.give-pass.ensures.view
