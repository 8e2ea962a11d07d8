use Rattle.std.proofs.Common.{rules}
use Rattle.board.specs.RunQueue.{IsQueue, IsFor, IsChain, HasJob, HasRequest}
use Rattle.board.specs.Places.{places}
use Rattle.board.proofs.Kept.{empty_places}
use Rattle.board.proofs.RunQueuesHold.{ready_none}
use Rattle.board.proofs.board_core.BoardCore.new.Goals as goal

pub invariant_of-result : goal.invariant_of-result
invariant_of-result g c =
    let none = empty_places c.new-2.result c.new-2.ensures.empty in (
      search rules,
      search rules,
      search rules,
      search rules,
      search rules,
      record {
        queues = ready_none IsQueue HasJob (places c.new-2.result) _ none;
        own = λ caller. ready_none (IsFor caller) HasJob (places c.new-2.result) _ none;
      },
      ready_none IsChain HasRequest (places c.new-2.result) _ none,
    )
