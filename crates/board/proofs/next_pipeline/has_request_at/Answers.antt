use Rattle.std.proofs.Common.{sym}
use Rattle.board.specs.Places.{places}
use Rattle.board.specs.RunQueue.{HasRequest}
use Rattle.board.proofs.RunQueuesHold.{one_at}
use Rattle.board.proofs.KeptRunQueues.{passes_or_not}
use Rattle.board.proofs.next_pipeline.has_request_at.Goals as goal

pub returns-in-Some : goal.returns-in-Some
returns-in-Some g c =
    one_at HasRequest (places c.args.pipes.now) c.args.k c.in-Some.pipe.now c.may_pass.result (sym c.in-Some.ensures.value) (passes_or_not c.in-Some.pipe.now.stage c.may_pass.result c.may_pass.ensures)
