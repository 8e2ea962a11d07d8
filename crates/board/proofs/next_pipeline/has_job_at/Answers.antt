use Rattle.std.proofs.Common.{sym}
use Rattle.board.specs.Places.{places}
use Rattle.board.specs.RunQueue.{HasJobFor}
use Rattle.board.proofs.RunQueuesHold.{one_at}
use Rattle.board.proofs.next_pipeline.has_job_at.Goals as goal

pub returns-in-Some : goal.returns-in-Some
returns-in-Some g c = one_at (HasJobFor c.args.caller) (places c.args.pipes.now) c.args.k c.in-Some.pipe.now c.has_job_for.result (sym c.in-Some.ensures.value) c.has_job_for.ensures
