use Rattle.turn_lock.specs.Passes.{knows}
use Rattle.crew_bench.proofs.Asked.{still_begun}
use Rattle.crew_bench.proofs.asker.ask_until.Goals as goal

pub loop-preserved : goal.loop-preserved
loop-preserved g c = (
  c.waited-back.ensures.lock,
  still_begun (knows c.loop.mine) (knows c.waited-back.result.0) c.args.larval c.waited-back.result.1 c.loop.invariant.1 c.waited-back.ensures.turn,
)
