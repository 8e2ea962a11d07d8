use Rattle.recorded_calls.specs.Passes.{known}
use Rattle.script_session.proofs.Said.{polled-collected, drained-collected}
use Rattle.script_session.proofs.collects.collect_pipe.Goals as goal

pub returns-then-waits-clause-collected : goal.returns-then-waits-clause-collected
returns-then-waits-clause-collected g c =
    drained-collected c.drain.result c.args.waits (known c.args.caller.now) (known c.drain.new.self) c.args.pipe.now c.args.into.now.list c.drain.new.into.list c.drain.ensures.drained

pub returns-else-waits-clause-collected : goal.returns-else-waits-clause-collected
returns-else-waits-clause-collected g c =
    polled-collected c.poll.result c.args.waits (known c.args.caller.now) (known c.poll.new.self) c.args.pipe.now c.args.into.now.list c.poll.new.into.list c.if-waits.false c.poll.ensures.polled
