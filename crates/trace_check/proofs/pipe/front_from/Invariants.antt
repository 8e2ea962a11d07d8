use Rattle.std.proofs.Common.{◌≡◌, ◌+◌, drop}
use Rattle.trace_check.specs.Pipes.{ended_run}
use Rattle.trace_check.proofs.pipe.front_from.Given as goal

abbrev pub invariant-loop-place : goal.invariant-loop-place
invariant-loop-place l = l.place + ended_run (drop l.place l.requests) ≡ l.from + ended_run (drop l.from l.requests)
