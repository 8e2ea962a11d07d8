use Rattle.std.proofs.Common.{map, take}
use Rattle.trace_check.specs.Pipes.{state_of}
use Rattle.trace_check.proofs.Judging.{IsBoard}
use Rattle.trace_check.proofs.table.first_wrong_event.Given as goal

abbrev pub invariant-loop-place : goal.invariant-loop-place
invariant-loop-place g l = IsBoard (map state_of l.pipes.items) l.shut (take l.place l.events)
