use Rattle.std.proofs.Common.{length}
use Rattle.trace_check.proofs.Traces.{IsSoFar}
use Rattle.trace_check.proofs.trace_reader.read_trace.Given as goal

abbrev pub invariant-loop-rest : goal.invariant-loop-rest
invariant-loop-rest l = IsSoFar l.text l.registry.items l.board.items l.rest l.count

abbrev pub decreases-loop-rest : goal.decreases-loop-rest
decreases-loop-rest l = length l.rest
