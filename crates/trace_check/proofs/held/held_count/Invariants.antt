use Rattle.trace_check.proofs.Holding.{HoldsFrom}
use Rattle.trace_check.proofs.held.held_count.Given as goal

abbrev pub invariant-loop-place : goal.invariant-loop-place
invariant-loop-place l = HoldsFrom l.entries l.used.items l.count l.place

abbrev pub decreases-loop-place : goal.decreases-loop-place
decreases-loop-place l = l.place
