use Rattle.std.proofs.Common.{◌≡◌, ◌≤◌, map, drop, length}
use Rattle.alg_registry.specs.Answers.{best_from}
use Rattle.trace_check.specs.Registers.{row_of, larval_of}
use Rattle.trace_check.proofs.register.best_of.Given as goal

abbrev pub invariant-loop-place : goal.invariant-loop-place
invariant-loop-place l = record {
  within : l.place ≤ length l.entries;
  best : l.best ≡ best_from (map larval_of l.larvals) l.text l.plain l.place (map row_of (drop l.place l.entries));
}

abbrev pub decreases-loop-place : goal.decreases-loop-place
decreases-loop-place l = l.place
