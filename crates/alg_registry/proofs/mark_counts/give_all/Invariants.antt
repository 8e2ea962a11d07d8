use Rattle.std.proofs.Common.{◌≡◌, ◌≤◌, length, drop}
use Rattle.alg_registry.specs.MarkCounts.{gave_all}
use Rattle.alg_registry.proofs.mark_counts.give_all.Given as goal

-- those from i on have given their references on
abbrev pub invariant-loop-i : goal.invariant-loop-i
invariant-loop-i l = record {
  within : l.i ≤ length l.held;
  same : length l.rows ≡ length l.fn.rows;
  gave : l.rows ≡ gave_all (drop l.i l.held) l.fn.rows;
}

abbrev pub decreases-loop-i : goal.decreases-loop-i
decreases-loop-i l = l.i
