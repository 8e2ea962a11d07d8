use Rattle.std.proofs.Common.{◌≡◌, ◌≤◌, length, drop}
use Rattle.alg_registry.specs.Held.{best_among}
use Rattle.alg_registry.proofs.look_answers.best_of.Given as goal

-- the best of the entries whose ids stand from i on
abbrev pub invariant-loop-i : goal.invariant-loop-i
invariant-loop-i l = record {
  within : l.i ≤ length l.listed;
  best : l.best ≡ best_among l.joined l.text l.plain l.all (drop l.i l.listed);
}

abbrev pub decreases-loop-i : goal.decreases-loop-i
decreases-loop-i l = l.i
