use Rattle.std.proofs.Common.{◌≡◌, ◌<◌, ℕ, None, MatchOption, slice_index_or}
use Rattle.std.specs.Bool.{⊤}
use Rattle.std.specs.Arc.{arc_value}
use Rattle.jobs_in_step.specs.Steps.{Fits}
use Rattle.jobs_in_step.proofs.lane_fit.all_fit.Given as goal

abbrev pub invariant-loop-n : goal.invariant-loop-n
invariant-loop-n l = (k : ℕ) → k < l.n → MatchOption (slice_index_or l.jobs k None) ⊤ (λ j. (arc_value (arc_value j.ask).keyed ≡ l.key) × Fits (arc_value j.ask))
