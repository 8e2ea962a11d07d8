-- The key of a transform.
use Rattle.std.specs.Prelude.{ℕ, List, Option}
use Rattle.std.specs.Option.{option_map}
use Rattle.std.specs.Arc.{arc_value}
use Rattle.std.specs.declared.sync.Arc.{Arc}
use Rattle.templates.specs.declared.driver_plans.Plan.{Plan}

-- the bytes of the key
abbrev pub key_within : {A : Type 0} → Option (Arc (Plan × List ℕ) A) → Option (List ℕ)
key_within {A} kept = option_map (λ (k : Arc (Plan × List ℕ) A). (arc_value k).1) kept
