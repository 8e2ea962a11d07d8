-- What the laws of drivers say.
use Rattle.std.specs.Prelude.{◌≡◌, ◌≤◌, ℕ, true, List, length, Some}
use Rattle.templates.specs.declared.driver_plans.Plan.{Plan}
use Rattle.transforms.specs.Plans.{takes_key}
use Rattle.perdoaze_calls.specs.Infos.{algorithm_of, priority_of}
use Rattle.perdoaze_calls.specs.Names.{plan_named}

-- a key of n bytes is taken
abbrev pub TakesSize : Plan → ℕ → Type 0
TakesSize p n = (key : List ℕ) × (takes_key p key ≡ true) × (length key ≡ n)

-- what the name of the plan's algorithm stands for is of that algorithm, and of no smaller priority
abbrev pub HasFastest : Plan → Type 0
HasFastest p = (q : Plan) × (plan_named (algorithm_of p) ≡ Some q) × (algorithm_of q ≡ algorithm_of p) × (priority_of p ≤ priority_of q)
