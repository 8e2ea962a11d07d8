-- Why an event isn't right.
use Rattle.trace_check.specs.declared.reason.Reason.{Reason}
use Rattle.trace_check.specs.declared.reason.Reason.TheVariants.{State, Caller, Number, Answer}

-- the first of the four parts that isn't there
abbrev pub IsFirstMissing : (state caller number answer : Type 0) → Reason → Type 0
IsFirstMissing state caller number answer State = state → ⊥
IsFirstMissing state caller number answer Caller = state × (caller → ⊥)
IsFirstMissing state caller number answer Number = state × caller × (number → ⊥)
IsFirstMissing state caller number answer Answer = state × caller × number × (answer → ⊥)
