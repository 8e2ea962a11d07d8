-- What comparing two texts comes to.
use Rattle.std.specs.Prelude.{◌≡◌, ◌≢◌, ℕ, ℤ, List}
use Rattle.perdoaze_calls.specs.Status.{code_of}
use Rattle.perdoaze_calls.specs.declared.status.Status.{Status}
use Rattle.perdoaze_calls.specs.declared.status.Status.TheVariants.{Done, BadMessage}

-- they are the same, or they aren't
abbrev pub Compares : List ℕ → List ℕ → Status → Type 0
Compares a b Done = a ≡ b
Compares a b BadMessage = a ≢ b
Compares a b _ = ⊥

abbrev pub ComparesTo : List ℕ → List ℕ → ℤ → Type 0
ComparesTo a b result = (status : Status) × (result ≡ code_of status) × Compares a b status
