-- For the contracts inside this crate: a text in pieces that is opened where they lie.
use Rattle.std.specs.Prelude.{◌≡◌, ℕ, Bool, true, false, List, take}
use Rattle.std_defs.specs.Value.{Value}
use Rattle.std_defs.specs.Value.Value.{bytes, bad_message}
use Rattle.templates.specs.declared.driver_plans.Plan.{Plan}
use Rattle.transforms.specs.InPlace.{HasValue, HasValueIn}
use Rattle.transforms.specs.declared.inner.Inner.{Inner}
use Rattle.transforms.specs.declared.request.Request.{Request}

-- the tag is right, and the first n bytes are the value's; or it is wrong, and all stays
abbrev pub OpensOver : Bool → Value → ℕ → List ℕ → List ℕ → Type 0
OpensOver true value n old new = value ≡ bytes (take n new)
OpensOver false value n old new = (value ≡ bad_message) × (new ≡ old)

abbrev pub OpensIn : Bool → Inner → ℕ → Request → ℕ → List ℕ → List ℕ → Type 0
OpensIn true kept tag q n old new = HasValueIn kept tag q (bytes (take n new))
OpensIn false kept tag q n old new = HasValueIn kept tag q bad_message × (new ≡ old)

-- the same of a plan under a key
abbrev pub Opens : Bool → Plan × List ℕ → ℕ → Request → ℕ → List ℕ → List ℕ → Type 0
Opens true keyed tag q n old new = HasValue keyed tag q (bytes (take n new))
Opens false keyed tag q n old new = HasValue keyed tag q bad_message × (new ≡ old)
