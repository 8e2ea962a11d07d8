-- For the contracts inside this crate: why nothing is kept of a key.
use Rattle.std.specs.Prelude.{◌≡◌, ◌⊎◌, Bool, false}
use Rattle.transforms.specs.declared.tfm_err.TfmErr.{TfmErr}
use Rattle.transforms.specs.declared.tfm_err.TfmErr.TheVariants.{Inval, Memory}

-- want of memory, or the key isn't taken
abbrev pub IsNotKept : TfmErr → Bool → Type 0
IsNotKept e taken = (e ≡ Memory) ⊎ ((e ≡ Inval) × (taken ≡ false))
