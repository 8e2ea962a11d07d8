-- how a call answers that opens a text in place
use Rattle.std.specs.Prelude.{◌≡◌, ◌⊎◌, ℕ, List, Result, MatchResult}
use Rattle.std_defs.specs.Value.{Value}
use Rattle.std_defs.specs.Value.Value.{bytes, bad_message, invalid}
use Rattle.kc_base.specs.declared.error_numbers.Errno.{Errno}
use Rattle.kc_base.specs.declared.error_numbers.Errno.TheVariants.{EINVAL, EBADMSG}

-- the error of a refusal
abbrev pub IsRefusal : Errno → Value → Type 0
IsRefusal e value = ((e ≡ EBADMSG) × (value ≡ bad_message)) ⊎ ((e ≡ EINVAL) × (value ≡ invalid))

-- the text becomes the value's bytes, and stays where the value is a refusal
abbrev pub Opens : Result (Unit {0}) Errno → Value → List ℕ → List ℕ → Type 0
Opens result value old new = MatchResult result (λ _. value ≡ bytes new) (λ e. IsRefusal e value × (new ≡ old))
