-- a text and the front of its tag
use Rattle.std.specs.Prelude.{◌≡◌, ℕ, ◌++◌, List, take, Result, MatchResult}
use Rattle.std_defs.specs.Value.{Value}
use Rattle.std_defs.specs.Value.Value.{bytes, invalid}
use Rattle.kc_base.specs.declared.error_numbers.Errno.{Errno}
use Rattle.kc_base.specs.declared.error_numbers.Errno.TheVariants.{EINVAL}

-- the text and the first n bytes of its tag
abbrev pub tagged : ℕ → List ℕ × List ℕ → List ℕ
tagged n sealed = sealed.0 ++ take n sealed.1

-- a text and its tag
abbrev pub joined : List ℕ × List ℕ → List ℕ
joined sealed = sealed.0 ++ sealed.1

-- the text and the tag become the value's bytes, or the value is a refusal and both stay
abbrev pub SealsInto : Result (Unit {0}) Errno → Value → List ℕ → List ℕ → List ℕ → List ℕ → Type 0
SealsInto result value old old_tag text tag =
    MatchResult result (λ _. value ≡ bytes (text ++ tag)) (λ e. (e ≡ EINVAL) × (value ≡ invalid) × (text ≡ old) × (tag ≡ old_tag))
