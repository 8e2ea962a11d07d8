-- how a call that changes a text in place answers
use Rattle.std.specs.Prelude.{◌≡◌, Option, Some, None, Result, MatchResult}
use Rattle.kc_base.specs.declared.error_numbers.Errno.{Errno}
use Rattle.kc_base.specs.declared.error_numbers.Errno.TheVariants.{EINVAL}

-- what is lent becomes what is given, and where nothing is given the call is refused and it is unchanged
abbrev pub Becomes : {A : Type 0} → Result (Unit {0}) Errno → Option A → A → A → Type 0
Becomes result given old new =
    MatchResult result (λ _. given ≡ Some new) (λ e. (e ≡ EINVAL) × (given ≡ None) × (new ≡ old))
