-- what opening answers, where its value is bytes
use Rattle.std.specs.Prelude.{◌≡◌, ℕ, List, [], Bool, true, false, Result, T}
use Rattle.std.proofs.Common.{sym, ap, subst, ◌∙◌, inl, inr, refl, Ok, Err, IsOk}
use Rattle.std_defs.specs.Value.{Value}
use Rattle.std_defs.specs.Value.Value.{bytes, bad_message, invalid}
use Rattle.kc_base.specs.declared.error_numbers.Errno.{Errno}
use Rattle.aes_block.specs.Opened.{Opens}

is_bytes : Value → Bool
is_bytes (bytes b) = true
is_bytes bad_message = false
is_bytes invalid = false

bytes_in : Value → List ℕ
bytes_in (bytes b) = b
bytes_in bad_message = []
bytes_in invalid = []

-- a call that opens to bytes answers Ok, and leaves them
pub opened : (result : Result (Unit {0}) Errno) (value : Value) (text old new : List ℕ) → value ≡ bytes text
    → Opens result value old new → IsOk result × (new ≡ text)
unfolding is_bytes bytes_in
opened (Ok x) value text old new is h = (refl, ap bytes_in (sym h ∙ is))
opened (Err e) value text old new is ((inl r), same) = absurd (subst T (ap is_bytes (sym is ∙ r.1)) tt)
opened (Err e) value text old new is ((inr r), same) = absurd (subst T (ap is_bytes (sym is ∙ r.1)) tt)
