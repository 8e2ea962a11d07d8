-- what a handle that is filled holds
use Rattle.std.specs.Prelude.{◌≡◌, Option, Some, None, true, false}
use Rattle.std.proofs.Common.{refl, arith}
use Rattle.perdoaze_calls.specs.Slots.{is_filled}

-- the value, and that it is that
pub held_in : {T : Type 0} (x : Option T) → is_filled x ≡ true → (t : T) × (x ≡ Some t)
held_in None e = grind arith
held_in (Some t) e = (t, refl)

pub nothing_in : {T : Type 0} (x : Option T) → is_filled x ≡ false → x ≡ None
nothing_in None e = refl
nothing_in (Some t) e = grind arith
