-- A test of two numbers, where it is known how it comes out.
use Rattle.std.proofs.Common.{◌≡◌, ℕ, Bool, true, false, cond, ◌⊎◌, inl, inr, refl}
use Rattle.std.specs.Prelude.{◌==◌}
use Rattle.std.proofs.lemmas.Bool.{eqb-true, eq-eqb, false_from_ne_true}

pub bool_cases : (b : Bool) → (b ≡ true) ⊎ (b ≡ false)
bool_cases true = inl refl
bool_cases false = inr refl

pub at_test : {X : Type 0} (n m : ℕ) (a b : X) → n ≡ m → cond (n == m) a b ≡ a
at_test n m a b e = rw (eq-eqb n m e) refl

pub off_test : {X : Type 0} (n m : ℕ) (a b : X) → (n ≡ m → ⊥) → cond (n == m) a b ≡ b
off_test n m a b h = (let t : (n == m) ≡ false = false_from_ne_true (n == m) (λ p. h (eqb-true n m p)) in rw t refl)
