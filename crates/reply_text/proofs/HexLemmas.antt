-- The hexadecimal digits of numbers.
use Rattle.std.proofs.Common.{◌≡◌, refl, sym, ap, ◌∙◌, ℕ, zero, suc, ◌+◌, ◌-◌, ◌<◌, ◌≤◌, Bool, cond, slice_index, true, false, arith, inl, inr}
use Rattle.std.specs.Prelude.{◌==◌, ◌&&◌, nat_lt}
use Rattle.std.proofs.lemmas.Bool.{and_parts, cases_lt, eqb-true}
use Rattle.std.proofs.lemmas.Bool.Decides.{nat_tests}
use Rattle.hex.specs.Hex.{lower_digits}

-- a digit by arithmetic
abbrev digit_of : ℕ → ℕ
digit_of value = cond (nat_lt value 10) (48 + value) (97 + (value - 10))

abbrev all_digits : ℕ → Bool
all_digits zero = true
all_digits (suc n) = (digit_of n == slice_index lower_digits n) && all_digits n

digits_below : (n value : ℕ) → all_digits n ≡ true → value < n → digit_of value ≡ slice_index lower_digits value
digits_below zero value all below = absurd (omega (arith, below))
digits_below (suc n) value all below =
    let parts = and_parts (digit_of n == slice_index lower_digits n) (all_digits n) all in
    elim (cases_lt value n) [
      | inl less ↦ digits_below n value parts.1 less
      | inr last ↦
          let here : value ≡ n = omega arith in
          rw here (eqb-true (digit_of n) (slice_index lower_digits n) parts.0)
    ]

digit_in_table : (value : ℕ) → value < 16 → digit_of value ≡ slice_index lower_digits value
digit_in_table value below = digits_below 16 value refl below

lt_true : (m n : ℕ) → m < n → nat_lt m n ≡ true
lt_true m n lt = grind (arith, nat_tests)

le_false : (m n : ℕ) → n ≤ m → nat_lt m n ≡ false
le_false m n le = grind (arith, nat_tests)

pub figure_in_table : (value : ℕ) → value < 10 → 48 + value ≡ slice_index lower_digits value
figure_in_table value below =
    sym (ap (λ (c : Bool). cond c (48 + value) (97 + (value - 10))) (lt_true value 10 below)) ∙ digit_in_table value (omega (arith, below))

pub letter_in_table : (value : ℕ) → 10 ≤ value → value < 16 → 97 + (value - 10) ≡ slice_index lower_digits value
letter_in_table value above below =
    sym (ap (λ (c : Bool). cond c (48 + value) (97 + (value - 10))) (le_false value 10 above)) ∙ digit_in_table value below
