-- The number that a few digits write.
use Rattle.std.proofs.Common.{◌≡◌, ℕ, ◌+◌, ◌-◌, ◌*◌, ◌^◌, ◌<◌, ◌≤◌, Bool, true, false, ◌&&◌, List, length, take, get_or, lit≤, arith, rules, refl}
use Rattle.std.specs.Prelude.{nat_lt, nat_le}
use Rattle.std.proofs.lemmas.Bool.{false≢true}
use Rattle.std.proofs.Math.Nat.{pow-le-pow_right}
use Rattle.std.proofs.lemmas.Bool.Decides.{nat_tests}
use Rattle.std.proofs.lemmas.Int.Digits.{digits_value_more, digits_value-lt}
use Rattle.std.proofs.lemmas.Str.Parse.{IsDigitsTest, IsNumeralModel, numerals_by_value, digits_value-take-le, digit_at}
use Rattle.std.specs.Char.{is_ascii_digit, digit_value}
use Rattle.std.specs.Int.{IsInRange}
use Rattle.std.specs.List.{list_all}
use Rattle.std.specs.Str.Parse.{digits_value, AllDigits}
use Rattle.script_text.specs.Arguments.{is_number}

tells_digits : IsDigitsTest (λ ds. list_all is_ascii_digit ds ≡ true)
tells_digits = search rules

all_digits : (ds : List ℕ) → list_all is_ascii_digit ds ≡ true → AllDigits 10 ds
all_digits ds p = let own : IsNumeralModel (λ xs. list_all is_ascii_digit xs ≡ true) (digits_value 10) = numerals_by_value _ tells_digits in own.to ds p

value_of_digit : (c : ℕ) → IsInRange 48 57 c → digit_value c ≡ c - 48
value_of_digit c h = grind (arith, nat_tests)

both_last : (a b c : Bool) → (a && b && c) ≡ true → (b ≡ true) × (c ≡ true)
both_last true true true e = (refl, refl)
both_last true true false e = absurd (false≢true e)
both_last true false c e = absurd (false≢true e)
both_last false b c e = absurd (false≢true e)

is_short : (n : ℕ) → nat_le n 9 ≡ true → n ≤ 9
is_short n e = grind (arith, nat_tests)

pub record NextDigit (ds : List ℕ) (i : ℕ) : Type 0 where
  pub low : 48 ≤ get_or ds i 0
  pub high : get_or ds i 0 ≤ 57
  pub small : digits_value 10 (take i ds) * 10 + (get_or ds i 0 - 48) < 1_000_000_000
  pub more : digits_value 10 (take (i + 1) ds) ≡ digits_value 10 (take i ds) * 10 + (get_or ds i 0 - 48)

-- one digit more
pub next_digit : (ds : List ℕ) (i : ℕ) → is_number ds ≡ true → i < length ds → NextDigit ds i
next_digit ds i number lt =
    let parts = both_last (nat_lt 0 (length ds)) (nat_le (length ds) 9) (list_all is_ascii_digit ds) number in
    let p : list_all is_ascii_digit ds ≡ true = parts.1 in
    let le : length ds ≤ 9 = is_short (length ds) parts.0 in
    let own : AllDigits 10 ds = all_digits ds p in
    let at : IsInRange 48 57 (get_or ds i 0) = digit_at ds i own lt in
    let is : digit_value (get_or ds i 0) ≡ get_or ds i 0 - 48 = value_of_digit _ at in
    let more = digits_value_more 10 ds i lt in
    let part : digits_value 10 (take (i + 1) ds) ≤ digits_value 10 ds = digits_value-take-le 10 ds (i + 1) (lit≤ tt) in
    let bound : digits_value 10 ds < 10 ^ length ds = digits_value-lt 10 ds own in
    let top : 10 ^ length ds ≤ 1_000_000_000 = pow-le-pow_right {n = 10} (omega arith) le in
    record {
      low = at.0;
      high = at.1;
      small = omega arith;
      more = omega arith;
    }
