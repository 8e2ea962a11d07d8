-- What `parse` reads is what the definition of a number says.
use Rattle.std.proofs.Common.{◌≡◌, ◌<◌, ◌≤◌, ◌&&◌, ℕ, Bool, Option, length, true, false, List, [], ◌∷◌, Some, None, refl, sym, subst, ◌∙◌, ap, arith, rules, drop, cond}
use Rattle.std.specs.Prelude.{if◌then◌else◌, ◌==◌, ◌^◌, slice_index, nat_le, nat_lt, not}
use Rattle.std.specs.List.{list_all}
use Rattle.std.specs.Char.{digit_value}
use Rattle.std.specs.Str.Parse.{AllDigits, IsNumeral, digits_value, without_leading_plus}
use Rattle.std.proofs.lemmas.Bool.{eqb-true, ltb-true, leb-true, lt-ltb, le-leb}
use Rattle.clap.specs.ValueTests.{is_numeral}
use Rattle.clap.proofs.WalkLemmas.{both}
use Rattle.command_line.specs.Number.{has_no_leading_zero, number_up_to}
use Rattle.command_line.specs.Steps.{has_plain_start}

digits_from : (ds : List ℕ) → list_all (λ d. nat_lt (digit_value d) 10) ds ≡ true → AllDigits 10 ds
digits_from [] e = tt
digits_from (d ∷ ds) e =
    let parts = both _ _ e in
    (ltb-true _ _ parts.0, digits_from ds parts.1)

digits_back : (ds : List ℕ) → AllDigits 10 ds → list_all (λ d. nat_lt (digit_value d) 10) ds ≡ true
digits_back [] h = refl
digits_back (d ∷ ds) h = rw (lt-ltb (digit_value d) 10 h.0) (digits_back ds h.1)

numeral_from : (ds : List ℕ) → is_numeral ds ≡ true → IsNumeral 10 ds
numeral_from ds e =
    let parts = both _ _ e in
    (ltb-true _ _ parts.0, digits_from ds parts.1)

numeral_back : (ds : List ℕ) → IsNumeral 10 ds → is_numeral ds ≡ true
numeral_back ds h = rw (lt-ltb _ _ h.0, digits_back ds h.1) refl

is_false : (b : Bool) → not b ≡ true → b ≡ false
is_false true e = sym e
is_false false e = refl

no_plus : (text : List ℕ) → has_plain_start text ≡ true → without_leading_plus text ≡ text
no_plus text e =
    let parts = both _ _ (both _ _ e).1 in
    ap (λ b. drop (cond b 1 0) text) (is_false (slice_index text 0 == 43) parts.0)

some_if : (a b c : Bool) (v : ℕ) → a ≡ true → b ≡ true → c ≡ true → Some v ≡ (if (a && b) && c then Some v else None)
some_if true true true v x y z = refl
some_if true true false v x y z = absurd (search (rules, z))
some_if true false c v x y z = absurd (search (rules, y))
some_if false b c v x y z = absurd (search (rules, x))

none_if : (a b c : Bool) (v : ℕ) → (a ≡ true → b ≡ true → c ≡ true → ⊥) → None ≡ (if (a && b) && c then Some v else None)
none_if true true true v h = absurd (h refl refl refl)
none_if true true false v h = refl
none_if true false c v h = refl
none_if false b c v h = refl

in_order : (h n z : Bool) → (h && (true && z)) && (h && n) ≡ (h && n) && z
in_order false n z = refl
in_order true true true = refl
in_order true true false = refl
in_order true false true = refl
in_order true false false = refl

-- with a plus first, neither
no_digit : (h z n : Bool) → (h && (false && z)) && (h && (false && n)) ≡ (h && (false && n)) && z
no_digit true z n = refl
no_digit false z n = refl

by_first : (d : ℕ) (ds : List ℕ) (is_plus : Bool) → (d == 43) ≡ is_plus
    → has_plain_start (d ∷ ds) && is_numeral (d ∷ ds) ≡ is_numeral (d ∷ ds) && has_no_leading_zero (d ∷ ds)
by_first d ds true e = rw (eqb-true d 43 e)
    (no_digit (nat_lt 0 (length (43 ∷ ds))) (has_no_leading_zero (43 ∷ ds)) (list_all (λ d. nat_lt (digit_value d) 10) ds))
by_first d ds false e = rw e (in_order (nat_lt 0 (length (d ∷ ds))) (list_all (λ d. nat_lt (digit_value d) 10) (d ∷ ds)) (has_no_leading_zero (d ∷ ds)))

-- a numeral has a first byte, which is no plus
plain_start : (text : List ℕ) → has_plain_start text && is_numeral text ≡ is_numeral text && has_no_leading_zero text
plain_start [] = refl
plain_start (d ∷ ds) = by_first d ds (d == 43) refl

-- the number as the code finds it
abbrev number_by_start : ℕ → List ℕ → Option ℕ
number_by_start most text =
    if (has_plain_start text && is_numeral text) && nat_le (digits_value 10 text) most then Some (digits_value 10 text) else None

by_start : (most : ℕ) (text : List ℕ) → number_by_start most text ≡ number_up_to most text
by_start most text =
    ap (λ b. if b && nat_le (digits_value 10 text) most then Some (digits_value 10 text) else None) (plain_start text)

pub number_read : (most n : ℕ) (text : List ℕ) → has_plain_start text ≡ true → IsNumeral 10 (without_leading_plus text)
    → digits_value 10 (without_leading_plus text) ≡ n → n ≤ most → Some n ≡ number_up_to most text
number_read most n text plain numeral value small =
    let same = no_plus text plain in
    let numeral_is : IsNumeral 10 text = subst (IsNumeral 10) same numeral in
    let value_is : digits_value 10 text ≡ n = subst (λ t. digits_value 10 t ≡ n) same value in
    subst (λ v. Some v ≡ number_up_to most text) value_is
    (some_if (has_plain_start text) (is_numeral text) (nat_le (digits_value 10 text) most) (digits_value 10 text)
    plain (numeral_back text numeral_is) (le-leb _ _ (subst (λ v. v ≤ most) (sym value_is) small)) ∙ by_start most text)

pub number_refused : (most : ℕ) (text : List ℕ) → most < 2 ^ 64
    → (IsNumeral 10 (without_leading_plus text) × (digits_value 10 (without_leading_plus text) < 2 ^ 64) → ⊥)
    → None ≡ number_up_to most text
number_refused most text fits bad =
    none_if (has_plain_start text) (is_numeral text) (nat_le (digits_value 10 text) most) (digits_value 10 text)
    (λ plain numeral small.
    let back = sym (no_plus text plain) in
    let below : digits_value 10 text < 2 ^ 64 = omega (arith, leb-true _ _ small, fits) in
    bad (subst (λ t. IsNumeral 10 t × (digits_value 10 t < 2 ^ 64)) back (numeral_from text numeral, below))) ∙ by_start most text
