-- Digits spell no more bytes than they are.
use Rattle.std.proofs.Common.{◌≡◌, ◌∙◌, refl, sym, ap, ap₂, ℕ, suc, ◌+◌, ◌-◌, ◌*◌, ◌/◌, ◌≤◌, Bool, true, false, cond, List, [], ◌∷◌, ◌++◌, length, Option, Some, None, Ok, Err, Result, arith, length-append}
use Rattle.std.proofs.lemmas.List.Sums.{list_all-from_AllPass}
use Rattle.std.specs.Char.{is_ascii_hexdigit}
use Rattle.std.specs.List.{list_all}
use Rattle.std.specs.Prelude.{◌==◌, ◌%◌, ◌&&◌, ◌||◌, nat_le, is_some, IfSome}
use Rattle.std.proofs.lemmas.Bool.{false≢true, and_parts, eqb-true}
use Rattle.std.specs.Result.{result_ok}
use Rattle.hex.specs.declared.error.FromHexError.{FromHexError}
use Rattle.hex.specs.declared.error.FromHexError.TheVariants.{OddLength}
use Rattle.hex.specs.Hex.{◌>>=◌, decode_of, decode_pairs, digit_or_error, hex_digit_value, is_hex_digit, pair_value}
use Rattle.hex.proofs.HexLemmas.{decode_of-even, decode_of-ok}

-- what decoding gives, if it gives anything, has at most n bytes
abbrev pub GivesUpTo : ℕ → Result (List ℕ) FromHexError → Type 0
GivesUpTo n decoded = IfSome (result_ok decoded) (λ bytes. length bytes ≤ n)

joined_up_to : (n : ℕ) (byte : Result ℕ FromHexError) (rest : Result (List ℕ) FromHexError) → GivesUpTo n rest → GivesUpTo (suc (suc n)) (byte >>= (λ b. rest >>= (λ bs. Ok (b ∷ bs))))
joined_up_to n (Ok b) (Ok bs) h = omega arith
joined_up_to n (Ok b) (Err e) h = tt
joined_up_to n (Err e) rest h = tt

pairs_up_to : (i : ℕ) (text : List ℕ) → GivesUpTo (length text) (decode_pairs i text)
unfolding decode_pairs
pairs_up_to i [] = omega arith
pairs_up_to i (digit ∷ []) = tt
pairs_up_to i (high ∷ low ∷ rest) = joined_up_to (length rest) (pair_value high low i) (decode_pairs (i + 2) rest) (pairs_up_to (i + 2) rest)

pub decoded_up_to : (text : List ℕ) → GivesUpTo (length text) (decode_of text)
decoded_up_to text = elim (length text % 2 == 1) as (λ c. GivesUpTo (length text) (cond c (Err OddLength) (decode_pairs 0 text))) [ true ↦ tt | false ↦ pairs_up_to 0 text ]

one_of_three : (figure upper lower : Bool) (x y z : ℕ) → ((figure || upper) || lower) ≡ is_some (cond upper (Some x) (cond lower (Some y) (cond figure (Some z) None)))
one_of_three true true true x y z = refl
one_of_three true true false x y z = refl
one_of_three true false true x y z = refl
one_of_three true false false x y z = refl
one_of_three false true true x y z = refl
one_of_three false true false x y z = refl
one_of_three false false true x y z = refl
one_of_three false false false x y z = refl

-- a digit, in the words of characters and of hexadecimal text
pub hex_digit_in : (b : ℕ) → is_ascii_hexdigit b ≡ is_hex_digit b
hex_digit_in b = one_of_three (nat_le 48 b && nat_le b 57) (nat_le 65 b && nat_le b 70) (nat_le 97 b && nat_le b 102) (b - 55) (b - 87) (b - 48)

-- ---- pairs of digits, and what isn't

pub pairs_even : (text : List ℕ) → (length text % 2 == 0 && list_all is_hex_digit text) ≡ true → length text % 2 ≡ 0
pairs_even text pairs = eqb-true (length text % 2) 0 (and_parts (length text % 2 == 0) (list_all is_hex_digit text) pairs).0

pub spelled : (text bytes : List ℕ) → (length text % 2 == 0 && list_all is_hex_digit text) ≡ true → decode_pairs 0 text ≡ Ok bytes → result_ok (decode_of text) ≡ Some bytes
spelled text bytes pairs is = ap result_ok (decode_of-even text (pairs_even text pairs) ∙ is)

gives_none : (text : List ℕ) (decoded : Result (List ℕ) FromHexError) → decode_of text ≡ decoded → (length text % 2 == 0 && list_all is_hex_digit text) ≡ false → result_ok decoded ≡ None
gives_none text (Ok bytes) is bad =
    let good = decode_of-ok text bytes is in
    let all : list_all is_hex_digit text ≡ true = list_all-from_AllPass is_hex_digit text good.1 in
    let pairs : (length text % 2 == 0 && list_all is_hex_digit text) ≡ true = rw (good.0, all) refl in
    absurd (false≢true (sym bad ∙ pairs))
gives_none text (Err e) is bad = refl

pub not_spelled : (text : List ℕ) → (length text % 2 == 0 && list_all is_hex_digit text) ≡ false → result_ok (decode_of text) ≡ None
not_spelled text bad = gives_none text (decode_of text) refl bad

-- ---- digits behind other digits

-- a byte before those that are spelled
abbrev with_byte : Option ℕ → Option (List ℕ) → Option (List ℕ)
with_byte (Some byte) (Some bytes) = Some (byte ∷ bytes)
with_byte (Some byte) None = None
with_byte None bytes = None

-- the bytes of both, where both are spelled
abbrev pub joined : Option (List ℕ) → Option (List ℕ) → Option (List ℕ)
joined (Some front) (Some rest) = Some (front ++ rest)
joined (Some front) None = None
joined None rest = None

joined_nil : (rest : Option (List ℕ)) → rest ≡ joined (Some []) rest
joined_nil (Some rest) = refl
joined_nil None = refl

with_joined : (byte : Option ℕ) (front rest : Option (List ℕ)) → with_byte byte (joined front rest) ≡ joined (with_byte byte front) rest
with_joined (Some byte) (Some front) (Some rest) = refl
with_joined (Some byte) (Some front) None = refl
with_joined (Some byte) None rest = refl
with_joined None front rest = refl

given_byte : (byte : Result ℕ FromHexError) (rest : Result (List ℕ) FromHexError) → result_ok (byte >>= (λ b. rest >>= (λ bs. Ok (b ∷ bs)))) ≡ with_byte (result_ok byte) (result_ok rest)
given_byte (Ok b) (Ok bs) = refl
given_byte (Ok b) (Err e) = refl
given_byte (Err e) rest = refl

-- a place only numbers errors
pair_anywhere : (high low i j : ℕ) (h l : Option ℕ)
    → result_ok (digit_or_error high i h >>= (λ x. digit_or_error low (i + 1) l >>= (λ y. Ok (x * 16 + y))))
    ≡ result_ok (digit_or_error high j h >>= (λ x. digit_or_error low (j + 1) l >>= (λ y. Ok (x * 16 + y))))
pair_anywhere high low i j (Some h) (Some l) = refl
pair_anywhere high low i j (Some h) None = refl
pair_anywhere high low i j None l = refl

next_pair : (high low i : ℕ) (rest : List ℕ) → result_ok (decode_pairs i (high ∷ low ∷ rest)) ≡ with_byte (result_ok (pair_value high low i)) (result_ok (decode_pairs (i + 2) rest))
unfolding decode_pairs
next_pair high low i rest = given_byte (pair_value high low i) (decode_pairs (i + 2) rest)

pairs_anywhere : (i j : ℕ) (text : List ℕ) → result_ok (decode_pairs i text) ≡ result_ok (decode_pairs j text)
unfolding decode_pairs
pairs_anywhere i j [] = refl
pairs_anywhere i j (digit ∷ []) = refl
pairs_anywhere i j (high ∷ low ∷ text) =
    next_pair high low i text
    ∙ ap₂ with_byte (pair_anywhere high low i j (hex_digit_value high) (hex_digit_value low)) (pairs_anywhere (i + 2) (j + 2) text)
    ∙ sym (next_pair high low j text)

pairs_joined : (i j : ℕ) (front rest : List ℕ) → length front % 2 ≡ 0 → result_ok (decode_pairs i (front ++ rest)) ≡ joined (result_ok (decode_pairs i front)) (result_ok (decode_pairs j rest))
unfolding decode_pairs
pairs_joined i j [] rest even = pairs_anywhere i j rest ∙ joined_nil (result_ok (decode_pairs j rest))
pairs_joined i j (digit ∷ []) rest even = absurd (omega (arith, even))
pairs_joined i j (high ∷ low ∷ front) rest even =
    let byte = result_ok (pair_value high low i) in
    next_pair high low i (front ++ rest)
    ∙ ap (with_byte byte) (pairs_joined (i + 2) j front rest (omega (arith, even)))
    ∙ with_joined byte (result_ok (decode_pairs (i + 2) front)) (result_ok (decode_pairs j rest))
    ∙ ap (λ (bytes : Option (List ℕ)). joined bytes (result_ok (decode_pairs j rest))) (sym (next_pair high low i front))

-- even numbers of digits spell, one behind the other, what they spell by themselves
pub decoded_joined : (front rest : List ℕ) → length front % 2 ≡ 0 → length rest % 2 ≡ 0 → result_ok (decode_of (front ++ rest)) ≡ joined (result_ok (decode_of front)) (result_ok (decode_of rest))
decoded_joined front rest even even_too =
    let both : length (front ++ rest) % 2 ≡ 0 = omega (arith, even, even_too, length-append front rest) in
    ap result_ok (decode_of-even (front ++ rest) both)
    ∙ pairs_joined 0 0 front rest even
    ∙ ap₂ joined (ap result_ok (sym (decode_of-even front even))) (ap result_ok (sym (decode_of-even rest even_too)))

-- an even number of digits spells half as many bytes
pub decoded_half : (text : List ℕ) → IfSome (result_ok (decode_of text)) (λ bytes. length bytes ≡ length text / 2)
decoded_half text = half (decode_of text) refl
  where
    half : (decoded : Result (List ℕ) FromHexError) → decode_of text ≡ decoded → IfSome (result_ok decoded) (λ bytes. length bytes ≡ length text / 2)
    half (Ok bytes) is = let twice = (decode_of-ok text bytes is).2 in omega (arith, twice)
    half (Err e) is = tt
