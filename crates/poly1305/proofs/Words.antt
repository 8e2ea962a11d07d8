-- Numbers of bytes, the least significant first.
use Rattle.std.specs.Prelude.{◌≡◌, ℕ, ◌+◌, ◌-◌, ◌*◌, ◌^◌, ◌<◌, ◌≤◌, List, [], ◌∷◌, ◌++◌, length, take, drop, slice_index}
use Rattle.std.proofs.Common.{arith, ap, refl, ◌∙◌, sym, ⊎_elim}
use Rattle.std.proofs.Math.Nat.{pow-succ'}
use Rattle.std.proofs.Math.Seq.{take-add}
use Rattle.std.proofs.lemmas.Bool.{cases_lt}
use Rattle.std.proofs.lemmas.List.{take-take, drop-take, drop-drop, length-take-le, length-drop, get_or_append_left, get_or-append_right}
use Rattle.std_defs.specs.Poly1305.{little_endian, poly_block}
use lib.Lanes.{number_l}

pub as_number : (bytes : List ℕ) → number_l 256 bytes ≡ little_endian bytes
unfolding little_endian
as_number [] = refl
as_number (b ∷ bytes) = ap (λ n. b + 256 * n) (as_number bytes)

-- the number of bytes in two parts
pub in_parts : (a b : List ℕ) → little_endian (a ++ b) ≡ little_endian a + 256 ^ length a * little_endian b
unfolding little_endian
in_parts [] b = omega arith
in_parts (x ∷ a) b =
    let rest : little_endian (a ++ b) ≡ little_endian a + 256 ^ length a * little_endian b = in_parts a b in
    rw (rest, pow-succ' 256 (length a)) (omega arith)

-- the number of sixteen bytes, of two words
pub two_words : (bytes : List ℕ) (at : ℕ) → at + 16 ≤ length bytes
    → little_endian (take 16 (drop at bytes)) ≡ little_endian (take 8 (drop at bytes)) + 2 ^ 64 * little_endian (take 8 (drop (at + 8) bytes))
two_words bytes at within =
    let long : length (take 8 (drop at bytes)) ≡ 8 = length-take-le 8 (drop at bytes) (omega (arith, length-drop at bytes)) in
    ap little_endian (take-add 8 8 (drop at bytes))
    ∙ in_parts (take 8 (drop at bytes)) (take 8 (drop 8 (drop at bytes)))
    ∙ rw (long, drop-drop 8 at bytes) refl

-- a word of 32 bytes that were taken from a place
pub word_within : (bytes : List ℕ) (at j : ℕ) → j < 4
    → take 8 (drop (8 * j) (take 32 (take (at + 32 - at) (drop at bytes)))) ≡ take 8 (drop (at + 8 * j) bytes)
word_within bytes at j lt =
    let n : at + 32 - at ≡ 32 = omega arith in
    let m : 8 * j + (32 - 8 * j) ≡ 32 = omega arith in
    ap (λ n. take 8 (drop (8 * j) (take 32 (take n (drop at bytes))))) n
    ∙ ap (λ l. take 8 (drop (8 * j) l)) (take-take 32 32 (drop at bytes) (omega arith))
    ∙ ap (λ n. take 8 (drop (8 * j) (take n (drop at bytes)))) (sym m)
    ∙ ap (take 8) (drop-take (8 * j) (32 - 8 * j) (drop at bytes))
    ∙ take-take 8 (32 - 8 * j) (drop (8 * j) (drop at bytes)) (omega arith)
    ∙ ap (take 8) (drop-drop (8 * j) at bytes)

-- a lane of two vectors, the one behind the other
pub in_both : (x y : List ℕ) (f : ℕ → ℕ) → length x ≡ 4 → ((j : ℕ) → j < 4 → slice_index x j ≡ f j) → ((j : ℕ) → j < 4 → slice_index y j ≡ f (4 + j))
    → (j : ℕ) → j < 8 → slice_index (x ++ y) j ≡ f j
in_both x y f long ex ey j lt =
    ⊎_elim
    (λ (h : j < 4). get_or_append_left x y 0 j (omega arith) ∙ ex j h)
    (λ (h : 4 ≤ j).
    let place : 4 + (j - 4) ≡ j = omega arith in
    get_or-append_right x y 4 j 0 long h ∙ ey (j - 4) (omega arith) ∙ ap f place)
    (cases_lt j 4)

-- the number of a full block
pub full_block : (bytes : List ℕ) (at : ℕ) → at + 16 ≤ length bytes
    → little_endian (take 16 (drop at bytes)) + 2 ^ 128 ≡ poly_block (take 16 (drop at bytes))
unfolding poly_block
full_block bytes at within =
    let long : length (take 16 (drop at bytes)) ≡ 16 = length-take-le 16 (drop at bytes) (omega (arith, length-drop at bytes)) in
    rw long refl
