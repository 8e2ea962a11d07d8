-- states as four columns
use Rattle.std.specs.Prelude.{◌≡◌, ℕ, ◌+◌, ◌*◌, ◌<◌, List, [], ◌∷◌, map, length, slice_index, slice_index_or, bit_xor, refl}
use Rattle.std.proofs.Common.{sym, ◌∙◌, ap, arith, add-zero}
use Rattle.std.proofs.lemmas.List.{get_or-map}
use Rattle.std.proofs.lemmas.Simd.{pick_l_whole}
use Rattle.std_defs.specs.Aes.{xor_words, add_round_key}
use Rattle.aes_table.specs.Words.{bytes_of, state_in}

-- word n of a schedule, as bytes
pub word_bytes : (words : List ℕ) (n : ℕ) → n < length words → slice_index_or (map bytes_of words) n [] ≡ bytes_of (slice_index words n)
word_bytes words n h = get_or-map bytes_of words n 0 [] h

abbrev pub column : List ℕ → ℕ → List ℕ
column x j = slice_index x (4 * j) ∷ slice_index x (4 * j + 1) ∷ slice_index x (4 * j + 2) ∷ slice_index x (4 * j + 3) ∷ []

-- a state whose columns are those of x, and words of a round key added to them
pub columns_added : (words s : List ℕ) (r : ℕ) (x : List ℕ) → length words ≡ 60 → r < 15
    → bytes_of (slice_index s 0) ≡ xor_words (column x 0) (bytes_of (slice_index words (4 * r)))
    → bytes_of (slice_index s 1) ≡ xor_words (column x 1) (bytes_of (slice_index words (4 * r + 1)))
    → bytes_of (slice_index s 2) ≡ xor_words (column x 2) (bytes_of (slice_index words (4 * r + 2)))
    → bytes_of (slice_index s 3) ≡ xor_words (column x 3) (bytes_of (slice_index words (4 * r + 3)))
    → state_in s ≡ add_round_key (map bytes_of words) r x
unfolding state_in add_round_key
columns_added words s r x long below e0 e1 e2 e3 =
    let k0 : slice_index_or (map bytes_of words) (4 * r + 0) [] ≡ bytes_of (slice_index words (4 * r)) =
    ap (λ (n : ℕ). slice_index_or (map bytes_of words) n []) (add-zero (4 * r)) ∙ word_bytes words (4 * r) (omega arith) in
    let k1 : slice_index_or (map bytes_of words) (4 * r + 1) [] ≡ bytes_of (slice_index words (4 * r + 1)) = word_bytes words (4 * r + 1) (omega arith) in
    let k2 : slice_index_or (map bytes_of words) (4 * r + 2) [] ≡ bytes_of (slice_index words (4 * r + 2)) = word_bytes words (4 * r + 2) (omega arith) in
    let k3 : slice_index_or (map bytes_of words) (4 * r + 3) [] ≡ bytes_of (slice_index words (4 * r + 3)) = word_bytes words (4 * r + 3) (omega arith) in
    let one : (i n : ℕ) (bytes column key word : List ℕ) → bytes ≡ xor_words column word → key ≡ word → slice_index (xor_words column word) i ≡ bit_xor n (slice_index word i)
    → slice_index bytes i ≡ bit_xor n (slice_index key i)
    = λ i n bytes column key word e k p. ap (λ (l : List ℕ). slice_index l i) e ∙ p ∙ ap (λ (l : List ℕ). bit_xor n (slice_index l i)) (sym k) in
    λ j.
    one 0 (slice_index x 0) (bytes_of (slice_index s 0)) (column x 0) (slice_index_or (map bytes_of words) (4 * r + 0) []) (bytes_of (slice_index words (4 * r))) e0 k0 refl j ∷
    one 1 (slice_index x 1) (bytes_of (slice_index s 0)) (column x 0) (slice_index_or (map bytes_of words) (4 * r + 0) []) (bytes_of (slice_index words (4 * r))) e0 k0 refl j ∷
    one 2 (slice_index x 2) (bytes_of (slice_index s 0)) (column x 0) (slice_index_or (map bytes_of words) (4 * r + 0) []) (bytes_of (slice_index words (4 * r))) e0 k0 refl j ∷
    one 3 (slice_index x 3) (bytes_of (slice_index s 0)) (column x 0) (slice_index_or (map bytes_of words) (4 * r + 0) []) (bytes_of (slice_index words (4 * r))) e0 k0 refl j ∷
    one 0 (slice_index x 4) (bytes_of (slice_index s 1)) (column x 1) (slice_index_or (map bytes_of words) (4 * r + 1) []) (bytes_of (slice_index words (4 * r + 1))) e1 k1 refl j ∷
    one 1 (slice_index x 5) (bytes_of (slice_index s 1)) (column x 1) (slice_index_or (map bytes_of words) (4 * r + 1) []) (bytes_of (slice_index words (4 * r + 1))) e1 k1 refl j ∷
    one 2 (slice_index x 6) (bytes_of (slice_index s 1)) (column x 1) (slice_index_or (map bytes_of words) (4 * r + 1) []) (bytes_of (slice_index words (4 * r + 1))) e1 k1 refl j ∷
    one 3 (slice_index x 7) (bytes_of (slice_index s 1)) (column x 1) (slice_index_or (map bytes_of words) (4 * r + 1) []) (bytes_of (slice_index words (4 * r + 1))) e1 k1 refl j ∷
    one 0 (slice_index x 8) (bytes_of (slice_index s 2)) (column x 2) (slice_index_or (map bytes_of words) (4 * r + 2) []) (bytes_of (slice_index words (4 * r + 2))) e2 k2 refl j ∷
    one 1 (slice_index x 9) (bytes_of (slice_index s 2)) (column x 2) (slice_index_or (map bytes_of words) (4 * r + 2) []) (bytes_of (slice_index words (4 * r + 2))) e2 k2 refl j ∷
    one 2 (slice_index x 10) (bytes_of (slice_index s 2)) (column x 2) (slice_index_or (map bytes_of words) (4 * r + 2) []) (bytes_of (slice_index words (4 * r + 2))) e2 k2 refl j ∷
    one 3 (slice_index x 11) (bytes_of (slice_index s 2)) (column x 2) (slice_index_or (map bytes_of words) (4 * r + 2) []) (bytes_of (slice_index words (4 * r + 2))) e2 k2 refl j ∷
    one 0 (slice_index x 12) (bytes_of (slice_index s 3)) (column x 3) (slice_index_or (map bytes_of words) (4 * r + 3) []) (bytes_of (slice_index words (4 * r + 3))) e3 k3 refl j ∷
    one 1 (slice_index x 13) (bytes_of (slice_index s 3)) (column x 3) (slice_index_or (map bytes_of words) (4 * r + 3) []) (bytes_of (slice_index words (4 * r + 3))) e3 k3 refl j ∷
    one 2 (slice_index x 14) (bytes_of (slice_index s 3)) (column x 3) (slice_index_or (map bytes_of words) (4 * r + 3) []) (bytes_of (slice_index words (4 * r + 3))) e3 k3 refl j ∷
    one 3 (slice_index x 15) (bytes_of (slice_index s 3)) (column x 3) (slice_index_or (map bytes_of words) (4 * r + 3) []) (bytes_of (slice_index words (4 * r + 3))) e3 k3 refl j ∷ []

-- a block is the state of its columns
pub state_of_four : (b : List ℕ) (p q r s : ℕ) → length b ≡ 16
    → bytes_of p ≡ slice_index b 0 ∷ slice_index b 1 ∷ slice_index b 2 ∷ slice_index b 3 ∷ []
    → bytes_of q ≡ slice_index b 4 ∷ slice_index b 5 ∷ slice_index b 6 ∷ slice_index b 7 ∷ []
    → bytes_of r ≡ slice_index b 8 ∷ slice_index b 9 ∷ slice_index b 10 ∷ slice_index b 11 ∷ []
    → bytes_of s ≡ slice_index b 12 ∷ slice_index b 13 ∷ slice_index b 14 ∷ slice_index b 15 ∷ []
    → state_in (p ∷ q ∷ r ∷ s ∷ []) ≡ b
unfolding state_in
state_of_four b p q r s long e0 e1 e2 e3 =
    let at : (bytes column : List ℕ) (i : ℕ) → bytes ≡ column → slice_index bytes i ≡ slice_index column i = λ bytes column i e. ap (λ (l : List ℕ). slice_index l i) e in
    (λ j.
    at (bytes_of p) (slice_index b 0 ∷ slice_index b 1 ∷ slice_index b 2 ∷ slice_index b 3 ∷ []) 0 e0 j ∷
    at (bytes_of p) (slice_index b 0 ∷ slice_index b 1 ∷ slice_index b 2 ∷ slice_index b 3 ∷ []) 1 e0 j ∷
    at (bytes_of p) (slice_index b 0 ∷ slice_index b 1 ∷ slice_index b 2 ∷ slice_index b 3 ∷ []) 2 e0 j ∷
    at (bytes_of p) (slice_index b 0 ∷ slice_index b 1 ∷ slice_index b 2 ∷ slice_index b 3 ∷ []) 3 e0 j ∷
    at (bytes_of q) (slice_index b 4 ∷ slice_index b 5 ∷ slice_index b 6 ∷ slice_index b 7 ∷ []) 0 e1 j ∷
    at (bytes_of q) (slice_index b 4 ∷ slice_index b 5 ∷ slice_index b 6 ∷ slice_index b 7 ∷ []) 1 e1 j ∷
    at (bytes_of q) (slice_index b 4 ∷ slice_index b 5 ∷ slice_index b 6 ∷ slice_index b 7 ∷ []) 2 e1 j ∷
    at (bytes_of q) (slice_index b 4 ∷ slice_index b 5 ∷ slice_index b 6 ∷ slice_index b 7 ∷ []) 3 e1 j ∷
    at (bytes_of r) (slice_index b 8 ∷ slice_index b 9 ∷ slice_index b 10 ∷ slice_index b 11 ∷ []) 0 e2 j ∷
    at (bytes_of r) (slice_index b 8 ∷ slice_index b 9 ∷ slice_index b 10 ∷ slice_index b 11 ∷ []) 1 e2 j ∷
    at (bytes_of r) (slice_index b 8 ∷ slice_index b 9 ∷ slice_index b 10 ∷ slice_index b 11 ∷ []) 2 e2 j ∷
    at (bytes_of r) (slice_index b 8 ∷ slice_index b 9 ∷ slice_index b 10 ∷ slice_index b 11 ∷ []) 3 e2 j ∷
    at (bytes_of s) (slice_index b 12 ∷ slice_index b 13 ∷ slice_index b 14 ∷ slice_index b 15 ∷ []) 0 e3 j ∷
    at (bytes_of s) (slice_index b 12 ∷ slice_index b 13 ∷ slice_index b 14 ∷ slice_index b 15 ∷ []) 1 e3 j ∷
    at (bytes_of s) (slice_index b 12 ∷ slice_index b 13 ∷ slice_index b 14 ∷ slice_index b 15 ∷ []) 2 e3 j ∷
    at (bytes_of s) (slice_index b 12 ∷ slice_index b 13 ∷ slice_index b 14 ∷ slice_index b 15 ∷ []) 3 e3 j ∷ [])
    ∙ pick_l_whole 0 b 16 long
