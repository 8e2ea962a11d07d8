-- InvMixColumns over a sum with a round key
use Rattle.std.specs.Prelude.{◌≡◌, ℕ, ◌+◌, ◌*◌, ◌<◌, List, [], ◌∷◌, map, length, slice_index, slice_index_or, bit_xor, refl}
use Rattle.std.proofs.Common.{sym, ◌∙◌, ap, ap₂, arith}
use Rattle.std_defs.specs.Aes.{mul8, mixed_byte, add_round_key, inverse_mix_columns}
use Rattle.std_defs.proofs.Mul8.{mul8-xor, xor_swap}
use Rattle.aes_table.specs.Words.{bytes_of, mixed_back, AreMixedBack}
use Rattle.aes_table.proofs.States.{word_bytes}

-- a byte of a column times the matrix
abbrev row : ℕ → ℕ → ℕ → ℕ → ℕ → ℕ → ℕ → ℕ → ℕ
row p q s t a b c d = bit_xor (bit_xor (mul8 p a) (mul8 q b)) (bit_xor (mul8 s c) (mul8 t d))

row-xor : (p q s t a b c d e f g h : ℕ) → row p q s t (bit_xor a e) (bit_xor b f) (bit_xor c g) (bit_xor d h) ≡ bit_xor (row p q s t a b c d) (row p q s t e f g h)
row-xor p q s t a b c d e f g h =
    ap₂ bit_xor
    (ap₂ bit_xor (mul8-xor p a e) (mul8-xor q b f) ∙ xor_swap (mul8 p a) (mul8 p e) (mul8 q b) (mul8 q f))
    (ap₂ bit_xor (mul8-xor s c g) (mul8-xor t d h) ∙ xor_swap (mul8 s c) (mul8 s g) (mul8 t d) (mul8 t h))
    ∙ xor_swap (bit_xor (mul8 p a) (mul8 q b)) (bit_xor (mul8 p e) (mul8 q f)) (bit_xor (mul8 s c) (mul8 t d)) (bit_xor (mul8 s g) (mul8 t h))

key_back : (words back : List ℕ) (n : ℕ) → length words ≡ 60 → length back ≡ 60 → n < 60 → AreMixedBack words back
    → slice_index_or (map bytes_of back) n [] ≡ mixed_back (slice_index_or (map bytes_of words) n [])
key_back words back n long long_back h are =
    word_bytes back n (omega arith) ∙ are n h ∙ ap mixed_back (sym (word_bytes words n (omega arith)))

-- words that went through InvMixColumns, added after it, are the words added before it
pub back_added : (words back : List ℕ) (r : ℕ) (x : List ℕ) → length words ≡ 60 → length back ≡ 60 → r < 15 → AreMixedBack words back
    → add_round_key (map bytes_of back) r (inverse_mix_columns x) ≡ inverse_mix_columns (add_round_key (map bytes_of words) r x)
unfolding add_round_key mixed_byte inverse_mix_columns
back_added words back r x long long_back below are =
    let key : ℕ → List ℕ = λ j. slice_index_or (map bytes_of words) (4 * r + j) [] in
    let back_key : ℕ → List ℕ = λ j. slice_index_or (map bytes_of back) (4 * r + j) [] in
    let k : (j : ℕ) → j < 4 → back_key j ≡ mixed_back (key j) = λ j h. key_back words back (4 * r + j) long long_back (omega arith) are in
    let one : (i p q s t a b c d byte : ℕ) (u v : List ℕ) → u ≡ mixed_back v → slice_index (mixed_back v) i ≡ row p q s t (slice_index v 0) (slice_index v 1) (slice_index v 2) (slice_index v 3)
    → byte ≡ row p q s t a b c d
    → bit_xor byte (slice_index u i) ≡ row p q s t (bit_xor a (slice_index v 0)) (bit_xor b (slice_index v 1)) (bit_xor c (slice_index v 2)) (bit_xor d (slice_index v 3))
    = λ i p q s t a b c d byte u v e f g.
    ap₂ (λ (m : ℕ) (l : List ℕ). bit_xor m (slice_index l i)) g e ∙ ap (bit_xor (row p q s t a b c d)) f
    ∙ sym (row-xor p q s t a b c d (slice_index v 0) (slice_index v 1) (slice_index v 2) (slice_index v 3)) in
    λ j.
    one 0 14 11 13 9 (slice_index x 0) (slice_index x 1) (slice_index x 2) (slice_index x 3) (slice_index (inverse_mix_columns x) 0) (back_key 0) (key 0) (k 0 (omega arith)) refl refl j ∷
    one 1 9 14 11 13 (slice_index x 0) (slice_index x 1) (slice_index x 2) (slice_index x 3) (slice_index (inverse_mix_columns x) 1) (back_key 0) (key 0) (k 0 (omega arith)) refl refl j ∷
    one 2 13 9 14 11 (slice_index x 0) (slice_index x 1) (slice_index x 2) (slice_index x 3) (slice_index (inverse_mix_columns x) 2) (back_key 0) (key 0) (k 0 (omega arith)) refl refl j ∷
    one 3 11 13 9 14 (slice_index x 0) (slice_index x 1) (slice_index x 2) (slice_index x 3) (slice_index (inverse_mix_columns x) 3) (back_key 0) (key 0) (k 0 (omega arith)) refl refl j ∷
    one 0 14 11 13 9 (slice_index x 4) (slice_index x 5) (slice_index x 6) (slice_index x 7) (slice_index (inverse_mix_columns x) 4) (back_key 1) (key 1) (k 1 (omega arith)) refl refl j ∷
    one 1 9 14 11 13 (slice_index x 4) (slice_index x 5) (slice_index x 6) (slice_index x 7) (slice_index (inverse_mix_columns x) 5) (back_key 1) (key 1) (k 1 (omega arith)) refl refl j ∷
    one 2 13 9 14 11 (slice_index x 4) (slice_index x 5) (slice_index x 6) (slice_index x 7) (slice_index (inverse_mix_columns x) 6) (back_key 1) (key 1) (k 1 (omega arith)) refl refl j ∷
    one 3 11 13 9 14 (slice_index x 4) (slice_index x 5) (slice_index x 6) (slice_index x 7) (slice_index (inverse_mix_columns x) 7) (back_key 1) (key 1) (k 1 (omega arith)) refl refl j ∷
    one 0 14 11 13 9 (slice_index x 8) (slice_index x 9) (slice_index x 10) (slice_index x 11) (slice_index (inverse_mix_columns x) 8) (back_key 2) (key 2) (k 2 (omega arith)) refl refl j ∷
    one 1 9 14 11 13 (slice_index x 8) (slice_index x 9) (slice_index x 10) (slice_index x 11) (slice_index (inverse_mix_columns x) 9) (back_key 2) (key 2) (k 2 (omega arith)) refl refl j ∷
    one 2 13 9 14 11 (slice_index x 8) (slice_index x 9) (slice_index x 10) (slice_index x 11) (slice_index (inverse_mix_columns x) 10) (back_key 2) (key 2) (k 2 (omega arith)) refl refl j ∷
    one 3 11 13 9 14 (slice_index x 8) (slice_index x 9) (slice_index x 10) (slice_index x 11) (slice_index (inverse_mix_columns x) 11) (back_key 2) (key 2) (k 2 (omega arith)) refl refl j ∷
    one 0 14 11 13 9 (slice_index x 12) (slice_index x 13) (slice_index x 14) (slice_index x 15) (slice_index (inverse_mix_columns x) 12) (back_key 3) (key 3) (k 3 (omega arith)) refl refl j ∷
    one 1 9 14 11 13 (slice_index x 12) (slice_index x 13) (slice_index x 14) (slice_index x 15) (slice_index (inverse_mix_columns x) 13) (back_key 3) (key 3) (k 3 (omega arith)) refl refl j ∷
    one 2 13 9 14 11 (slice_index x 12) (slice_index x 13) (slice_index x 14) (slice_index x 15) (slice_index (inverse_mix_columns x) 14) (back_key 3) (key 3) (k 3 (omega arith)) refl refl j ∷
    one 3 11 13 9 14 (slice_index x 12) (slice_index x 13) (slice_index x 14) (slice_index x 15) (slice_index (inverse_mix_columns x) 15) (back_key 3) (key 3) (k 3 (omega arith)) refl refl j ∷ []
