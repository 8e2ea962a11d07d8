-- the rounds of the equivalent inverse cipher, whose round keys went through InvMixColumns
use Rattle.std.specs.Prelude.{◌≡◌, ℕ, ◌+◌, ◌*◌, ◌/◌, ◌%◌, List, [], ◌∷◌, map, length, slice_index, slice_index_or, bit_xor, refl}
use Rattle.std.proofs.Common.{sym, ◌∙◌, ap₂}
use lib.Lanes.{zip2}
use Rattle.std_defs.specs.Aes.{mul8, mixed_byte, places, inverse_sbox, add_round_key, inverse_sub_bytes, inverse_shift_rows, inverse_mix_columns}
use Rattle.std_defs.proofs.Mul8.{mul8-xor, xor_swap}
use Rattle.aes_block.specs.KeyBlock.{key_block}

abbrev pub row : ℕ → ℕ → ℕ → ℕ → ℕ → ℕ → ℕ → ℕ → ℕ
row p q s t a b c d = bit_xor (bit_xor (mul8 p a) (mul8 q b)) (bit_xor (mul8 s c) (mul8 t d))

pub row-xor : (p q s t a b c d e f g h : ℕ) → bit_xor (row p q s t a b c d) (row p q s t e f g h) ≡ row p q s t (bit_xor a e) (bit_xor b f) (bit_xor c g) (bit_xor d h)
row-xor p q s t a b c d e f g h =
    sym (ap₂ bit_xor
    (ap₂ bit_xor (mul8-xor p a e) (mul8-xor q b f) ∙ xor_swap (mul8 p a) (mul8 p e) (mul8 q b) (mul8 q f))
    (ap₂ bit_xor (mul8-xor s c g) (mul8-xor t d h) ∙ xor_swap (mul8 s c) (mul8 s g) (mul8 t d) (mul8 t h))
    ∙ xor_swap (bit_xor (mul8 p a) (mul8 q b)) (bit_xor (mul8 p e) (mul8 q f)) (bit_xor (mul8 s c) (mul8 t d)) (bit_xor (mul8 s g) (mul8 t h)))

-- InvMixColumns goes over sums
pub back_of_sum : (x y : ℕ → ℕ) → zip2 bit_xor (inverse_mix_columns (map x places)) (inverse_mix_columns (map y places)) ≡ inverse_mix_columns (zip2 bit_xor (map x places) (map y places))
unfolding mixed_byte inverse_mix_columns
back_of_sum x y = λ j.
    row-xor 14 11 13 9 (x 0) (x 1) (x 2) (x 3) (y 0) (y 1) (y 2) (y 3) j
    ∷ row-xor 9 14 11 13 (x 0) (x 1) (x 2) (x 3) (y 0) (y 1) (y 2) (y 3) j
    ∷ row-xor 13 9 14 11 (x 0) (x 1) (x 2) (x 3) (y 0) (y 1) (y 2) (y 3) j
    ∷ row-xor 11 13 9 14 (x 0) (x 1) (x 2) (x 3) (y 0) (y 1) (y 2) (y 3) j
    ∷ row-xor 14 11 13 9 (x 4) (x 5) (x 6) (x 7) (y 4) (y 5) (y 6) (y 7) j
    ∷ row-xor 9 14 11 13 (x 4) (x 5) (x 6) (x 7) (y 4) (y 5) (y 6) (y 7) j
    ∷ row-xor 13 9 14 11 (x 4) (x 5) (x 6) (x 7) (y 4) (y 5) (y 6) (y 7) j
    ∷ row-xor 11 13 9 14 (x 4) (x 5) (x 6) (x 7) (y 4) (y 5) (y 6) (y 7) j
    ∷ row-xor 14 11 13 9 (x 8) (x 9) (x 10) (x 11) (y 8) (y 9) (y 10) (y 11) j
    ∷ row-xor 9 14 11 13 (x 8) (x 9) (x 10) (x 11) (y 8) (y 9) (y 10) (y 11) j
    ∷ row-xor 13 9 14 11 (x 8) (x 9) (x 10) (x 11) (y 8) (y 9) (y 10) (y 11) j
    ∷ row-xor 11 13 9 14 (x 8) (x 9) (x 10) (x 11) (y 8) (y 9) (y 10) (y 11) j
    ∷ row-xor 14 11 13 9 (x 12) (x 13) (x 14) (x 15) (y 12) (y 13) (y 14) (y 15) j
    ∷ row-xor 9 14 11 13 (x 12) (x 13) (x 14) (x 15) (y 12) (y 13) (y 14) (y 15) j
    ∷ row-xor 13 9 14 11 (x 12) (x 13) (x 14) (x 15) (y 12) (y 13) (y 14) (y 15) j
    ∷ row-xor 11 13 9 14 (x 12) (x 13) (x 14) (x 15) (y 12) (y 13) (y 14) (y 15) j ∷ []

pub back_long : (s : List ℕ) → length (inverse_mix_columns s) ≡ 16
unfolding inverse_mix_columns
back_long s = refl

abbrev pub sub_shift : List ℕ → List ℕ
sub_shift s = inverse_sub_bytes (inverse_shift_rows s)

-- a key after InvMixColumns is added behind it as the key before it
pub key_behind : (ws : List (List ℕ)) (r : ℕ) (b : List ℕ) → zip2 bit_xor (inverse_mix_columns (sub_shift b)) (inverse_mix_columns (key_block ws r)) ≡ inverse_mix_columns (add_round_key ws r (sub_shift b))
unfolding inverse_shift_rows add_round_key key_block
key_behind ws r b =
    back_of_sum (λ i. inverse_sbox (slice_index b ((i + 12 * (i % 4)) % 16))) (λ i. slice_index (slice_index_or ws (4 * r + i / 4) []) (i % 4))
