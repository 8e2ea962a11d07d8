-- MixColumns and InvMixColumns of eight blocks by rows
use Rattle.std.specs.Prelude.{◌≡◌, ℕ, zero, suc, ◌<◌, List, [], ◌∷◌, map, length, slice_index, bit_xor, refl}
use Rattle.std.proofs.Common.{◌∙◌, sym, ap, ap₂, arith, w8, Fits}
use Rattle.std.proofs.lemmas.List.{length-map}
use Rattle.std.proofs.lemmas.Simd.{map-map}
use lib.Lanes.{zip2, Each1}
use Rattle.std_defs.specs.Aes.{mul8, mixed_byte, mix_columns, inverse_mix_columns}
use Rattle.aes_block.proofs.Mixing.{four, column_mixed, column_mixed_back}
use Rattle.aes_lanes.specs.Tower.{term_byte}
use Rattle.aes_lanes.specs.Rows.{eight_blocks}
use Rattle.aes_lanes.proofs.Terms.{term_byte-lt}
use Rattle.aes_lanes.proofs.Transposed.{of_four}

abbrev pub AreBytes : List ℕ → Type 0
AreBytes v = (i : ℕ) → slice_index v i < 256

pub term_bytes : (v : List ℕ) → Each1 (Fits w8) v → AreBytes (map term_byte v)
term_bytes [] h i = omega arith
term_bytes (x ∷ xs) h zero = term_byte-lt x h.0.fits
term_bytes (x ∷ xs) h (suc i) = term_bytes xs h.1 i

-- the state of four columns
abbrev of_columns : List ℕ → List ℕ → List ℕ → List ℕ → List ℕ
of_columns p q r s =
    slice_index p 0 ∷ slice_index p 1 ∷ slice_index p 2 ∷ slice_index p 3 ∷ slice_index q 0 ∷ slice_index q 1 ∷ slice_index q 2 ∷ slice_index q 3
    ∷ slice_index r 0 ∷ slice_index r 1 ∷ slice_index r 2 ∷ slice_index r 3 ∷ slice_index s 0 ∷ slice_index s 1 ∷ slice_index s 2 ∷ slice_index s 3 ∷ []

-- a row after MixColumns, from it and those below it
abbrev pub mixed_row : List ℕ → List ℕ → List ℕ → List ℕ → List ℕ
mixed_row a b c d = zip2 bit_xor (zip2 bit_xor (map (mul8 2) (zip2 bit_xor a b)) b) (zip2 bit_xor c d)

pub rows_mixed : (a b c d : List ℕ) → length a ≡ 32 → length b ≡ 32 → length c ≡ 32 → length d ≡ 32 → AreBytes a → AreBytes b → AreBytes c → AreBytes d
    → eight_blocks (mixed_row a b c d ∷ mixed_row b c d a ∷ mixed_row c d a b ∷ mixed_row d a b c ∷ []) ≡ map mix_columns (eight_blocks (a ∷ b ∷ c ∷ d ∷ []))
unfolding eight_blocks mixed_byte mix_columns
rows_mixed = of_four (λ a b c d. AreBytes a → AreBytes b → AreBytes c → AreBytes d
    → eight_blocks (mixed_row a b c d ∷ mixed_row b c d a ∷ mixed_row c d a b ∷ mixed_row d a b c ∷ []) ≡ map mix_columns (eight_blocks (a ∷ b ∷ c ∷ d ∷ [])))
    (λ w x y z hw hx hy hz j.
    of_columns (column_mixed (w 0) (x 0) (y 0) (z 0) (hw 0) (hx 0) (hy 0) (hz 0) j) (column_mixed (w 1) (x 1) (y 1) (z 1) (hw 1) (hx 1) (hy 1) (hz 1) j) (column_mixed (w 2) (x 2) (y 2) (z 2) (hw 2) (hx 2) (hy 2) (hz 2) j) (column_mixed (w 3) (x 3) (y 3) (z 3) (hw 3) (hx 3) (hy 3) (hz 3) j)
    ∷ of_columns (column_mixed (w 16) (x 16) (y 16) (z 16) (hw 16) (hx 16) (hy 16) (hz 16) j) (column_mixed (w 17) (x 17) (y 17) (z 17) (hw 17) (hx 17) (hy 17) (hz 17) j) (column_mixed (w 18) (x 18) (y 18) (z 18) (hw 18) (hx 18) (hy 18) (hz 18) j) (column_mixed (w 19) (x 19) (y 19) (z 19) (hw 19) (hx 19) (hy 19) (hz 19) j)
    ∷ of_columns (column_mixed (w 4) (x 4) (y 4) (z 4) (hw 4) (hx 4) (hy 4) (hz 4) j) (column_mixed (w 5) (x 5) (y 5) (z 5) (hw 5) (hx 5) (hy 5) (hz 5) j) (column_mixed (w 6) (x 6) (y 6) (z 6) (hw 6) (hx 6) (hy 6) (hz 6) j) (column_mixed (w 7) (x 7) (y 7) (z 7) (hw 7) (hx 7) (hy 7) (hz 7) j)
    ∷ of_columns (column_mixed (w 20) (x 20) (y 20) (z 20) (hw 20) (hx 20) (hy 20) (hz 20) j) (column_mixed (w 21) (x 21) (y 21) (z 21) (hw 21) (hx 21) (hy 21) (hz 21) j) (column_mixed (w 22) (x 22) (y 22) (z 22) (hw 22) (hx 22) (hy 22) (hz 22) j) (column_mixed (w 23) (x 23) (y 23) (z 23) (hw 23) (hx 23) (hy 23) (hz 23) j)
    ∷ of_columns (column_mixed (w 8) (x 8) (y 8) (z 8) (hw 8) (hx 8) (hy 8) (hz 8) j) (column_mixed (w 9) (x 9) (y 9) (z 9) (hw 9) (hx 9) (hy 9) (hz 9) j) (column_mixed (w 10) (x 10) (y 10) (z 10) (hw 10) (hx 10) (hy 10) (hz 10) j) (column_mixed (w 11) (x 11) (y 11) (z 11) (hw 11) (hx 11) (hy 11) (hz 11) j)
    ∷ of_columns (column_mixed (w 24) (x 24) (y 24) (z 24) (hw 24) (hx 24) (hy 24) (hz 24) j) (column_mixed (w 25) (x 25) (y 25) (z 25) (hw 25) (hx 25) (hy 25) (hz 25) j) (column_mixed (w 26) (x 26) (y 26) (z 26) (hw 26) (hx 26) (hy 26) (hz 26) j) (column_mixed (w 27) (x 27) (y 27) (z 27) (hw 27) (hx 27) (hy 27) (hz 27) j)
    ∷ of_columns (column_mixed (w 12) (x 12) (y 12) (z 12) (hw 12) (hx 12) (hy 12) (hz 12) j) (column_mixed (w 13) (x 13) (y 13) (z 13) (hw 13) (hx 13) (hy 13) (hz 13) j) (column_mixed (w 14) (x 14) (y 14) (z 14) (hw 14) (hx 14) (hy 14) (hz 14) j) (column_mixed (w 15) (x 15) (y 15) (z 15) (hw 15) (hx 15) (hy 15) (hz 15) j)
    ∷ of_columns (column_mixed (w 28) (x 28) (y 28) (z 28) (hw 28) (hx 28) (hy 28) (hz 28) j) (column_mixed (w 29) (x 29) (y 29) (z 29) (hw 29) (hx 29) (hy 29) (hz 29) j) (column_mixed (w 30) (x 30) (y 30) (z 30) (hw 30) (hx 30) (hy 30) (hz 30) j) (column_mixed (w 31) (x 31) (y 31) (z 31) (hw 31) (hx 31) (hy 31) (hz 31) j) ∷ [])

-- a row to which four times it and the one two below it are added
abbrev pub crossed_row : List ℕ → List ℕ → List ℕ
crossed_row x sums = zip2 bit_xor x (map four sums)

pub rows_mixed_back : (a b c d : List ℕ) → length a ≡ 32 → length b ≡ 32 → length c ≡ 32 → length d ≡ 32 → AreBytes a → AreBytes b → AreBytes c → AreBytes d
    → map mix_columns (eight_blocks (crossed_row a (zip2 bit_xor a c) ∷ crossed_row b (zip2 bit_xor b d) ∷ crossed_row c (zip2 bit_xor a c) ∷ crossed_row d (zip2 bit_xor b d) ∷ []))
    ≡ map inverse_mix_columns (eight_blocks (a ∷ b ∷ c ∷ d ∷ []))
unfolding eight_blocks mixed_byte mix_columns inverse_mix_columns
rows_mixed_back = of_four (λ a b c d. AreBytes a → AreBytes b → AreBytes c → AreBytes d
    → map mix_columns (eight_blocks (crossed_row a (zip2 bit_xor a c) ∷ crossed_row b (zip2 bit_xor b d) ∷ crossed_row c (zip2 bit_xor a c) ∷ crossed_row d (zip2 bit_xor b d) ∷ []))
    ≡ map inverse_mix_columns (eight_blocks (a ∷ b ∷ c ∷ d ∷ [])))
    (λ w x y z hw hx hy hz j.
    of_columns (column_mixed_back (w 0) (x 0) (y 0) (z 0) (four (bit_xor (w 0) (y 0))) (four (bit_xor (x 0) (z 0))) (hw 0) (hx 0) (hy 0) (hz 0) refl refl j) (column_mixed_back (w 1) (x 1) (y 1) (z 1) (four (bit_xor (w 1) (y 1))) (four (bit_xor (x 1) (z 1))) (hw 1) (hx 1) (hy 1) (hz 1) refl refl j) (column_mixed_back (w 2) (x 2) (y 2) (z 2) (four (bit_xor (w 2) (y 2))) (four (bit_xor (x 2) (z 2))) (hw 2) (hx 2) (hy 2) (hz 2) refl refl j) (column_mixed_back (w 3) (x 3) (y 3) (z 3) (four (bit_xor (w 3) (y 3))) (four (bit_xor (x 3) (z 3))) (hw 3) (hx 3) (hy 3) (hz 3) refl refl j)
    ∷ of_columns (column_mixed_back (w 16) (x 16) (y 16) (z 16) (four (bit_xor (w 16) (y 16))) (four (bit_xor (x 16) (z 16))) (hw 16) (hx 16) (hy 16) (hz 16) refl refl j) (column_mixed_back (w 17) (x 17) (y 17) (z 17) (four (bit_xor (w 17) (y 17))) (four (bit_xor (x 17) (z 17))) (hw 17) (hx 17) (hy 17) (hz 17) refl refl j) (column_mixed_back (w 18) (x 18) (y 18) (z 18) (four (bit_xor (w 18) (y 18))) (four (bit_xor (x 18) (z 18))) (hw 18) (hx 18) (hy 18) (hz 18) refl refl j) (column_mixed_back (w 19) (x 19) (y 19) (z 19) (four (bit_xor (w 19) (y 19))) (four (bit_xor (x 19) (z 19))) (hw 19) (hx 19) (hy 19) (hz 19) refl refl j)
    ∷ of_columns (column_mixed_back (w 4) (x 4) (y 4) (z 4) (four (bit_xor (w 4) (y 4))) (four (bit_xor (x 4) (z 4))) (hw 4) (hx 4) (hy 4) (hz 4) refl refl j) (column_mixed_back (w 5) (x 5) (y 5) (z 5) (four (bit_xor (w 5) (y 5))) (four (bit_xor (x 5) (z 5))) (hw 5) (hx 5) (hy 5) (hz 5) refl refl j) (column_mixed_back (w 6) (x 6) (y 6) (z 6) (four (bit_xor (w 6) (y 6))) (four (bit_xor (x 6) (z 6))) (hw 6) (hx 6) (hy 6) (hz 6) refl refl j) (column_mixed_back (w 7) (x 7) (y 7) (z 7) (four (bit_xor (w 7) (y 7))) (four (bit_xor (x 7) (z 7))) (hw 7) (hx 7) (hy 7) (hz 7) refl refl j)
    ∷ of_columns (column_mixed_back (w 20) (x 20) (y 20) (z 20) (four (bit_xor (w 20) (y 20))) (four (bit_xor (x 20) (z 20))) (hw 20) (hx 20) (hy 20) (hz 20) refl refl j) (column_mixed_back (w 21) (x 21) (y 21) (z 21) (four (bit_xor (w 21) (y 21))) (four (bit_xor (x 21) (z 21))) (hw 21) (hx 21) (hy 21) (hz 21) refl refl j) (column_mixed_back (w 22) (x 22) (y 22) (z 22) (four (bit_xor (w 22) (y 22))) (four (bit_xor (x 22) (z 22))) (hw 22) (hx 22) (hy 22) (hz 22) refl refl j) (column_mixed_back (w 23) (x 23) (y 23) (z 23) (four (bit_xor (w 23) (y 23))) (four (bit_xor (x 23) (z 23))) (hw 23) (hx 23) (hy 23) (hz 23) refl refl j)
    ∷ of_columns (column_mixed_back (w 8) (x 8) (y 8) (z 8) (four (bit_xor (w 8) (y 8))) (four (bit_xor (x 8) (z 8))) (hw 8) (hx 8) (hy 8) (hz 8) refl refl j) (column_mixed_back (w 9) (x 9) (y 9) (z 9) (four (bit_xor (w 9) (y 9))) (four (bit_xor (x 9) (z 9))) (hw 9) (hx 9) (hy 9) (hz 9) refl refl j) (column_mixed_back (w 10) (x 10) (y 10) (z 10) (four (bit_xor (w 10) (y 10))) (four (bit_xor (x 10) (z 10))) (hw 10) (hx 10) (hy 10) (hz 10) refl refl j) (column_mixed_back (w 11) (x 11) (y 11) (z 11) (four (bit_xor (w 11) (y 11))) (four (bit_xor (x 11) (z 11))) (hw 11) (hx 11) (hy 11) (hz 11) refl refl j)
    ∷ of_columns (column_mixed_back (w 24) (x 24) (y 24) (z 24) (four (bit_xor (w 24) (y 24))) (four (bit_xor (x 24) (z 24))) (hw 24) (hx 24) (hy 24) (hz 24) refl refl j) (column_mixed_back (w 25) (x 25) (y 25) (z 25) (four (bit_xor (w 25) (y 25))) (four (bit_xor (x 25) (z 25))) (hw 25) (hx 25) (hy 25) (hz 25) refl refl j) (column_mixed_back (w 26) (x 26) (y 26) (z 26) (four (bit_xor (w 26) (y 26))) (four (bit_xor (x 26) (z 26))) (hw 26) (hx 26) (hy 26) (hz 26) refl refl j) (column_mixed_back (w 27) (x 27) (y 27) (z 27) (four (bit_xor (w 27) (y 27))) (four (bit_xor (x 27) (z 27))) (hw 27) (hx 27) (hy 27) (hz 27) refl refl j)
    ∷ of_columns (column_mixed_back (w 12) (x 12) (y 12) (z 12) (four (bit_xor (w 12) (y 12))) (four (bit_xor (x 12) (z 12))) (hw 12) (hx 12) (hy 12) (hz 12) refl refl j) (column_mixed_back (w 13) (x 13) (y 13) (z 13) (four (bit_xor (w 13) (y 13))) (four (bit_xor (x 13) (z 13))) (hw 13) (hx 13) (hy 13) (hz 13) refl refl j) (column_mixed_back (w 14) (x 14) (y 14) (z 14) (four (bit_xor (w 14) (y 14))) (four (bit_xor (x 14) (z 14))) (hw 14) (hx 14) (hy 14) (hz 14) refl refl j) (column_mixed_back (w 15) (x 15) (y 15) (z 15) (four (bit_xor (w 15) (y 15))) (four (bit_xor (x 15) (z 15))) (hw 15) (hx 15) (hy 15) (hz 15) refl refl j)
    ∷ of_columns (column_mixed_back (w 28) (x 28) (y 28) (z 28) (four (bit_xor (w 28) (y 28))) (four (bit_xor (x 28) (z 28))) (hw 28) (hx 28) (hy 28) (hz 28) refl refl j) (column_mixed_back (w 29) (x 29) (y 29) (z 29) (four (bit_xor (w 29) (y 29))) (four (bit_xor (x 29) (z 29))) (hw 29) (hx 29) (hy 29) (hz 29) refl refl j) (column_mixed_back (w 30) (x 30) (y 30) (z 30) (four (bit_xor (w 30) (y 30))) (four (bit_xor (x 30) (z 30))) (hw 30) (hx 30) (hy 30) (hz 30) refl refl j) (column_mixed_back (w 31) (x 31) (y 31) (z 31) (four (bit_xor (w 31) (y 31))) (four (bit_xor (x 31) (z 31))) (hw 31) (hx 31) (hy 31) (hz 31) refl refl j) ∷ [])

-- ---- rows of terms

pub term_long : (v : List ℕ) → length v ≡ 32 → length (map term_byte v) ≡ 32
term_long v long = length-map v term_byte ∙ long

-- a row from the terms that the function `mixed` adds up
pub row_is : (a b c d ab twice sum cd r : List ℕ) → map term_byte ab ≡ zip2 bit_xor (map term_byte a) (map term_byte b)
    → map term_byte twice ≡ map (λ x. mul8 2 (term_byte x)) ab → map term_byte sum ≡ zip2 bit_xor (map term_byte twice) (map term_byte b)
    → map term_byte cd ≡ zip2 bit_xor (map term_byte c) (map term_byte d) → map term_byte r ≡ zip2 bit_xor (map term_byte sum) (map term_byte cd)
    → map term_byte r ≡ mixed_row (map term_byte a) (map term_byte b) (map term_byte c) (map term_byte d)
row_is a b c d ab twice sum cd r e f g h k =
    k ∙ ap₂ (zip2 bit_xor) (g ∙ ap (λ v. zip2 bit_xor v (map term_byte b)) (f ∙ sym (map-map (mul8 2) term_byte ab) ∙ ap (map (mul8 2)) e)) h

pub crossed_is : (x a c ac four_times r : List ℕ) → map term_byte ac ≡ zip2 bit_xor (map term_byte a) (map term_byte c)
    → map term_byte four_times ≡ map (λ x. mul8 2 (mul8 2 (term_byte x))) ac → map term_byte r ≡ zip2 bit_xor (map term_byte x) (map term_byte four_times)
    → map term_byte r ≡ crossed_row (map term_byte x) (zip2 bit_xor (map term_byte a) (map term_byte c))
crossed_is x a c ac four_times r e f g =
    g ∙ ap (zip2 bit_xor (map term_byte x)) (f ∙ sym (map-map four term_byte ac) ∙ ap (map four) e)
