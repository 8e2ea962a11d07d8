-- elements of the tower and the bytes for which they stand
use Rattle.std.specs.Prelude.{◌≡◌, ℕ, ◌%◌, ◌<◌, List, [], ◌∷◌, map, slice_index, bit_xor, refl}
use Rattle.std.proofs.Common.{sym, ◌∙◌, ap, arith, w8, Fits}
use Rattle.std.specs.Int.Bits.{xor_assoc}
use Rattle.std.proofs.lemmas.Nat.{xor_lt}
use Rattle.std.proofs.lemmas.Simd.{map-map}
use lib.Lanes.{zip2, Each1}
use Rattle.std_defs.specs.Aes.{product, remainder, mul8, inverse_sbox}
use Rattle.std_defs.proofs.Tables.{inverse_sbox_table, inverse_sbox_at}
use Rattle.std_defs.proofs.Enumerate.{same_below, same_below₂}
use Rattle.aes_lanes.specs.Lookup.{look, low, high, first_part, second_part}
use Rattle.aes_lanes.specs.Tower.{term_byte, state_byte}
use Rattle.aes_lanes.proofs.Lookups.{IsVector, Passes, map-lanes}
use Rattle.aes_lanes.specs.declared.lookup.TheConstants.{INVERSE_LOW_TO_TOWER, INVERSE_HIGH_TO_TOWER, INVERSE_FIRST_FROM_TOWER, INVERSE_SECOND_FROM_TOWER}
use Rattle.aes_lanes.specs.declared.tower.TheConstants.{FIRST_TO_TERM, SECOND_TO_TERM, LOW_TWICE, HIGH_TWICE, LOW_FOUR_TIMES, HIGH_FOUR_TIMES}

pub first_part_passes : Passes first_part
first_part_passes = refl

pub second_part_passes : Passes second_part
second_part_passes = refl

-- ---- what the tables hold, for each byte

abbrev pub parts_in : List ℕ → List ℕ → ℕ → ℕ
parts_in firsts seconds y = bit_xor (look firsts (first_part y)) (look seconds (second_part y))

abbrev pub halves_in : List ℕ → List ℕ → ℕ → ℕ
halves_in lows highs x = bit_xor (look lows (low x)) (look highs (high x))

undone_table : (y : ℕ) → y < 256 → term_byte (parts_in FIRST_TO_TERM SECOND_TO_TERM y) ≡ slice_index inverse_sbox_table (state_byte y)
unfolding term_byte state_byte inverse_sbox_table
undone_table y h = same_below (λ y. term_byte (parts_in FIRST_TO_TERM SECOND_TO_TERM y)) (λ y. slice_index inverse_sbox_table (state_byte y)) 256 refl y h

undone_last_table : (y : ℕ) → y < 256 → parts_in INVERSE_FIRST_FROM_TOWER INVERSE_SECOND_FROM_TOWER y ≡ slice_index inverse_sbox_table (state_byte y)
unfolding term_byte state_byte inverse_sbox_table
undone_last_table y h = same_below (parts_in INVERSE_FIRST_FROM_TOWER INVERSE_SECOND_FROM_TOWER) (λ y. slice_index inverse_sbox_table (state_byte y)) 256 refl y h

state_byte_below : (y : ℕ) → y < 256 → state_byte y % 256 ≡ state_byte y
unfolding term_byte state_byte
state_byte_below y h = same_below (λ y. state_byte y % 256) state_byte 256 refl y h

term_byte_below : (y : ℕ) → y < 256 → term_byte y % 256 ≡ term_byte y
unfolding term_byte
term_byte_below y h = same_below (λ y. term_byte y % 256) term_byte 256 refl y h

pub state_byte-lt : (y : ℕ) → y < 256 → state_byte y < 256
state_byte-lt y h = omega (arith, state_byte_below y h)

pub term_byte-lt : (y : ℕ) → y < 256 → term_byte y < 256
term_byte-lt y h = omega (arith, term_byte_below y h)

undone_byte : (y : ℕ) → y < 256 → term_byte (parts_in FIRST_TO_TERM SECOND_TO_TERM y) ≡ inverse_sbox (state_byte y)
undone_byte y h = undone_table y h ∙ sym (inverse_sbox_at (state_byte y) (state_byte-lt y h))

undone_last_byte : (y : ℕ) → y < 256 → parts_in INVERSE_FIRST_FROM_TOWER INVERSE_SECOND_FROM_TOWER y ≡ inverse_sbox (state_byte y)
undone_last_byte y h = undone_last_table y h ∙ sym (inverse_sbox_at (state_byte y) (state_byte-lt y h))

twice_byte : (x : ℕ) → x < 256 → term_byte (halves_in LOW_TWICE HIGH_TWICE x) ≡ mul8 2 (term_byte x)
unfolding term_byte product remainder mul8
twice_byte x h = same_below (λ x. term_byte (halves_in LOW_TWICE HIGH_TWICE x)) (λ x. mul8 2 (term_byte x)) 256 refl x h

four_times_byte : (x : ℕ) → x < 256 → term_byte (halves_in LOW_FOUR_TIMES HIGH_FOUR_TIMES x) ≡ mul8 2 (mul8 2 (term_byte x))
unfolding term_byte product remainder mul8
four_times_byte x h = same_below (λ x. term_byte (halves_in LOW_FOUR_TIMES HIGH_FOUR_TIMES x)) (λ x. mul8 2 (mul8 2 (term_byte x))) 256 refl x h

entered_byte : (x : ℕ) → x < 256 → state_byte (halves_in INVERSE_LOW_TO_TOWER INVERSE_HIGH_TO_TOWER x) ≡ x
unfolding term_byte state_byte
entered_byte x h = same_below (λ x. state_byte (halves_in INVERSE_LOW_TO_TOWER INVERSE_HIGH_TO_TOWER x)) (λ x. x) 256 refl x h

-- ---- of each lane

pub unmapped : (v : List ℕ) → map (λ x. x) v ≡ v
unmapped [] = refl
unmapped (x ∷ v) = ap (λ t. x ∷ t) (unmapped v)

pub entered_lanes : (x r : List ℕ) → IsVector 32 x → r ≡ map (halves_in INVERSE_LOW_TO_TOWER INVERSE_HIGH_TO_TOWER) x → map state_byte r ≡ x
entered_lanes x r fits e =
    ap (map state_byte) e ∙ map-map state_byte (halves_in INVERSE_LOW_TO_TOWER INVERSE_HIGH_TO_TOWER) x
    ∙ map-lanes (λ x. state_byte (halves_in INVERSE_LOW_TO_TOWER INVERSE_HIGH_TO_TOWER x)) (λ x. x) entered_byte x fits.1 ∙ unmapped x

pub undone_lanes : (y r : List ℕ) → IsVector 32 y → r ≡ map (parts_in FIRST_TO_TERM SECOND_TO_TERM) y → map term_byte r ≡ map (λ y. inverse_sbox (state_byte y)) y
undone_lanes y r fits e =
    ap (map term_byte) e ∙ map-map term_byte (parts_in FIRST_TO_TERM SECOND_TO_TERM) y
    ∙ map-lanes (λ y. term_byte (parts_in FIRST_TO_TERM SECOND_TO_TERM y)) (λ y. inverse_sbox (state_byte y)) undone_byte y fits.1

pub undone_last_lanes : (y r : List ℕ) → IsVector 32 y → r ≡ map (parts_in INVERSE_FIRST_FROM_TOWER INVERSE_SECOND_FROM_TOWER) y → r ≡ map (λ y. inverse_sbox (state_byte y)) y
undone_last_lanes y r fits e = e ∙ map-lanes (parts_in INVERSE_FIRST_FROM_TOWER INVERSE_SECOND_FROM_TOWER) (λ y. inverse_sbox (state_byte y)) undone_last_byte y fits.1

pub twice_lanes : (x r : List ℕ) → IsVector 32 x → r ≡ map (halves_in LOW_TWICE HIGH_TWICE) x → map term_byte r ≡ map (λ x. mul8 2 (term_byte x)) x
twice_lanes x r fits e =
    ap (map term_byte) e ∙ map-map term_byte (halves_in LOW_TWICE HIGH_TWICE) x
    ∙ map-lanes (λ x. term_byte (halves_in LOW_TWICE HIGH_TWICE x)) (λ x. mul8 2 (term_byte x)) twice_byte x fits.1

pub four_times_lanes : (x r : List ℕ) → IsVector 32 x → r ≡ map (halves_in LOW_FOUR_TIMES HIGH_FOUR_TIMES) x → map term_byte r ≡ map (λ x. mul8 2 (mul8 2 (term_byte x))) x
four_times_lanes x r fits e =
    ap (map term_byte) e ∙ map-map term_byte (halves_in LOW_FOUR_TIMES HIGH_FOUR_TIMES) x
    ∙ map-lanes (λ x. term_byte (halves_in LOW_FOUR_TIMES HIGH_FOUR_TIMES x)) (λ x. mul8 2 (mul8 2 (term_byte x))) four_times_byte x fits.1

-- ---- sums

sum_of_terms : (x y : ℕ) → x < 256 → y < 256 → term_byte (bit_xor x y) ≡ bit_xor (term_byte x) (term_byte y)
unfolding term_byte
sum_of_terms x y h k = same_below₂ (λ x y. term_byte (bit_xor x y)) (λ x y. bit_xor (term_byte x) (term_byte y)) 256 256 refl x y h k

pub terms_added : (xs ys : List ℕ) → Each1 (Fits w8) xs → Each1 (Fits w8) ys → map term_byte (zip2 bit_xor xs ys) ≡ zip2 bit_xor (map term_byte xs) (map term_byte ys)
terms_added [] ys h k = refl
terms_added (x ∷ xs) [] h k = refl
terms_added (x ∷ xs) (y ∷ ys) h k = rw (sum_of_terms x y h.0.fits k.0.fits, terms_added xs ys h.1 k.1) refl

sum_of_state : (x y : ℕ) → x < 256 → y < 256 → state_byte (bit_xor x y) ≡ bit_xor (term_byte x) (state_byte y)
unfolding state_byte
sum_of_state x y h k =
    ap term_byte (xor_assoc x y 0xe8) ∙ sum_of_terms x (bit_xor y 0xe8) h (xor_lt 8 y 0xe8 k (omega arith))

pub states_added : (xs ys : List ℕ) → Each1 (Fits w8) xs → Each1 (Fits w8) ys → map state_byte (zip2 bit_xor xs ys) ≡ zip2 bit_xor (map term_byte xs) (map state_byte ys)
states_added [] ys h k = refl
states_added (x ∷ xs) [] h k = refl
states_added (x ∷ xs) (y ∷ ys) h k = rw (sum_of_state x y h.0.fits k.0.fits, states_added xs ys h.1 k.1) refl
