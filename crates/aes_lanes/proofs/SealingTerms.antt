-- elements of the tower and the bytes for which they stand while blocks are sealed
use Rattle.std.specs.Prelude.{◌≡◌, ℕ, ◌%◌, ◌<◌, List, [], ◌∷◌, map, slice_index, bit_xor, refl}
use Rattle.std.proofs.Common.{sym, ◌∙◌, ap, arith, w8, Fits, replicate}
use Rattle.std.proofs.lemmas.List.{length-map}
use Rattle.std.proofs.lemmas.Simd.{map-map, zip2_splat, zip2_of_maps}
use lib.Lanes.{zip2, Each1}
use Rattle.std_defs.specs.Aes.{product, remainder, mul8, sbox}
use Rattle.std_defs.proofs.Tables.{sbox_table, sbox_at}
use Rattle.std_defs.proofs.Enumerate.{same_below, same_below₂}
use Rattle.aes_lanes.specs.Lookup.{look, first_part, second_part}
use Rattle.aes_lanes.specs.SealingTower.{tower_byte, less_sbox}
use Rattle.aes_lanes.proofs.Lookups.{IsVector, map-lanes}
use Rattle.aes_lanes.proofs.Terms.{parts_in, halves_in, unmapped}
use Rattle.aes_lanes.specs.declared.lookup.TheConstants.{LOW_TO_TOWER, HIGH_TO_TOWER, FIRST_FROM_TOWER, SECOND_FROM_TOWER}
use Rattle.aes_lanes.specs.declared.sealing_tower.TheConstants.{FIRST_IN_TOWER, SECOND_IN_TOWER, FIRST_TWICE, SECOND_TWICE}

-- ---- what the tables hold, for each byte

tower_byte_below : (y : ℕ) → y < 256 → tower_byte y % 256 ≡ tower_byte y
unfolding tower_byte
tower_byte_below y h = same_below (λ y. tower_byte y % 256) tower_byte 256 refl y h

pub tower_byte-lt : (y : ℕ) → y < 256 → tower_byte y < 256
tower_byte-lt y h = omega (arith, tower_byte_below y h)

less_at : (x : ℕ) → x < 256 → bit_xor (slice_index sbox_table x) 0x63 ≡ less_sbox x
unfolding less_sbox
less_at x h = ap (λ s. bit_xor s 0x63) (sym (sbox_at x h))

entered_byte : (x : ℕ) → x < 256 → tower_byte (halves_in LOW_TO_TOWER HIGH_TO_TOWER x) ≡ x
unfolding tower_byte
entered_byte x h = same_below (λ x. tower_byte (halves_in LOW_TO_TOWER HIGH_TO_TOWER x)) (λ x. x) 256 refl x h

once_byte : (y : ℕ) → y < 256 → tower_byte (parts_in FIRST_IN_TOWER SECOND_IN_TOWER y) ≡ less_sbox (tower_byte y)
unfolding tower_byte sbox_table
once_byte y h =
    same_below (λ y. tower_byte (parts_in FIRST_IN_TOWER SECOND_IN_TOWER y)) (λ y. bit_xor (slice_index sbox_table (tower_byte y)) 0x63) 256 refl y h
    ∙ less_at (tower_byte y) (tower_byte-lt y h)

twice_byte : (y : ℕ) → y < 256 → tower_byte (parts_in FIRST_TWICE SECOND_TWICE y) ≡ mul8 2 (less_sbox (tower_byte y))
unfolding tower_byte sbox_table product remainder mul8
twice_byte y h =
    same_below (λ y. tower_byte (parts_in FIRST_TWICE SECOND_TWICE y)) (λ y. mul8 2 (bit_xor (slice_index sbox_table (tower_byte y)) 0x63)) 256 refl y h
    ∙ ap (mul8 2) (less_at (tower_byte y) (tower_byte-lt y h))

last_byte : (y : ℕ) → y < 256 → bit_xor (parts_in FIRST_FROM_TOWER SECOND_FROM_TOWER y) 0x63 ≡ sbox (tower_byte y)
unfolding tower_byte sbox_table
last_byte y h =
    same_below (λ y. bit_xor (parts_in FIRST_FROM_TOWER SECOND_FROM_TOWER y) 0x63) (λ y. slice_index sbox_table (tower_byte y)) 256 refl y h
    ∙ sym (sbox_at (tower_byte y) (tower_byte-lt y h))

-- ---- of each lane

pub entered_lanes : (x r : List ℕ) → Each1 (Fits w8) x → r ≡ map (halves_in LOW_TO_TOWER HIGH_TO_TOWER) x → map tower_byte r ≡ x
entered_lanes x r fits e =
    ap (map tower_byte) e ∙ map-map tower_byte (halves_in LOW_TO_TOWER HIGH_TO_TOWER) x
    ∙ map-lanes (λ x. tower_byte (halves_in LOW_TO_TOWER HIGH_TO_TOWER x)) (λ x. x) entered_byte x fits ∙ unmapped x

pub once_lanes : (y r : List ℕ) → Each1 (Fits w8) y → r ≡ map (parts_in FIRST_IN_TOWER SECOND_IN_TOWER) y → map tower_byte r ≡ map (λ y. less_sbox (tower_byte y)) y
once_lanes y r fits e =
    ap (map tower_byte) e ∙ map-map tower_byte (parts_in FIRST_IN_TOWER SECOND_IN_TOWER) y
    ∙ map-lanes (λ y. tower_byte (parts_in FIRST_IN_TOWER SECOND_IN_TOWER y)) (λ y. less_sbox (tower_byte y)) once_byte y fits

pub twice_lanes : (y r : List ℕ) → Each1 (Fits w8) y → r ≡ map (parts_in FIRST_TWICE SECOND_TWICE) y → map tower_byte r ≡ map (λ y. mul8 2 (less_sbox (tower_byte y))) y
twice_lanes y r fits e =
    ap (map tower_byte) e ∙ map-map tower_byte (parts_in FIRST_TWICE SECOND_TWICE) y
    ∙ map-lanes (λ y. tower_byte (parts_in FIRST_TWICE SECOND_TWICE y)) (λ y. mul8 2 (less_sbox (tower_byte y))) twice_byte y fits

pub last_lanes : (n : ℕ) (y less : List ℕ) → IsVector n y → less ≡ map (parts_in FIRST_FROM_TOWER SECOND_FROM_TOWER) y → zip2 bit_xor less (replicate n 0x63) ≡ map (λ y. sbox (tower_byte y)) y
last_lanes n y less fits e =
    ap (λ l. zip2 bit_xor l (replicate n 0x63)) e
    ∙ zip2_splat bit_xor (map (parts_in FIRST_FROM_TOWER SECOND_FROM_TOWER) y) n 0x63 (length-map y (parts_in FIRST_FROM_TOWER SECOND_FROM_TOWER) ∙ fits.0)
    ∙ map-map (λ x. bit_xor x 0x63) (parts_in FIRST_FROM_TOWER SECOND_FROM_TOWER) y
    ∙ map-lanes (λ y. bit_xor (parts_in FIRST_FROM_TOWER SECOND_FROM_TOWER y) 0x63) (λ y. sbox (tower_byte y)) last_byte y fits.1

-- ---- sums

sum_of_bytes : (x y : ℕ) → x < 256 → y < 256 → tower_byte (bit_xor x y) ≡ bit_xor (tower_byte x) (tower_byte y)
unfolding tower_byte
sum_of_bytes x y h k = same_below₂ (λ x y. tower_byte (bit_xor x y)) (λ x y. bit_xor (tower_byte x) (tower_byte y)) 256 256 refl x y h k

pub all_added : (xs ys : List ℕ) → Each1 (Fits w8) xs → Each1 (Fits w8) ys → map tower_byte (zip2 bit_xor xs ys) ≡ zip2 bit_xor (map tower_byte xs) (map tower_byte ys)
all_added [] ys h k = refl
all_added (x ∷ xs) [] h k = refl
all_added (x ∷ xs) (y ∷ ys) h k = rw (sum_of_bytes x y h.0.fits k.0.fits, all_added xs ys h.1 k.1) refl

-- ---- both parts looked up

pub from_parts : (firsts seconds y first second r : List ℕ) → r ≡ zip2 bit_xor (map (look firsts) first) (map (look seconds) second) → first ≡ map first_part y → second ≡ map second_part y
    → r ≡ map (parts_in firsts seconds) y
from_parts firsts seconds y first second r e f g =
    e ∙ zip2_of_maps bit_xor (λ y. look firsts (first_part y)) (λ y. look seconds (second_part y)) y
    (ap (map (look firsts)) f ∙ map-map (look firsts) first_part y) (ap (map (look seconds)) g ∙ map-map (look seconds) second_part y)
