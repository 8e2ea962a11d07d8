-- the columns of two blocks
use Rattle.std.specs.Prelude.{◌≡◌, ℕ, zero, suc, ◌+◌, ◌*◌, ◌/◌, ◌^◌, ◌%◌, ◌<◌, ◌≤◌, List, [], ◌∷◌, ◌++◌, map, length, slice_index, bit_xor, refl}
use Rattle.std.specs.List.{range_with_len}
use Rattle.std.proofs.Common.{cond, leb, replicate, arith, subst, ◌∙◌, sym, w8, Fits, zero-add, ⊎_elim}
use Rattle.std.proofs.lemmas.Bool.{cases_lt}
use Rattle.std.proofs.lemmas.List.{get_or_past}
use Rattle.std.proofs.lemmas.List.FromFn.{get_or-map-range_with_len, length-map-range_with_len}
use Rattle.std.proofs.lemmas.Simd.{pick_l_whole}
use lib.Lanes.{zip2, Each1, sel_l, top}
use Rattle.std_defs.specs.Aes.{product, remainder, mul8, places, mixed_byte, mix_columns, inverse_mix_columns}
use Rattle.std_defs.proofs.Enumerate.{same_below}
use Rattle.aes_block.proofs.Mixing.{mixed_from, mixed_forward, lane, four, lane_back}
use Rattle.aes_lanes.specs.Pairs.{each_half, turned}
use Rattle.aes_lanes.proofs.Lookups.{IsVector}

-- ---- twice each byte

abbrev plus : ℕ → ℕ → ℕ
plus a b = (a + b) % 2 ^ 8

abbrev at_least : ℕ → ℕ → ℕ
at_least a b = cond (leb a b) 255 0

one_doubled : (a : ℕ) → a < 256 → bit_xor (plus a a) (cond (top 7 (at_least 128 a)) 27 0) ≡ mul8 2 a
unfolding product remainder mul8
one_doubled a h = same_below (λ a. bit_xor (plus a a) (cond (top 7 (at_least 128 a)) 27 0)) (mul8 2) 256 refl a h

pub all_doubled : (xs : List ℕ) → Each1 (Fits w8) xs
    → zip2 bit_xor (zip2 plus xs xs) (sel_l (map (top 7) (zip2 at_least (replicate (length xs) 128) xs)) (replicate (length xs) 27) (replicate (length xs) 0)) ≡ map (mul8 2) xs
all_doubled [] h = refl
all_doubled (x ∷ xs) h = rw (one_doubled x h.0.fits, all_doubled xs h.1) refl

-- ---- MixColumns

pub places_below : (y : ℕ → ℕ) → ((i : ℕ) → y i < 256) → (k : ℕ) → slice_index (map y places) k < 256
places_below y at k =
    ⊎_elim
    (λ (l : k < 16). subst (λ (n : ℕ). n < 256) (sym (get_or-map-range_with_len y 0 16 k k 0 l (zero-add k))) (at k))
    (λ (l : 16 ≤ k). subst (λ (n : ℕ). n < 256) (sym (get_or_past (map y places) k 0 (omega (arith, length-map-range_with_len y 0 16)))) (omega arith))
    (cases_lt k 16)

byte_at : (v : List ℕ) (i : ℕ) → Each1 (Fits w8) v → slice_index v i < 256
byte_at [] i h = omega arith
byte_at (x ∷ xs) zero h = h.0.fits
byte_at (x ∷ xs) (suc i) h = byte_at xs i h.1

-- what the function `mixed` computes of one block
unfoldable pub mixed_lanes : List ℕ → List ℕ
mixed_lanes s =
    let next : List ℕ = turned 1 s in
    let pair : List ℕ = zip2 bit_xor s next in
    zip2 bit_xor (zip2 bit_xor (map (mul8 2) pair) next) (turned 2 pair)

pub mixed_block : (y : ℕ → ℕ) → ((i : ℕ) → y i < 256) → mixed_lanes (map y places) ≡ mix_columns (map y places)
unfolding mixed_lanes mix_columns
mixed_block y at =
    let s : List ℕ = map y places in
    let one : (i a b c d : ℕ) → b < 256 → a ≡ slice_index s (4 * (i / 4) + (i + 0) % 4) → b ≡ slice_index s (4 * (i / 4) + (i + 1) % 4)
    → c ≡ slice_index s (4 * (i / 4) + (i + 2) % 4) → d ≡ slice_index s (4 * (i / 4) + (i + 3) % 4)
    → bit_xor (bit_xor (mul8 2 (bit_xor a b)) b) (bit_xor c d) ≡ mixed_byte (0x02 ∷ 0x03 ∷ 0x01 ∷ 0x01 ∷ []) s i
    = λ i a b c d h p q t u. lane a b c d h ∙ mixed_forward s i a b c d (places_below y at) p q t u in
    λ j.
    one 0 (y 0) (y 1) (y 2) (y 3) (at 1) refl refl refl refl j ∷ one 1 (y 1) (y 2) (y 3) (y 0) (at 2) refl refl refl refl j
    ∷ one 2 (y 2) (y 3) (y 0) (y 1) (at 3) refl refl refl refl j ∷ one 3 (y 3) (y 0) (y 1) (y 2) (at 0) refl refl refl refl j
    ∷ one 4 (y 4) (y 5) (y 6) (y 7) (at 5) refl refl refl refl j ∷ one 5 (y 5) (y 6) (y 7) (y 4) (at 6) refl refl refl refl j
    ∷ one 6 (y 6) (y 7) (y 4) (y 5) (at 7) refl refl refl refl j ∷ one 7 (y 7) (y 4) (y 5) (y 6) (at 4) refl refl refl refl j
    ∷ one 8 (y 8) (y 9) (y 10) (y 11) (at 9) refl refl refl refl j ∷ one 9 (y 9) (y 10) (y 11) (y 8) (at 10) refl refl refl refl j
    ∷ one 10 (y 10) (y 11) (y 8) (y 9) (at 11) refl refl refl refl j ∷ one 11 (y 11) (y 8) (y 9) (y 10) (at 8) refl refl refl refl j
    ∷ one 12 (y 12) (y 13) (y 14) (y 15) (at 13) refl refl refl refl j ∷ one 13 (y 13) (y 14) (y 15) (y 12) (at 14) refl refl refl refl j
    ∷ one 14 (y 14) (y 15) (y 12) (y 13) (at 15) refl refl refl refl j ∷ one 15 (y 15) (y 12) (y 13) (y 14) (at 12) refl refl refl refl j ∷ []

lanes_mixed : List ℕ → List ℕ
lanes_mixed x =
    let next : List ℕ = each_half (turned 1) x in
    let pair : List ℕ = zip2 bit_xor x next in
    zip2 bit_xor (zip2 bit_xor (map (mul8 2) pair) next) (each_half (turned 2) pair)

both_mixed : (z : ℕ → ℕ) → ((i : ℕ) → z i < 256) → lanes_mixed (map z (range_with_len 0 32)) ≡ each_half mix_columns (map z (range_with_len 0 32))
unfolding lanes_mixed mixed_lanes
both_mixed z at = λ j. mixed_block z at j ++ mixed_block (λ i. z (16 + i)) (λ i. at (16 + i)) j

pub mixed_is : (x next pair twice a b r : List ℕ) → IsVector 32 x → next ≡ each_half (turned 1) x → pair ≡ zip2 bit_xor x next
    → twice ≡ map (mul8 2) pair → a ≡ zip2 bit_xor twice next → b ≡ each_half (turned 2) pair → r ≡ zip2 bit_xor a b → r ≡ each_half mix_columns x
unfolding lanes_mixed
mixed_is x next pair twice a b r fits p q t u v w =
    let whole : r ≡ lanes_mixed x = rw (w, u, v, t, q, p) refl in
    whole
    ∙ subst (λ y. lanes_mixed y ≡ each_half mix_columns y) (pick_l_whole 0 x 32 fits.0)
    (both_mixed (slice_index x) (λ i. byte_at x i fits.1))

-- ---- InvMixColumns

-- what `mixed_back` gives to `mixed`
crossed_block : List ℕ → List ℕ
crossed_block s = zip2 bit_xor s (map (mul8 2) (map (mul8 2) (zip2 bit_xor s (turned 2 s))))

block_back : (y : ℕ → ℕ) → ((i : ℕ) → y i < 256) → mix_columns (crossed_block (map y places)) ≡ inverse_mix_columns (map y places)
unfolding crossed_block mix_columns inverse_mix_columns
block_back y at =
    let s : List ℕ = map y places in
    let x : ℕ → ℕ → ℕ = λ a c. bit_xor a (four (bit_xor a c)) in
    let one : (i a b c d : ℕ) → a < 256 → b < 256 → c < 256 → d < 256
    → x a c ≡ slice_index (crossed_block s) (4 * (i / 4) + (i + 0) % 4) → x b d ≡ slice_index (crossed_block s) (4 * (i / 4) + (i + 1) % 4)
    → x c a ≡ slice_index (crossed_block s) (4 * (i / 4) + (i + 2) % 4) → x d b ≡ slice_index (crossed_block s) (4 * (i / 4) + (i + 3) % 4)
    → a ≡ slice_index s (4 * (i / 4) + (i + 0) % 4) → b ≡ slice_index s (4 * (i / 4) + (i + 1) % 4)
    → c ≡ slice_index s (4 * (i / 4) + (i + 2) % 4) → d ≡ slice_index s (4 * (i / 4) + (i + 3) % 4)
    → mixed_byte (0x02 ∷ 0x03 ∷ 0x01 ∷ 0x01 ∷ []) (crossed_block s) i ≡ mixed_byte (0x0e ∷ 0x0b ∷ 0x0d ∷ 0x09 ∷ []) s i
    = λ i a b c d ha hb hc hd p q t u p' q' t' u'.
    sym (mixed_from 2 3 1 1 (crossed_block s) i (x a c) (x b d) (x c a) (x d b) p q t u) ∙ lane_back a b c d ha hb hc hd ∙ mixed_from 0x0e 0x0b 0x0d 0x09 s i a b c d p' q' t' u' in
    λ j.
    one 0 (y 0) (y 1) (y 2) (y 3) (at 0) (at 1) (at 2) (at 3) refl refl refl refl refl refl refl refl j
    ∷ one 1 (y 1) (y 2) (y 3) (y 0) (at 1) (at 2) (at 3) (at 0) refl refl refl refl refl refl refl refl j
    ∷ one 2 (y 2) (y 3) (y 0) (y 1) (at 2) (at 3) (at 0) (at 1) refl refl refl refl refl refl refl refl j
    ∷ one 3 (y 3) (y 0) (y 1) (y 2) (at 3) (at 0) (at 1) (at 2) refl refl refl refl refl refl refl refl j
    ∷ one 4 (y 4) (y 5) (y 6) (y 7) (at 4) (at 5) (at 6) (at 7) refl refl refl refl refl refl refl refl j
    ∷ one 5 (y 5) (y 6) (y 7) (y 4) (at 5) (at 6) (at 7) (at 4) refl refl refl refl refl refl refl refl j
    ∷ one 6 (y 6) (y 7) (y 4) (y 5) (at 6) (at 7) (at 4) (at 5) refl refl refl refl refl refl refl refl j
    ∷ one 7 (y 7) (y 4) (y 5) (y 6) (at 7) (at 4) (at 5) (at 6) refl refl refl refl refl refl refl refl j
    ∷ one 8 (y 8) (y 9) (y 10) (y 11) (at 8) (at 9) (at 10) (at 11) refl refl refl refl refl refl refl refl j
    ∷ one 9 (y 9) (y 10) (y 11) (y 8) (at 9) (at 10) (at 11) (at 8) refl refl refl refl refl refl refl refl j
    ∷ one 10 (y 10) (y 11) (y 8) (y 9) (at 10) (at 11) (at 8) (at 9) refl refl refl refl refl refl refl refl j
    ∷ one 11 (y 11) (y 8) (y 9) (y 10) (at 11) (at 8) (at 9) (at 10) refl refl refl refl refl refl refl refl j
    ∷ one 12 (y 12) (y 13) (y 14) (y 15) (at 12) (at 13) (at 14) (at 15) refl refl refl refl refl refl refl refl j
    ∷ one 13 (y 13) (y 14) (y 15) (y 12) (at 13) (at 14) (at 15) (at 12) refl refl refl refl refl refl refl refl j
    ∷ one 14 (y 14) (y 15) (y 12) (y 13) (at 14) (at 15) (at 12) (at 13) refl refl refl refl refl refl refl refl j
    ∷ one 15 (y 15) (y 12) (y 13) (y 14) (at 15) (at 12) (at 13) (at 14) refl refl refl refl refl refl refl refl j ∷ []

crossed_pair : List ℕ → List ℕ
crossed_pair x = zip2 bit_xor x (map (mul8 2) (map (mul8 2) (zip2 bit_xor x (each_half (turned 2) x))))

both_back : (z : ℕ → ℕ) → ((i : ℕ) → z i < 256) → each_half mix_columns (crossed_pair (map z (range_with_len 0 32))) ≡ each_half inverse_mix_columns (map z (range_with_len 0 32))
unfolding crossed_pair crossed_block
both_back z at = λ j. block_back z at j ++ block_back (λ i. z (16 + i)) (λ i. at (16 + i)) j

pub mixed_back_is : (x two crossed twice four sum r : List ℕ) → IsVector 32 x → two ≡ each_half (turned 2) x → crossed ≡ zip2 bit_xor x two → twice ≡ map (mul8 2) crossed
    → four ≡ map (mul8 2) twice → sum ≡ zip2 bit_xor x four → r ≡ each_half mix_columns sum → r ≡ each_half inverse_mix_columns x
unfolding crossed_pair
mixed_back_is x two crossed twice four sum r fits a b c d e f =
    let whole : r ≡ each_half mix_columns (crossed_pair x) = rw (f, e, d, c, b, a) refl in
    whole
    ∙ subst (λ y. each_half mix_columns (crossed_pair y) ≡ each_half inverse_mix_columns y) (pick_l_whole 0 x 32 fits.0)
    (both_back (slice_index x) (λ i. byte_at x i fits.1))
