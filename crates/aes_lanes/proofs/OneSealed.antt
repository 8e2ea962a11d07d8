-- one block sealed in the tower
use Rattle.std.specs.Prelude.{◌≡◌, ℕ, suc, ◌+◌, ◌-◌, ◌*◌, ◌/◌, ◌%◌, ◌<◌, ◌≤◌, List, ◌++◌, map, length, take, slice_index, bit_xor, refl}
use Rattle.std.specs.Fn.{iterate}
use Rattle.std.specs.Int.Bits.{xor_assoc}
use Rattle.std.proofs.Common.{sym, ◌∙◌, ap, ap₂, arith, subst}
use Rattle.std.proofs.lemmas.List.{length-map}
use Rattle.std.proofs.lemmas.Nat.{xor_comm}
use Rattle.std.proofs.lemmas.Simd.{map-map, pick_l_whole}
use lib.Lanes.{zip2}
use Rattle.std_defs.specs.Aes.{mul8, places, sbox, add_round_key, sub_bytes, shift_rows, mix_columns, after_rounds, key_schedule, seal}
use Rattle.std_defs.proofs.Mul8.{mul8-xor, xor_swap}
use Rattle.aes_block.specs.Schedule.{IsSchedule, key_of}
use Rattle.aes_block.proofs.Rounds.{sealing_more, sealed_all}
use Rattle.aes_block.specs.KeyBlock.{key_block}
use Rattle.aes_block.proofs.KeyBlocks.{plain_key, first_key, block_long, of_places}
use Rattle.aes_lanes.specs.Pairs.{turned}
use Rattle.aes_lanes.specs.RowKeys.{less_constant}
use Rattle.aes_lanes.specs.SealingTower.{tower_byte, less_sbox, ordered}
use Rattle.aes_lanes.proofs.Halves.{front}
use Rattle.aes_lanes.proofs.Lookups.{IsVector}
use Rattle.aes_lanes.proofs.Mixing.{mixed_lanes, mixed_block}
use Rattle.aes_lanes.proofs.RowsMixed.{AreBytes}
use Rattle.aes_lanes.proofs.RowsSealed.{made_row, made_bytes, keyed_block}
use Rattle.aes_lanes.proofs.SealingTerms.{all_added}
use Rattle.aes_lanes.proofs.Shifted.{shift_map, shifts_long, shifts_more, shifts_map, shifts_sum, shifts_bytes}

-- ---- MixColumns

block_mixed : (s : List ℕ) → length s ≡ 16 → AreBytes s → mixed_lanes s ≡ mix_columns s
block_mixed = of_places 16 (λ s. AreBytes s → mixed_lanes s ≡ mix_columns s) (λ z h. subst (λ (v : List ℕ). mixed_lanes v ≡ mix_columns v) (pick_l_whole 0 (map z places) 16 refl) (mixed_block (slice_index (map z places)) h))

terms_moved : (a b c d k : ℕ) → bit_xor (bit_xor (bit_xor d k) (bit_xor (mul8 2 a) b)) (bit_xor (mul8 2 b) c) ≡ bit_xor (bit_xor (bit_xor (mul8 2 (bit_xor a b)) b) (bit_xor c d)) k
terms_moved a b c d k =
    let p : ℕ = mul8 2 a in
    let q : ℕ = mul8 2 b in
    let sums : ℕ = bit_xor (bit_xor p q) (bit_xor b c) in
    xor_assoc (bit_xor d k) (bit_xor p b) (bit_xor q c) ∙ xor_comm (bit_xor d k) (bit_xor (bit_xor p b) (bit_xor q c)) ∙ ap (λ v. bit_xor v (bit_xor d k)) (xor_swap p b q c)
    ∙ sym (xor_assoc sums d k)
    ∙ ap (λ v. bit_xor v k) (ap (λ v. bit_xor v d) (sym (xor_assoc (bit_xor p q) b c)) ∙ xor_assoc (bit_xor (bit_xor p q) b) c d)
    ∙ ap (λ v. bit_xor (bit_xor (bit_xor v b) (bit_xor c d)) k) (sym (mul8-xor 2 a b))

-- what the function `one_round` adds up, of the bytes s behind the S-box and the key k, both in order
unfoldable pub mixed_with : List ℕ → List ℕ → List ℕ
mixed_with s k =
    let front : List ℕ = zip2 bit_xor (map (mul8 2) s) (turned 1 s) in
    zip2 bit_xor (zip2 bit_xor (zip2 bit_xor (turned 3 s) k) front) (turned 1 front)

pub lanes_moved : (s k : List ℕ) → length s ≡ 16 → length k ≡ 16 → mixed_with s k ≡ zip2 bit_xor (mixed_lanes s) k
unfolding mixed_with mixed_lanes
lanes_moved s k long key_long =
    of_places 16 (λ s. mixed_with s k ≡ zip2 bit_xor (mixed_lanes s) k) (λ z.
    of_places 16 (λ k. mixed_with (map z places) k ≡ zip2 bit_xor (mixed_lanes (map z places)) k) (λ w j.
    map (λ i. terms_moved (z i) (z (4 * (i / 4) + (i + 1) % 4)) (z (4 * (i / 4) + (i + 2) % 4)) (z (4 * (i / 4) + (i + 3) % 4)) (w i) j) places) k key_long) s long

-- ---- a round

made_in_order : (n : ℕ) (y : List ℕ) → length y ≡ 16 → iterate shift_rows n (made_row y) ≡ map less_sbox (ordered n y)
made_in_order n y long =
    ap (iterate shift_rows n) (sym (map-map less_sbox tower_byte y)) ∙ sym (shifts_map less_sbox n (map tower_byte y) (length-map y tower_byte ∙ long))

once_in_order : (n : ℕ) (y once : List ℕ) → length y ≡ 16 → map tower_byte once ≡ made_row y → ordered n once ≡ map less_sbox (ordered n y)
once_in_order n y once long e = ap (iterate shift_rows n) e ∙ made_in_order n y long

twice_in_order : (n : ℕ) (y twice : List ℕ) → length y ≡ 16 → map tower_byte twice ≡ map (λ y. mul8 2 (less_sbox (tower_byte y))) y
    → ordered n twice ≡ map (mul8 2) (map less_sbox (ordered n y))
twice_in_order n y twice long e =
    ap (iterate shift_rows n) (e ∙ sym (map-map (mul8 2) (λ y. less_sbox (tower_byte y)) y))
    ∙ sym (shifts_map (mul8 2) n (made_row y) (length-map y (λ y. less_sbox (tower_byte y)) ∙ long))
    ∙ ap (map (mul8 2)) (made_in_order n y long)

pub one_round_is : (n : ℕ) (y key once twice next front last rest most turn r : List ℕ) → IsVector 16 y → length key ≡ 16
    → map tower_byte once ≡ map (λ y. less_sbox (tower_byte y)) y → map tower_byte twice ≡ map (λ y. mul8 2 (less_sbox (tower_byte y))) y
    → ordered n next ≡ turned 1 (ordered n once) → ordered n front ≡ zip2 bit_xor (ordered n twice) (ordered n next)
    → ordered n last ≡ turned 3 (ordered n once) → ordered n rest ≡ zip2 bit_xor (ordered n last) (ordered n key)
    → ordered n most ≡ zip2 bit_xor (ordered n rest) (ordered n front) → ordered n turn ≡ turned 1 (ordered n front)
    → ordered n r ≡ zip2 bit_xor (ordered n most) (ordered n turn)
    → ordered n r ≡ zip2 bit_xor (mix_columns (map less_sbox (ordered n y))) (ordered n key)
unfolding mixed_with
one_round_is n y key once twice next front last rest most turn r fits key_long e1 e2 e3 e4 e5 e6 e7 e8 e9 =
    let a : List ℕ = map less_sbox (ordered n y) in
    let k : List ℕ = ordered n key in
    let made : ordered n once ≡ map less_sbox (ordered n y) = once_in_order n y once fits.0 e1 in
    let long : length a ≡ 16 = length-map (ordered n y) less_sbox ∙ shifts_long n (map tower_byte y) (length-map y tower_byte ∙ fits.0) in
    let bytes : AreBytes a = subst AreBytes (made_in_order n y fits.0) (shifts_bytes n (made_row y) (made_bytes y fits.1)) in
    let f : ordered n front ≡ zip2 bit_xor (map (mul8 2) a) (turned 1 a) = e4 ∙ ap₂ (zip2 bit_xor) (twice_in_order n y twice fits.0 e2) (e3 ∙ ap (turned 1) made) in
    let all : ordered n r ≡ mixed_with a k =
    e9 ∙ ap₂ (zip2 bit_xor) (e7 ∙ ap₂ (zip2 bit_xor) (e6 ∙ ap (λ (v : List ℕ). zip2 bit_xor v k) (e5 ∙ ap (turned 3) made)) f) (e8 ∙ ap (turned 1) f) in
    all ∙ lanes_moved a k long (shifts_long n (map tower_byte key) (length-map key tower_byte ∙ key_long)) ∙ ap (λ (v : List ℕ). zip2 bit_xor v k) (block_mixed a long bytes)

pub sum_in_order : (x y r : List ℕ) → IsVector 16 x → IsVector 16 y → r ≡ zip2 bit_xor x y → (n : ℕ) → ordered n r ≡ zip2 bit_xor (ordered n x) (ordered n y)
sum_in_order x y r h k e n =
    ap (ordered n) e ∙ ap (iterate shift_rows n) (all_added x y h.1 k.1)
    ∙ shifts_sum n (map tower_byte x) (map tower_byte y) (length-map x tower_byte ∙ h.0) (length-map y tower_byte ∙ k.0)

pub keyed_state : (ws : List (List ℕ)) (r : ℕ) (s : List ℕ) → length s ≡ 16
    → zip2 bit_xor (mix_columns (shift_rows (map less_sbox s))) (map less_constant (key_block ws r)) ≡ add_round_key ws r (mix_columns (shift_rows (sub_bytes s)))
keyed_state ws r = of_places 16 (λ s. zip2 bit_xor (mix_columns (shift_rows (map less_sbox s))) (map less_constant (key_block ws r)) ≡ add_round_key ws r (mix_columns (shift_rows (sub_bytes s)))) (keyed_block ws r)

pub front_key : (ws : List (List ℕ)) (r : ℕ) (x key : List ℕ) → key ≡ take 16 x → x ≡ key_block ws r ++ key_block ws r → key ≡ key_block ws r
front_key ws r x key e h = e ∙ ap (take 16) h ∙ front (key_block ws r) (key_block ws r) (block_long ws r)

pub one_begun : (r : ℕ) (ws : List (List ℕ)) (b key sum y : List ℕ) → IsSchedule r ws → length b ≡ 16 → key ≡ key_block ws 0 → sum ≡ zip2 bit_xor b key → map tower_byte y ≡ sum
    → ordered 0 y ≡ after_rounds (key_schedule (key_of r ws)) b 0
one_begun r ws b key sum y h long k e f = f ∙ e ∙ ap (zip2 bit_xor b) k ∙ plain_key ws 0 b long ∙ first_key r ws b h

-- a state that ShiftRows, done once for each round before, puts in order is there for the next round when it was done
-- once more
next_order : (i : ℕ) (s : List ℕ) → 1 ≤ i → iterate shift_rows i s ≡ shift_rows (iterate shift_rows (i - 1) s)
next_order i s from =
    let next : i ≡ suc (i - 1) = omega arith in
    ap (λ n. iterate shift_rows n s) next ∙ shifts_more (i - 1) s

pub one_more : (r : ℕ) (ws : List (List ℕ)) (i : ℕ) (b y key z : List ℕ) → IsSchedule r ws → 1 ≤ i → i < r → length y ≡ 16 → ordered i key ≡ map less_constant (key_block ws i)
    → ordered (i - 1) y ≡ after_rounds (key_schedule (key_of r ws)) b (i - 1)
    → ordered i z ≡ zip2 bit_xor (mix_columns (map less_sbox (ordered i y))) (ordered i key)
    → ordered (i + 1 - 1) z ≡ after_rounds (key_schedule (key_of r ws)) b (i + 1 - 1)
one_more r ws i b y key z h from below long k before e =
    let s : List ℕ = ordered (i - 1) y in
    let sl : length (ordered (i - 1) y) ≡ 16 = shifts_long (i - 1) (map tower_byte y) (length-map y tower_byte ∙ long) in
    let same : i + 1 - 1 ≡ i = omega arith in
    ap (λ n. ordered n z) same ∙ e
    ∙ ap₂ (λ (s t : List ℕ). zip2 bit_xor (mix_columns s) t) (ap (map less_sbox) (next_order i (map tower_byte y) from) ∙ shift_map less_sbox s sl) k
    ∙ keyed_state ws i s sl
    ∙ sealing_more r ws b s i h from below before

pub one_end : (r : ℕ) (ws : List (List ℕ)) (i : ℕ) (b y made shifted key z : List ℕ) → IsSchedule r ws → i ≡ r → 1 ≤ r → length y ≡ 16 → key ≡ key_block ws r
    → ordered (i - 1) y ≡ after_rounds (key_schedule (key_of r ws)) b (i - 1) → made ≡ map (λ y. sbox (tower_byte y)) y → shifted ≡ iterate shift_rows r made → z ≡ zip2 bit_xor shifted key
    → z ≡ seal (key_of r ws) b
unfolding shift_rows
one_end r ws i b y made shifted key z h at from long k before em es e =
    let t : List ℕ = map tower_byte y in
    let tl : length (map tower_byte y) ≡ 16 = length-map y tower_byte ∙ long in
    let s : List ℕ = ordered (r - 1) y in
    let m : shifted ≡ shift_rows (sub_bytes s) =
    es ∙ ap (iterate shift_rows r) (em ∙ sym (map-map sbox tower_byte y)) ∙ sym (shifts_map sbox r t tl)
    ∙ ap (map sbox) (next_order r t from) ∙ shift_map sbox s (shifts_long (r - 1) t tl) in
    e ∙ ap₂ (zip2 bit_xor) m k ∙ plain_key ws r (shift_rows (sub_bytes s)) refl
    ∙ sealed_all r ws b s h (subst (λ (n : ℕ). ordered (n - 1) y ≡ after_rounds (key_schedule (key_of r ws)) b (n - 1)) at before)
