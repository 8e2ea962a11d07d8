-- two blocks sealed side by side in the tower
use Rattle.std.specs.Prelude.{◌≡◌, ℕ, ◌+◌, ◌-◌, ◌<◌, ◌≤◌, List, ◌++◌, map, length, slice_index, bit_xor, refl}
use Rattle.std.specs.List.{range_with_len}
use Rattle.std.proofs.Common.{sym, ◌∙◌, ap, ap₂, arith, subst}
use Rattle.std.proofs.lemmas.List.{length-map}
use Rattle.std.proofs.lemmas.Simd.{map-map, pick_l_whole}
use lib.Lanes.{zip2}
use Rattle.std_defs.specs.Aes.{mul8, places, sbox, add_round_key, shift_rows, mix_columns, after_rounds, key_schedule, seal}
use Rattle.aes_block.specs.Schedule.{IsSchedule, key_of}
use Rattle.aes_block.proofs.Rounds.{round_key_is, sealing_more, sealed_all}
use Rattle.aes_block.specs.KeyBlock.{key_block}
use Rattle.aes_block.proofs.KeyBlocks.{of_places}
use Rattle.aes_lanes.specs.Pairs.{each_half, turned}
use Rattle.aes_lanes.specs.RowKeys.{less_constant}
use Rattle.aes_lanes.specs.SealingTower.{tower_byte, less_sbox}
use Rattle.aes_lanes.proofs.Lookups.{IsVector}
use Rattle.aes_lanes.proofs.Mixing.{mixed_block}
use Rattle.aes_lanes.proofs.RowsMixed.{AreBytes}
use Rattle.aes_lanes.proofs.RowsSealed.{made_row, made_bytes}
use Rattle.aes_lanes.proofs.OneSealed.{mixed_with, lanes_moved, keyed_state}
use Rattle.aes_lanes.proofs.Shifted.{shift_map, shift_long}
use Rattle.aes_lanes.proofs.Sides.{each_half_same, each_half_then, map_of_each_half, both_long, mix_long, key_long, rounds_long}

-- ---- a round

one_on_map : (f : ℕ → ℕ) (x : List ℕ) → length x ≡ 32 → map f (each_half (turned 1) x) ≡ each_half (turned 1) (map f x)
one_on_map f = of_places 32 (λ x. map f (each_half (turned 1) x) ≡ each_half (turned 1) (map f x)) (λ z. refl)

three_on_map : (f : ℕ → ℕ) (x : List ℕ) → length x ≡ 32 → map f (each_half (turned 3) x) ≡ each_half (turned 3) (map f x)
three_on_map f = of_places 32 (λ x. map f (each_half (turned 3) x) ≡ each_half (turned 3) (map f x)) (λ z. refl)

shifted_map : (f : ℕ → ℕ) (x : List ℕ) → length x ≡ 32 → map f (each_half shift_rows x) ≡ each_half shift_rows (map f x)
unfolding shift_rows
shifted_map f = of_places 32 (λ x. map f (each_half shift_rows x) ≡ each_half shift_rows (map f x)) (λ z. refl)

-- what the function `pair_mixed` adds up, of the bytes s behind the S-box and the key k
pair_with : List ℕ → List ℕ → List ℕ
pair_with s k =
    let front : List ℕ = zip2 bit_xor (map (mul8 2) s) (each_half (turned 1) s) in
    zip2 bit_xor (zip2 bit_xor (zip2 bit_xor (each_half (turned 3) s) k) front) (each_half (turned 1) front)

one_with : (z w : ℕ → ℕ) → ((i : ℕ) → z i < 256) → mixed_with (map z places) (map w places) ≡ zip2 bit_xor (mix_columns (map z places)) (map w places)
one_with z w at = lanes_moved (map z places) (map w places) refl refl ∙ ap (λ (v : List ℕ). zip2 bit_xor v (map w places)) (mixed_block z at)

both_with : (z w : ℕ → ℕ) → ((i : ℕ) → z i < 256)
    → pair_with (map z (range_with_len 0 32)) (map w (range_with_len 0 32)) ≡ zip2 bit_xor (each_half mix_columns (map z (range_with_len 0 32))) (map w (range_with_len 0 32))
unfolding pair_with mixed_with mix_columns
both_with z w at = λ j. one_with z w at j ++ one_with (λ i. z (16 + i)) (λ i. w (16 + i)) (λ i. at (16 + i)) j

with_mixed : (s k : List ℕ) → length s ≡ 32 → length k ≡ 32 → AreBytes s → pair_with s k ≡ zip2 bit_xor (each_half mix_columns s) k
with_mixed s k long key_long bytes =
    of_places 32 (λ k. pair_with s k ≡ zip2 bit_xor (each_half mix_columns s) k) (λ w.
    subst (λ (v : List ℕ). pair_with v (map w (range_with_len 0 32)) ≡ zip2 bit_xor (each_half mix_columns v) (map w (range_with_len 0 32))) (pick_l_whole 0 s 32 long) (both_with (slice_index s) w bytes)) k key_long

pub pair_mixed_is : (s key once twice next front last rest most turn r : List ℕ) → IsVector 32 s → length key ≡ 32 → length once ≡ 32 → length front ≡ 32
    → map tower_byte once ≡ map (λ y. less_sbox (tower_byte y)) s → map tower_byte twice ≡ map (λ y. mul8 2 (less_sbox (tower_byte y))) s
    → next ≡ each_half (turned 1) once → map tower_byte front ≡ zip2 bit_xor (map tower_byte twice) (map tower_byte next)
    → last ≡ each_half (turned 3) once → map tower_byte rest ≡ zip2 bit_xor (map tower_byte last) (map tower_byte key)
    → map tower_byte most ≡ zip2 bit_xor (map tower_byte rest) (map tower_byte front) → turn ≡ each_half (turned 1) front
    → map tower_byte r ≡ zip2 bit_xor (map tower_byte most) (map tower_byte turn)
    → map tower_byte r ≡ zip2 bit_xor (each_half mix_columns (map less_sbox (map tower_byte s))) (map tower_byte key)
unfolding pair_with
pair_mixed_is s key once twice next front last rest most turn r fits key_long once_long front_long e1 e2 e3 e4 e5 e6 e7 e8 e9 =
    let a : List ℕ = map less_sbox (map tower_byte s) in
    let k : List ℕ = map tower_byte key in
    let row : made_row s ≡ a = sym (map-map less_sbox tower_byte s) in
    let made : map tower_byte once ≡ a = e1 ∙ row in
    let doubled : map tower_byte twice ≡ map (mul8 2) a = e2 ∙ sym (map-map (mul8 2) (λ y. less_sbox (tower_byte y)) s) ∙ ap (map (mul8 2)) row in
    let f : map tower_byte front ≡ zip2 bit_xor (map (mul8 2) a) (each_half (turned 1) a) =
    e4 ∙ ap₂ (zip2 bit_xor) doubled (ap (map tower_byte) e3 ∙ one_on_map tower_byte once once_long ∙ ap (each_half (turned 1)) made) in
    let l : map tower_byte last ≡ each_half (turned 3) a = ap (map tower_byte) e5 ∙ three_on_map tower_byte once once_long ∙ ap (each_half (turned 3)) made in
    let all : map tower_byte r ≡ pair_with a k =
    e9 ∙ ap₂ (zip2 bit_xor) (e7 ∙ ap₂ (zip2 bit_xor) (e6 ∙ ap (λ (v : List ℕ). zip2 bit_xor v k) l) f) (ap (map tower_byte) e8 ∙ one_on_map tower_byte front front_long ∙ ap (each_half (turned 1)) f) in
    all
    ∙ with_mixed a k (length-map (map tower_byte s) less_sbox ∙ length-map s tower_byte ∙ fits.0) (length-map key tower_byte ∙ key_long) (subst AreBytes row (made_bytes s fits.1))

-- ---- rounds

-- both blocks of x after n rounds with MixColumns
abbrev pub rounds_of : ℕ → List (List ℕ) → ℕ → List ℕ → List ℕ
rounds_of r ws n x = each_half (λ s. after_rounds (key_schedule (key_of r ws)) s n) x

pub pair_begun : (r : ℕ) (ws : List (List ℕ)) (x y : List ℕ) → IsSchedule r ws → map tower_byte y ≡ each_half (add_round_key ws 0) x → map tower_byte y ≡ rounds_of r ws 0 x
unfolding after_rounds
pair_begun r ws x y h d =
    d ∙ each_half_same (add_round_key ws 0) (add_round_key (key_schedule (key_of r ws)) 0) (λ s. round_key_is r ws 0 s h (omega arith)) x

shifted_rounds : (r : ℕ) (ws : List (List ℕ)) (n : ℕ) (x y sh : List ℕ) → length y ≡ 32 → map tower_byte y ≡ rounds_of r ws n x → sh ≡ each_half shift_rows y
    → map tower_byte sh ≡ each_half (λ s. shift_rows (after_rounds (key_schedule (key_of r ws)) s n)) x
shifted_rounds r ws n x y sh long before e =
    let k : List (List ℕ) = key_schedule (key_of r ws) in
    ap (map tower_byte) e ∙ shifted_map tower_byte y long ∙ ap (each_half shift_rows) before
    ∙ each_half_then (λ s. after_rounds k s n) shift_rows (λ s. rounds_long k n s) x

pair_keyed : (ws : List (List ℕ)) (r : ℕ) (m : List ℕ) → length m ≡ 32
    → zip2 bit_xor m (map less_constant (key_block ws r ++ key_block ws r)) ≡ each_half (λ s. zip2 bit_xor s (map less_constant (key_block ws r))) m
unfolding key_block
pair_keyed ws r =
    of_places 32 (λ m. zip2 bit_xor m (map less_constant (key_block ws r ++ key_block ws r)) ≡ each_half (λ s. zip2 bit_xor s (map less_constant (key_block ws r))) m) (λ z. refl)

pub pair_more : (r : ℕ) (ws : List (List ℕ)) (i : ℕ) (x y sh key z : List ℕ) → IsSchedule r ws → 1 ≤ i → i < r → length y ≡ 32
    → map tower_byte key ≡ map less_constant (key_block ws i ++ key_block ws i) → map tower_byte y ≡ rounds_of r ws (i - 1) x → sh ≡ each_half shift_rows y
    → map tower_byte z ≡ zip2 bit_xor (each_half mix_columns (map less_sbox (map tower_byte sh))) (map tower_byte key) → map tower_byte z ≡ rounds_of r ws (i + 1 - 1) x
pair_more r ws i x y sh key z h from below long ek before es e =
    e
    ∙ ap₂ (λ (v w : List ℕ). zip2 bit_xor (each_half mix_columns (map less_sbox v)) w) (shifted_rounds r ws (i - 1) x y sh long before es) ek
    ∙ ap (λ (v : List ℕ). zip2 bit_xor v (map less_constant (key_block ws i ++ key_block ws i)))
    (ap (each_half mix_columns) (map_of_each_half less_sbox (λ s. shift_rows (state s)) x)
    ∙ each_half_then (λ s. map less_sbox (shift_rows (state s))) mix_columns (λ s. length-map (shift_rows (state s)) less_sbox ∙ shift_long (state s)) x)
    ∙ pair_keyed ws i (each_half mixed x) (both_long mixed (λ s. mix_long (map less_sbox (shift_rows (state s)))) x)
    ∙ each_half_then mixed (λ s. zip2 bit_xor s (map less_constant (key_block ws i))) (λ s. mix_long (map less_sbox (shift_rows (state s)))) x
    ∙ each_half_same (λ s. zip2 bit_xor (mixed s) (map less_constant (key_block ws i))) (λ s. after_rounds (key_schedule (key_of r ws)) s (i + 1 - 1)) (λ s.
    ap (λ (v : List ℕ). zip2 bit_xor (mix_columns v) (map less_constant (key_block ws i))) (shift_map less_sbox (state s) (state_long s))
    ∙ keyed_state ws i (state s) (state_long s)
    ∙ sealing_more r ws s (state s) i h from below refl) x
  where
    state : List ℕ → List ℕ
    state s = after_rounds (key_schedule (key_of r ws)) s (i - 1)

    state_long : (s : List ℕ) → length (after_rounds (key_schedule (key_of r ws)) s (i - 1)) ≡ 16
    state_long s = rounds_long (key_schedule (key_of r ws)) (i - 1) s

    mixed : List ℕ → List ℕ
    mixed s = mix_columns (map less_sbox (shift_rows (after_rounds (key_schedule (key_of r ws)) s (i - 1))))

pub pair_end : (r : ℕ) (ws : List (List ℕ)) (i : ℕ) (x y sh z : List ℕ) → IsSchedule r ws → i ≡ r → length y ≡ 32
    → map tower_byte y ≡ rounds_of r ws (i - 1) x → sh ≡ each_half shift_rows y → z ≡ each_half (add_round_key ws r) (map (λ y. sbox (tower_byte y)) sh) → z ≡ each_half (seal (key_of r ws)) x
pair_end r ws i x y sh z h at long before es e =
    e
    ∙ ap (each_half (add_round_key ws r))
    (sym (map-map sbox tower_byte sh)
    ∙ ap (map sbox) (shifted_rounds r ws (r - 1) x y sh long (before ∙ ap (λ (n : ℕ). rounds_of r ws (n - 1) x) at) es)
    ∙ map_of_each_half sbox (λ s. shift_rows (state s)) x)
    ∙ each_half_then (λ s. map sbox (shift_rows (state s))) (add_round_key ws r) (λ s. length-map (shift_rows (state s)) sbox ∙ shift_long (state s)) x
    ∙ each_half_same (λ s. add_round_key ws r (map sbox (shift_rows (state s)))) (seal (key_of r ws)) (λ s.
    ap (add_round_key ws r) (shift_map sbox (state s) (rounds_long (key_schedule (key_of r ws)) (r - 1) s))
    ∙ sealed_all r ws s (state s) h refl) x
  where
    state : List ℕ → List ℕ
    state s = after_rounds (key_schedule (key_of r ws)) s (r - 1)
