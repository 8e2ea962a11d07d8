-- look-ups, lane by lane
use Rattle.std.specs.Prelude.{◌≡◌, ℕ, ◌+◌, ◌*◌, ◌/◌, ◌<◌, ◌||◌, Bool, true, false, nat_lt, nat_le, List, [], ◌∷◌, ◌++◌, map, length, slice_index, bit_xor, IsTrue, refl}
use Rattle.std.specs.List.{range_with_len, list_all}
use Rattle.std.proofs.Common.{sym, ◌∙◌, ap, arith, get_or, cond, T, ltb, leb, ltb-true, zero-add, w8, Fits}
use Rattle.std.proofs.lemmas.Bool.{false≢true}
use Rattle.std.proofs.lemmas.List.{get_or-map, get_or_append_left, length-map, ext_get_or}
use Rattle.std.proofs.lemmas.List.Elements.{All-from_get_or}
use Rattle.std.proofs.lemmas.Simd.{Each1-from_get_or, Each1-get_or, SwzOk, SwzOk-from_Each1, swz_l, length-swz_l, get_or-swz_l, zip2_of_maps, map-map}
use lib.Lanes.{zip2, Each1, pick_l}
use mir.Val.{zeroes}
use Rattle.std_defs.specs.Aes.{inverse_sbox}
use Rattle.std_defs.proofs.Tables.{inverse_sbox_table, inverse_sbox_at}
use Rattle.std_defs.proofs.Enumerate.{true_below, same_below, same_below₂}
use Rattle.aes_lanes.specs.Lookup.{is_index, AreIndices, look, low, high, inverse_to_tower, inverse_from_tower, both, p_of, q_of, first_part, second_part}

abbrev pub IsVector : ℕ → List ℕ → Type 0
IsVector n v = (length v ≡ n) × Each1 (Fits w8) v

pub lane_below : (n : ℕ) (v : List ℕ) (i : ℕ) → IsVector n v → i < n → get_or v i 0 < 256
lane_below n v i h l = (Each1-get_or (Fits w8) v i 0 (omega (arith, h.0)) h.1).fits

-- an index is one that the shuffle takes
or_swap : (a b : Bool) → a || b ≡ true → T (b || a)
or_swap true true e = tt
or_swap true false e = tt
or_swap false true e = tt
or_swap false false e = absurd (false≢true e)

pub indices_ok : (b n : ℕ) (js : List ℕ) → n ≡ b * 16 → length js ≡ n → AreIndices js → SwzOk w8 16 n 0 js
indices_ok b n js e long h =
    SwzOk-from_Each1 w8 16 b n 0 js e (omega arith)
    (Each1-from_get_or (λ j. T (zeroes 16 w8 j || ltb j 16)) js 0 (λ i l. or_swap (nat_lt (get_or js i 0) 16) (nat_le 128 (get_or js i 0)) (h i 0 l)))

-- each lane of a map over bytes is an index, where that was computed for each byte
pub indices_of : (n : ℕ) (g : ℕ → ℕ) (v js : List ℕ) → IsVector n v → js ≡ map g v → list_all (λ x. is_index (g x)) (range_with_len 0 256) ≡ true → AreIndices js
indices_of n g v js fits e t =
    All-from_get_or (λ j. IsTrue (is_index j)) js 0 (λ i l.
    let within : i < length v = omega (arith, ap length e, length-map v g) in
    let is : get_or js i 0 ≡ g (get_or v i 0) = ap (λ xs. get_or xs i 0) e ∙ get_or-map g v i 0 0 within in
    ap is_index is ∙ true_below (λ x. is_index (g x)) 256 t (get_or v i 0) (lane_below n v i fits (omega (arith, fits.0))))

pub indices_of_map : (g : ℕ → ℕ) (v js : List ℕ) → IsVector 32 v → js ≡ map g v → list_all (λ x. is_index (g x)) (range_with_len 0 256) ≡ true → AreIndices js
indices_of_map = indices_of 32

-- a table t of copies of s
pub looked_up : (n : ℕ) (t s js : List ℕ) → length js ≡ n → AreIndices js → ((i j : ℕ) → i < n → j < 16 → get_or t (16 * (i / 16) + j) 0 ≡ get_or s j 0)
    → swz_l w8 16 t 0 js ≡ map (look s) js
looked_up n t s js long ok copies =
    ext_get_or 0 _ _ (length-swz_l w8 16 t 0 js ∙ sym (length-map js (look s))) (λ i h.
    let lt : i < length js = omega (arith, length-swz_l w8 16 t 0 js) in
    let at = get_or-map (look s) js i 0 0 lt in
    get_or-swz_l w8 16 t 0 js i lt ∙ one (get_or js i 0) i (omega arith) (ok i 0 lt) ∙ sym at)
  where
    one : (j i : ℕ) → i < n → is_index j ≡ true → cond (leb 128 j) 0 (get_or t (16 * ((0 + i) / 16) + j) 0) ≡ look s j
    one j i l e = go (leb 128 j) refl
      where
        go : (b : Bool) → leb 128 j ≡ b → cond b 0 (get_or t (16 * ((0 + i) / 16) + j) 0) ≡ cond b 0 (get_or s j 0)
        go true f = refl
        go false f = ap (λ m. get_or t (16 * (m / 16) + j) 0) (zero-add i) ∙ copies i j l (small (ltb j 16) refl)
          where
            small : (a : Bool) → ltb j 16 ≡ a → j < 16
            small true g = ltb-true _ _ g
            small false g = absurd (false≢true (sym (ap (λ x. x || leb 128 j) g ∙ f) ∙ e))

-- what a shuffle gives that reads the table s from its start in each block of sixteen
pub spread_at : (n : ℕ) (s ks : List ℕ) → length s ≡ 16 → ((i j : ℕ) → i < n → j < 16 → 16 * (i / 16) + j < length ks)
    → map (λ i. map (λ j. get_or ks (16 * (i / 16) + j) 0) (range_with_len 0 16)) (range_with_len 0 n) ≡ map (λ i. map (λ j. j) (range_with_len 0 16)) (range_with_len 0 n)
    → (i j : ℕ) → i < n → j < 16 → get_or (pick_l 0 (s ++ s) ks) (16 * (i / 16) + j) 0 ≡ get_or s j 0
spread_at n s ks long within e i j l m =
    get_or-map (λ k. get_or (s ++ s) k 0) ks (16 * (i / 16) + j) 0 0 (within i j l m)
    ∙ ap (λ k. get_or (s ++ s) k 0) (same_below₂ (λ i j. get_or ks (16 * (i / 16) + j) 0) (λ i j. j) n 16 e i j l m)
    ∙ get_or_append_left s s 0 j (omega arith)

-- ---- vectors that were computed lane by lane from v

-- f of each lane, where the lanes were g of those of v
pub then : (f g : ℕ → ℕ) (v : List ℕ) {ys xs : List ℕ} → ys ≡ map f xs → xs ≡ map g v → ys ≡ map (λ x. f (g x)) v
then f g v e h = e ∙ ap (map f) h ∙ map-map f g v

-- the sum of two
pub both_of : (f g : ℕ → ℕ) (v : List ℕ) {zs xs ys : List ℕ} → zs ≡ zip2 bit_xor xs ys → xs ≡ map f v → ys ≡ map g v → zs ≡ map (λ x. bit_xor (f x) (g x)) v
both_of f g v e h k = e ∙ zip2_of_maps bit_xor f g v h k

-- two functions of a byte that are the same
pub map-lanes : (f g : ℕ → ℕ) → ((x : ℕ) → x < 256 → f x ≡ g x) → (v : List ℕ) → Each1 (Fits w8) v → map f v ≡ map g v
map-lanes f g e [] h = refl
map-lanes f g e (x ∷ v) h = rw (e x h.0.fits, map-lanes f g e v h.1) refl

-- ---- indices

abbrev pub Passes : (ℕ → ℕ) → Type 0
Passes g = list_all (λ x. is_index (g x)) (range_with_len 0 256) ≡ true

pub low_passes : Passes low
low_passes = refl

pub high_passes : Passes high
high_passes = refl

pub both_passes : Passes both
both_passes = refl

pub p_passes : Passes p_of
p_passes = refl

pub q_passes : Passes q_of
q_passes = refl

abbrev pub inverse_first_of_byte : ℕ → ℕ
inverse_first_of_byte x = first_part (inverse_to_tower x)

abbrev pub inverse_second_of_byte : ℕ → ℕ
inverse_second_of_byte x = second_part (inverse_to_tower x)

pub inverse_first_passes : Passes inverse_first_of_byte
inverse_first_passes = refl

pub inverse_second_passes : Passes inverse_second_of_byte
inverse_second_passes = refl

-- ---- the inverse S-box

abbrev pub inverse_substituted : ℕ → ℕ
inverse_substituted x = inverse_from_tower (inverse_first_of_byte x) (inverse_second_of_byte x)

inverse_substituted_is : (x : ℕ) → x < 256 → inverse_substituted x ≡ inverse_sbox x
unfolding inverse_sbox_table
inverse_substituted_is x h = same_below inverse_substituted (slice_index inverse_sbox_table) 256 refl x h ∙ sym (inverse_sbox_at x h)

pub inverse_substituted_all : (v xs : List ℕ) → IsVector 32 v → xs ≡ map inverse_substituted v → xs ≡ map inverse_sbox v
inverse_substituted_all v xs fits e = e ∙ map-lanes inverse_substituted inverse_sbox inverse_substituted_is v fits.1
