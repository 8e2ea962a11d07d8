-- Rows of bytes, as the lanes of vectors have them.
use Rattle.std.proofs.Common.{length-take, replicate, ◌≡◌, ℕ, zero, suc, ◌+◌, ◌-◌, ◌*◌, ◌/◌, ◌%◌, ◌^◌, ◌<◌, ◌≤◌, bit_and, bit_xor, refl, sym, ap, ap₂, ◌∙◌, arith, List, [], ◌∷◌, ◌++◌, map, get_or, take, length, lit<, subst, ⊎_elim, w8, Fits, slice_index, zero-add, add-one}
use Rattle.std.specs.List.{range_with_len}
use Rattle.std.specs.Int.Bits.{xor_shifted, xor_lt, xor_shr, xor_mod}
use Rattle.std.proofs.lemmas.Nat.{and_mask, mod_below, shl_below, mod-pow-add}
use Rattle.std.proofs.lemmas.Bool.{cases_lt}
use Rattle.std.proofs.lemmas.List.{length-replicate, get_or-replicate, get_or_past, get_or-take, get_or-map, length-map, get_or_append_left, get_or-append_right, length-append}
use Rattle.std.proofs.lemmas.List.FromFn.{get_or-map-range_with_len}
use Rattle.std.proofs.lemmas.Simd.{get_or-zip2, length-zip2, Each1-get_or, Each1-from_get_or, SwzOk, SwzOk-from_below, swz_l, get_or-swz_l_below, pick_l_whole}
use lib.Lanes.{zip2, Each1, pick_l}
use Rattle.std_defs.specs.Blocks.{block_number, block_bytes}
use Rattle.std_defs.specs.GhashField.{field_product, polynomial_of, field_power}
use Rattle.std_defs.proofs.Multiples.{times_x, times_power, times_power-zero, xor_swap, multiple}
use Rattle.std_defs.proofs.Field.{field_product-multiple, field_product-comm, field_product-xor_left, field_product-lt, field_product-one, field_power-lt}
use Rattle.ghash_field.specs.ByteRows.{whole, sum_of_eight, byte_of, front, spread, AreRows, AreProducts, row_of, column, in_halves, AreHalves}
use Rattle.ghash_field.specs.Transposition.{AreTransposed}
use Rattle.ghash_field.proofs.BlockLanes.{block_bytes-at, length-block_bytes}
use Rattle.ghash_field.proofs.HalfBytes.{row_at, first_power, next_power}
use Rattle.ghash_field.specs.declared.byte_rows.Row.{Row}
use Rattle.ghash_field.proofs.ByteSums.{shift, spread-swap, multiple-spread, spread-number, number, spread-same, spread-xor, front-xor, block_number-spread}
use Rattle.ghash_field.proofs.MovedOn.{block_number-xor, whole_more, AreSmall, folded, last_is_zero}
use Rattle.std_defs.proofs.FieldBytes.{block_number-lt, block_number-block_bytes}

abbrev pub IsVector : ℕ → List ℕ → Type 0
IsVector n v = (length v ≡ n) × Each1 (Fits w8) v

-- what holds of all vectors of n lanes that are read place by place
pub of_places : (n : ℕ) (P : List ℕ → Type 0) → ((z : ℕ → ℕ) → P (map z (range_with_len 0 n))) → (x : List ℕ) → length x ≡ n → P x
of_places n P h x long = subst P (pick_l_whole 0 x n long) (h (slice_index x))

pub small_lanes : (n : ℕ) (v : List ℕ) → IsVector n v → AreSmall v
small_lanes n v h i =
    ⊎_elim
    (λ (l : i < length v). (Each1-get_or (Fits w8) v i 0 l h.1).fits)
    (λ (l : length v ≤ i). rw (get_or_past v i 0 l) (lit< tt))
    (cases_lt i (length v))

-- ---- the whole, reduced

pub reduced_is : (v : ℕ) (high : List ℕ) → AreSmall high → get_or high 15 0 ≡ 0 → v ≡ block_number high
    → bit_xor (bit_xor (bit_xor v (v / 2)) (v / 4)) (v / 128) ≡ times_power 128 (block_number high)
reduced_is v high small none e = from (last_is_zero high small none)
  where
    from : (a : ℕ) × (block_number high ≡ a * 2 ^ 8) → bit_xor (bit_xor (bit_xor v (v / 2)) (v / 4)) (v / 128) ≡ times_power 128 (block_number high)
    from (a, known) = sym (folded a v (e ∙ known) (subst (λ (t : ℕ). t < 2 ^ 128) (sym e) (block_number-lt high small))) ∙ ap (times_power 128) e

pub moved_on : (low : List ℕ) → length low ≡ 16 → pick_l 0 (low ++ (0 ∷ 0 ∷ 0 ∷ 0 ∷ 0 ∷ 0 ∷ 0 ∷ 0 ∷ 0 ∷ 0 ∷ 0 ∷ 0 ∷ 0 ∷ 0 ∷ 0 ∷ 0 ∷ [])) (16 ∷ range_with_len 0 15) ≡ 0 ∷ take 15 low
moved_on low long = of_places 16 (λ x. pick_l 0 (x ++ (0 ∷ 0 ∷ 0 ∷ 0 ∷ 0 ∷ 0 ∷ 0 ∷ 0 ∷ 0 ∷ 0 ∷ 0 ∷ 0 ∷ 0 ∷ 0 ∷ 0 ∷ 0 ∷ [])) (16 ∷ range_with_len 0 15) ≡ 0 ∷ take 15 x) (λ z. refl) low long

-- ---- halves of a vector

pub in_halves-xor : (x y : List ℕ) → length x ≡ 32 → length y ≡ 32 → in_halves (zip2 bit_xor x y) ≡ bit_xor (in_halves x) (in_halves y)
in_halves-xor x y lx ly =
    spread-same 16 (λ j. front (bit_xor (get_or z j 0) (get_or z (16 + j) 0)))
    (λ j. bit_xor (front (bit_xor (get_or x j 0) (get_or x (16 + j) 0))) (front (bit_xor (get_or y j 0) (get_or y (16 + j) 0))))
    (λ j h.
    ap front (ap₂ bit_xor (at j (omega arith)) (at (16 + j) (omega arith)) ∙ xor_swap (get_or x j 0) (get_or y j 0) (get_or x (16 + j) 0) (get_or y (16 + j) 0))
    ∙ sym (front-xor (bit_xor (get_or x j 0) (get_or x (16 + j) 0)) (bit_xor (get_or y j 0) (get_or y (16 + j) 0))))
    ∙ spread-xor 16 (λ j. front (bit_xor (get_or x j 0) (get_or x (16 + j) 0))) (λ j. front (bit_xor (get_or y j 0) (get_or y (16 + j) 0)))
  where
    z : List ℕ
    z = zip2 bit_xor x y

    at : (i : ℕ) → i < 32 → get_or (zip2 bit_xor x y) i 0 ≡ bit_xor (get_or x i 0) (get_or y i 0)
    at i h = get_or-zip2 bit_xor x y i 0 0 0 (omega arith) (omega arith)

abbrev both_halves : List ℕ → List ℕ
both_halves x = map (λ j. bit_xor (get_or x j 0) (get_or x (16 + j) 0)) (range_with_len 0 16)

both_at : (x : List ℕ) (j : ℕ) → j < 16 → get_or (both_halves x) j 0 ≡ bit_xor (get_or x j 0) (get_or x (16 + j) 0)
both_at x j h = get_or-map-range_with_len (λ j. bit_xor (get_or x j 0) (get_or x (16 + j) 0)) 0 16 j j 0 h (zero-add j)

both_small : (x : List ℕ) → AreSmall x → AreSmall (both_halves x)
both_small x small j =
    ⊎_elim
    (λ (h : j < 16). rw (both_at x j h) (xor_lt 8 (get_or x j 0) (get_or x (16 + j) 0) (small j) (small (16 + j))))
    (λ (h : 16 ≤ j). rw (get_or_past (both_halves x) j 0 h) (lit< tt))
    (cases_lt j 16)

pub together_is : (x : List ℕ) → IsVector 32 x
    → block_number (zip2 bit_xor (pick_l 0 (x ++ x) (range_with_len 0 16)) (pick_l 0 (x ++ x) (range_with_len 16 16))) ≡ in_halves x
together_is x fits =
    ap block_number (of_places 32 (λ x. zip2 bit_xor (pick_l 0 (x ++ x) (range_with_len 0 16)) (pick_l 0 (x ++ x) (range_with_len 16 16)) ≡ both_halves x) (λ z. refl) x fits.0)
    ∙ block_number-spread (both_halves x) (both_small x (small_lanes 32 x fits))
    ∙ spread-same 16 (λ j. front (get_or (both_halves x) j 0)) (λ j. front (bit_xor (get_or x j 0) (get_or x (16 + j) 0))) (λ j h. ap front (both_at x j h))

-- ---- halves of bytes

pub halves_are : (x hs ls : List ℕ) → IsVector 16 x → hs ≡ map (λ b. b / 16) x → ls ≡ map (λ b. bit_and b 15) x → AreHalves (pick_l 0 (hs ++ ls) (range_with_len 0 32)) x
halves_are x hs ls fits eh el j h =
    let lh : length hs ≡ 16 = ap length eh ∙ length-map x (λ b. b / 16) ∙ fits.0 in
    let ll : length ls ≡ 16 = ap length el ∙ length-map x (λ b. bit_and b 15) ∙ fits.0 in
    let whole : pick_l 0 (hs ++ ls) (range_with_len 0 32) ≡ hs ++ ls = pick_l_whole 0 (hs ++ ls) 32 (length-append hs ls ∙ ap₂ (λ (a b : ℕ). a + b) lh ll) in (
      ap (λ v. get_or v j 0) whole ∙ get_or_append_left hs ls 0 j (omega arith)
          ∙ ap (λ v. get_or v j 0) eh ∙ get_or-map (λ b. b / 16) x j 0 0 (omega (arith, fits.0)),
      ap (λ v. get_or v (16 + j) 0) whole ∙ ap (λ (n : ℕ). get_or (hs ++ ls) (n + j) 0) (sym lh) ∙ behind hs ls j
          ∙ ap (λ v. get_or v j 0) el ∙ get_or-map (λ b. bit_and b 15) x j 0 0 (omega (arith, fits.0)) ∙ and_mask (get_or x j 0) 4,
    )
  where
    behind : (xs ys : List ℕ) (i : ℕ) → get_or (xs ++ ys) (length xs + i) 0 ≡ get_or ys i 0
    behind xs ys i = get_or-append_right xs ys (length xs) (length xs + i) 0 refl (omega arith) ∙ ap (λ (n : ℕ). get_or ys n 0) (let e : length xs + i - length xs ≡ i = omega arith in e)

-- ---- entries

halves_below : (lanes bytes : List ℕ) → AreHalves lanes bytes → AreSmall bytes → (m : ℕ) → m < 32 → get_or lanes m 0 < 16
halves_below lanes bytes are small m h =
    ⊎_elim
    (λ (l : m < 16). let e : get_or lanes m 0 ≡ get_or bytes m 0 / 16 = (are m l).0 in omega (arith, small m))
    (λ (l : 16 ≤ m).
    let at : 16 + (m - 16) ≡ m = omega arith in
    let e : get_or lanes (16 + (m - 16)) 0 ≡ get_or bytes (m - 16) 0 % 16 = (are (m - 16) (omega arith)).1 in
    let e' : get_or lanes m 0 ≡ get_or bytes (m - 16) 0 % 16 = ap (λ (t : ℕ). get_or lanes t 0) (sym at) ∙ e in omega arith)
    (cases_lt m 16)

pub indices_ok : (lanes bytes : List ℕ) → length lanes ≡ 32 → AreHalves lanes bytes → AreSmall bytes → SwzOk w8 16 32 0 lanes
indices_ok lanes bytes long are small =
    SwzOk-from_below w8 16 2 32 0 lanes refl (omega arith)
    (Each1-from_get_or (λ j. j < 16) lanes 0 (λ i l. halves_below lanes bytes are small i (omega arith)))

byte_of-xor : (v w k : ℕ) → bit_xor (byte_of v k) (byte_of w k) ≡ byte_of (bit_xor v w) k
byte_of-xor v w k =
    sym (xor_mod (v / 2 ^ (120 - 8 * k)) (w / 2 ^ (120 - 8 * k)) 8) ∙ ap (λ (t : ℕ). t % 2 ^ 8) (sym (xor_shr v w (120 - 8 * k)))

halves_make : (b : ℕ) → bit_xor (b / 16 * 2 ^ 124) (b % 16 * 2 ^ 120) ≡ front b
halves_make b =
    let low : b % 16 * 2 ^ 120 < 2 ^ 124 = shl_below (b % 16) 4 120 (omega arith) in
    xor_shifted (b / 16) 124 (b % 16 * 2 ^ 120) low ∙ omega arith

entry : (h k b : ℕ) → h < 2 ^ 128 → b < 256
    → bit_xor (byte_of (field_product (b / 16 * 2 ^ 124) h) k) (byte_of (field_product (b % 16 * 2 ^ 120) h) k) ≡ byte_of (field_product (front b) h) k
entry h k b fits small =
    let high_lt : b / 16 * 2 ^ 124 < 2 ^ 128 = shl_below (b / 16) 4 124 (omega arith) in
    let low_lt : b % 16 * 2 ^ 120 < 2 ^ 128 = omega (arith, shl_below (b % 16) 4 120 (omega arith)) in
    byte_of-xor (field_product (b / 16 * 2 ^ 124) h) (field_product (b % 16 * 2 ^ 120) h) k
    ∙ ap (λ (t : ℕ). byte_of t k)
    (sym (field_product-xor_left (b / 16 * 2 ^ 124) (b % 16 * 2 ^ 120) h high_lt low_lt fits)
    ∙ ap (λ (t : ℕ). field_product t h) (halves_make b))

pub entries : (rows : List Row) (h k : ℕ) (lanes bytes : List ℕ) (d : Row) → h < 2 ^ 128 → AreRows rows h → k < 16 → length lanes ≡ 32 → AreHalves lanes bytes → AreSmall bytes
    → in_halves (swz_l w8 16 (get_or rows k d).lanes 0 lanes) ≡ column h k bytes
entries rows h k lanes bytes d fits are_rows below long are small =
    spread-same 16 (λ j. front (bit_xor (get_or z j 0) (get_or z (16 + j) 0))) (λ j. front (byte_of (field_product (front (get_or bytes j 0)) h) k))
    (λ j l. ap front
    (ap₂ bit_xor (first j l) (second j l) ∙ entry h k (get_or bytes j 0) fits (small j)))
  where
    row : List ℕ
    row = (get_or rows k d).lanes

    z : List ℕ
    z = swz_l w8 16 (get_or rows k d).lanes 0 lanes

    read : (m : ℕ) → m < 32 → get_or (swz_l w8 16 (get_or rows k d).lanes 0 lanes) m 0 ≡ get_or (get_or rows k d).lanes (16 * (m / 16) + get_or lanes m 0) 0
    read m l =
        get_or-swz_l_below w8 16 (get_or rows k d).lanes 0 lanes m (omega arith) (halves_below lanes bytes are small m l)
        ∙ ap (λ (t : ℕ). get_or (get_or rows k d).lanes (16 * (t / 16) + get_or lanes m 0) 0) (zero-add m)

    value : (n a e : ℕ) → n < 32 → n % 16 ≡ a → 124 - 4 * (n / 16) ≡ e → get_or (get_or rows k d).lanes n 0 ≡ byte_of (field_product (a * 2 ^ e) h) k
    value n a e l ea ee = are_rows k n d below l ∙ ap₂ (λ (x y : ℕ). byte_of (field_product (x * 2 ^ y) h) k) ea ee

    first : (j : ℕ) → j < 16 → get_or (swz_l w8 16 (get_or rows k d).lanes 0 lanes) j 0 ≡ byte_of (field_product (get_or bytes j 0 / 16 * 2 ^ 124) h) k
    first j l =
        let b : get_or bytes j 0 < 256 = small j in
        let e : get_or lanes j 0 ≡ get_or bytes j 0 / 16 = (are j l).0 in
        read j (omega arith)
        ∙ ap (λ (t : ℕ). get_or (get_or rows k d).lanes t 0) (let at : 16 * (j / 16) + get_or lanes j 0 ≡ get_or bytes j 0 / 16 = omega arith in at)
        ∙ value (get_or bytes j 0 / 16) (get_or bytes j 0 / 16) 124 (omega arith) (omega arith) (omega arith)

    second : (j : ℕ) → j < 16 → get_or (swz_l w8 16 (get_or rows k d).lanes 0 lanes) (16 + j) 0 ≡ byte_of (field_product (get_or bytes j 0 % 16 * 2 ^ 120) h) k
    second j l =
        let b : get_or bytes j 0 < 256 = small j in
        let e : get_or lanes (16 + j) 0 ≡ get_or bytes j 0 % 16 = (are j l).1 in
        read (16 + j) (omega arith)
        ∙ ap (λ (t : ℕ). get_or (get_or rows k d).lanes t 0) (let at : 16 * ((16 + j) / 16) + get_or lanes (16 + j) 0 ≡ 16 + get_or bytes j 0 % 16 = omega arith in at)
        ∙ value (16 + get_or bytes j 0 % 16) (get_or bytes j 0 % 16) 120 (omega arith) (omega arith) (omega arith)

-- ---- all columns

number_of_bytes : (n v : ℕ) (b : ℕ → ℕ) → ((i : ℕ) → i < n → b i ≡ v / 2 ^ (8 * n - 8 - 8 * i) % 2 ^ 8) → number n b ≡ v % 2 ^ (8 * n)
unfolding number
number_of_bytes zero v b are = omega arith
number_of_bytes (suc n) v b are =
    ap₂ (λ (x y : ℕ). x * 2 ^ (8 * n) + y)
    (are 0 (omega arith) ∙ ap (λ (t : ℕ). v / 2 ^ t % 2 ^ 8) (let e : 8 * suc n - 8 - 8 * 0 ≡ 8 * n = omega arith in e))
    (number_of_bytes n v (λ i. b (suc i)) (λ i h. are (suc i) (omega arith) ∙ ap (λ (t : ℕ). v / 2 ^ t % 2 ^ 8) (let e : 8 * suc n - 8 - 8 * suc i ≡ 8 * n - 8 - 8 * i = omega arith in e)))
    ∙ sym (mod-pow-add v 8 (8 * n))
    ∙ ap (λ (t : ℕ). v % 2 ^ t) (let e : 8 + 8 * n ≡ 8 * suc n = omega arith in e)

bytes_make : (v : ℕ) → v < 2 ^ 128 → spread 16 (λ k. front (byte_of v k)) ≡ v
bytes_make v fits =
    spread-number 16 0 (byte_of v) (λ i. mod_below (v / 2 ^ (120 - 8 * i)) (2 ^ 8) (lit< tt)) refl
    ∙ ap (λ (t : ℕ). t * 2 ^ 0) (number_of_bytes 16 v (byte_of v) (λ i h. refl))
    ∙ (let e : v % 2 ^ (8 * 16) * 2 ^ 0 ≡ v = omega arith in e)

front_lt : (b : ℕ) → b < 256 → front b < 2 ^ 128
front_lt b h = shl_below b 8 120 h

pub product_columns : (h : ℕ) (x : List ℕ) → h < 2 ^ 128 → AreSmall x → spread 16 (λ k. column h k x) ≡ field_product (block_number x) h
product_columns h x fits small =
    spread-swap 16 16 (λ k j. front (byte_of (field_product (front (get_or x j 0)) h) k))
    ∙ spread-same 16 (λ j. spread 16 (λ k. front (byte_of (field_product (front (get_or x j 0)) h) k))) (λ j. multiple 128 (polynomial_of h) (front (get_or x j 0)))
    (λ j l. bytes_make (field_product (front (get_or x j 0)) h) (field_product-lt (front (get_or x j 0)) h) ∙ turned (front (get_or x j 0)) (front_lt (get_or x j 0) (small j)))
    ∙ sym (multiple-spread 16 (polynomial_of h) (λ j. front (get_or x j 0)))
    ∙ ap (multiple 128 (polynomial_of h)) (sym (block_number-spread x small))
    ∙ sym (turned (block_number x) (block_number-lt x small))
  where
    turned : (v : ℕ) → v < 2 ^ 128 → field_product v h ≡ multiple 128 (polynomial_of h) v
    turned v l = field_product-comm v h l fits ∙ field_product-multiple h v l

-- ---- a loop over the rows, from the last

pub spread_down : (n : ℕ) (t : ℕ → ℕ) → n < 16 → bit_xor (t (15 - n)) (shift (spread n (λ s. t (16 - n + s)))) ≡ spread (n + 1) (λ s. t (16 - (n + 1) + s))
unfolding spread
spread_down n t h =
    rw add-one
    (ap₂ (λ (a b : ℕ). bit_xor a (shift b))
    (ap t (let e : 15 - n ≡ 16 - suc n + 0 = omega arith in e))
    (spread-same n (λ s. t (16 - n + s)) (λ s. t (16 - suc n + suc s)) (λ s l. ap t (let e : 16 - n + s ≡ 16 - suc n + suc s = omega arith in e))))

pub whole_start : (t : ℕ → ℕ) → whole (0 ∷ 0 ∷ 0 ∷ 0 ∷ 0 ∷ 0 ∷ 0 ∷ 0 ∷ 0 ∷ 0 ∷ 0 ∷ 0 ∷ 0 ∷ 0 ∷ 0 ∷ 0 ∷ []) (0 ∷ 0 ∷ 0 ∷ 0 ∷ 0 ∷ 0 ∷ 0 ∷ 0 ∷ 0 ∷ 0 ∷ 0 ∷ 0 ∷ 0 ∷ 0 ∷ 0 ∷ 0 ∷ []) ≡ spread 0 t
unfolding spread block_number
whole_start t = ap (bit_xor 0) (times_power-zero 128)

pub spread_all : (t : ℕ → ℕ) (k : ℕ) → k ≡ 16 → spread k (λ s. t (16 - k + s)) ≡ spread 16 t
spread_all t k e =
    ap (λ (n : ℕ). spread n (λ s. t (16 - n + s))) e
    ∙ spread-same 16 (λ s. t (16 - 16 + s)) t (λ s l. ap t (zero-add s))

pub spread_of_eight : (n : ℕ) (a b c d e f g h : ℕ → ℕ) → spread n (λ k. sum_of_eight (a k) (b k) (c k) (d k) (e k) (f k) (g k) (h k))
    ≡ sum_of_eight (spread n a) (spread n b) (spread n c) (spread n d) (spread n e) (spread n f) (spread n g) (spread n h)
spread_of_eight n a b c d e f g h =
    spread-xor n (λ k. bit_xor (bit_xor (a k) (b k)) (bit_xor (c k) (d k))) (λ k. bit_xor (bit_xor (e k) (f k)) (bit_xor (g k) (h k)))
    ∙ ap₂ bit_xor (four a b c d) (four e f g h)
  where
    four : (a b c d : ℕ → ℕ) → spread n (λ k. bit_xor (bit_xor (a k) (b k)) (bit_xor (c k) (d k))) ≡ bit_xor (bit_xor (spread n a) (spread n b)) (bit_xor (spread n c) (spread n d))
    four a b c d =
        spread-xor n (λ k. bit_xor (a k) (b k)) (λ k. bit_xor (c k) (d k))
        ∙ ap₂ bit_xor (spread-xor n a b) (spread-xor n c d)

pub turn : (low high w low' high' : List ℕ) (n : ℕ) (t : ℕ → ℕ) → n < 16 → IsVector 16 low → IsVector 16 high → length w ≡ 16 → AreSmall w → IsVector 16 low'
    → high' ≡ get_or low 15 0 ∷ take 15 high → low' ≡ zip2 bit_xor (0 ∷ take 15 low) w → block_number w ≡ t (15 - n)
    → whole low high ≡ spread n (λ s. t (16 - n + s)) → ((j : ℕ) → n ≤ j + 1 → get_or high j 0 ≡ 0)
    → whole low' high' ≡ spread (n + 1) (λ s. t (16 - (n + 1) + s))
turn low high w low' high' n t below fl fh lw sw fl' eh el ew value none =
    ap₂ whole el eh
    ∙ whole_more low high w fl.0 lw (small_lanes 16 low fl) (small_lanes 16 high fh) sw (subst AreSmall el (small_lanes 16 low' fl')) (none 15 (omega arith))
    ∙ ap₂ (λ (a b : ℕ). bit_xor a (shift b)) ew value
    ∙ spread_down n t below

pub none_after : (low high high' : List ℕ) (n : ℕ) → length high ≡ 16 → high' ≡ get_or low 15 0 ∷ take 15 high → (n ≡ 0 → get_or low 15 0 ≡ 0) → ((j : ℕ) → n ≤ j + 1 → get_or high j 0 ≡ 0)
    → (j : ℕ) → n + 1 ≤ j + 1 → get_or high' j 0 ≡ 0
none_after low high high' n long e start none zero l = ap (λ v. get_or v 0 0) e ∙ start (omega arith)
none_after low high high' n long e start none (suc j) l =
    ap (λ v. get_or v (suc j) 0) e
    ∙ ⊎_elim
    (λ (h : j < 15). get_or-take 15 high j 0 h ∙ none j (omega arith))
    (λ (h : 15 ≤ j). get_or_past (take 15 high) j 0 (omega (arith, length-take 15 high)))
    (cases_lt j 15)

zeros_at : (n k : ℕ) → get_or (replicate n zero) k zero ≡ zero
zeros_at n k =
    ⊎_elim
    (λ (l : k < n). get_or-replicate n k zero zero l)
    (λ (l : n ≤ k). get_or_past (replicate n zero) k zero (omega (arith, length-replicate n zero)))
    (cases_lt k n)

pub none_first : (k : ℕ) → get_or (0 ∷ 0 ∷ 0 ∷ 0 ∷ 0 ∷ 0 ∷ 0 ∷ 0 ∷ 0 ∷ 0 ∷ 0 ∷ 0 ∷ 0 ∷ 0 ∷ 0 ∷ 0 ∷ []) k zero ≡ zero
none_first k = zeros_at 16 k

-- ---- the rows of a block

-- the products of the half byte n, at both places
pub both_products : (h n : ℕ) (high low : List ℕ) → h < 2 ^ 128 → high ≡ row_of h → low ≡ row_of (times_x (times_x (times_x (times_x h)))) → n < 16
    → block_bytes (get_or high n 0) ++ block_bytes (get_or low n 0) ≡ block_bytes (field_product (n * 2 ^ 124) h) ++ block_bytes (field_product (n * 2 ^ 120) h)
both_products h n high low fits eh el l =
    ap₂ (λ (x y : ℕ). block_bytes x ++ block_bytes y)
    (ap (λ v. get_or v n 0) eh ∙ row_at h 31 fits (lit< tt) h (first_power h fits) n l)
    (ap (λ v. get_or v n 0) el ∙ row_at h 30 fits (lit< tt) (times_x (times_x (times_x (times_x h)))) (next_power h 0 h fits (lit< tt) (first_power h fits)) n l)

pub rows_are : (h : ℕ) (products turned : List Row) → AreProducts products h → AreTransposed products turned → AreRows turned h
rows_are h products turned are transposed k n d below within =
    transposed k n d below within
    ∙ ap (λ (v : List ℕ). get_or v (16 * (n / 16) + k) 0) (are (n % 16) d (omega arith))
    ∙ ⊎_elim
    (λ (l : n < 16).
    ap (λ (i : ℕ). get_or (high ++ low) i 0) (let e : 16 * (n / 16) + k ≡ k = omega arith in e)
    ∙ get_or_append_left high low 0 k (omega (arith, length-block_bytes (field_product (n % 16 * 2 ^ 124) h)))
    ∙ block_bytes-at (field_product (n % 16 * 2 ^ 124) h) k below
    ∙ ap (λ (e : ℕ). byte_of (field_product (n % 16 * 2 ^ e) h) k) (let e : 124 ≡ 124 - 4 * (n / 16) = omega arith in e))
    (λ (l : 16 ≤ n).
    get_or-append_right high low 16 (16 * (n / 16) + k) 0 (length-block_bytes (field_product (n % 16 * 2 ^ 124) h)) (omega arith)
    ∙ ap (λ (i : ℕ). get_or low i 0) (let e : 16 * (n / 16) + k - 16 ≡ k = omega arith in e)
    ∙ block_bytes-at (field_product (n % 16 * 2 ^ 120) h) k below
    ∙ ap (λ (e : ℕ). byte_of (field_product (n % 16 * 2 ^ e) h) k) (let e : 120 ≡ 124 - 4 * (n / 16) = omega arith in e))
    (cases_lt n 16)
  where
    high : List ℕ
    high = block_bytes (field_product (n % 16 * 2 ^ 124) h)

    low : List ℕ
    low = block_bytes (field_product (n % 16 * 2 ^ 120) h)

-- ---- powers

pub next_field_power : (h n v w : ℕ) → h < 2 ^ 128 → v ≡ field_power h n → w ≡ field_product (block_number (block_bytes v)) h → w ≡ field_power h (suc n)
unfolding field_power
next_field_power h n v w fits ev ew =
    let below : v < 2 ^ 128 = subst (λ (t : ℕ). t < 2 ^ 128) (sym ev) (field_power-lt h n) in
    ew ∙ ap (λ (t : ℕ). field_product t h) (block_number-block_bytes v below ∙ ev) ∙ field_product-comm (field_power h n) h (field_power-lt h n) fits

pub first_field_power : (h : ℕ) → h < 2 ^ 128 → h ≡ field_power h 1
unfolding field_power
first_field_power h fits = sym (field_product-one h fits)

small_sum : (n : ℕ) (x y : List ℕ) → IsVector n x → IsVector n y → AreSmall (zip2 bit_xor x y)
small_sum n x y fx fy i =
    ⊎_elim
    (λ (l : i < n). rw (get_or-zip2 bit_xor x y i 0 0 0 (omega (arith, fx.0)) (omega (arith, fy.0))) (xor_lt 8 (get_or x i 0) (get_or y i 0) (small_lanes n x fx i) (small_lanes n y fy i)))
    (λ (l : n ≤ i). rw (get_or_past (zip2 bit_xor x y) i 0 (omega (arith, length-zip2 bit_xor x y (fx.0 ∙ sym fy.0), fx.0))) (lit< tt))
    (cases_lt i n)

pub sum_number : (x y : List ℕ) → IsVector 16 x → IsVector 16 y → block_number (zip2 bit_xor x y) ≡ bit_xor (block_number x) (block_number y)
sum_number x y fx fy = block_number-xor x y fx.0 fy.0 (small_lanes 16 x fx) (small_lanes 16 y fy) (small_sum 16 x y fx fy)
