-- Four rounds of lanes in turn transpose sixteen rows: each moves the last digit of a lane's number to the front of its
-- row's.
use Rattle.std.proofs.Common.{◌≡◌, ℕ, ◌+◌, ◌*◌, ◌/◌, ◌%◌, ◌<◌, ◌≢◌, Bool, cond, eqb, sym, ap, ap₂, ◌∙◌, arith, List, get_or, set, length, slice_index, ⊎_elim, zero-add, get_or-set_same, get_or-set_other, length-set}
use Rattle.std.proofs.lemmas.Bool.{eq-eqb, ne_eqb, cases_eq}
use Rattle.std.proofs.lemmas.List.{get_or_default}
use Rattle.std.proofs.lemmas.List.FromFn.{get_or-map-range_with_len}
use Rattle.ghash_field.specs.declared.byte_rows.Row.{Row}
use Rattle.ghash_field.specs.Transposition.{low_lanes, high_lanes, AreInterleaved, AreTransposed}

-- ---- lanes in turn
low_at : (x y : List ℕ) (i m : ℕ) → i < 32 → 16 * (i / 16) + i % 16 / 2 ≡ m → slice_index (low_lanes x y) i ≡ slice_index (cond (eqb (i % 2) 0) x y) m
low_at x y i m h e =
    get_or-map-range_with_len (λ i. slice_index (cond (eqb (i % 2) 0) x y) (16 * (i / 16) + i % 16 / 2)) 0 32 i i 0 h (zero-add i)
    ∙ ap (slice_index (cond (eqb (i % 2) 0) x y)) e

high_at : (x y : List ℕ) (i m : ℕ) → i < 32 → 16 * (i / 16) + 8 + i % 16 / 2 ≡ m → slice_index (high_lanes x y) i ≡ slice_index (cond (eqb (i % 2) 0) x y) m
high_at x y i m h e =
    get_or-map-range_with_len (λ i. slice_index (cond (eqb (i % 2) 0) x y) (16 * (i / 16) + 8 + i % 16 / 2)) 0 32 i i 0 h (zero-add i)
    ∙ ap (slice_index (cond (eqb (i % 2) 0) x y)) e

-- ---- digits

abbrev number : ℕ → ℕ → ℕ → ℕ → ℕ
number a b c d = 8 * a + 4 * b + 2 * c + d

record AreBits (a b c d e f g h s : ℕ) : Type 0 where
  pub a_is : a < 2
  pub b_is : b < 2
  pub c_is : c < 2
  pub d_is : d < 2
  pub e_is : e < 2
  pub f_is : f < 2
  pub g_is : g < 2
  pub h_is : h < 2
  pub s_is : s < 2

-- one round
round : (rows turned : List Row) → AreInterleaved rows turned → (a b c d e f g h s : ℕ) (r : Row) → AreBits a b c d e f g h s
    → slice_index (get_or turned (number a b c d) r).lanes (16 * s + number e f g h) ≡ slice_index (get_or rows (number h a b c) r).lanes (16 * s + number d e f g)
round rows turned are a b c d e f g h s r bits =
    ⊎_elim
    (λ (zero_d : d ≡ 0).
    ap (λ (i : ℕ). slice_index (get_or turned i r).lanes lane) (let e : number a b c d ≡ 2 * k = omega arith in e)
    ∙ ap (λ (v : List ℕ). slice_index v lane) (are k r below).0
    ∙ low_at first second lane (16 * s + number d e f g) within (omega arith)
    ∙ read)
    (λ (one_d : d ≡ 0 → ⊥).
    ap (λ (i : ℕ). slice_index (get_or turned i r).lanes lane) (let e : number a b c d ≡ 2 * k + 1 = omega arith in e)
    ∙ ap (λ (v : List ℕ). slice_index v lane) (are k r below).1
    ∙ high_at first second lane (16 * s + number d e f g) within (omega arith)
    ∙ read)
    (cases_eq d 0)
  where
    k : ℕ
    k = 4 * a + 2 * b + c

    lane : ℕ
    lane = 16 * s + number e f g h

    first : List ℕ
    first = (get_or rows (4 * a + 2 * b + c) r).lanes

    second : List ℕ
    second = (get_or rows (4 * a + 2 * b + c + 8) r).lanes

    below : 4 * a + 2 * b + c < 8
    below = omega (arith, bits.a_is, bits.b_is, bits.c_is)

    within : 16 * s + number e f g h < 32
    within = omega (arith, bits.e_is, bits.f_is, bits.g_is, bits.h_is, bits.s_is)

    read : slice_index (cond (eqb (lane % 2) 0) first second) (16 * s + number d e f g) ≡ slice_index (get_or rows (number h a b c) r).lanes (16 * s + number d e f g)
    read =
        ⊎_elim
        (λ (zero_h : h ≡ 0).
        ap (λ (t : Bool). slice_index (cond t first second) (16 * s + number d e f g)) (eq-eqb (lane % 2) 0 (omega arith))
        ∙ ap (λ (i : ℕ). slice_index (get_or rows i r).lanes (16 * s + number d e f g)) (let e : k ≡ number h a b c = omega arith in e))
        (λ (one_h : h ≡ 0 → ⊥).
        ap (λ (t : Bool). slice_index (cond t first second) (16 * s + number d e f g)) (ne_eqb (lane % 2) 0 (λ q. omega (arith, bits.h_is)))
        ∙ ap (λ (i : ℕ). slice_index (get_or rows i r).lanes (16 * s + number d e f g)) (let e : k + 8 ≡ number h a b c = omega (arith, bits.h_is) in e))
        (cases_eq h 0)

turn_on : (a b c d e f g h s : ℕ) → AreBits a b c d e f g h s → AreBits h a b c d e f g s
turn_on a b c d e f g h s bits = record {
  a_is = bits.h_is;
  b_is = bits.a_is;
  c_is = bits.b_is;
  d_is = bits.c_is;
  e_is = bits.d_is;
  f_is = bits.e_is;
  g_is = bits.f_is;
  h_is = bits.g_is;
  s_is = bits.s_is;
}

-- all four
pub transposed : (rows first second third turned : List Row)
    → AreInterleaved rows first → AreInterleaved first second → AreInterleaved second third → AreInterleaved third turned → AreTransposed rows turned
transposed rows first second third turned i1 i2 i3 i4 k n r below within =
    ap₂ (λ (x y : ℕ). slice_index (get_or turned x r).lanes y) (let e : k ≡ number (k / 8) (k / 4 % 2) (k / 2 % 2) (k % 2) = omega arith in e)
    (let e : n ≡ 16 * (n / 16) + number (n / 8 % 2) (n / 4 % 2) (n / 2 % 2) (n % 2) = omega arith in e)
    ∙ by_digits (k / 8) (k / 4 % 2) (k / 2 % 2) (k % 2) (n / 8 % 2) (n / 4 % 2) (n / 2 % 2) (n % 2) (n / 16)
    (record {
      a_is = omega arith;
      b_is = omega arith;
      c_is = omega arith;
      d_is = omega arith;
      e_is = omega arith;
      f_is = omega arith;
      g_is = omega arith;
      h_is = omega arith;
      s_is = omega arith;
    })
    ∙ ap₂ (λ (x y : ℕ). slice_index (get_or rows x r).lanes y) (let e : number (n / 8 % 2) (n / 4 % 2) (n / 2 % 2) (n % 2) ≡ n % 16 = omega arith in e)
    (let e : 16 * (n / 16) + number (k / 8) (k / 4 % 2) (k / 2 % 2) (k % 2) ≡ 16 * (n / 16) + k = omega arith in e)
  where
    by_digits : (a b c d e f g h s : ℕ) → AreBits a b c d e f g h s
        → slice_index (get_or turned (number a b c d) r).lanes (16 * s + number e f g h) ≡ slice_index (get_or rows (number e f g h) r).lanes (16 * s + number a b c d)
    by_digits a b c d e f g h s bits =
        let bits2 : AreBits h a b c d e f g s = turn_on a b c d e f g h s bits in
        let bits3 : AreBits g h a b c d e f s = turn_on h a b c d e f g s bits2 in
        let bits4 : AreBits f g h a b c d e s = turn_on g h a b c d e f s bits3 in
        round third turned i4 a b c d e f g h s r bits
        ∙ round second third i3 h a b c d e f g s r bits2
        ∙ round first second i2 g h a b c d e f s r bits3
        ∙ round rows first i1 f g h a b c d e s r bits4

-- ---- a round, by a loop

abbrev pub Done : ℕ → List Row → List Row → Type 0
Done count rows turned = (i : ℕ) (d : Row) → i < count
    → ((get_or turned (2 * i) d).lanes ≡ low_lanes (get_or rows i d).lanes (get_or rows (i + 8) d).lanes)
    × ((get_or turned (2 * i + 1) d).lanes ≡ high_lanes (get_or rows i d).lanes (get_or rows (i + 8) d).lanes)

pub done_more : (count : ℕ) (rows turned : List Row) (low high d0 : Row) → length rows ≡ 16 → length turned ≡ 16 → count < 8 → Done count rows turned
    → low.lanes ≡ low_lanes (get_or rows count d0).lanes (get_or rows (count + 8) d0).lanes
    → high.lanes ≡ high_lanes (get_or rows count d0).lanes (get_or rows (count + 8) d0).lanes
    → Done (count + 1) rows (set (set turned (2 * count) low) (2 * count + 1) high)
done_more count rows turned low high d0 wide long below done is_low is_high i d l =
    ⊎_elim
    (λ (q : i ≡ count). (
      ap (λ (j : ℕ). (get_or (set once (2 * count + 1) high) (2 * j) d).lanes) q
          ∙ ap (λ (r : Row). r.lanes) (get_or-set_other once (2 * count + 1) (2 * count) high d (omega arith) ∙ get_or-set_same turned (2 * count) low d (omega arith))
          ∙ is_low ∙ ap₂ (λ (x y : Row). low_lanes x.lanes y.lanes) (first i q) (second i q),
      ap (λ (j : ℕ). (get_or (set once (2 * count + 1) high) (2 * j + 1) d).lanes) q
          ∙ ap (λ (r : Row). r.lanes) (get_or-set_same once (2 * count + 1) high d (omega (arith, length-set turned (2 * count) low)))
          ∙ is_high ∙ ap₂ (λ (x y : Row). high_lanes x.lanes y.lanes) (first i q) (second i q),
    ))
    (λ (q : i ≢ count). (
      ap (λ (r : Row). r.lanes) (get_or-set_other once (2 * count + 1) (2 * i) high d (omega arith) ∙ get_or-set_other turned (2 * count) (2 * i) low d (omega arith)) ∙ (done i d (omega arith)).0,
      ap (λ (r : Row). r.lanes) (get_or-set_other once (2 * count + 1) (2 * i + 1) high d (omega arith) ∙ get_or-set_other turned (2 * count) (2 * i + 1) low d (omega arith)) ∙ (done i d (omega arith)).1,
    ))
    (cases_eq i count)
  where
    once : List Row
    once = set turned (2 * count) low

    first : (i : ℕ) → i ≡ count → get_or rows count d0 ≡ get_or rows i d
    first i q = ap (λ (j : ℕ). get_or rows j d0) (sym q) ∙ get_or_default rows i d0 d (omega arith)

    second : (i : ℕ) → i ≡ count → get_or rows (count + 8) d0 ≡ get_or rows (i + 8) d
    second i q = ap (λ (j : ℕ). get_or rows (j + 8) d0) (sym q) ∙ get_or_default rows (i + 8) d0 d (omega arith)
