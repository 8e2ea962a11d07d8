-- the columns of a state, times the matrices, by doublings
use Rattle.std.specs.Prelude.{◌≡◌, ℕ, zero, suc, ◌+◌, ◌-◌, ◌*◌, ◌/◌, ◌%◌, ◌<◌, List, [], ◌∷◌, map, slice_index, bit_xor, refl}
use Rattle.std.specs.List.{range_with_len}
use Rattle.std.specs.Int.Bits.{xor_assoc}
use Rattle.std.proofs.Common.{sym, ◌∙◌, ap, ap₂, arith}
use Rattle.std.proofs.lemmas.Nat.{xor_comm}
use Rattle.std_defs.specs.Aes.{product, remainder, mul8, mixed_byte}
use Rattle.std_defs.proofs.Enumerate.{same_below}
use Rattle.std_defs.proofs.Mul8.{mul8-xor, xor_swap}

-- ---- products by the constants of the matrices

times_one : (a : ℕ) → a < 256 → a ≡ mul8 1 a
unfolding product remainder mul8
times_one a h = same_below (λ a. a) (mul8 1) 256 refl a h

pub times_three : (a : ℕ) → a < 256 → bit_xor (mul8 2 a) a ≡ mul8 3 a
unfolding product remainder mul8
times_three a h = same_below (λ a. bit_xor (mul8 2 a) a) (mul8 3) 256 refl a h

-- ---- a column from some row on

turn : (a b c d : ℕ) → bit_xor (bit_xor a b) (bit_xor c d) ≡ bit_xor (bit_xor d a) (bit_xor b c)
turn a b c d = xor_comm (bit_xor a b) (bit_xor c d) ∙ cc (xor_comm c d, xor_assoc d c (bit_xor a b), xor_assoc c a b, xor_comm c a, xor_assoc a c b, xor_comm c b, xor_assoc d a (bit_xor b c))

-- the sum of a column's bytes times the first row of the matrix, from row r on
turned : (p q s t : ℕ) (f : ℕ → ℕ) (r : ℕ) → r < 4
    → bit_xor (bit_xor (mul8 p (f (r % 4))) (mul8 q (f ((r + 1) % 4)))) (bit_xor (mul8 s (f ((r + 2) % 4))) (mul8 t (f ((r + 3) % 4))))
    ≡ bit_xor
    (bit_xor (mul8 (slice_index (p ∷ q ∷ s ∷ t ∷ []) ((0 + 4 - r) % 4)) (f 0)) (mul8 (slice_index (p ∷ q ∷ s ∷ t ∷ []) ((1 + 4 - r) % 4)) (f 1)))
    (bit_xor (mul8 (slice_index (p ∷ q ∷ s ∷ t ∷ []) ((2 + 4 - r) % 4)) (f 2)) (mul8 (slice_index (p ∷ q ∷ s ∷ t ∷ []) ((3 + 4 - r) % 4)) (f 3)))
turned p q s t f zero h = refl
turned p q s t f (suc zero) h = turn (mul8 p (f 1)) (mul8 q (f 2)) (mul8 s (f 3)) (mul8 t (f 0))
turned p q s t f (suc (suc zero)) h = xor_comm (bit_xor (mul8 p (f 2)) (mul8 q (f 3))) (bit_xor (mul8 s (f 0)) (mul8 t (f 1)))
turned p q s t f (suc (suc (suc zero))) h = sym (turn (mul8 q (f 0)) (mul8 s (f 1)) (mul8 t (f 2)) (mul8 p (f 3)))
turned p q s t f (suc (suc (suc (suc r)))) h = absurd (omega (arith, h))

pub mixed_from : (p q s t : ℕ) (state : List ℕ) (i a b c d : ℕ) → a ≡ slice_index state (4 * (i / 4) + (i + 0) % 4) → b ≡ slice_index state (4 * (i / 4) + (i + 1) % 4)
    → c ≡ slice_index state (4 * (i / 4) + (i + 2) % 4) → d ≡ slice_index state (4 * (i / 4) + (i + 3) % 4)
    → bit_xor (bit_xor (mul8 p a) (mul8 q b)) (bit_xor (mul8 s c) (mul8 t d)) ≡ mixed_byte (p ∷ q ∷ s ∷ t ∷ []) state i
unfolding mixed_byte
mixed_from p q s t state i a b c d first second third fourth =
    let f : ℕ → ℕ = λ j. slice_index state (4 * (i / 4) + j) in
    let e : (i + 0) % 4 ≡ i % 4 % 4 = omega arith in
    let e1 : (i + 1) % 4 ≡ (i % 4 + 1) % 4 = omega arith in
    let e2 : (i + 2) % 4 ≡ (i % 4 + 2) % 4 = omega arith in
    let e3 : (i + 3) % 4 ≡ (i % 4 + 3) % 4 = omega arith in
    rw (first ∙ ap f e, second ∙ ap f e1, third ∙ ap f e2, fourth ∙ ap f e3) (turned p q s t f (i % 4) (omega arith))

-- the same, where the last two products are the bytes themselves
pub mixed_forward : (state : List ℕ) (i a b c d : ℕ) → ((k : ℕ) → slice_index state k < 256) → a ≡ slice_index state (4 * (i / 4) + (i + 0) % 4)
    → b ≡ slice_index state (4 * (i / 4) + (i + 1) % 4) → c ≡ slice_index state (4 * (i / 4) + (i + 2) % 4) → d ≡ slice_index state (4 * (i / 4) + (i + 3) % 4)
    → bit_xor (bit_xor (mul8 2 a) (mul8 3 b)) (bit_xor c d) ≡ mixed_byte (0x02 ∷ 0x03 ∷ 0x01 ∷ 0x01 ∷ []) state i
mixed_forward state i a b c d bytes first second third fourth =
    ap₂ (λ x y. bit_xor (bit_xor (mul8 2 a) (mul8 3 b)) (bit_xor x y)) (times_one c (rw third (bytes _))) (times_one d (rw fourth (bytes _)))
    ∙ mixed_from 2 3 1 1 state i a b c d first second third fourth

-- ---- a byte of a mixed column, from sums of two that are doubled

pub lane : (a b c d : ℕ) → b < 256 → bit_xor (bit_xor (mul8 2 (bit_xor a b)) b) (bit_xor c d) ≡ bit_xor (bit_xor (mul8 2 a) (mul8 3 b)) (bit_xor c d)
lane a b c d h =
    ap (λ t. bit_xor (bit_xor t b) (bit_xor c d)) (mul8-xor 2 a b)
    ∙ ap (λ t. bit_xor t (bit_xor c d)) (xor_assoc (mul8 2 a) (mul8 2 b) b ∙ ap (bit_xor (mul8 2 a)) (times_three b h))

pub mixed_lane : (state : List ℕ) (i a b c d : ℕ) → ((k : ℕ) → slice_index state k < 256) → a ≡ slice_index state (4 * (i / 4) + (i + 0) % 4)
    → b ≡ slice_index state (4 * (i / 4) + (i + 1) % 4) → c ≡ slice_index state (4 * (i / 4) + (i + 2) % 4) → d ≡ slice_index state (4 * (i / 4) + (i + 3) % 4)
    → bit_xor (bit_xor (mul8 2 (bit_xor a b)) b) (bit_xor c d) ≡ mixed_byte (0x02 ∷ 0x03 ∷ 0x01 ∷ 0x01 ∷ []) state i
mixed_lane state i a b c d bytes first second third fourth =
    lane a b c d (rw second (bytes _)) ∙ mixed_forward state i a b c d bytes first second third fourth

-- ---- InvMixColumns by MixColumns

abbrev pub four : ℕ → ℕ
four a = mul8 2 (mul8 2 a)

pub four-xor : (a b : ℕ) → four (bit_xor a b) ≡ bit_xor (four a) (four b)
four-xor a b = ap (mul8 2) (mul8-xor 2 a b) ∙ mul8-xor 2 (mul8 2 a) (mul8 2 b)

-- p times a byte to which four times it and another were added
crossed : (p a c : ℕ) → mul8 p (bit_xor a (four (bit_xor a c))) ≡ bit_xor (mul8 p a) (bit_xor (mul8 p (four a)) (mul8 p (four c)))
crossed p a c =
    mul8-xor p a (four (bit_xor a c))
    ∙ ap (bit_xor (mul8 p a)) (ap (mul8 p) (four-xor a c) ∙ mul8-xor p (four a) (four c))

pair_up : (s t u v w x : ℕ) → bit_xor (bit_xor s (bit_xor t u)) (bit_xor v (bit_xor w x)) ≡ bit_xor (bit_xor (bit_xor s t) x) (bit_xor u (bit_xor v w))
pair_up s t u v w x =
    ap₂ bit_xor (sym (xor_assoc s t u)) (sym (xor_assoc v w x) ∙ xor_comm (bit_xor v w) x)
    ∙ xor_swap (bit_xor s t) u x (bit_xor v w)

first_sum : (a : ℕ) → a < 256 → bit_xor (bit_xor (mul8 2 a) (mul8 2 (four a))) (mul8 1 (four a)) ≡ mul8 0x0e a
unfolding product remainder mul8
first_sum a h = same_below (λ a. bit_xor (bit_xor (mul8 2 a) (mul8 2 (four a))) (mul8 1 (four a))) (mul8 0x0e) 256 refl a h

second_sum : (a : ℕ) → a < 256 → bit_xor (bit_xor (mul8 3 a) (mul8 3 (four a))) (mul8 1 (four a)) ≡ mul8 0x0b a
unfolding product remainder mul8
second_sum a h = same_below (λ a. bit_xor (bit_xor (mul8 3 a) (mul8 3 (four a))) (mul8 1 (four a))) (mul8 0x0b) 256 refl a h

third_sum : (a : ℕ) → a < 256 → bit_xor (mul8 2 (four a)) (bit_xor (mul8 1 a) (mul8 1 (four a))) ≡ mul8 0x0d a
unfolding product remainder mul8
third_sum a h = same_below (λ a. bit_xor (mul8 2 (four a)) (bit_xor (mul8 1 a) (mul8 1 (four a)))) (mul8 0x0d) 256 refl a h

fourth_sum : (a : ℕ) → a < 256 → bit_xor (mul8 3 (four a)) (bit_xor (mul8 1 a) (mul8 1 (four a))) ≡ mul8 0x09 a
unfolding product remainder mul8
fourth_sum a h = same_below (λ a. bit_xor (mul8 3 (four a)) (bit_xor (mul8 1 a) (mul8 1 (four a)))) (mul8 0x09) 256 refl a h

-- a byte of MixColumns of such a column is one of InvMixColumns of the column
pub lane_back : (a b c d : ℕ) → a < 256 → b < 256 → c < 256 → d < 256
    → bit_xor (bit_xor (mul8 2 (bit_xor a (four (bit_xor a c)))) (mul8 3 (bit_xor b (four (bit_xor b d))))) (bit_xor (mul8 1 (bit_xor c (four (bit_xor c a)))) (mul8 1 (bit_xor d (four (bit_xor d b)))))
    ≡ bit_xor (bit_xor (mul8 0x0e a) (mul8 0x0b b)) (bit_xor (mul8 0x0d c) (mul8 0x09 d))
lane_back a b c d ha hb hc hd =
    ap₂ bit_xor (ap₂ bit_xor (crossed 2 a c) (crossed 3 b d)) (ap₂ bit_xor (crossed 1 c a) (crossed 1 d b))
    ∙ xor_swap (bit_xor (mul8 2 a) (bit_xor (mul8 2 (four a)) (mul8 2 (four c)))) (bit_xor (mul8 3 b) (bit_xor (mul8 3 (four b)) (mul8 3 (four d))))
    (bit_xor (mul8 1 c) (bit_xor (mul8 1 (four c)) (mul8 1 (four a)))) (bit_xor (mul8 1 d) (bit_xor (mul8 1 (four d)) (mul8 1 (four b))))
    ∙ ap₂ bit_xor
    (pair_up (mul8 2 a) (mul8 2 (four a)) (mul8 2 (four c)) (mul8 1 c) (mul8 1 (four c)) (mul8 1 (four a)) ∙ ap₂ bit_xor (first_sum a ha) (third_sum c hc))
    (pair_up (mul8 3 b) (mul8 3 (four b)) (mul8 3 (four d)) (mul8 1 d) (mul8 1 (four d)) (mul8 1 (four b)) ∙ ap₂ bit_xor (second_sum b hb) (fourth_sum d hd))
    ∙ xor_swap (mul8 0x0e a) (mul8 0x0d c) (mul8 0x0b b) (mul8 0x09 d)

four_bytes : (a b c d : ℕ) → a < 256 → b < 256 → c < 256 → d < 256 → (i : ℕ) → slice_index (a ∷ b ∷ c ∷ d ∷ []) i < 256
four_bytes a b c d ha hb hc hd zero = ha
four_bytes a b c d ha hb hc hd (suc zero) = hb
four_bytes a b c d ha hb hc hd (suc (suc zero)) = hc
four_bytes a b c d ha hb hc hd (suc (suc (suc zero))) = hd
four_bytes a b c d ha hb hc hd (suc (suc (suc (suc i)))) = omega arith

pub column_mixed : (a b c d : ℕ) → a < 256 → b < 256 → c < 256 → d < 256
    → bit_xor (bit_xor (mul8 2 (bit_xor a b)) b) (bit_xor c d) ∷ bit_xor (bit_xor (mul8 2 (bit_xor b c)) c) (bit_xor d a)
    ∷ bit_xor (bit_xor (mul8 2 (bit_xor c d)) d) (bit_xor a b) ∷ bit_xor (bit_xor (mul8 2 (bit_xor d a)) a) (bit_xor b c) ∷ []
    ≡ map (mixed_byte (0x02 ∷ 0x03 ∷ 0x01 ∷ 0x01 ∷ []) (a ∷ b ∷ c ∷ d ∷ [])) (range_with_len 0 4)
column_mixed a b c d ha hb hc hd =
    let s : List ℕ = a ∷ b ∷ c ∷ d ∷ [] in
    let at : (k : ℕ) → slice_index s k < 256 = four_bytes a b c d ha hb hc hd in
    λ j.
    mixed_lane s 0 a b c d at refl refl refl refl j ∷ mixed_lane s 1 b c d a at refl refl refl refl j
    ∷ mixed_lane s 2 c d a b at refl refl refl refl j ∷ mixed_lane s 3 d a b c at refl refl refl refl j ∷ []

pub column_mixed_back : (a b c d u v : ℕ) → a < 256 → b < 256 → c < 256 → d < 256 → u ≡ four (bit_xor a c) → v ≡ four (bit_xor b d)
    → map (mixed_byte (0x02 ∷ 0x03 ∷ 0x01 ∷ 0x01 ∷ []) (bit_xor a u ∷ bit_xor b v ∷ bit_xor c u ∷ bit_xor d v ∷ [])) (range_with_len 0 4)
    ≡ map (mixed_byte (0x0e ∷ 0x0b ∷ 0x0d ∷ 0x09 ∷ []) (a ∷ b ∷ c ∷ d ∷ [])) (range_with_len 0 4)
column_mixed_back a b c d u v ha hb hc hd eu ev =
    let s : List ℕ = a ∷ b ∷ c ∷ d ∷ [] in
    let t : List ℕ = bit_xor a u ∷ bit_xor b v ∷ bit_xor c u ∷ bit_xor d v ∷ [] in
    let turned_back : (x y w : ℕ) → w ≡ four (bit_xor x y) → bit_xor y (four (bit_xor y x)) ≡ bit_xor y w = λ x y w e. ap (λ n. bit_xor y (four n)) (xor_comm y x) ∙ ap (bit_xor y) (sym e) in
    let one : (i p q r s' : ℕ) → p < 256 → q < 256 → r < 256 → s' < 256
    → bit_xor p (four (bit_xor p r)) ≡ slice_index t (4 * (i / 4) + (i + 0) % 4) → bit_xor q (four (bit_xor q s')) ≡ slice_index t (4 * (i / 4) + (i + 1) % 4)
    → bit_xor r (four (bit_xor r p)) ≡ slice_index t (4 * (i / 4) + (i + 2) % 4) → bit_xor s' (four (bit_xor s' q)) ≡ slice_index t (4 * (i / 4) + (i + 3) % 4)
    → p ≡ slice_index s (4 * (i / 4) + (i + 0) % 4) → q ≡ slice_index s (4 * (i / 4) + (i + 1) % 4)
    → r ≡ slice_index s (4 * (i / 4) + (i + 2) % 4) → s' ≡ slice_index s (4 * (i / 4) + (i + 3) % 4)
    → mixed_byte (0x02 ∷ 0x03 ∷ 0x01 ∷ 0x01 ∷ []) t i ≡ mixed_byte (0x0e ∷ 0x0b ∷ 0x0d ∷ 0x09 ∷ []) s i
    = λ i p q r s' hp hq hr hs e0 e1 e2 e3 f0 f1 f2 f3.
    sym (mixed_from 2 3 1 1 t i (bit_xor p (four (bit_xor p r))) (bit_xor q (four (bit_xor q s'))) (bit_xor r (four (bit_xor r p))) (bit_xor s' (four (bit_xor s' q))) e0 e1 e2 e3)
    ∙ lane_back p q r s' hp hq hr hs ∙ mixed_from 0x0e 0x0b 0x0d 0x09 s i p q r s' f0 f1 f2 f3 in
    let a' : bit_xor a (four (bit_xor a c)) ≡ bit_xor a u = ap (bit_xor a) (sym eu) in
    let b' : bit_xor b (four (bit_xor b d)) ≡ bit_xor b v = ap (bit_xor b) (sym ev) in
    let c' : bit_xor c (four (bit_xor c a)) ≡ bit_xor c u = turned_back a c u eu in
    let d' : bit_xor d (four (bit_xor d b)) ≡ bit_xor d v = turned_back b d v ev in
    λ j.
    one 0 a b c d ha hb hc hd a' b' c' d' refl refl refl refl j ∷ one 1 b c d a hb hc hd ha b' c' d' a' refl refl refl refl j
    ∷ one 2 c d a b hc hd ha hb c' d' a' b' refl refl refl refl j ∷ one 3 d a b c hd ha hb hc d' a' b' c' refl refl refl refl j ∷ []
