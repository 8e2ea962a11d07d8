-- A polynomial of 32 bytes: a block, and a second one whose place is x^128 on. Times x^8 it moves on by a byte.
use Rattle.std.proofs.Common.{◌≡◌, ℕ, zero, suc, ◌+◌, ◌*◌, ◌/◌, ◌^◌, ◌<◌, ◌≤◌, bit_xor, refl, sym, ap, ap₂, ◌∙◌, arith, List, ◌∷◌, get_or, take, length, lit<, ⊎_elim, length-take}
use Rattle.std.specs.Int.Bits.{xor_zero_r, xor_comm, xor_assoc}
use Rattle.std.proofs.lemmas.Nat.{pow-add, shl-shr}
use Rattle.std.proofs.lemmas.Grind.{common_steps}
use Rattle.std.proofs.lemmas.Simd.{get_or-zip2}
use lib.Lanes.{zip2}
use Rattle.std.proofs.lemmas.Bool.{cases_lt}
use Rattle.std.proofs.lemmas.List.{get_or_past}
use Rattle.std_defs.specs.Blocks.{block_number}
use Rattle.std_defs.specs.GhashField.{Polynomial, polynomial_of, field_one}
use Rattle.std_defs.proofs.Multiples.{times_x, times_power, times_power-xor, times_power-zero, times_power-add, multiple, multiple-xor, multiple-times_power}
use Rattle.std_defs.proofs.Product.{multiple-one}
use Rattle.ghash_field.specs.ByteRows.{front, spread, whole}
use Rattle.ghash_field.proofs.ByteSums.{shift, spread-same, spread-xor, spread-last, front-xor, times_power-down, block_number-spread, spread-bytes}

-- ---- x^128

power_128 : times_power 128 field_one ≡ bit_xor (bit_xor (bit_xor field_one (times_power 1 field_one)) (times_power 2 field_one)) (times_power 7 field_one)
unfolding times_power times_x
power_128 = refl

folded_powers : (v : ℕ) → v < 2 ^ 128 → times_power 128 v ≡ bit_xor (bit_xor (bit_xor v (times_power 1 v)) (times_power 2 v)) (times_power 7 v)
folded_powers v fits =
    ap (times_power 128) (sym (multiple-one v fits))
    ∙ sym (multiple-times_power 128 p 128 field_one)
    ∙ ap (multiple 128 p) power_128
    ∙ multiple-xor 128 p (bit_xor (bit_xor field_one (times_power 1 field_one)) (times_power 2 field_one)) (times_power 7 field_one)
    ∙ ap₂ bit_xor
    (multiple-xor 128 p (bit_xor field_one (times_power 1 field_one)) (times_power 2 field_one)
    ∙ ap₂ bit_xor
    (multiple-xor 128 p field_one (times_power 1 field_one) ∙ ap₂ bit_xor (multiple-one v fits) (one 1))
    (one 2))
    (one 7)
  where
    p : Polynomial
    p = polynomial_of v

    one : (n : ℕ) → multiple 128 p (times_power n field_one) ≡ times_power n v
    one n = multiple-times_power 128 p n field_one ∙ ap (times_power n) (multiple-one v fits)

down : (n m a : ℕ) → n + m ≡ 8 → times_power n (a * 2 ^ 8) ≡ a * 2 ^ 8 / 2 ^ n
down n m a e =
    ap (λ (t : ℕ). times_power n (a * 2 ^ t)) (sym e)
    ∙ times_power-down n m a
    ∙ sym (shl-shr (a * 2 ^ m) n)
    ∙ ap (λ (t : ℕ). t / 2 ^ n) (times (a) (2 ^ m) (2 ^ n) ∙ ap (λ (t : ℕ). a * t) (sym (pow-add 2 n m) ∙ ap (λ (t : ℕ). 2 ^ t) e))
  where
    times : (x y z : ℕ) → x * y * z ≡ x * (z * y)
    times x y z = grind arith

-- a block whose last byte is 0, times x^128
pub folded : (a v : ℕ) → v ≡ a * 2 ^ 8 → v < 2 ^ 128 → times_power 128 v ≡ bit_xor (bit_xor (bit_xor v (v / 2)) (v / 4)) (v / 128)
folded a v e fits =
    folded_powers v fits
    ∙ ap₂ bit_xor (ap₂ bit_xor (ap (bit_xor v) (place 1 7 refl)) (place 2 6 refl)) (place 7 1 refl)
  where
    place : (n m : ℕ) → n + m ≡ 8 → times_power n v ≡ v / 2 ^ n
    place n m s = ap (times_power n) e ∙ down n m a s ∙ ap (λ (t : ℕ). t / 2 ^ n) (sym e)

-- ---- 32 bytes

abbrev pub AreSmall : List ℕ → Type 0
AreSmall xs = (i : ℕ) → get_or xs i 0 < 256

fifteen : (n : ℕ) (xs : List ℕ) (i : ℕ) → i < n → get_or (take n xs) i 0 ≡ get_or xs i 0
fifteen n xs i h = grind (arith, common_steps)

pub small_take : (n : ℕ) (xs : List ℕ) → AreSmall xs → (i : ℕ) → get_or (take n xs) i 0 < 256
small_take n xs hx i =
    ⊎_elim
    (λ (h : i < n). rw (fifteen n xs i h) (hx i))
    (λ (h : n ≤ i). rw (get_or_past (take n xs) i 0 (omega (arith, length-take n xs))) (lit< tt))
    (cases_lt i n)

-- a byte in front of fifteen
pushed : (b : ℕ) (xs : List ℕ) → b < 256 → AreSmall xs → AreSmall (b ∷ take 15 xs)
pushed b xs hb hx zero = hb
pushed b xs hb hx (suc i) = small_take 15 xs hx i

pub block_number-pushed : (b : ℕ) (xs : List ℕ) → b < 256 → AreSmall xs
    → bit_xor (block_number (b ∷ take 15 xs)) (times_power 128 (front (get_or xs 15 0))) ≡ bit_xor (front b) (shift (block_number xs))
unfolding spread
block_number-pushed b xs hb hx =
    ap (λ (t : ℕ). bit_xor t (times_power 128 (front (get_or xs 15 0)))) (block_number-spread (b ∷ take 15 xs) (pushed b xs hb hx)
    ∙ ap (λ (t : ℕ). bit_xor (front b) (shift t)) (spread-same 15 (λ i. front (get_or (take 15 xs) i 0)) (λ i. front (get_or xs i 0)) (λ i h. ap front (fifteen 15 xs i h))))
    ∙ xor_assoc (front b) (shift s) (times_power 128 last)
    ∙ ap (bit_xor (front b))
    (ap (bit_xor (shift s)) (times_power-add 8 120 last)
    ∙ sym (times_power-xor 8 s (times_power 120 last))
    ∙ ap shift (sym (spread-last 15 (λ i. front (get_or xs i 0))) ∙ sym (block_number-spread xs hx)))
  where
    s : ℕ
    s = spread 15 (λ i. front (get_or xs i 0))

    last : ℕ
    last = front (get_or xs 15 0)

pub block_number-xor : (xs ys : List ℕ) → length xs ≡ 16 → length ys ≡ 16 → AreSmall xs → AreSmall ys → AreSmall (zip2 bit_xor xs ys)
    → block_number (zip2 bit_xor xs ys) ≡ bit_xor (block_number xs) (block_number ys)
block_number-xor xs ys lx ly hx hy hz =
    block_number-spread (zip2 bit_xor xs ys) hz
    ∙ spread-same 16 (λ i. front (get_or (zip2 bit_xor xs ys) i 0)) (λ i. bit_xor (front (get_or xs i 0)) (front (get_or ys i 0)))
    (λ i h. ap front (get_or-zip2 bit_xor xs ys i 0 0 0 (omega arith) (omega arith)) ∙ sym (front-xor (get_or xs i 0) (get_or ys i 0)))
    ∙ spread-xor 16 (λ i. front (get_or xs i 0)) (λ i. front (get_or ys i 0))
    ∙ ap₂ bit_xor (sym (block_number-spread xs hx)) (sym (block_number-spread ys hy))

-- the next byte: w is added to the whole times x^8
pub whole_more : (low high w : List ℕ) → length low ≡ 16 → length w ≡ 16 → AreSmall low → AreSmall high → AreSmall w
    → AreSmall (zip2 bit_xor (0 ∷ take 15 low) w) → get_or high 15 0 ≡ 0
    → whole (zip2 bit_xor (0 ∷ take 15 low) w) (get_or low 15 0 ∷ take 15 high) ≡ bit_xor (block_number w) (shift (whole low high))
whole_more low high w ll lw hl hh hw hz none =
    ap₂ bit_xor
    (block_number-xor (0 ∷ take 15 low) w fits lw (pushed 0 low (lit< tt) hl) hw hz ∙ xor_comm (block_number (0 ∷ take 15 low)) (block_number w))
    (ap (times_power 128) second ∙ times_power-xor 128 (front carry) (shift (block_number high)))
    ∙ xor_assoc (block_number w) (block_number (0 ∷ take 15 low)) (bit_xor (times_power 128 (front carry)) (times_power 128 (shift (block_number high))))
    ∙ ap (bit_xor (block_number w))
    (sym (xor_assoc (block_number (0 ∷ take 15 low)) (times_power 128 (front carry)) (times_power 128 (shift (block_number high))))
    ∙ ap₂ bit_xor first (turned (block_number high))
    ∙ sym (times_power-xor 8 (block_number low) (times_power 128 (block_number high))))
  where
    carry : ℕ
    carry = get_or low 15 0

    fits : length (0 ∷ take 15 low) ≡ 16
    fits = grind (arith, common_steps)

    first : bit_xor (block_number (0 ∷ take 15 low)) (times_power 128 (front carry)) ≡ shift (block_number low)
    first = block_number-pushed 0 low (lit< tt) hl ∙ xor_comm (front 0) (shift (block_number low)) ∙ xor_zero_r (shift (block_number low))

    second : block_number (carry ∷ take 15 high) ≡ bit_xor (front carry) (shift (block_number high))
    second =
        sym (xor_zero_r (block_number (carry ∷ take 15 high)))
        ∙ ap (bit_xor (block_number (carry ∷ take 15 high))) (sym (times_power-zero 128) ∙ ap (λ (t : ℕ). times_power 128 (front t)) (sym none))
        ∙ block_number-pushed carry high (hl 15) hh

    turned : (v : ℕ) → times_power 128 (shift v) ≡ shift (times_power 128 v)
    turned v = sym (times_power-add 128 8 v) ∙ times_power-add 8 128 v

-- a block whose last byte is 0
pub last_is_zero : (xs : List ℕ) → AreSmall xs → get_or xs 15 0 ≡ 0 → (a : ℕ) × (block_number xs ≡ a * 2 ^ 8)
last_is_zero xs hx none = spread-bytes xs hx none
