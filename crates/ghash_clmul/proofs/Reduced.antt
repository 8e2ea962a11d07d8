-- A number below 2^256 whose bit 255 is the coefficient of x^0, reduced to a block. The product of two blocks, as
-- numbers whose bit i is the coefficient of x^i, is reduced to the field's product times x.
use Rattle.std.proofs.Common.{◌≡◌, ℕ, zero, suc, ◌+◌, ◌*◌, ◌/◌, ◌%◌, ◌^◌, ◌<◌, Bool, cond, eqb, bit_xor, refl, sym, ap, ap₂, ◌∙◌, arith, ⊎_elim, subst}
use Rattle.std.specs.Int.{bit_at}
use Rattle.std.specs.Int.Bits.{xor_zero_r, xor_assoc, xor_comm, xor_shr, xor_mod, xor_shifted}
use Rattle.std.proofs.lemmas.Nat.{pow-add, pow_pos, shl_below, shr_split, shr_high, mod_low, mod_below}
use Rattle.std.proofs.lemmas.Bool.{cases_eq, eq-eqb, ne_eqb}
use Rattle.std_defs.specs.Aes.{product}
use Rattle.std_defs.specs.GhashField.{polynomial_of, field_product}
use Rattle.std_defs.proofs.Multiples.{times_x, times_power, times_power-xor, times_power-zero, times_power-add, times_x-xor, times_x-zero, multiple, xor_swap}
use Rattle.std_defs.proofs.Product.{polynomial_of-at}
use Rattle.std_defs.proofs.Field.{field_product-multiple, field_product-comm}
use Rattle.ghash_field.proofs.ByteSums.{times_power-down}
use Rattle.ghash_clmul.specs.Wide.{reduced}

pub reduced-xor : (a b : ℕ) → reduced (bit_xor a b) ≡ bit_xor (reduced a) (reduced b)
unfolding reduced
reduced-xor a b =
    ap₂ bit_xor (xor_shr a b 128) (ap (times_power 128) (xor_mod a b 128) ∙ times_power-xor 128 (a % 2 ^ 128) (b % 2 ^ 128))
    ∙ xor_swap (a / 2 ^ 128) (b / 2 ^ 128) (times_power 128 (a % 2 ^ 128)) (times_power 128 (b % 2 ^ 128))

pub reduced-zero : reduced 0 ≡ 0
unfolding reduced
reduced-zero = times_power-zero 128

pub power-zero : (v : ℕ) → times_power 0 v ≡ v
unfolding times_power
power-zero v = refl

-- a block that stands i places up
pub reduced-shifted : (x i k : ℕ) → x < 2 ^ 128 → i + k ≡ 128 → reduced (x * 2 ^ i) ≡ times_power k x
unfolding reduced
reduced-shifted x i k fits e =
    ap₂ (λ (a b : ℕ). bit_xor a (times_power 128 b)) (ap (λ (t : ℕ). t / 2 ^ 128) split ∙ shr_high x1 128 (x0 * 2 ^ i) low) (ap (λ (t : ℕ). t % 2 ^ 128) split ∙ mod_low x1 128 (x0 * 2 ^ i) low)
    ∙ ap₂ bit_xor (sym (times_power-down k 0 x1 ∙ one x1)) (ap (λ (t : ℕ). times_power t (x0 * 2 ^ i)) (let f : 128 ≡ k + i = omega arith in f) ∙ times_power-add k i (x0 * 2 ^ i) ∙ ap (times_power k) (ap (λ (t : ℕ). times_power i (x0 * 2 ^ t)) (let f : i ≡ i + 0 = omega arith in f) ∙ times_power-down i 0 x0 ∙ one x0))
    ∙ ap (λ (t : ℕ). bit_xor (times_power k (x1 * 2 ^ t)) (times_power k x0)) (let f : k + 0 ≡ k = omega arith in f)
    ∙ sym (times_power-xor k (x1 * 2 ^ k) x0)
    ∙ ap (times_power k) (xor_shifted x1 k x0 (mod_below x (2 ^ k) (pow_pos k)) ∙ shr_split x k)
  where
    x1 : ℕ
    x1 = x / 2 ^ k

    x0 : ℕ
    x0 = x % 2 ^ k

    one : (a : ℕ) → a * 2 ^ 0 ≡ a
    one a = omega arith

    low : x % 2 ^ k * 2 ^ i < 2 ^ 128
    low = subst (λ (t : ℕ). x % 2 ^ k * 2 ^ i < 2 ^ t) (let f : k + i ≡ 128 = omega arith in f) (shl_below (x % 2 ^ k) k i (mod_below x (2 ^ k) (pow_pos k)))

    distributes : (a p b q : ℕ) → (a * p + b) * q ≡ a * (p * q) + b * q
    distributes a p b q = grind arith

    split : x * 2 ^ i ≡ x / 2 ^ k * 2 ^ 128 + x % 2 ^ k * 2 ^ i
    split =
        ap (λ (t : ℕ). t * 2 ^ i) (sym (shr_split x k))
        ∙ distributes (x / 2 ^ k) (2 ^ k) (x % 2 ^ k) (2 ^ i)
        ∙ ap (λ (t : ℕ). x / 2 ^ k * t + x % 2 ^ k * 2 ^ i) (sym (pow-add 2 k i) ∙ ap (λ (t : ℕ). 2 ^ t) (let f : k + i ≡ 128 = omega arith in f))

-- ---- the product

once : (v : ℕ) → 1 * v ≡ v
once v = omega arith

never : (v : ℕ) → 0 * v ≡ 0
never v = omega arith

-- one term
term : (b x i k : ℕ) → b < 2 → x < 2 ^ 128 → i + suc k ≡ 128 → reduced (b * (x * 2 ^ i)) ≡ times_x (cond (eqb b 1) (times_power k x) 0)
unfolding times_power
term b x i k small fits e =
    ⊎_elim
    (λ (one : b ≡ 1).
    ap (λ (t : ℕ). reduced (t * (x * 2 ^ i))) one ∙ ap reduced (once (x * 2 ^ i)) ∙ reduced-shifted x i (suc k) fits e
    ∙ ap (λ (c : Bool). times_x (cond c (times_power k x) 0)) (sym (eq-eqb b 1 one)))
    (λ (other : b ≡ 1 → ⊥).
    let none : b ≡ 0 = omega arith in
    ap (λ (t : ℕ). reduced (t * (x * 2 ^ i))) none ∙ ap reduced (never (x * 2 ^ i)) ∙ reduced-zero ∙ sym times_x-zero
    ∙ ap (λ (c : Bool). times_x (cond c (times_power k x) 0)) (sym (ne_eqb b 1 other)))
    (cases_eq b 1)

-- the terms below x^n on one side, the others on the other
both_sides : (x y n k : ℕ) → x < 2 ^ 128 → n + k ≡ 128
    → bit_xor (reduced (product x y n)) (times_x (multiple k (polynomial_of y) x)) ≡ times_x (multiple 128 (polynomial_of y) x)
unfolding product multiple
both_sides x y zero k fits e =
    ap₂ bit_xor reduced-zero (ap (λ (t : ℕ). times_x (multiple t (polynomial_of y) x)) (let f : k ≡ 128 = omega arith in f))
both_sides x y (suc n) k fits e =
    ap (λ (t : ℕ). bit_xor t (times_x (multiple k (polynomial_of y) x)))
    (reduced-xor (product x y n) (bit_at y n * (x * 2 ^ n))
    ∙ ap (bit_xor (reduced (product x y n))) (term (bit_at y n) x n k (omega arith) fits (omega arith) ∙ ap (λ (c : Bool). times_x (cond c (times_power k x) 0)) (sym (polynomial_of-at y k n (omega arith)))))
    ∙ xor_assoc (reduced (product x y n)) last (times_x (multiple k (polynomial_of y) x))
    ∙ ap (bit_xor (reduced (product x y n))) (xor_comm last (times_x (multiple k (polynomial_of y) x)) ∙ sym (times_x-xor (multiple k (polynomial_of y) x) (cond (polynomial_of y k) (times_power k x) 0)))
    ∙ both_sides x y n (suc k) fits (omega arith)
  where
    last : ℕ
    last = times_x (cond (polynomial_of y k) (times_power k x) 0)

multiple-none_of : (x y : ℕ) → multiple 0 (polynomial_of y) x ≡ 0
unfolding multiple
multiple-none_of x y = refl

-- the field's product times x
pub reduced-product : (x y : ℕ) → x < 2 ^ 128 → y < 2 ^ 128 → reduced (product x y 128) ≡ times_x (field_product x y)
reduced-product x y hx hy =
    sym (xor_zero_r (reduced (product x y 128)))
    ∙ ap (bit_xor (reduced (product x y 128))) (sym times_x-zero ∙ ap times_x (sym (multiple-none_of x y)))
    ∙ both_sides x y 128 0 hx refl
    ∙ ap times_x (sym (field_product-multiple y x hx) ∙ field_product-comm y x hy hx)
