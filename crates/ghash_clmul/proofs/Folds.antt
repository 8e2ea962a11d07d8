-- A block times x^64 by one product of polynomials, and a wide product reduced by two of them.
use Rattle.std.proofs.Common.{◌≡◌, ℕ, zero, suc, ◌+◌, ◌*◌, ◌/◌, ◌%◌, ◌^◌, ◌<◌, bit_xor, refl, sym, ap, ap₂, ◌∙◌, arith}
use Rattle.std.specs.Int.{bit_at}
use Rattle.std.specs.Int.Bits.{xor_assoc, xor_comm, xor_shifted}
use Rattle.std.proofs.lemmas.Nat.{mod-pow-add, shl_below, pow_pos}
use Rattle.std_defs.specs.Aes.{product}
use Rattle.std_defs.proofs.Multiples.{times_power, times_power-xor, times_power-add}
use Rattle.ghash_field.proofs.ByteSums.{times_power-down}
use Rattle.ghash_field.proofs.MovedOn.{folded}
use Rattle.ghash_clmul.specs.Wide.{reduced, spanned}
use Rattle.ghash_clmul.proofs.Reduced.{reduced-xor, reduced-shifted, power-zero}
use Rattle.ghash_clmul.proofs.Parts.{product-xor, product-shifted}

-- the product with 1
product-one : (y n : ℕ) → product 1 y n ≡ y % 2 ^ n
unfolding product
product-one y zero = omega arith
product-one y (suc n) =
    ap (λ (t : ℕ). bit_xor t (bit_at y n * (1 * 2 ^ n))) (product-one y n)
    ∙ xor_comm (y % 2 ^ n) (bit_at y n * (1 * 2 ^ n))
    ∙ ap (λ (t : ℕ). bit_xor (bit_at y n * t) (y % 2 ^ n)) (let e : 1 * 2 ^ n ≡ 2 ^ n = omega arith in e)
    ∙ xor_shifted (bit_at y n) n (y % 2 ^ n) (mod_below' y n)
    ∙ sym (ap (λ (t : ℕ). y % 2 ^ t) (let e : suc n ≡ 1 + n = omega arith in e) ∙ mod-pow-add y 1 n)
  where
    mod_below' : (y n : ℕ) → y % 2 ^ n < 2 ^ n
    mod_below' y n = let p : 0 < 2 ^ n = pow_pos n in omega arith

one_up : (k y : ℕ) → y < 2 ^ 64 → product (1 * 2 ^ k) y 64 ≡ y * 2 ^ k
one_up k y h = product-shifted k 1 y 64 ∙ ap (λ (t : ℕ). t * 2 ^ k) (product-one y 64 ∙ (let e : y % 2 ^ 64 ≡ y = omega arith in e))

-- x^57 + x^62 + x^63
three : 0xc200000000000000 ≡ bit_xor (bit_xor (1 * 2 ^ 57) (1 * 2 ^ 62)) (1 * 2 ^ 63)
three = refl

product-three : (y : ℕ) → y < 2 ^ 64 → product 0xc200000000000000 y 64 ≡ bit_xor (bit_xor (y * 2 ^ 57) (y * 2 ^ 62)) (y * 2 ^ 63)
product-three y h =
    ap (λ (t : ℕ). product t y 64) three
    ∙ product-xor (bit_xor (1 * 2 ^ 57) (1 * 2 ^ 62)) (1 * 2 ^ 63) y 64
    ∙ ap₂ bit_xor (product-xor (1 * 2 ^ 57) (1 * 2 ^ 62) y 64 ∙ ap₂ bit_xor (one_up 57 y h) (one_up 62 y h)) (one_up 63 y h)

-- the lower half of a block, times x^64
low_folded : (y : ℕ) → y < 2 ^ 64 → times_power 64 y ≡ bit_xor (bit_xor (bit_xor (y * 2 ^ 64) (y * 2 ^ 63)) (y * 2 ^ 62)) (y * 2 ^ 57)
low_folded y h =
    sym (times_power-add 64 64 (y * 2 ^ 64) ∙ ap (times_power 64) (times_power-down 64 0 y ∙ (let e : y * 2 ^ 0 ≡ y = omega arith in e)))
    ∙ folded (y * 2 ^ 56) (y * 2 ^ 64) (omega arith) (shl_below y 64 64 h)
    ∙ ap₂ bit_xor (ap₂ bit_xor (ap (bit_xor (y * 2 ^ 64)) (half y)) (quarter y)) (rest y)
  where
    half : (y : ℕ) → y * 2 ^ 64 / 2 ≡ y * 2 ^ 63
    half y = omega arith

    quarter : (y : ℕ) → y * 2 ^ 64 / 4 ≡ y * 2 ^ 62
    quarter y = omega arith

    rest : (y : ℕ) → y * 2 ^ 64 / 128 ≡ y * 2 ^ 57
    rest y = omega arith

-- the halves of a block change places, and the product of the lower one is added
pub by_fold : (a b : ℕ) → a < 2 ^ 64 → b < 2 ^ 64 → bit_xor (b + a * 2 ^ 64) (product 0xc200000000000000 a 64) ≡ times_power 64 (a + b * 2 ^ 64)
by_fold a b ha hb =
    ap₂ bit_xor (into a b hb) (product-three a ha)
    ∙ regrouped (a * 2 ^ 64) b (a * 2 ^ 57) (a * 2 ^ 62) (a * 2 ^ 63)
    ∙ sym
    (ap (times_power 64) (into b a ha)
    ∙ times_power-xor 64 (b * 2 ^ 64) a
    ∙ ap₂ bit_xor (times_power-down 64 0 b ∙ (let e : b * 2 ^ 0 ≡ b = omega arith in e)) (low_folded a ha))
  where
    into : (a b : ℕ) → b < 2 ^ 64 → b + a * 2 ^ 64 ≡ bit_xor (a * 2 ^ 64) b
    into a b h = (let e : b + a * 2 ^ 64 ≡ a * 2 ^ 64 + b = omega arith in e) ∙ sym (xor_shifted a 64 b h)

    regrouped : (w b p q r : ℕ) → bit_xor (bit_xor w b) (bit_xor (bit_xor p q) r) ≡ bit_xor b (bit_xor (bit_xor (bit_xor w r) q) p)
    regrouped w b p q r =
        ap₂ bit_xor (xor_comm w b) (ap (λ (t : ℕ). bit_xor t r) (xor_comm p q) ∙ xor_comm (bit_xor q p) r ∙ sym (xor_assoc r q p))
        ∙ xor_assoc b w (bit_xor (bit_xor r q) p)
        ∙ ap (bit_xor b) (sym (xor_assoc w (bit_xor r q) p) ∙ ap (λ (t : ℕ). bit_xor t p) (sym (xor_assoc w r q)))

-- a wide product by two folds
pub by_two_folds : (low middle high : ℕ) → low < 2 ^ 128 → middle < 2 ^ 128 → high < 2 ^ 128
    → bit_xor high (times_power 64 (bit_xor middle (times_power 64 low))) ≡ reduced (spanned low middle high)
by_two_folds low middle high hl hm hh =
    ap (bit_xor high) (times_power-xor 64 middle (times_power 64 low) ∙ ap (bit_xor (times_power 64 middle)) (sym (times_power-add 64 64 low)) ∙ xor_comm (times_power 64 middle) (times_power 128 low))
    ∙ xor_comm high (bit_xor (times_power 128 low) (times_power 64 middle))
    ∙ ap₂ bit_xor (ap₂ bit_xor (sym (reduced-shifted low 0 128 hl refl) ∙ ap reduced (let e : low * 2 ^ 0 ≡ low = omega arith in e)) (sym (reduced-shifted middle 64 64 hm refl)) ∙ sym (reduced-xor low (middle * 2 ^ 64)))
    (sym (power-zero high) ∙ sym (reduced-shifted high 128 0 hh refl))
    ∙ sym (reduced-xor (bit_xor low (middle * 2 ^ 64)) (high * 2 ^ 128))
