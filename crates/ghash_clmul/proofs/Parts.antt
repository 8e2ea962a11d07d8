-- The product of two numbers below 2^128 as polynomials, from the products of their halves.
use Rattle.std.proofs.Common.{◌≡◌, ℕ, zero, suc, ◌+◌, ◌*◌, ◌/◌, ◌%◌, ◌^◌, ◌<◌, bit_xor, refl, sym, ap, ap₂, ◌∙◌, arith, ◌⊎◌, inl, inr, ⊎_elim, add-suc}
use Rattle.std.specs.Int.{bit_at}
use Rattle.std.specs.Int.Bits.{xor_zero_r, xor_assoc, xor_comm, xor_shifted}
use Rattle.std.proofs.lemmas.Nat.{pow-add, pow_pos, shr-shr, shr_split, xor_block, field_of, mod-pow-add, mod_below}
use Rattle.std_defs.specs.Aes.{product}
use Rattle.std_defs.proofs.Multiples.{xor_swap}
use Rattle.ghash_clmul.specs.Wide.{spanned}

pub xor-shifted_both : (k a b : ℕ) → bit_xor a b * 2 ^ k ≡ bit_xor (a * 2 ^ k) (b * 2 ^ k)
xor-shifted_both k a b =
    sym
    (ap₂ bit_xor (plain (a * 2 ^ k)) (plain (b * 2 ^ k))
    ∙ xor_block k a b 0 0 (pow_pos k) (pow_pos k)
    ∙ sym (plain (bit_xor a b * 2 ^ k)))
  where
    plain : (n : ℕ) → n ≡ n + 0
    plain n = omega arith

once : (v : ℕ) → 1 * v ≡ v
once v = omega arith

never : (v : ℕ) → 0 * v ≡ 0
never v = omega arith

either : (b : ℕ) → b < 2 → (b ≡ 0) ⊎ (b ≡ 1)
either zero h = inl refl
either (suc zero) h = inr refl
either (suc (suc b)) h = absurd (omega arith)

bit-xor : (b u v : ℕ) → b < 2 → b * bit_xor u v ≡ bit_xor (b * u) (b * v)
bit-xor b u v h =
    ⊎_elim
    (λ (e : b ≡ 0). ap (λ (t : ℕ). t * bit_xor u v) e ∙ never (bit_xor u v) ∙ sym (ap₂ bit_xor (ap (λ (t : ℕ). t * u) e ∙ never u) (ap (λ (t : ℕ). t * v) e ∙ never v)))
    (λ (e : b ≡ 1). ap (λ (t : ℕ). t * bit_xor u v) e ∙ once (bit_xor u v) ∙ sym (ap₂ bit_xor (ap (λ (t : ℕ). t * u) e ∙ once u) (ap (λ (t : ℕ). t * v) e ∙ once v)))
    (either b h)

bit_lt : (y i : ℕ) → bit_at y i < 2
bit_lt y i = omega arith

-- a sum on the left
pub product-xor : (a b y n : ℕ) → product (bit_xor a b) y n ≡ bit_xor (product a y n) (product b y n)
unfolding product
product-xor a b y zero = refl
product-xor a b y (suc n) =
    ap₂ bit_xor (product-xor a b y n) (ap (λ (t : ℕ). bit_at y n * t) (xor-shifted_both n a b) ∙ bit-xor (bit_at y n) (a * 2 ^ n) (b * 2 ^ n) (bit_lt y n))
    ∙ xor_swap (product a y n) (product b y n) (bit_at y n * (a * 2 ^ n)) (bit_at y n * (b * 2 ^ n))

-- a number k places up on the left
pub product-shifted : (k a y n : ℕ) → product (a * 2 ^ k) y n ≡ product a y n * 2 ^ k
unfolding product
product-shifted k a y zero = sym (never (2 ^ k))
product-shifted k a y (suc n) =
    ap₂ bit_xor (product-shifted k a y n) (turned (bit_at y n) a (2 ^ k) (2 ^ n))
    ∙ sym (xor-shifted_both k (product a y n) (bit_at y n * (a * 2 ^ n)))
  where
    turned : (b a p q : ℕ) → b * (a * p * q) ≡ b * (a * q) * p
    turned b a p q = grind arith

-- the lower 64 of y's terms, and the others
product-more : (x y n : ℕ) → product x y (64 + n) ≡ bit_xor (product x y 64) (product x (y / 2 ^ 64) n * 2 ^ 64)
unfolding product
product-more x y zero = sym (xor_zero_r (product x y 64))
product-more x y (suc n) =
    ap (product x y) (add-suc 64 n)
    ∙ ap₂ bit_xor (product-more x y n) (ap₂ (λ (s t : ℕ). s % 2 * t) (sym (shr-shr y 64 n)) (ap (λ (t : ℕ). x * t) (pow-add 2 64 n)) ∙ turned (bit_at (y / 2 ^ 64) n) x (2 ^ n))
    ∙ xor_assoc (product x y 64) (product x (y / 2 ^ 64) n * 2 ^ 64) (bit_at (y / 2 ^ 64) n * (x * 2 ^ n) * 2 ^ 64)
    ∙ ap (bit_xor (product x y 64)) (sym (xor-shifted_both 64 (product x (y / 2 ^ 64) n) (bit_at (y / 2 ^ 64) n * (x * 2 ^ n))))
  where
    turned : (b a p : ℕ) → b * (a * (2 ^ 64 * p)) ≡ b * (a * p) * 2 ^ 64
    turned b a p = grind arith

low_bit : (y i j : ℕ) → i + suc j ≡ 64 → bit_at y i ≡ bit_at (y % 2 ^ 64) i
low_bit y i j e =
    sym
    (ap (λ (t : ℕ). y % 2 ^ t / 2 ^ i % 2) (let f : 64 ≡ suc j + i = omega arith in f)
    ∙ ap (λ (t : ℕ). t % 2) (field_of y (suc j) i)
    ∙ last (y / 2 ^ i))
  where
    last : (v : ℕ) → v % 2 ^ suc j % 2 ≡ v % 2
    last v =
        let s : v % 2 ^ suc j ≡ v / 2 ^ 1 % 2 ^ j * 2 ^ 1 + v % 2 ^ 1 = ap (λ (t : ℕ). v % 2 ^ t) (let f : suc j ≡ j + 1 = omega arith in f) ∙ mod-pow-add v j 1 in
        omega arith

product-low : (x y n j : ℕ) → n + j ≡ 64 → product x y n ≡ product x (y % 2 ^ 64) n
unfolding product
product-low x y zero j e = refl
product-low x y (suc n) j e =
    ap₂ bit_xor (product-low x y n (suc j) (omega arith)) (ap (λ (t : ℕ). t * (x * 2 ^ n)) (low_bit y n j (omega arith)))

-- by both halves of y
by_halves : (x y : ℕ) → product x y 128 ≡ bit_xor (product x (y % 2 ^ 64) 64) (product x (y / 2 ^ 64) 64 * 2 ^ 64)
by_halves x y = product-more x y 64 ∙ ap (λ (t : ℕ). bit_xor t (product x (y / 2 ^ 64) 64 * 2 ^ 64)) (product-low x y 64 0 refl)

-- and of x
of_halves : (x y : ℕ) → product x y 64 ≡ bit_xor (product (x / 2 ^ 64) y 64 * 2 ^ 64) (product (x % 2 ^ 64) y 64)
of_halves x y =
    ap (λ (t : ℕ). product t y 64) (sym (xor_shifted (x / 2 ^ 64) 64 (x % 2 ^ 64) (mod_below x (2 ^ 64) (pow_pos 64)) ∙ shr_split x 64))
    ∙ product-xor (x / 2 ^ 64 * 2 ^ 64) (x % 2 ^ 64) y 64
    ∙ ap (λ (t : ℕ). bit_xor t (product (x % 2 ^ 64) y 64)) (product-shifted 64 (x / 2 ^ 64) y 64)

pub product-of_halves : (x y : ℕ) → product x y 128 ≡ spanned
    (product (x % 2 ^ 64) (y % 2 ^ 64) 64)
    (bit_xor (product (x % 2 ^ 64) (y / 2 ^ 64) 64) (product (x / 2 ^ 64) (y % 2 ^ 64) 64))
    (product (x / 2 ^ 64) (y / 2 ^ 64) 64)
product-of_halves x y =
    by_halves x y
    ∙ ap₂ (λ (s t : ℕ). bit_xor s (t * 2 ^ 64)) (of_halves x (y % 2 ^ 64)) (of_halves x (y / 2 ^ 64))
    ∙ regrouped (product (x / 2 ^ 64) (y % 2 ^ 64) 64) (product (x % 2 ^ 64) (y % 2 ^ 64) 64) (product (x / 2 ^ 64) (y / 2 ^ 64) 64) (product (x % 2 ^ 64) (y / 2 ^ 64) 64)
  where
    up : (a : ℕ) → a * 2 ^ 64 * 2 ^ 64 ≡ a * 2 ^ 128
    up a = omega arith

    regrouped : (a b c d : ℕ) → bit_xor (bit_xor (a * 2 ^ 64) b) (bit_xor (c * 2 ^ 64) d * 2 ^ 64) ≡ spanned b (bit_xor d a) c
    regrouped a b c d =
        ap₂ bit_xor (xor_comm (a * 2 ^ 64) b) (xor-shifted_both 64 (c * 2 ^ 64) d ∙ ap (λ (t : ℕ). bit_xor t (d * 2 ^ 64)) (up c) ∙ xor_comm (c * 2 ^ 128) (d * 2 ^ 64))
        ∙ sym (xor_assoc (bit_xor b (a * 2 ^ 64)) (d * 2 ^ 64) (c * 2 ^ 128))
        ∙ ap (λ (t : ℕ). bit_xor t (c * 2 ^ 128))
        (xor_assoc b (a * 2 ^ 64) (d * 2 ^ 64) ∙ ap (bit_xor b) (xor_comm (a * 2 ^ 64) (d * 2 ^ 64) ∙ sym (xor-shifted_both 64 d a)))

pub spanned-same : {a b c d e f : ℕ} → a ≡ d → b ≡ e → c ≡ f → spanned a b c ≡ spanned d e f
spanned-same p q r = ap₂ bit_xor (ap₂ (λ (s t : ℕ). bit_xor s (t * 2 ^ 64)) p q) (ap (λ (t : ℕ). t * 2 ^ 128) r)

pub spanned-xor : (a b c d e f : ℕ) → spanned (bit_xor a d) (bit_xor b e) (bit_xor c f) ≡ bit_xor (spanned a b c) (spanned d e f)
spanned-xor a b c d e f =
    ap₂ bit_xor (ap (bit_xor (bit_xor a d)) (xor-shifted_both 64 b e) ∙ xor_swap a d (b * 2 ^ 64) (e * 2 ^ 64)) (xor-shifted_both 128 c f)
    ∙ xor_swap (bit_xor a (b * 2 ^ 64)) (bit_xor d (e * 2 ^ 64)) (c * 2 ^ 128) (f * 2 ^ 128)
