-- Numbers in five limbs of 26 bits.
use Rattle.std.specs.Prelude.{◌≡◌, ℕ, ◌+◌, ◌-◌, ◌*◌, ◌%◌, ◌^◌, ◌<◌, List}
use Rattle.std.proofs.Common.{arith, sym}
use Rattle.std.proofs.lemmas.Nat.{mul-lt}
use Rattle.std_defs.specs.Poly1305.{prime}
use Rattle.poly1305.specs.Limbs.{limb, value, products_in, AreBelow}

-- what goes over 2^130
abbrev pub over : (a b c d e v w x y z : ℕ) → ℕ
over a b c d e v w x y z =
    (b * z + c * y + d * x + e * w) + 2 ^ 26 * (c * z + d * y + e * x) + 2 ^ 52 * (d * z + e * y) + 2 ^ 78 * (e * z)

-- the product of two numbers in limbs, before carries
pub product : (a b c d e v w x y z : ℕ)
    → value a b c d e * value v w x y z
    ≡ value
    (a * v + b * (5 * z) + c * (5 * y) + d * (5 * x) + e * (5 * w))
    (a * w + b * v + c * (5 * z) + d * (5 * y) + e * (5 * x))
    (a * x + b * w + c * v + d * (5 * z) + e * (5 * y))
    (a * y + b * x + c * w + d * v + e * (5 * z))
    (a * z + b * y + c * x + d * w + e * v)
    + over a b c d e v w x y z * (2 ^ 130 - 5)
product a b c d e v w x y z = omega arith

-- carries, as equations
pub carries : (d0 d1 d2 d3 d4 e0 e1 e2 e3 e4 f1 f4 l0 l1 l2 l3 l4 : ℕ) (c0 c1 c2 c3 c4 k0 k3 m0 m3 : ℕ)
    → m3 + 2 ^ 26 * c3 ≡ d3 → e4 ≡ d4 + c3
    → m0 + 2 ^ 26 * c0 ≡ d0 → e1 ≡ d1 + c0
    → l4 + 2 ^ 26 * c4 ≡ e4 → e0 ≡ m0 + 5 * c4
    → l1 + 2 ^ 26 * c1 ≡ e1 → e2 ≡ d2 + c1
    → l2 + 2 ^ 26 * c2 ≡ e2 → e3 ≡ m3 + c2
    → l0 + 2 ^ 26 * k0 ≡ e0 → f1 ≡ l1 + k0
    → l3 + 2 ^ 26 * k3 ≡ e3 → f4 ≡ l4 + k3
    → value l0 f1 l2 l3 f4 + c4 * (2 ^ 130 - 5) ≡ value d0 d1 d2 d3 d4
carries d0 d1 d2 d3 d4 e0 e1 e2 e3 e4 f1 f4 l0 l1 l2 l3 l4 c0 c1 c2 c3 c4 k0 k3 m0 m3 h1 h2 h3 h4 h5 h6 h7 h8 h9 h10 h11 h12 h13 h14 = omega arith

-- a multiple of the prime more
pub same : (a b k : ℕ) → a + k * (2 ^ 130 - 5) ≡ b → a % prime ≡ b % prime
same a b k e = omega arith

-- the same product, where five times each limb of one factor is known
pub product_of : (a b c d e v w x y z s1 s2 s3 s4 d0 d1 d2 d3 d4 : ℕ)
    → s1 ≡ 5 * w → s2 ≡ 5 * x → s3 ≡ 5 * y → s4 ≡ 5 * z
    → d0 ≡ a * v + b * s4 + c * s3 + d * s2 + e * s1
    → d1 ≡ a * w + b * v + c * s4 + d * s3 + e * s2
    → d2 ≡ a * x + b * w + c * v + d * s4 + e * s3
    → d3 ≡ a * y + b * x + c * w + d * v + e * s4
    → d4 ≡ a * z + b * y + c * x + d * w + e * v
    → value d0 d1 d2 d3 d4 % prime ≡ value a b c d e * value v w x y z % prime
product_of a b c d e v w x y z s1 s2 s3 s4 d0 d1 d2 d3 d4 h1 h2 h3 h4 e0 e1 e2 e3 e4 =
    let f0 = rw (h1, h2, h3, h4) at e0 in
    let f1 = rw (h2, h3, h4) at e1 in
    let f2 = rw (h3, h4) at e2 in
    let f3 = rw h4 at e3 in
    same (value d0 d1 d2 d3 d4) (value a b c d e * value v w x y z) (over a b c d e v w x y z)
    (rw (f0, f1, f2, f3, e4) (sym (product a b c d e v w x y z)))

-- the sum of five products is below what carries want
pub products_below : (a b : List (List ℕ)) (j : ℕ) → AreBelow (2 ^ 28) a j → AreBelow (2 ^ 30) b j → products_in a b j < 2 ^ 61
products_below a b j below_a below_b =
    let f0 = mul-lt (limb a 0 j) (limb b 0 j) (2 ^ 28) (2 ^ 30) below_a.b0 below_b.b0 in
    let f1 = mul-lt (limb a 1 j) (limb b 1 j) (2 ^ 28) (2 ^ 30) below_a.b1 below_b.b1 in
    let f2 = mul-lt (limb a 2 j) (limb b 2 j) (2 ^ 28) (2 ^ 30) below_a.b2 below_b.b2 in
    let f3 = mul-lt (limb a 3 j) (limb b 3 j) (2 ^ 28) (2 ^ 30) below_a.b3 below_b.b3 in
    let f4 = mul-lt (limb a 4 j) (limb b 4 j) (2 ^ 28) (2 ^ 30) below_a.b4 below_b.b4 in
    omega arith
