-- The field of GHASH (NIST SP 800-38D, 6.3) and GHASH itself (6.4).
-- A block of 128 bits is named by the number that it writes in binary, leftmost bit first.
use Rattle.std.specs.Prelude.{◌≡◌, ℕ, zero, suc, ◌+◌, ◌-◌, ◌*◌, ◌≤◌, Bool, true, false, not, ◌&&◌, ◌||◌, ◌==◌, nat_lt, nat_le, if◌then◌else◌, List, [], ◌∷◌, length, bit_xor}
use Rattle.std.specs.Int.{bit_at}

-- the sum of two coefficients
abbrev pub xor : Bool → Bool → Bool
xor true b = not b
xor false b = b

-- a polynomial over the field of two elements: its coefficient at each place
abbrev pub Polynomial : Type 0
Polynomial = ℕ → Bool

-- the polynomial of a block: the leftmost of the 128 bits is the coefficient of x^0 (6.3)
unfoldable pub polynomial_of : ℕ → Polynomial
polynomial_of block place = nat_lt place 128 && bit_at block (127 - place) == 1

-- the number whose binary digits, leftmost first, are the first `count` coefficients
unfoldable pub digits_of : ℕ → Polynomial → ℕ
digits_of zero p = 0
digits_of (suc count) p = 2 * digits_of count p + (if p count then 1 else 0)

-- the block of a polynomial of degree below 128
unfoldable pub block_of : Polynomial → ℕ
block_of p = digits_of 128 p

-- the xor of `f 0` to `f (count - 1)`
unfoldable pub xor_below : ℕ → (ℕ → Bool) → Bool
xor_below zero f = false
xor_below (suc count) f = xor (xor_below count f) (f count)

-- the product before reduction: at place n the xor of all `x i` and `y (n - i)`
unfoldable pub product : Polynomial → Polynomial → Polynomial
product x y n = xor_below (n + 1) (λ i. x i && y (n - i))

-- x^128 + x^7 + x^2 + x + 1 (6.3)
unfoldable pub modulus : Polynomial
modulus n = n == 128 || n == 7 || n == 2 || n == 1 || n == 0

-- p + x^k * q
unfoldable pub add_shifted : Polynomial → ℕ → Polynomial → Polynomial
add_shifted p k q n = xor (p n) (nat_le k n && q (n - k))

-- the remainder, modulo `modulus`, of a polynomial of degree below 128 + k:
-- from the highest place down to 128, a coefficient that is set is cleared by adding a multiple of the modulus
unfoldable pub remainder : ℕ → Polynomial → Polynomial
remainder zero p = p
remainder (suc k) p = remainder k (if p (128 + k) then add_shifted p k modulus else p)

-- p has a degree below n
abbrev pub HasDegreeBelow : ℕ → Polynomial → Type 0
HasDegreeBelow n p = (place : ℕ) → n ≤ place → p place ≡ false

-- r is p plus a multiple of the modulus. For p and r of degrees below 255 and 128 the factor has a degree below 127.
abbrev pub IsCongruent : Polynomial → Polynomial → Type 0
IsCongruent p r = (q : Polynomial) × (HasDegreeBelow 127 q × ((n : ℕ) → xor (p n) (product q modulus n) ≡ r n))

-- the product of two blocks in the field: a product of two polynomials of degree at most 127 has degree at most 254
-- (6.3)
unfoldable pub field_product : ℕ → ℕ → ℕ
field_product x y = block_of (remainder 127 (product (polynomial_of x) (polynomial_of y)))

-- the block of the polynomial 1
abbrev pub field_one : ℕ
field_one = 0x80000000000000000000000000000000

-- h to the power k (6.3)
unfoldable pub field_power : ℕ → ℕ → ℕ
field_power h zero = field_one
field_power h (suc k) = field_product h (field_power h k)

-- GHASH of blocks B(1) to B(m): the xor over i of B(i) times h to the power m - i + 1 (6.4). The first block has m - 1
-- after it.
unfoldable pub ghash : ℕ → List ℕ → ℕ
ghash h [] = 0
ghash h (block ∷ blocks) = bit_xor (field_product block (field_power h (length blocks + 1))) (ghash h blocks)
