-- Numbers in five limbs of 26 bits, one in each lane of five vectors.
use Rattle.std.specs.Prelude.{◌≡◌, ℕ, ◌%◌, ◌+◌, ◌*◌, ◌^◌, ◌<◌, List, [], slice_index, slice_index_or}
use Rattle.std_defs.specs.Poly1305.{prime, little_endian}

-- lane j of vector k
abbrev pub limb : List (List ℕ) → ℕ → ℕ → ℕ
limb x k j = slice_index (slice_index_or x k []) j

-- the number of five limbs
abbrev pub value : ℕ → ℕ → ℕ → ℕ → ℕ → ℕ
value a b c d e = a + 2 ^ 26 * b + 2 ^ 52 * c + 2 ^ 78 * d + 2 ^ 104 * e

-- the number in a lane
abbrev pub value_in : List (List ℕ) → ℕ → ℕ
value_in x j = value (limb x 0 j) (limb x 1 j) (limb x 2 j) (limb x 3 j) (limb x 4 j)

-- the number of a list of limbs
abbrev pub value_of : List ℕ → ℕ
value_of x = value (slice_index x 0) (slice_index x 1) (slice_index x 2) (slice_index x 3) (slice_index x 4)

-- the number of a block of sixteen bytes, with what stands in front of its last 24 bits in the fifth limb
abbrev pub fronted : ℕ → List ℕ → ℕ
fronted front bytes = little_endian bytes + 2 ^ 104 * front

-- the sum of the products of the limbs of a lane
abbrev pub products_in : List (List ℕ) → List (List ℕ) → ℕ → ℕ
products_in a b j =
    limb a 0 j * limb b 0 j + limb a 1 j * limb b 1 j + limb a 2 j * limb b 2 j + limb a 3 j * limb b 3 j + limb a 4 j * limb b 4 j

-- the limbs of a lane are below a number
pub record AreBelow (n : ℕ) (x : List (List ℕ)) (j : ℕ) : Type 0 where
  pub b0 : limb x 0 j < n
  pub b1 : limb x 1 j < n
  pub b2 : limb x 2 j < n
  pub b3 : limb x 3 j < n
  pub b4 : limb x 4 j < n

-- the numbers in the four lanes, modulo the prime
pub record HasRow (x : List (List ℕ)) (q0 q1 q2 q3 : ℕ) : Type 0 where
  pub lane0 : value_in x 0 % prime ≡ q0 % prime
  pub lane1 : value_in x 1 % prime ≡ q1 % prime
  pub lane2 : value_in x 2 % prime ≡ q2 % prime
  pub lane3 : value_in x 3 % prime ≡ q3 % prime

-- each lane has the fourth power of r, and the lanes have its powers from the fourth down
pub record HasPowers (r : ℕ) (each last : List (List ℕ)) : Type 0 where
  pub each_below : (j : ℕ) → j < 4 → AreBelow (2 ^ 27) each j
  pub last_below : (j : ℕ) → j < 4 → AreBelow (2 ^ 27) last j
  pub each_fourth : (j : ℕ) → j < 4 → value_in each j % prime ≡ r * r * r * r % prime
  pub last_row : HasRow last (r * r * r * r) (r * r * r) (r * r) r
