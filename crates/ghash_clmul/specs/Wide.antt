-- Products before reduction, as numbers below 2^256.
use Rattle.std.specs.Prelude.{ℕ, ◌+◌, ◌*◌, ◌/◌, ◌%◌, ◌^◌, List, slice_index, bit_xor}
use Rattle.std_defs.proofs.Multiples.{times_power}

-- the number of a vector of two halves, the low one first
abbrev pub number : List ℕ → ℕ
number v = slice_index v 0 + slice_index v 1 * 2 ^ 64

-- the number of three parts, of which the middle one stands 64 places up and the high one 128
abbrev pub spanned : ℕ → ℕ → ℕ → ℕ
spanned low middle high = bit_xor (bit_xor low (middle * 2 ^ 64)) (high * 2 ^ 128)

-- the block that is congruent to the polynomial of z, whose bit 255 is the coefficient of x^0
unfoldable pub reduced : ℕ → ℕ
reduced z = bit_xor (z / 2 ^ 128) (times_power 128 (z % 2 ^ 128))
