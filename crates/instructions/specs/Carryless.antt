-- Vectors of two halves of 64 bits, the low one first.
use Rattle.std.specs.Prelude.{ℕ, ◌/◌, ◌%◌, ◌^◌, List, [], ◌∷◌, slice_index}

abbrev pub low_half : List ℕ → ℕ
low_half v = slice_index v 0

abbrev pub high_half : List ℕ → ℕ
high_half v = slice_index v 1

-- the vector of a number below 2^128
abbrev pub in_halves : ℕ → List ℕ
in_halves n = n % 2 ^ 64 ∷ n / 2 ^ 64 ∷ []
