-- Eight messages of two pieces each, behind what a hasher has taken.
use Rattle.std.specs.Prelude.{◌≡◌, ℕ, ◌+◌, ◌/◌, ◌<◌, ◌^◌, List, [], ◌++◌, length, map, slice_index, slice_index_or}
use Rattle.std.specs.Borrow.{Bor}
use Rattle.sha2.specs.Sha256.{padding}

-- the bytes of a lane's piece
abbrev pub piece : List (Bor (List ℕ)) → ℕ → List ℕ
piece pieces lane = slice_index_or (map (λ p. p.now) pieces) lane []

-- what stands behind n bytes that were hashed: the two pieces, and the padding of the whole message (5.1.1)
abbrev pub behind : ℕ → List ℕ → List ℕ → List ℕ
behind n first second = (first ++ second) ++ padding (n + length (first ++ second))

-- the two pieces of each lane together have fewer than 2^63 bytes
abbrev pub AreShort : List (Bor (List ℕ)) → List (Bor (List ℕ)) → Type 0
AreShort firsts seconds = (n : ℕ) → n < 8 → length (piece firsts n) + length (piece seconds n) < 2 ^ 63

-- how many blocks each lane's pieces have with the padding
abbrev pub AreCounts : List ℕ → List (Bor (List ℕ)) → List (Bor (List ℕ)) → Type 0
AreCounts counts firsts seconds = (n : ℕ) → n < 8 → slice_index counts n ≡ (length (piece firsts n) + length (piece seconds n) + 72) / 64
