-- a key stream that is applied in pieces
use Rattle.std.specs.Prelude.{◌≡◌, ℕ, ◌+◌, ◌*◌, ◌/◌, ◌%◌, ◌<◌, List, [], length, map, slice_index, slice_index_or, bit_xor}
use Rattle.std.specs.List.{range_with_len}

-- a text under a stream of bytes
unfoldable pub with_bytes : (ℕ → ℕ) → List ℕ → List ℕ
with_bytes stream text = map (λ i. bit_xor (slice_index text i) (stream i)) (range_with_len 0 (length text))

-- byte k of the ciphers of a row of blocks, counted from byte `used` of the first
abbrev pub key_byte : (List ℕ → List ℕ) → (ℕ → List ℕ) → ℕ → ℕ → ℕ
key_byte sealed block used k = slice_index (sealed (block ((used + k) / 16))) ((used + k) % 16)

-- a row of blocks at a byte of its first is another row n bytes on
abbrev pub IsOn : (ℕ → List ℕ) → ℕ → ℕ → (ℕ → List ℕ) → ℕ → Type 0
IsOn block used n block' used' = (used' ≡ (used + n) % 16) × ((m : ℕ) → block' m ≡ block (m + (used + n) / 16))

-- of eight blocks the first, and as many behind it as a text of n bytes takes, are the ciphers of a row of blocks
abbrev pub AreFirst : (List ℕ → List ℕ) → (ℕ → List ℕ) → ℕ → List (List ℕ) → Type 0
AreFirst sealed block n ciphers = (j : ℕ) → j < 8 → 16 * j < n + 16 → slice_index_or ciphers j [] ≡ sealed (block j)
