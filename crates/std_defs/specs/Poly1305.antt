-- Poly1305 (RFC 8439, 2.5), on numbers. A one-time key has 32 bytes.
use Rattle.std.specs.Prelude.{ℕ, zero, suc, ◌+◌, ◌-◌, ◌*◌, ◌%◌, ◌^◌, List, [], ◌∷◌, length, take, drop, bit_and}
use Rattle.std.specs.Int.{w128, to_le_bytes, div_ceil}
use Rattle.std_defs.specs.Blocks.{text_block}

-- the prime P
abbrev pub prime : ℕ
prime = 2 ^ 130 - 5

-- the number that bytes write, the least significant first
unfoldable pub little_endian : List ℕ → ℕ
little_endian [] = 0
little_endian (byte ∷ bytes) = byte + 256 * little_endian bytes

-- the number of a block of at most 16 bytes, with a byte 01 behind it
unfoldable pub poly_block : List ℕ → ℕ
poly_block bytes = little_endian bytes + 256 ^ length bytes

-- r, with the bits cleared that it may not have
unfoldable pub clamped : ℕ → ℕ
clamped r = bit_and r 0x0ffffffc0ffffffc0ffffffc0fffffff

-- the accumulator after the first n blocks, whose numbers are given, from a value on
unfoldable pub accumulated : ℕ → (ℕ → ℕ) → ℕ → ℕ → ℕ
accumulated r block value zero = value
accumulated r block value (suc n) = (accumulated r block value n + block n) * r % prime

-- the numbers of the blocks of a message, of which the last may be short
unfoldable pub message_block : List ℕ → ℕ → ℕ
message_block message i = poly_block (text_block message i)

-- r of a one-time key, its first half, and s, the other
unfoldable pub key_r : List ℕ → ℕ
key_r key = clamped (little_endian (take 16 key))

unfoldable pub key_s : List ℕ → ℕ
key_s key = little_endian (take 16 (drop 16 key))

-- the tag of an accumulator: with s added, its lowest 128 bits
unfoldable pub poly_tag : List ℕ → ℕ → List ℕ
poly_tag key accumulator = to_le_bytes w128 ((accumulator + key_s key) % 2 ^ 128)

-- the tag of a message
unfoldable pub poly1305 : List ℕ → List ℕ → List ℕ
poly1305 key message = poly_tag key (accumulated (key_r key) (message_block message) 0 (div_ceil (length message) 16))
