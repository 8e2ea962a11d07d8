-- products by rows of bytes
use Rattle.std.specs.Prelude.{◌≡◌, ℕ, zero, suc, ◌+◌, ◌-◌, ◌*◌, ◌/◌, ◌%◌, ◌^◌, ◌<◌, List, [], ◌∷◌, ◌++◌, slice_index, get_or, bit_xor}
use Rattle.std_defs.specs.Blocks.{block_number, block_bytes}
use Rattle.std_defs.specs.GhashField.{field_product}
use Rattle.std_defs.proofs.Multiples.{times_x, times_power}
use Rattle.ghash_field.specs.declared.byte_rows.Row.{Row}

-- byte k of a block, from the left
abbrev pub byte_of : ℕ → ℕ → ℕ
byte_of v k = v / 2 ^ (120 - 8 * k) % 2 ^ 8

-- a byte at the front of a block
abbrev pub front : ℕ → ℕ
front b = b * 2 ^ 120

-- the sum of f 0, f 1 times x^8, and so on, `count` of them
unfoldable pub spread : ℕ → (ℕ → ℕ) → ℕ
spread zero f = 0
spread (suc n) f = bit_xor (f 0) (times_power 8 (spread n (λ i. f (suc i))))

-- lane n of row k has byte k of the product of h and a half byte at the front: n as the high half of the first byte, or
-- n - 16 as the low one
abbrev pub AreRows : List Row → ℕ → Type 0
AreRows rows h = (k n : ℕ) (d : Row) → k < 16 → n < 32 → slice_index (get_or rows k d).lanes n ≡ byte_of (field_product (n % 16 * 2 ^ (124 - 4 * (n / 16))) h) k

-- row n has the products of h with the half byte n at the front of a block, and with n behind the front half byte
abbrev pub AreProducts : List Row → ℕ → Type 0
AreProducts rows h = (n : ℕ) (d : Row) → n < 16
    → (get_or rows n d).lanes ≡ block_bytes (field_product (n * 2 ^ 124) h) ++ block_bytes (field_product (n * 2 ^ 120) h)

-- the block that has, for each byte of x, byte k of the product of that byte, at the front, and h
abbrev pub column : ℕ → ℕ → List ℕ → ℕ
column h k x = spread 16 (λ j. front (byte_of (field_product (front (slice_index x j)) h) k))

-- the block that two halves of a vector give together
abbrev pub in_halves : List ℕ → ℕ
in_halves w = spread 16 (λ j. front (bit_xor (slice_index w j) (slice_index w (16 + j))))

-- the high halves of the bytes, and the low ones
abbrev pub AreHalves : List ℕ → List ℕ → Type 0
AreHalves lanes bytes = (j : ℕ) → j < 16 → (slice_index lanes j ≡ slice_index bytes j / 16) × (slice_index lanes (16 + j) ≡ slice_index bytes j % 16)

abbrev pub sum_of_eight : ℕ → ℕ → ℕ → ℕ → ℕ → ℕ → ℕ → ℕ → ℕ
sum_of_eight a b c d e f g h = bit_xor (bit_xor (bit_xor a b) (bit_xor c d)) (bit_xor (bit_xor e f) (bit_xor g h))

-- the block of 32 bytes: that of the first 16, and that of the others times x^128
abbrev pub whole : List ℕ → List ℕ → ℕ
whole low high = bit_xor (block_number low) (times_power 128 (block_number high))

-- the sums of a block and its products by x, x^2 and x^3
abbrev pub row_of : ℕ → List ℕ
row_of a =
    let b : ℕ = times_x a in
    let c : ℕ = times_x b in
    let d : ℕ = times_x c in
    0 ∷ d ∷ c ∷ bit_xor c d ∷ b ∷ bit_xor b d ∷ bit_xor b c ∷ bit_xor (bit_xor b c) d
    ∷ a ∷ bit_xor a d ∷ bit_xor a c ∷ bit_xor (bit_xor a c) d
    ∷ bit_xor a b ∷ bit_xor (bit_xor a b) d ∷ bit_xor (bit_xor a b) c ∷ bit_xor (bit_xor (bit_xor a b) c) d ∷ []
