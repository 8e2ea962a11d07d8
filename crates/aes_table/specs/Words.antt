-- columns and states as words of 32 bits
use Rattle.std.specs.Prelude.{◌≡◌, ℕ, ◌/◌, ◌%◌, ◌<◌, List, [], ◌∷◌, map, slice_index}
use Rattle.std.specs.List.{range_with_len}
use Rattle.std.specs.Int.{to_le_bytes, w32}
use Rattle.std_defs.specs.Aes.{places, mul8, mixed_byte}

-- a column, from its top, of the word whose lowest byte is its top
abbrev pub bytes_of : ℕ → List ℕ
bytes_of w = to_le_bytes w32 w

-- four numbers times a byte, from the top of a column
abbrev pub times : ℕ → ℕ → ℕ → ℕ → ℕ → List ℕ
times p q r s x = mul8 p x ∷ mul8 q x ∷ mul8 r x ∷ mul8 s x ∷ []

-- a column after MixColumns, and after InvMixColumns
abbrev pub mixed : List ℕ → List ℕ
mixed column = map (mixed_byte (0x02 ∷ 0x03 ∷ 0x01 ∷ 0x01 ∷ []) column) (range_with_len 0 4)

abbrev pub mixed_back : List ℕ → List ℕ
mixed_back column = map (mixed_byte (0x0e ∷ 0x0b ∷ 0x0d ∷ 0x09 ∷ []) column) (range_with_len 0 4)

-- the state that four columns make
unfoldable pub state_in : List ℕ → List ℕ
state_in columns = map (λ i. slice_index (bytes_of (slice_index columns (i / 4))) (i % 4)) places

-- each word is that of the other list after InvMixColumns
abbrev pub AreMixedBack : List ℕ → List ℕ → Type 0
AreMixedBack words back_words = (n : ℕ) → n < 60 → bytes_of (slice_index back_words n) ≡ mixed_back (bytes_of (slice_index words n))
