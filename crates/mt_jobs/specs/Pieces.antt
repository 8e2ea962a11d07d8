-- CTR (NIST SP 800-38A, 6.5) of a piece of a text
use Rattle.std.specs.Prelude.{◌≡◌, ◌<◌, ℕ, ◌+◌, ◌/◌, ◌%◌, List, length, slice_index, bit_xor}
use Rattle.std_defs.specs.Blocks.{block_number}
use Rattle.std_defs.specs.Modes.{ctr_stream}

-- byte p of the output blocks from the counter block t on
abbrev pub key_byte : (List ℕ → List ℕ) → List ℕ → ℕ → ℕ
key_byte sealed t p = slice_index (ctr_stream sealed (block_number t) (p / 16)) (p % 16)

-- a piece that begins at byte `start` of a text became what it is in the text's CTR
abbrev pub IsSealedAt : (List ℕ → List ℕ) → List ℕ → ℕ → List ℕ → List ℕ → Type 0
IsSealedAt sealed t start old new =
    (k : ℕ) → k < length old → slice_index new k ≡ bit_xor (slice_index old k) (key_byte sealed t (start + k))
