-- a key schedule that is kept as vectors
use Rattle.std.specs.Prelude.{◌≡◌, ℕ, ◌<◌, List, [], map, slice_index_or}
use Rattle.std_defs.specs.Aes.{inverse_mix_columns}
use Rattle.aes_block.specs.KeyBlock.{key_block, words_in}
use Rattle.aes_ni.specs.declared.round_keys.RoundKey.{RoundKey}

-- the vectors themselves
abbrev pub vectors_of : List RoundKey → List (List ℕ)
vectors_of keys = map (λ k. k.bytes) keys

abbrev pub schedule_of : List RoundKey → List (List ℕ)
schedule_of keys = words_in (vectors_of keys)

-- each vector is a round key
abbrev pub AreBlocks : List RoundKey → Type 0
AreBlocks keys = (r : ℕ) → r < 15 → slice_index_or (vectors_of keys) r [] ≡ key_block (schedule_of keys) r

-- each vector is the one of the other schedule, after InvMixColumns
abbrev pub AreBackKeys : List RoundKey → List RoundKey → Type 0
AreBackKeys keys back = (r : ℕ) → r < 15 → slice_index_or (vectors_of back) r [] ≡ inverse_mix_columns (slice_index_or (vectors_of keys) r [])
