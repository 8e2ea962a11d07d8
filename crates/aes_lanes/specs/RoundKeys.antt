-- a key schedule that is kept as vectors
use Rattle.std.specs.Prelude.{◌≡◌, ℕ, ◌<◌, List, [], ◌++◌, map, slice_index_or}
use Rattle.aes_lanes.specs.declared.round_keys.RoundKey.{RoundKey}
use Rattle.aes_block.specs.KeyBlock.{key_block, words_in}

-- the vectors themselves
abbrev pub vectors_of : List RoundKey → List (List ℕ)
vectors_of keys = map (λ k. k.twice) keys

abbrev pub schedule_of : List RoundKey → List (List ℕ)
schedule_of keys = words_in (vectors_of keys)

-- each vector is a round key, twice
abbrev pub AreTwice : List RoundKey → Type 0
AreTwice keys =
    (r : ℕ) → r < 15 → slice_index_or (vectors_of keys) r [] ≡ key_block (schedule_of keys) r ++ key_block (schedule_of keys) r
