-- eight blocks by rows
use Rattle.std.specs.Prelude.{ℕ, ◌+◌, ◌*◌, ◌/◌, ◌%◌, List, [], ◌∷◌, ◌++◌, map, slice_index, slice_index_or, bit_xor}
use Rattle.std.specs.List.{range_with_len}
use Rattle.std.specs.Simd.Lanes.{zip2}
use Rattle.std_defs.specs.Aes.{places}
use Rattle.aes_lanes.specs.SealingTower.{tower_byte}
use Rattle.aes_lanes.specs.Tower.{state_byte, term_byte}
use Rattle.aes_lanes.specs.declared.rows.Rows.{Rows}

-- the block whose first column stands at lane o of the rows
abbrev pub block_from : List (List ℕ) → ℕ → List ℕ
block_from rows o = map (λ i. slice_index (slice_index_or rows (i % 4) []) (o + i / 4)) places

unfoldable pub eight_blocks : List (List ℕ) → List (List ℕ)
eight_blocks rows = map (λ j. block_from rows (16 * (j % 2) + 4 * (j / 2))) (range_with_len 0 8)

abbrev pub blocks_in : Rows → List (List ℕ)
blocks_in s = eight_blocks (s.first ∷ s.second ∷ s.third ∷ s.fourth ∷ [])

-- the bytes that stand there as elements of states, and as terms
abbrev pub state_blocks : Rows → List (List ℕ)
state_blocks s = map (map state_byte) (blocks_in s)

abbrev pub term_blocks : Rows → List (List ℕ)
term_blocks s = map (map term_byte) (blocks_in s)

-- a row of terms, to whose bytes those of a row of a key are added, which lies in both halves
abbrev pub with_key : List ℕ → List ℕ → List ℕ
with_key row key = zip2 bit_xor (map term_byte row) (map state_byte (key ++ key))

-- the same of elements of sealing
abbrev pub tower_blocks : Rows → List (List ℕ)
tower_blocks s = map (map tower_byte) (blocks_in s)

abbrev pub with_sealing_key : List ℕ → List ℕ → List ℕ
with_sealing_key row key = zip2 bit_xor (map tower_byte row) (map tower_byte (key ++ key))
