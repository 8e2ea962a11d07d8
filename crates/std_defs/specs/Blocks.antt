-- Blocks of sixteen bytes, and texts that are cut into them.
use Rattle.std.specs.Prelude.{ℕ, zero, suc, ◌*◌, ◌/◌, ◌%◌, List, [], ◌++◌, length, take, drop, map, slice_index, bit_xor}
use Rattle.std.specs.List.{range_with_len}
use Rattle.std.specs.Int.{w128, from_be_bytes, to_be_bytes}

-- the number that a block writes, leftmost bit first (SP 800-38D, 4.2.2: int)
unfoldable pub block_number : List ℕ → ℕ
block_number bytes = from_be_bytes w128 bytes

-- the block of a number below 2^128
unfoldable pub block_bytes : ℕ → List ℕ
block_bytes block = to_be_bytes w128 block

-- the sum of two blocks
unfoldable pub xor_blocks : List ℕ → List ℕ → List ℕ
xor_blocks a b = map (λ i. bit_xor (slice_index a i) (slice_index b i)) (range_with_len 0 16)

-- block j of a text, from 0
unfoldable pub text_block : List ℕ → ℕ → List ℕ
text_block text j = take 16 (drop (16 * j) text)

-- the first n of a row of blocks, the one behind the other
unfoldable pub joined : (ℕ → List ℕ) → ℕ → List ℕ
joined blocks zero = []
joined blocks (suc n) = joined blocks n ++ blocks n

-- a key stream over a text: byte i of the text is added to byte i mod 16 of block i div 16 of the stream
unfoldable pub with_stream : (ℕ → List ℕ) → List ℕ → List ℕ
with_stream stream text =
    map (λ i. bit_xor (slice_index text i) (slice_index (stream (i / 16)) (i % 16))) (range_with_len 0 (length text))
