-- the lanes of vectors that are shuffled
use Rattle.std.specs.Prelude.{ℕ, ◌+◌, ◌*◌, ◌/◌, ◌%◌, List, ◌++◌, map, slice_index}
use Rattle.std.specs.List.{range_with_len}

abbrev pub lanes : List ℕ
lanes = range_with_len 0 32

-- each half is a matrix of four by four, transposed
abbrev pub by_rows : List ℕ → List ℕ
by_rows x = map (λ i. slice_index x (16 * (i / 16) + 4 * (i % 4) + i % 16 / 4)) lanes

-- of each half of x and of that of y, the words of the first two places, or of the last two, in turn
abbrev pub low_words : List ℕ → List ℕ → List ℕ
low_words x y = map (λ i. slice_index (x ++ y) (32 * (i / 4 % 2) + 16 * (i / 16) + 4 * (i % 16 / 8) + i % 4)) lanes

abbrev pub high_words : List ℕ → List ℕ → List ℕ
high_words x y = map (λ i. slice_index (x ++ y) (32 * (i / 4 % 2) + 16 * (i / 16) + 8 + 4 * (i % 16 / 8) + i % 4)) lanes

-- the same of the quads: that of the first place, or of the last
abbrev pub low_quads : List ℕ → List ℕ → List ℕ
low_quads x y = map (λ i. slice_index (x ++ y) (32 * (i % 16 / 8) + 16 * (i / 16) + i % 8)) lanes

abbrev pub high_quads : List ℕ → List ℕ → List ℕ
high_quads x y = map (λ i. slice_index (x ++ y) (32 * (i % 16 / 8) + 16 * (i / 16) + 8 + i % 8)) lanes

-- each lane becomes that of the column n on, from the first again behind the last
abbrev pub columns_on : ℕ → List ℕ → List ℕ
columns_on n x = map (λ i. slice_index x (4 * (i / 4) + (i + n) % 4)) lanes
