-- sixteen rows of two halves, each half of them a matrix of sixteen by sixteen bytes
use Rattle.std.specs.Prelude.{◌≡◌, ℕ, ◌+◌, ◌*◌, ◌/◌, ◌%◌, ◌<◌, ◌==◌, if◌then◌else◌, List, map, slice_index, get_or}
use Rattle.std.specs.List.{range_with_len}
use Rattle.ghash_field.specs.declared.byte_rows.Row.{Row}

-- of each half of x and of that of y the first eight lanes, or the last eight, in turn
abbrev pub low_lanes : List ℕ → List ℕ → List ℕ
low_lanes x y = map (λ i. slice_index (if i % 2 == 0 then x else y) (16 * (i / 16) + i % 16 / 2)) (range_with_len 0 32)

abbrev pub high_lanes : List ℕ → List ℕ → List ℕ
high_lanes x y = map (λ i. slice_index (if i % 2 == 0 then x else y) (16 * (i / 16) + 8 + i % 16 / 2)) (range_with_len 0 32)

-- rows 2 i and 2 i + 1 have the lanes of rows i and i + 8, in turn
abbrev pub AreInterleaved : List Row → List Row → Type 0
AreInterleaved rows turned = (i : ℕ) (d : Row) → i < 8
    → ((get_or turned (2 * i) d).lanes ≡ low_lanes (get_or rows i d).lanes (get_or rows (i + 8) d).lanes)
    × ((get_or turned (2 * i + 1) d).lanes ≡ high_lanes (get_or rows i d).lanes (get_or rows (i + 8) d).lanes)

-- in each half, lane n of row k is lane k of row n
abbrev pub AreTransposed : List Row → List Row → Type 0
AreTransposed rows turned = (k n : ℕ) (d : Row) → k < 16 → n < 32
    → slice_index (get_or turned k d).lanes n ≡ slice_index (get_or rows (n % 16) d).lanes (16 * (n / 16) + k)
