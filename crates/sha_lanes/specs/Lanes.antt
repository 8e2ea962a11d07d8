-- Message schedules in lanes: row t has the word t of each block.
use Rattle.std.specs.Prelude.{ℕ, ◌*◌, List, map, take, drop, slice_index}
use Rattle.std.specs.List.{range_with_len}
use Rattle.std.specs.Simd.Lanes.{zip2}
use Rattle.sha2.specs.Sha256.{add32, next_word, round_constants, schedule, word_at}

-- block n of a text (5.2.1)
abbrev pub block_at : List ℕ → ℕ → List ℕ
block_at p n = take 64 (drop (n * 64) p)

-- the words of one lane
abbrev pub in_lane : List (List ℕ) → ℕ → List ℕ
in_lane rows lane = map (λ row. slice_index row lane) rows

-- the words of a block's schedule, each with the constant of its round added to it
abbrev pub keyed_words : List ℕ → List ℕ
keyed_words b = zip2 add32 (schedule b 48) round_constants

-- word t of each of eight blocks, for t below 16 (5.2.1)
abbrev pub first_row : List ℕ → ℕ → List ℕ
first_row p t = map (λ n. word_at (block_at p n) (4 * t)) (range_with_len 0 8)

-- W t in each of eight lanes, from the rows before it (6.2.2, step 1)
abbrev pub next_row : List (List ℕ) → ℕ → List ℕ
next_row rows t = map (λ lane. next_word (in_lane rows lane) t) (range_with_len 0 8)
