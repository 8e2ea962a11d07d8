-- round keys as blocks
use Rattle.std.specs.Prelude.{ℕ, ◌+◌, ◌*◌, ◌/◌, ◌%◌, List, [], map, slice_index, slice_index_or}
use Rattle.std.specs.List.{range_with_len}
use Rattle.std_defs.specs.Aes.{places}

-- the bytes of round key r of a schedule
unfoldable pub key_block : List (List ℕ) → ℕ → List ℕ
key_block ws r = map (λ i. slice_index (slice_index_or ws (4 * r + i / 4) []) (i % 4)) places

-- the sixty words, byte by byte
unfoldable pub sixty_words : List (List ℕ) → List (List ℕ)
sixty_words ws = map (λ n. map (λ i. slice_index (slice_index_or ws n []) i) (range_with_len 0 4)) (range_with_len 0 60)

-- the words of the schedule whose round keys begin fifteen vectors
unfoldable pub words_in : List (List ℕ) → List (List ℕ)
words_in vectors =
    map (λ n. map (λ i. slice_index (slice_index_or vectors (n / 4) []) (4 * (n % 4) + i)) (range_with_len 0 4)) (range_with_len 0 60)
