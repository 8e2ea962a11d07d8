-- Rows of eight words.
use Rattle.std.proofs.Common.{◌≡◌, ℕ, ◌+◌, ◌-◌, ◌*◌, ◌<◌, ◌≤◌, List, [], drop, length, map, slice_index, slice_index_or, refl, sym, ap, ◌∙◌, arith, replicate}
use Rattle.std.specs.List.{range_with_len}
use Rattle.std.proofs.lemmas.List.FromFn.{get_or-map-range_with_len}
use Rattle.std.proofs.lemmas.List.{get_or-map, get_or-take, get_or-drop}
use lib.Lanes.{zip2}
use Rattle.sha2.specs.Sha256.{add32, small_sigma0, small_sigma1, next_word, word_at}
use Rattle.sha_lanes.specs.Lanes.{block_at, in_lane, next_row}

-- a row as a vector
abbrev pub vector : List ℕ → List ℕ
vector row = map (slice_index row) (range_with_len 0 8)

-- W t of each lane is the sum of four vectors
pub next_row_is : (rows : List (List ℕ)) (t : ℕ) {a b c d e f : List ℕ} → t < length rows → 16 ≤ t
    → a ≡ vector (slice_index_or rows (t - 2) []) → b ≡ vector (slice_index_or rows (t - 7) [])
    → c ≡ vector (slice_index_or rows (t - 15) []) → d ≡ vector (slice_index_or rows (t - 16) [])
    → e ≡ map small_sigma1 a → f ≡ map small_sigma0 c
    → zip2 add32 (zip2 add32 (zip2 add32 e b) f) d ≡ next_row rows t
next_row_is rows t within from ea eb ec ed ee ef =
    let word : (lane i : ℕ) → i < t → slice_index (slice_index_or rows i []) lane ≡ slice_index (in_lane rows lane) i =
    λ lane i below. sym (get_or-map (λ row. slice_index row lane) rows i [] 0 (omega arith)) in
    let of_lane : (lane : ℕ) → add32 (add32 (add32 (small_sigma1 (slice_index (slice_index_or rows (t - 2) []) lane)) (slice_index (slice_index_or rows (t - 7) []) lane))
    (small_sigma0 (slice_index (slice_index_or rows (t - 15) []) lane))) (slice_index (slice_index_or rows (t - 16) []) lane) ≡ next_word (in_lane rows lane) t =
    λ lane. rw (word lane (t - 2) (omega arith), word lane (t - 7) (omega arith), word lane (t - 15) (omega arith), word lane (t - 16) (omega arith)) refl in
    rw (ee, ef, ea, eb, ec, ed) (λ j. map (λ lane. of_lane lane j) (range_with_len 0 8))

-- a row with a constant added to each word
pub row_keyed : (row : List ℕ) (k n : ℕ) {a : List ℕ} → n < 8 → a ≡ vector row → slice_index (zip2 add32 a (replicate 8 k)) n ≡ add32 (slice_index row n) k
row_keyed row k n lt e =
    rw e (get_or-map-range_with_len (λ n. add32 (slice_index row n) k) 0 8 n n 0 lt (omega arith))

-- ---- the words of a block

byte_of_block : (p : List ℕ) (n i j : ℕ) → i < 64 → 64 * n + i ≡ j → slice_index p j ≡ slice_index (block_at p n) i
byte_of_block p n i j low e =
    let place : n * 64 + i ≡ j = omega arith in
    sym (get_or-take 64 (drop (n * 64) p) i 0 low ∙ get_or-drop (n * 64) p i 0 ∙ ap (slice_index p) place)

pub word_of_block : (p : List ℕ) (n t : ℕ) {i w : ℕ} → t < 16 → 64 * n + 4 * t ≡ i → w ≡ word_at p i → w ≡ word_at (block_at p n) (4 * t)
word_of_block p n t {i} low e word =
    word ∙ rw (
      byte_of_block p n (4 * t) i (omega arith) (omega arith),
      byte_of_block p n (4 * t + 1) (i + 1) (omega arith) (omega arith),
      byte_of_block p n (4 * t + 2) (i + 2) (omega arith) (omega arith),
      byte_of_block p n (4 * t + 3) (i + 3) (omega arith) (omega arith),
    )
    refl
