-- Bytes of words added to a text.
use Rattle.std.specs.Prelude.{◌≡◌, ℕ, zero, suc, ◌+◌, ◌-◌, ◌*◌, ◌/◌, ◌%◌, ◌^◌, ◌<◌, ◌≤◌, List, [], ◌∷◌, ◌++◌, length, take, drop, map, slice_index, slice_index_or, bit_xor}
use Rattle.std.specs.List.{range_with_len}
use Rattle.std.proofs.Common.{arith, ap, ap₂, refl, sym, subst, ⊎_elim, ◌∙◌}
use Rattle.std.proofs.lemmas.Bool.{cases_lt}
use Rattle.std.proofs.lemmas.List.FromFn.{get_or-map-range_with_len}
use Rattle.std.proofs.lemmas.List.{get_or_append_left, get_or-append_right, get_or-take, get_or-drop, length-take-le, length-drop}
use Rattle.std.proofs.lemmas.Simd.{get_or-zip2, get_or_narrower, Each1-get_or}
use Rattle.std_defs.specs.ChaCha20.{block_word}
use Rattle.chacha_lanes.specs.Lanes.{lane_at}
use Rattle.chacha_lanes.specs.Rows.{in_lane}
use Rattle.std_defs.specs.ChaCha20.{stream_byte}
use Rattle.chacha_lanes.proofs.LaneFacts.{below_eight}
use lib.Lanes.{zip2, chunk, digits_l, number_l, Each1}

-- what stands at a place of a part that was written
pub in_part : (text ys rest : List ℕ) (at k : ℕ) → at ≤ length text → k < length ys → slice_index (take at text ++ (ys ++ rest)) (at + k) ≡ slice_index ys k
in_part text ys rest at k within lt =
    let place : at + k - at ≡ k = omega arith in
    get_or-append_right (take at text) (ys ++ rest) at (at + k) 0 (length-take-le at text within) (omega arith)
    ∙ ap (slice_index (ys ++ rest)) place ∙ get_or_append_left ys rest 0 k lt

pub byte_of : (words : List ℕ) (k : ℕ) → length words ≡ 8 → Each1 (λ x. x < 2 ^ 32) words → k < 32
    → slice_index (digits_l 256 32 (number_l (2 ^ 32) words)) k ≡ slice_index words (k / 4) / 256 ^ (k % 4) % 256
byte_of words k long fits lt =
    let place : 4 * (k / 4) + k % 4 ≡ k = omega arith in
    ap (slice_index (digits_l 256 32 (number_l (2 ^ 32) words))) (sym place)
    ∙ get_or_narrower (2 ^ 32) 4 256 32 words (k / 4) (k % 4) refl fits (omega arith) (omega arith)

pub sum_of : (text words : List ℕ) (at k : ℕ) → at + 32 ≤ length text → length words ≡ 8 → Each1 (λ x. x < 2 ^ 32) words → k < 32
    → slice_index (zip2 bit_xor (chunk 0 32 (take (at + 32 - at) (drop at text))) (digits_l 256 32 (number_l (2 ^ 32) words))) k
    ≡ bit_xor (slice_index text (at + k)) (slice_index words (k / 4) / 256 ^ (k % 4) % 256)
sum_of text words at k within long fits lt =
    let n : at + 32 - at ≡ 32 = omega arith in
    let part : length (take 32 (take (at + 32 - at) (drop at text))) ≡ 32 =
    length-take-le 32 (take (at + 32 - at) (drop at text)) (rw n (omega (arith, length-take-le 32 (drop at text) (omega (arith, length-drop at text))))) in
    get_or-zip2 bit_xor (take 32 (take (at + 32 - at) (drop at text))) (digits_l 256 32 (number_l (2 ^ 32) words)) k 0 0 0 (omega arith) (omega arith)
    ∙ ap₂ bit_xor
    (get_or-take 32 (take (at + 32 - at) (drop at text)) k 0 lt ∙ get_or-take (at + 32 - at) (drop at text) k 0 (omega arith) ∙ get_or-drop at text k 0)
    (byte_of words k long fits lt)

-- the words of a block, where eight of them stand in a lane
variable : (v : List (List ℕ)) (n i : ℕ) → slice_index (in_lane v n) i ≡ slice_index (slice_index_or v i []) n
variable [] n i = refl
variable (x ∷ v) n zero = refl
variable (x ∷ v) n (suc i) = variable v n i

module _ (x : List (List ℕ)) (rows : List (List ℕ)) (n m : ℕ) (block : n < 8) (word : m < 8) where
  pub front_word : rows ≡ map (in_lane (slice_index_or x 0 [] ∷ slice_index_or x 1 [] ∷ slice_index_or x 2 [] ∷ slice_index_or x 3 [] ∷ slice_index_or x 4 [] ∷ slice_index_or x 5 [] ∷ slice_index_or x 6 [] ∷ slice_index_or x 7 [] ∷ [])) (range_with_len 0 8)
      → slice_index (slice_index_or rows n []) m ≡ lane_at x m n
  front_word e =
      let v : List (List ℕ) = slice_index_or x 0 [] ∷ slice_index_or x 1 [] ∷ slice_index_or x 2 [] ∷ slice_index_or x 3 [] ∷ slice_index_or x 4 [] ∷ slice_index_or x 5 [] ∷ slice_index_or x 6 [] ∷ slice_index_or x 7 [] ∷ [] in
      ap (λ rows. slice_index (slice_index_or rows n []) m) e
      ∙ ap (λ row. slice_index row m) (get_or-map-range_with_len (in_lane v) 0 8 n n [] block (omega arith))
      ∙ variable v n m
      ∙ below_eight (λ m. slice_index (slice_index_or v m []) n ≡ lane_at x m n) refl refl refl refl refl refl refl refl m word

  pub back_word : rows ≡ map (in_lane (slice_index_or x 8 [] ∷ slice_index_or x 9 [] ∷ slice_index_or x 10 [] ∷ slice_index_or x 11 [] ∷ slice_index_or x 12 [] ∷ slice_index_or x 13 [] ∷ slice_index_or x 14 [] ∷ slice_index_or x 15 [] ∷ [])) (range_with_len 0 8)
      → slice_index (slice_index_or rows n []) m ≡ lane_at x (8 + m) n
  back_word e =
      let v : List (List ℕ) = slice_index_or x 8 [] ∷ slice_index_or x 9 [] ∷ slice_index_or x 10 [] ∷ slice_index_or x 11 [] ∷ slice_index_or x 12 [] ∷ slice_index_or x 13 [] ∷ slice_index_or x 14 [] ∷ slice_index_or x 15 [] ∷ [] in
      ap (λ rows. slice_index (slice_index_or rows n []) m) e
      ∙ ap (λ row. slice_index row m) (get_or-map-range_with_len (in_lane v) 0 8 n n [] block (omega arith))
      ∙ variable v n m
      ∙ below_eight (λ m. slice_index (slice_index_or v m []) n ≡ lane_at x (8 + m) n) refl refl refl refl refl refl refl refl m word

-- a byte of the stream, by the word that it stands in
pub byte_there : (key nonce : List ℕ) (counter n k i w : ℕ) → i ≡ 64 * n + k → k < 64
    → w ≡ block_word key nonce (counter + n) (k / 4)
    → w / 256 ^ (k % 4) % 256 ≡ stream_byte key nonce counter i
unfolding stream_byte
byte_there key nonce counter n k i w e below is =
    let block : i / 64 ≡ n = omega arith in
    let word : i % 64 / 4 ≡ k / 4 = omega arith in
    let byte : i % 4 ≡ k % 4 = omega arith in
    rw (block, word, byte, is) refl

-- 64 bytes more, in two parts
pub both_parts : (first old mid new : List ℕ) (f g s : ℕ → ℕ) (n : ℕ)
    → ((i : ℕ) → i < 64 * n → slice_index old i ≡ bit_xor (slice_index first i) (s i))
    → ((i : ℕ) → 64 * n ≤ i → slice_index old i ≡ slice_index first i)
    → ((i : ℕ) → i < 64 * n → slice_index mid i ≡ slice_index old i)
    → ((k : ℕ) → k < 32 → slice_index mid (64 * n + k) ≡ bit_xor (slice_index old (64 * n + k)) (f k))
    → ((i : ℕ) → 64 * n + 32 ≤ i → slice_index mid i ≡ slice_index old i)
    → ((i : ℕ) → i < 64 * n + 32 → slice_index new i ≡ slice_index mid i)
    → ((k : ℕ) → k < 32 → slice_index new (64 * n + 32 + k) ≡ bit_xor (slice_index mid (64 * n + 32 + k)) (g k))
    → ((k : ℕ) → k < 32 → f k ≡ s (64 * n + k)) → ((k : ℕ) → k < 32 → g k ≡ s (64 * n + 32 + k))
    → (i : ℕ) → i < 64 * (n + 1) → slice_index new i ≡ bit_xor (slice_index first i) (s i)
both_parts first old mid new f g s n done left before1 there1 behind1 before2 there2 is_f is_g i lt =
    ⊎_elim
    (λ (h : i < 64 * n). before2 i (omega arith) ∙ before1 i h ∙ done i h)
    (λ (h : 64 * n ≤ i). ⊎_elim
    (λ (l : i < 64 * n + 32).
    let place : 64 * n + (i - 64 * n) ≡ i = omega arith in
    let there : slice_index mid i ≡ bit_xor (slice_index old i) (s i) =
    subst (λ i. slice_index mid i ≡ bit_xor (slice_index old i) (s i)) place (there1 (i - 64 * n) (omega arith) ∙ ap (bit_xor (slice_index old (64 * n + (i - 64 * n)))) (is_f (i - 64 * n) (omega arith))) in
    before2 i l ∙ there ∙ ap (λ b. bit_xor b (s i)) (left i h))
    (λ (l : 64 * n + 32 ≤ i).
    let place : 64 * n + 32 + (i - (64 * n + 32)) ≡ i = omega arith in
    let there : slice_index new i ≡ bit_xor (slice_index mid i) (s i) =
    subst (λ i. slice_index new i ≡ bit_xor (slice_index mid i) (s i)) place (there2 (i - (64 * n + 32)) (omega arith) ∙ ap (bit_xor (slice_index mid (64 * n + 32 + (i - (64 * n + 32))))) (is_g (i - (64 * n + 32)) (omega arith))) in
    there ∙ ap (λ b. bit_xor b (s i)) (behind1 i l ∙ left i h))
    (cases_lt i (64 * n + 32)))
    (cases_lt i (64 * n))
