-- Eight blocks that are made one after the other.
use Rattle.std.proofs.Common.{◌≡◌, ◌≢◌, ℕ, ◌+◌, ◌<◌, ◌≤◌, ◌∙◌, ap, ap₂, arith, List, [], length, map, take, length-take, sym, get_or, slice_index_or, zero-add, set, get_or-set_other, get_or-set_same, below_more, length-set}
use Rattle.std.specs.List.{range_with_len}
use Rattle.std.proofs.lemmas.List.{get_or-map, get_or-take}
use Rattle.std.proofs.lemmas.List.FromFn.{fill_by_all, get_or-map-range_with_len, length-map-range_with_len}
use Rattle.std_defs.specs.Blocks.{xor_blocks, text_block, joined}
use Rattle.std_defs.specs.Xts.{times_alpha_power, xts_block, xts_blocks}
use Rattle.std_defs.proofs.Joined.{joined_same}

-- each block below n is that of f
pub record Filled (f : ℕ → List ℕ) (blocks : List (List ℕ)) (n : ℕ) : Type 0 where
  pub made : (k : ℕ) → k < n → slice_index_or blocks k [] ≡ f k
  pub long : length blocks ≡ 8

pub filled_none : (f : ℕ → List ℕ) (blocks : List (List ℕ)) → length blocks ≡ 8 → Filled f blocks 0
filled_none f blocks long = record { made = λ k h. absurd (omega arith); long = long }

pub filled_more : (f : ℕ → List ℕ) (blocks : List (List ℕ)) (n : ℕ) (block : List ℕ) → Filled f blocks n → n < 8 → block ≡ f n → Filled f (set blocks n block) (n + 1)
filled_more f blocks n block filled h e = record {
  made = below_more (λ k. slice_index_or (set blocks n block) k [] ≡ f k) n
      (λ k l. let ne : k ≢ n = omega arith in get_or-set_other blocks n k block [] ne ∙ filled.made k l)
      (get_or-set_same blocks n block [] (omega (arith, filled.long)) ∙ e);
  long = length-set blocks n block ∙ filled.long;
}

pub filled_all : (f : ℕ → List ℕ) (blocks : List (List ℕ)) (n : ℕ) → Filled f blocks n → 8 ≤ n → blocks ≡ map f (range_with_len 0 8)
filled_all f blocks n filled h = fill_by_all f blocks 8 [] filled.long (λ k l. filled.made k (omega arith))

-- eight blocks of a text, each added to its mask, turned and added again
pub eight_turned : (f : List ℕ → List ℕ) (first text : List ℕ) (masks masked turned : List (List ℕ)) → masks ≡ map (times_alpha_power first) (range_with_len 0 8)
    → masked ≡ map (λ j. xor_blocks (text_block text j) (slice_index_or masks j [])) (range_with_len 0 8) → turned ≡ map f masked
    → joined (λ j. xor_blocks (slice_index_or turned j []) (slice_index_or masks j [])) 8 ≡ xts_blocks (xts_block f first) text 8
unfolding xts_block
eight_turned f first text masks masked turned is_masks is_masked is_turned =
    joined_same (λ j. xor_blocks (slice_index_or turned j []) (slice_index_or masks j [])) (λ j. xts_block f first j (text_block text j)) 8
    (λ j below.
    let mask : slice_index_or masks j [] ≡ times_alpha_power first j =
    ap (λ (v : List (List ℕ)). slice_index_or v j []) is_masks ∙ get_or-map-range_with_len (times_alpha_power first) 0 8 j j [] below (zero-add j) in
    let long : length masked ≡ 8 = ap length is_masked ∙ length-map-range_with_len (λ i. xor_blocks (text_block text i) (slice_index_or masks i [])) 0 8 in
    let block : slice_index_or masked j [] ≡ xor_blocks (text_block text j) (slice_index_or masks j []) =
    ap (λ (v : List (List ℕ)). slice_index_or v j []) is_masked
    ∙ get_or-map-range_with_len (λ i. xor_blocks (text_block text i) (slice_index_or masks i [])) 0 8 j j [] below (zero-add j) in
    ap₂ xor_blocks
    (ap (λ (v : List (List ℕ)). slice_index_or v j []) is_turned ∙ get_or-map f masked j [] [] (omega arith)
    ∙ ap f (block ∙ ap (xor_blocks (text_block text j)) mask)) mask)

-- the first blocks of eight, each added to its mask, turned and added again
pub some_turned : (f : List ℕ → List ℕ) (first text : List ℕ) (count : ℕ) (masks masked turned : List (List ℕ)) → count ≤ 8 → length masked ≡ 8
    → ((j : ℕ) → j < count → slice_index_or masks j [] ≡ times_alpha_power first j)
    → ((j : ℕ) → j < count → slice_index_or masked j [] ≡ xor_blocks (text_block text j) (slice_index_or masks j [])) → take count turned ≡ map f (take count masked)
    → joined (λ j. xor_blocks (slice_index_or turned j []) (slice_index_or masks j [])) count ≡ xts_blocks (xts_block f first) text count
unfolding xts_block
some_turned f first text count masks masked turned few long is_masks is_masked is_turned =
    joined_same (λ j. xor_blocks (slice_index_or turned j []) (slice_index_or masks j [])) (λ j. xts_block f first j (text_block text j)) count
    (λ j below.
    ap₂ xor_blocks
    (sym (get_or-take count turned j [] below) ∙ ap (λ (v : List (List ℕ)). get_or v j []) is_turned
    ∙ get_or-map f (take count masked) j [] [] (omega (arith, length-take count masked))
    ∙ ap f (get_or-take count masked j [] below ∙ is_masked j below ∙ ap (xor_blocks (text_block text j)) (is_masks j below))) (is_masks j below))
