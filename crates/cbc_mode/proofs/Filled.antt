-- The first of eight blocks, made one after the other.
use Rattle.std.proofs.Common.{◌≡◌, ◌≢◌, ℕ, ◌+◌, ◌<◌, ◌≤◌, ◌∙◌, sym, ap, arith, List, [], length, map, take, length-take, get_or, slice_index_or, set, get_or-set_other, get_or-set_same, below_more, length-set}
use Rattle.std.proofs.lemmas.List.{get_or-map, get_or-take}

-- each block below n is that of f
pub record Filled (f : ℕ → List ℕ) (blocks : List (List ℕ)) (n : ℕ) : Type 0 where
  pub made : (k : ℕ) → k < n → slice_index_or blocks k [] ≡ f k
  pub long : length blocks ≡ 8

pub filled_none : (f : ℕ → List ℕ) (blocks : List (List ℕ)) → length blocks ≡ 8 → Filled f blocks 0
filled_none f blocks long = record { made = λ k h. absurd (omega arith); long = long }

pub filled_more : (f : ℕ → List ℕ) (blocks : List (List ℕ)) (n : ℕ) (block : List ℕ) → Filled f blocks n → n < 8 → block ≡ f n → Filled f (set blocks n block) (n + 1)
filled_more f blocks n block filled h e = record {
  made = below_more (λ k. slice_index_or (set blocks n block) k [] ≡ f k) n
      (λ k l. let ne : k ≢ n = omega arith in get_or-set_other blocks n k block [] ne ∙ filled.made k l)
      (get_or-set_same blocks n block [] (omega (arith, filled.long)) ∙ e);
  long = length-set blocks n block ∙ filled.long;
}

-- of eight blocks of which the first were opened
pub opened_at : (u : List ℕ → List ℕ) (sealed opened : List (List ℕ)) (count j : ℕ) → count ≤ 8 → length sealed ≡ 8 → j < count
    → take count opened ≡ map u (take count sealed) → get_or opened j [] ≡ u (get_or sealed j [])
opened_at u sealed opened count j few long below e =
    sym (get_or-take count opened j [] below) ∙ ap (λ (v : List (List ℕ)). get_or v j []) e
    ∙ get_or-map u (take count sealed) j [] [] (omega (arith, length-take count sealed))
    ∙ ap u (get_or-take count sealed j [] below)
