-- Vectors of four lanes, lane by lane.
use Rattle.std.specs.Prelude.{◌≡◌, ℕ, ◌<◌, List, [], ◌∷◌, length, slice_index}
use Rattle.std.proofs.Common.{arith, ap, ◌∙◌}
use Rattle.std.proofs.lemmas.Simd.{get_or-zip2, get_or-replicate}
use lib.Lanes.{zip2}

pub lane : (f : ℕ → ℕ → ℕ) (x y : List ℕ) (j : ℕ) → length x ≡ 4 → length y ≡ 4 → j < 4
    → slice_index (zip2 f x y) j ≡ f (slice_index x j) (slice_index y j)
lane f x y j ex ey lt = get_or-zip2 f x y j 0 0 0 (omega arith) (omega arith)

-- with the same number in each lane
pub with_splat : (f : ℕ → ℕ → ℕ) (x : List ℕ) (v j : ℕ) → length x ≡ 4 → j < 4
    → slice_index (zip2 f x (v ∷ v ∷ v ∷ v ∷ [])) j ≡ f (slice_index x j) v
with_splat f x v j ex lt =
    get_or-zip2 f x (v ∷ v ∷ v ∷ v ∷ []) j 0 0 0 (omega arith) (omega arith) ∙ ap (f (slice_index x j)) (get_or-replicate 4 j v 0 lt)
