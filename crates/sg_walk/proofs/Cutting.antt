-- Sizes of segments that are cut.
use Rattle.std.proofs.Common.{◌≡◌, ℕ, ◌-◌, min, List, [], ◌∷◌, sym, ap, ◌∙◌, arith}
use Rattle.std.specs.List.{sum}
use Rattle.std.proofs.lemmas.List.Sums.{sum_by-cons}
use Rattle.std.specs.Prelude.{Option, Some, None}
use Rattle.sg_walk.specs.Segments.{cut_sizes}
use Rattle.sg_walk.specs.Layout.{LieIn, cut_within}

-- together they are the first n
pub sum-cut_sizes : (n : ℕ) (sizes : List ℕ) → sum (cut_sizes n sizes) ≡ min n (sum sizes)
sum-cut_sizes n [] = omega arith
sum-cut_sizes n (size ∷ sizes) =
    omega (arith, sum_by-cons (λ (k : ℕ). k) (min n size) (cut_sizes (n - size) sizes), sum_by-cons (λ (k : ℕ). k) size sizes, sum-cut_sizes (n - size) sizes)

-- a cut piece has the cut segments
pub cut_lie_in : (n : ℕ) (pieces : List ℕ) (within : Option (List ℕ)) → LieIn pieces within → LieIn (cut_sizes n pieces) (cut_within n within)
cut_lie_in n pieces None lie = tt
cut_lie_in n pieces (Some sizes) lie = ap (cut_sizes n) lie ∙ ap (λ (k : ℕ). k ∷ []) (sym (sum-cut_sizes n sizes))
