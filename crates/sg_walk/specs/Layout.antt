-- Where the segments of a text lie: each in a piece of memory of its own, or all within a single piece, in given sizes.
use Rattle.std.specs.Prelude.{◌≡◌, ℕ, List, [], ◌∷◌, Option, Some, None}
use Rattle.std.specs.List.{sum}
use Rattle.sg_walk.specs.Segments.{cut_sizes}

-- how many bytes each segment has, in pieces of these sizes
abbrev pub sizes_in : List ℕ → Option (List ℕ) → List ℕ
sizes_in pieces None = pieces
sizes_in pieces (Some sizes) = sizes

-- segments within a piece are all of the only one
abbrev pub LieIn : List ℕ → Option (List ℕ) → Type 0
LieIn pieces None = Unit {0}
LieIn pieces (Some sizes) = pieces ≡ sum sizes ∷ []

-- what the first n bytes of all have of each segment within a piece
abbrev pub cut_within : ℕ → Option (List ℕ) → Option (List ℕ)
cut_within n None = None
cut_within n (Some sizes) = Some (cut_sizes n sizes)
