-- A text that lies in segments.
use Rattle.std.specs.Prelude.{ℕ, ◌+◌, ◌-◌, min, List, [], ◌∷◌, ◌++◌, length, map, take, drop}
use Rattle.std.specs.List.{concat}

-- its bytes, and how many of them each segment has
pub record Segmented : Type 0 where
  pub text : List ℕ
  pub sizes : List ℕ

-- the text that these segments make, the one behind the other
abbrev pub segmented : List (List ℕ) → Segmented
segmented parts = record { text = concat parts; sizes = map length parts }

-- the text with the piece in the place of as many of its bytes, from byte `at` on
unfoldable pub written : ℕ → List ℕ → List ℕ → List ℕ
written at piece text = take at text ++ piece ++ drop (at + length piece) text

-- how many of the first n bytes each segment has, of segments of these sizes
abbrev pub cut_sizes : ℕ → List ℕ → List ℕ
cut_sizes n [] = []
cut_sizes n (size ∷ sizes) = min n size ∷ cut_sizes (n - size) sizes
