-- What a walk over a part of a text does.
use Rattle.std.specs.Prelude.{◌≡◌, ℕ, ◌+◌, ◌≤◌, List, length, map, take, drop}
use Rattle.std.specs.List.{concat}

-- n bytes of the text that the segments make, from byte `at` on, were gone over, and the rest is as it was
pub record Stepped {W : Type 0} (makes : W → List ℕ → List ℕ → W → Type 0) (before : W) (old new : List (List ℕ)) (after : W) (at n : ℕ) : Type 0 where
  pub sizes : map length new ≡ map length old
  pub front : take at (concat new) ≡ take at (concat old)
  pub back : drop (at + n) (concat new) ≡ drop (at + n) (concat old)
  pub made : makes before (take n (drop at (concat old))) (take n (drop at (concat new))) after
  pub within : at + n ≤ length (concat old)
