-- A reply that is being written.
use Rattle.std.specs.Prelude.{ℕ, ◌≡◌, ◌+◌, ◌<◌, ◌≤◌, List, ◌++◌, length, Result, Ok, Err}

-- its text, and how many bytes more it takes without memory
pub record Written : Type 0 where
  pub text : List ℕ
  pub spare : ℕ

-- The text was added, and used no more of the room than its length; or memory was wanting, which comes only where the
-- room is too small for the text, and all is as it was.
abbrev pub Puts : {E : Type 0} → List ℕ → Written → Written → Result (Unit {0}) E → Type 0
Puts text before after (Ok done) = (after.text ≡ before.text ++ text) × (before.spare ≤ after.spare + length text)
Puts text before after (Err e) = (after ≡ before) × (before.spare < length text)
