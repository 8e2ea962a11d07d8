-- The words of a block's schedule, and the rounds that they take part in.
use Rattle.std.specs.Prelude.{◌≡◌, ℕ, ◌<◌, List, slice_index}
use Rattle.sha2.specs.Sha256.{rounds, schedule}

-- the first t words are those of w
abbrev pub Same : List ℕ → List ℕ → ℕ → Type 0
Same v w t = (k : ℕ) → k < t → slice_index v k ≡ slice_index w k

-- after t rounds of the block b from the hash value h, W 0 to W (t - 1) are kept, and v are the working variables
-- (6.2.2)
abbrev pub IsRoundsAt : List ℕ → List ℕ → List ℕ → List ℕ → ℕ → Type 0
IsRoundsAt h b words v t = Same words (schedule b 48) t × (v ≡ rounds h (schedule b 48) t)
