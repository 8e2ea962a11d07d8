-- What the table of larvals keeps.
use Rattle.std.specs.Prelude.{ℕ, ◌+◌, ◌≡◌, ◌≤◌, List, length}
use Rattle.alg_registry.specs.declared.row.Larval.{Larval}
use Rattle.alg_registry.specs.Calls.{is_unclaimed}
use Rattle.alg_registry.specs.Larvals.{numbers_of}

-- the unclaimed are all that nobody has claimed, and there is room for more
pub record IsTable (all : List Larval) (seen unclaimed : List ℕ) (spare room seen_room unclaimed_room : ℕ) : Type 0 where
  pub unclaimed_are : unclaimed ≡ numbers_of is_unclaimed 0 all
  pub fits : length all + spare ≤ room
  pub seen_fits : length seen + spare ≤ seen_room
  pub unclaimed_fits : length unclaimed + spare ≤ unclaimed_room
