-- Names as the templates read them.
use Rattle.std.specs.Prelude.{◌≡◌, Some}
use Rattle.alg_names.specs.Name.{Tree, spelling, IsAllowed}
use Rattle.alg_names.specs.Spelled.{tree_of}

-- the name is within the limits, and its spelling has its tree
pub record IsKnown (t : Tree) : Type 0 where
  pub allowed : IsAllowed t
  pub read : tree_of (spelling t) ≡ Some t
