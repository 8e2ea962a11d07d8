-- What the table says at a name's spelling, and what a name asks for.
use Rattle.std.specs.Prelude.{ℕ, ◌<◌, ◌≡◌, true, List, length, Ok}
use Rattle.std.proofs.Common.{get_or}
use Rattle.alg_registry.specs.declared.spec.Spec.{Spec}
use Rattle.alg_names.specs.Name.{Tree, spelling}
use Rattle.templates.specs.Nesting.{is_nested_well}
use Rattle.templates.specs.Table.{table, children_of, derived_of, spellings}
use Rattle.templates.specs.Resolution.{weight}

-- the table at the spelling of a name says what the definitions say of the name
pub record IsTableAt (name : Tree) : Type 0 where
  pub children : table.children (spelling name) ≡ spellings (children_of name)
  pub derived : (below : List (ℕ × Spec)) → table.derived (spelling name) below ≡ derived_of name below
  pub is_name : is_nested_well name ≡ true → table.is_name (spelling name) ≡ true

-- what a name asks for is lighter than the name, and nested well where the name is
pub record AsksForLess (name : Tree) : Type 0 where
  pub lighter : (names : List Tree) (i : ℕ) (child : Tree) → children_of name ≡ Ok names → i < length names → child ≡ get_or names i child → weight child < weight name
  pub nested : (names : List Tree) (i : ℕ) (child : Tree) → children_of name ≡ Ok names → i < length names → child ≡ get_or names i child → is_nested_well name ≡ true → is_nested_well child ≡ true
