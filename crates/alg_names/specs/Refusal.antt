-- When a text is refused.
use Rattle.std.specs.Prelude.{◌≡◌, ℕ, ◌<◌, ◌≤◌, List, length, Result}
use Rattle.std.specs.Prelude.{Ok, Err}
use Rattle.alg_names.specs.Name.{Tree, IsName, IsNoName, IsLongestBeginning, depth, width}
use Rattle.alg_names.specs.declared.name_errors.NameErr.{NameErr}
use Rattle.alg_names.specs.declared.name_errors.NameErr.TheVariants.{TooLong, Bad, TooDeep, TooMany, Memory}

-- In this order: too many bytes; no name at all, and how many bytes begin one; too many levels; too many arguments.
abbrev pub IsRefusedFor : NameErr → List ℕ → Type 0
IsRefusedFor TooLong text = 127 < length text
IsRefusedFor (Bad place) text = (length text ≤ 127) × IsNoName text × IsLongestBeginning place text
IsRefusedFor TooDeep text = (length text ≤ 127) × (t : Tree) × IsName text t × (8 < depth t)
IsRefusedFor TooMany text = (length text ≤ 127) × (t : Tree) × IsName text t × (depth t ≤ 8) × (4 < width t)
IsRefusedFor Memory text = Unit {0}

-- the tree, unless memory ran out
abbrev pub IsReadAs : Tree → Result Tree NameErr → Type 0
IsReadAs t (Ok name) = name ≡ t
IsReadAs t (Err e) = e ≡ Memory

abbrev pub IsNotDeep : List ℕ → Type 0
IsNotDeep text = (length text ≤ 127) × (t : Tree) × IsName text t × (depth t ≤ 8)
