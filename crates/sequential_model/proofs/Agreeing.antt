-- When the plain registry is that of a history.
use Rattle.std.specs.Prelude.{ℕ, ◌≡◌, ◌==◌, Bool, true, false, List}
use Rattle.std.specs.List.{list_any}
use Rattle.alg_registry.specs.declared.entry.RegEntry.{RegEntry}
use Rattle.alg_registry.specs.declared.entry.RegEntry.TheVariants.{Look, Claim, End, Waited}
use Rattle.alg_registry.specs.Rows.{rows_of, larvals_of}
use Rattle.alg_registry.specs.Answers.{ended_with}
use Rattle.sequential_model.specs.Registry.{PlainRegistry, ids_for}

-- among these ids
abbrev pub is_among : ℕ → List ℕ → Bool
is_among id ids = list_any (λ other. other == id) ids

-- its entries are those of the history, and were built or joined for the texts whose larvals ended with them
pub record IsRegistryOf (registry : PlainRegistry) (h : List RegEntry) : Type 0 where
  pub rows : registry.rows ≡ rows_of h
  pub built : (text : List ℕ) (id : ℕ) → is_among id (ids_for text registry.built) ≡ list_any (ended_with text id) (larvals_of h)

-- an entry of building, whoever makes it: no script asks for it
abbrev pub is_building : RegEntry → Bool
is_building (Look caller text plain answer) = plain
is_building (Claim caller larval) = true
is_building (End caller larval answer) = true
is_building (Waited caller larval) = true
is_building _ = false
