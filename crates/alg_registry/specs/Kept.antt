-- What a registry keeps beside its history.
use Rattle.std.specs.Prelude.{ℕ, ◌≡◌, List}
use Rattle.alg_registry.specs.declared.entry.RegEntry.{RegEntry}
use Rattle.alg_registry.specs.declared.row.Row.{Row}
use Rattle.alg_registry.specs.declared.row.Larval.{Larval}
use Rattle.alg_registry.specs.Rows.{rows_of, larvals_of}
use Rattle.alg_registry.specs.Legal.{LegalReg}
use Rattle.alg_registry.specs.Larvals.{seen_from}

-- the history is legal, and the entries and larvals are those of the history
pub record IsKept (h : List RegEntry) (rows : List Row) (larvals : List Larval) : Type 0 where
  pub legal : LegalReg h
  pub rows_are : rows ≡ rows_of h
  pub larvals_are : larvals ≡ larvals_of h

-- and a look goes over the larvals that it has to see, and no other
pub record IsRegistry (h : List RegEntry) (rows : List Row) (larvals : List Larval) (seen : List ℕ) : Type 0 where
  pub kept : IsKept h rows larvals
  pub seen_are : seen ≡ seen_from rows 0 larvals
