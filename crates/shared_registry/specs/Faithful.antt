-- What the registry of many callers keeps.
use Rattle.std.specs.Prelude.{List}
use Rattle.alg_registry.specs.declared.entry.RegEntry.{RegEntry}
use Rattle.alg_registry.specs.Legal.{LegalReg}
use Rattle.alg_registry.specs.Made.{Made}
use Rattle.templates.specs.Table.{table}

-- each entry was right for those before it, and every instance was built by its template
pub record IsFaithful (h : List RegEntry) : Type 0 where
  pub legal : LegalReg h
  pub made : Made table h
