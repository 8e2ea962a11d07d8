-- How a script asks the registry: one call after the other, with nothing but building between them.
use Rattle.std.specs.Prelude.{◌≡◌, true, List, [], ◌∷◌, ◌++◌, Some}
use Rattle.std.specs.List.{list_all, fold}
use Rattle.alg_registry.specs.declared.entry.RegEntry.{RegEntry}
use Rattle.alg_registry.specs.Legal.{LegalReg}
use Rattle.alg_registry.specs.Made.{Made}
use Rattle.templates.specs.LookResults.{NonePending}
use Rattle.templates.specs.Table.{table}
use Rattle.dialogues.specs.RegistryCalls.{RegCall, reg_call_of, is_settled}
use Rattle.sequential_model.specs.Laws.{AreAnsweredBy}
use Rattle.sequential_model.specs.Registry.{PlainRegistry, registry_after}
use Rattle.sequential_model.proofs.Agreeing.{IsRegistryOf, is_building}

-- The history went on by this call of the script, with building before and after it by whoever builds, and the call has
-- come to something.
pub record Asks (call : RegCall) (r r' : List RegEntry) : Type 0 where
  pub before : List RegEntry
  pub entry : RegEntry
  pub after : List RegEntry
  pub history : r' ≡ ((r ++ before) ++ entry ∷ []) ++ after
  pub call_is : reg_call_of r' 0 (r ++ before) entry ≡ Some call
  pub settled : is_settled call ≡ true
  pub builds_before : list_all is_building before ≡ true
  pub builds_after : list_all is_building after ≡ true

-- nothing but building
abbrev pub Builds : List RegEntry → List RegEntry → Type 0
Builds r r' = (work : List RegEntry) × (r' ≡ r ++ work) × (list_all is_building work ≡ true)

-- the calls were made one after the other, each when the one before had come to something
abbrev pub AsksInTurn : List RegCall → List RegEntry → List RegEntry → Type 0
AsksInTurn [] r r' = Builds r r'
AsksInTurn (call ∷ calls) r r' = (next : List RegEntry) × Asks call r next × AsksInTurn calls next r'

-- calls in turn come to what the plain registry answers, and leave what it leaves
abbrev pub AnswersAsPlain : Type 0
AnswersAsPlain =
    (calls : List RegCall) (r r' : List RegEntry) (registry : PlainRegistry)
    → LegalReg r' → Made table r' → NonePending r → IsRegistryOf registry r → AsksInTurn calls r r'
    → IsRegistryOf (fold registry_after registry calls) r' × NonePending r' × AreAnsweredBy registry calls
