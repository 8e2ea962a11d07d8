-- What the calls of a script come to beside workers: what they come to where it is alone.
use Rattle.std.specs.Prelude.{◌≡◌, ◌≤◌, true, List, [], ◌∷◌, length, slice_get, Option, Some, None, ⊤, All}
use Rattle.std.specs.Option.{option_map_or}
use Rattle.alg_registry.specs.declared.entry.RegEntry.{RegEntry}
use Rattle.alg_registry.specs.Answers.{enlist_answer, driver_place}
use Rattle.alg_registry.specs.Calls.{refs_answer, listing}
use Rattle.alg_registry.specs.Legal.{LegalReg}
use Rattle.alg_registry.specs.Made.{Made}
use Rattle.alg_registry.specs.Rows.{listed_at, caller_of}
use Rattle.board.specs.declared.entry.BoardEntry.{BoardEntry}
use Rattle.board.specs.Entries.{caller_of as board_caller}
use Rattle.board.specs.Legal.{LegalBoard}
use Rattle.templates.specs.Table.{table}
use Rattle.transforms.specs.declared.ask.Ask.{Ask}
use Rattle.dialogues.specs.BoardCalls.{BoardCall, Creates, Submits, Enqueues, Collects, Shares, board_calls}
use Rattle.dialogues.specs.InTurn.{AreInTurn}
use Rattle.dialogues.specs.RegistryCalls.{RegCall, Enlists, Looks, Unlists, Gets, Puts, Counts, Lists}
use Rattle.sequential_model.specs.Pipelines.{Pipeline, has_room, next_number, verdict_of, drained_from, pipelines_after}
use Rattle.sequential_model.specs.Registry.{PlainRegistry, first_registry, look_up, look_found, registry_after}

-- ---- the registry

-- the call came to what the plain registry answers
abbrev pub IsAnsweredBy : PlainRegistry → RegCall → Type 0
IsAnsweredBy registry (Enlists spec answer) = answer ≡ enlist_answer registry.rows spec
IsAnsweredBy registry (Looks text found) = found ≡ Some (look_found (look_up registry text))
IsAnsweredBy registry (Unlists driver id) = id ≡ driver_place registry.rows driver
IsAnsweredBy registry (Gets id ok) = ok ≡ listed_at registry.rows id
IsAnsweredBy registry (Puts id) = ⊤
IsAnsweredBy registry (Counts driver answer) = answer ≡ refs_answer registry.rows driver
IsAnsweredBy registry (Lists rows) = rows ≡ listing registry.rows

abbrev pub AreAnsweredBy : PlainRegistry → List RegCall → Type 0
AreAnsweredBy registry [] = ⊤
AreAnsweredBy registry (call ∷ calls) = IsAnsweredBy registry call × AreAnsweredBy (registry_after registry call) calls

-- Calls in turn come to what the plain registry answers, whoever builds meanwhile.
abbrev pub AnswersArePlain : Type 0
AnswersArePlain =
    (calls : List RegCall) (r : List RegEntry) → LegalReg r → Made table r → All (λ e. caller_of e ≤ 16) r
    → AreInTurn 0 calls [] r → AreAnsweredBy first_registry calls

-- ---- the board

-- there is such a pipeline, and this holds of it
abbrev pub ThereIs : Option Pipeline → (Pipeline → Type 0) → Type 0
ThereIs None P = ⊥
ThereIs (Some pipeline) P = P pipeline

-- what the call came to doesn't depend on time
abbrev pub IsTimelessCall : List Pipeline → BoardCall → Type 0
IsTimelessCall pipelines (Enqueues pipe asked backlog answer) = option_map_or (has_room backlog) (slice_get pipelines pipe) true ≡ true
IsTimelessCall pipelines (Collects pipe collected) = collected.all_done ≡ true
IsTimelessCall pipelines (Shares pipe) = ⊥
IsTimelessCall pipelines _ = ⊤

-- it came to what the plain pipelines answer
abbrev pub IsToldBy : List Pipeline → BoardCall → Type 0
IsToldBy pipelines (Creates pipe shape) = pipe ≡ length pipelines
IsToldBy pipelines (Submits pipe number asked) = ThereIs (slice_get pipelines pipe) (λ pipeline. number ≡ next_number pipeline)
IsToldBy pipelines (Enqueues pipe asked backlog answer) = ThereIs (slice_get pipelines pipe) (λ pipeline. answer ≡ verdict_of backlog pipeline)
IsToldBy pipelines (Collects pipe collected) = ThereIs (slice_get pipelines pipe) (λ pipeline. collected.notices ≡ drained_from pipeline)
IsToldBy pipelines _ = ⊤

-- as far as the calls are timeless, each came to that
abbrev pub AreToldBy : List Pipeline → List BoardCall → Type 0
AreToldBy pipelines [] = ⊤
AreToldBy pipelines (call ∷ calls) = IsTimelessCall pipelines call → IsToldBy pipelines call × AreToldBy (pipelines_after pipelines call) calls

-- Calls come to what the plain pipelines answer, whoever works meanwhile.
abbrev pub RepliesArePlain : Type 0
RepliesArePlain = (b : List (BoardEntry Ask)) → LegalBoard b → All (λ e. board_caller e ≤ 16) b → AreToldBy [] (board_calls 0 b)
