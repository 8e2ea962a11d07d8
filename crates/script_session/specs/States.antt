-- A session over two locks: what its script has made, and what its passes know.
use Rattle.std.specs.Prelude.{ℕ, ◌+◌, ◌==◌, if◌then◌else◌, ◌≡◌, ◌≤◌, Bool, false, List, [], ◌∷◌, length, Option, Some, None, ⊤, All, sum_by}
use Rattle.alg_registry.specs.declared.entry.RegEntry.{RegEntry}
use Rattle.board.specs.declared.entry.BoardEntry.{BoardEntry}
use Rattle.board.specs.Allowance.{accepted_by}
use Rattle.board.specs.Entries.{entries_of, birth}
use Rattle.board.specs.Legal.{Is, IsNoWorker, LegalBoard, is_shut}
use Rattle.board.specs.Shapes.{is_pad, width_born}
use Rattle.transforms.specs.declared.ask.Ask.{Ask}
use Rattle.transforms.specs.AskValue.{ask_size}
use Rattle.turn_lock.specs.Turns.{Known}
use Rattle.dialogues.specs.AllocAndFree.{lists_beside}
use Rattle.dialogues.specs.References.{got, given}
use Rattle.dialogues.specs.RegistryCalls.{reg_calls}
use Rattle.dialogues.specs.ScriptState.{ScriptState, Live, PipelineState}
use Rattle.recorded_calls.specs.RegistryCalls.{IsCaller}
use Rattle.recorded_calls.specs.Passes.{RegPass, BoardPass, known, lock_of}
use Rattle.recorded_calls.specs.Pipelines.{KnowsPipe, Owns}
use Rattle.recorded_calls.specs.SharedCalls.{KnowsShared}

-- how many live transforms stand on the entry
abbrev pub uses : ℕ → List Live → ℕ
uses id [] = 0
uses id (live ∷ lives) = (if live.id == id then 1 else 0) + uses id lives

-- The caller has as many references of each entry as live transforms stand on it.
pub record ReferencesMatch (lives : List Live) (k : Known RegEntry) : Type 0 where
  pub caller : IsCaller k
  pub referenced : (id : ℕ) → got id (reg_calls k.number k.seen) ≡ given id (reg_calls k.number k.seen) + uses id lives

-- its pipeline is as the caller knows it, if it has one
abbrev pub HasPipe : Known (BoardEntry Ask) → Option PipelineState → Type 0
HasPipe k None = ⊤
HasPipe k (Some pipe) = KnowsPipe k pipe

-- a transform that is shared: its pipeline is, if it has one
abbrev pub HasShared : Known (BoardEntry Ask) → Option PipelineState → Type 0
HasShared k None = ⊤
HasShared k (Some pipe) = KnowsShared k pipe

abbrev pub AreShared : List Live → Known (BoardEntry Ask) → Type 0
AreShared lives k = All (λ (live : Live). HasShared k live.pipe) lives

abbrev pub is_at : ℕ → Option PipelineState → Bool
is_at number None = false
is_at number (Some pipe) = pipe.number == number

-- how many live transforms have the pipeline of this number
abbrev pub owners : ℕ → List Live → ℕ
owners number [] = 0
owners number (live ∷ lives) = (if is_at number live.pipe then 1 else 0) + owners number lives

-- The live transforms' pipelines are as the caller knows them, no two share one, it has no other that is open, and so
-- many requests and bytes were accepted.
pub record PipelinesMatch (script_state : ScriptState) (k : Known (BoardEntry Ask)) : Type 0 where
  pub outsider : IsNoWorker k.number
  pub legal : LegalBoard k.seen
  pub pipes : All (λ (live : Live). HasPipe k live.pipe) script_state.lives
  pub apart : (number : ℕ) → owners number script_state.lives ≤ 1
  pub owned : (number : ℕ) → Owns k number → 1 ≤ owners number script_state.lives
  pub requests : length (accepted_by k.number k.seen) ≡ script_state.requests
  pub bytes : sum_by ask_size (accepted_by k.number k.seen) ≡ script_state.bytes
  pub unshut : k.number ≡ 0 → is_shut k.seen ≡ false

-- each open pad that the caller made has so many lists
abbrev pub MadeWide : ℕ → Known (BoardEntry Ask) → Type 0
MadeWide lists k = (p : ℕ) → Owns k p → Is is_pad (entries_of p k.seen) → width_born (birth (entries_of p k.seen)) ≡ lists

-- beside how many workers the script runs, what it has made, and its passes
pub record State : Type 0 where
  pub workers : ℕ
  pub script_state : ScriptState
  pub registry : Option RegPass
  pub board : Option BoardPass

-- a pad that the session made has a list for each worker, and one where there are none
abbrev pub PadsHaveAListPerWorker : State → Type 0
PadsHaveAListPerWorker s = MadeWide (lists_beside s.workers) (known s.board)

-- what its passes know of registry and board is its script's state
pub record StateMatches (s : State) : Type 0 where
  pub stands : ReferencesMatch s.script_state.lives (known s.registry)
  pub posted : PipelinesMatch s.script_state (known s.board)

-- both passes are still of their locks, as many workers stand beside the script, and it shares the same
pub record SameLocks (s s' : State) : Type 0 where
  pub registry : lock_of s'.registry ≡ lock_of s.registry
  pub board : lock_of s'.board ≡ lock_of s.board
  pub workers : s'.workers ≡ s.workers
  pub shared : s'.script_state.shared ≡ s.script_state.shared

-- with one more request of so many bytes, where it was accepted
abbrev pub counted : State → Bool → ℕ → State
counted s accepted size = if accepted then record s { script_state = record (s.script_state) { requests = s.script_state.requests + 1; bytes = s.script_state.bytes + size } } else s
