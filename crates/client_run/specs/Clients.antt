-- What a run of several scripts at once leaves.
use Rattle.std.specs.Prelude.{ℕ, ◌^◌, ◌≡◌, ◌≤◌, ◌⊎◌, ◌↔◌, Bool, true, List, [], ◌++◌, length, map, Option, Some, IfSome, IsTrue, Result, Err, OnOk, OnErr, IfOk, IfErr}
use Rattle.std.specs.Io.KnownBytes.{Keeps, Consumes, IsAtEnd}
use Rattle.std.specs.List.{list_any}
use Rattle.alg_registry.specs.declared.entry.RegEntry.{RegEntry}
use Rattle.alg_registry.specs.Legal.{LegalReg}
use Rattle.alg_registry.specs.Made.{Made}
use Rattle.board.specs.declared.entry.BoardEntry.{BoardEntry}
use Rattle.board.specs.Legal.{LegalBoard}
use Rattle.kc_base.specs.Streams.{AppendsFront}
use Rattle.templates.specs.Table.{table}
use Rattle.transforms.specs.declared.ask.Ask.{Ask}
use Rattle.client_texts.specs.Outputs.{IsOutput, IsOutputBy, scripts_of}
use Rattle.script_text.specs.Parts.{parts_of}
use Rattle.script_text.specs.Script.{script_of}
use Rattle.trace_text.specs.Asks.{ask_origin}
use Rattle.trace_text.specs.Trace.{FitTypes}
use Rattle.script_run.specs.declared.errors.RunError.{RunError}
use Rattle.script_run.specs.declared.errors.RunError.TheVariants.{WriteFault, NoMemory}
use Rattle.client_texts.specs.OneList.{AreOneList, AreCallersBeside}
use Rattle.script_run.specs.Endings.{traced, CanBeRead, EndsShut, IsShutOnce}
use Rattle.script_run.specs.Runs.{GainsThen}
use Rattle.script_run.specs.Text.{is_malformed}

-- a line of any part of the input
abbrev pub has_malformed : ℕ → List ℕ → Bool
has_malformed clients input = list_any (list_any is_malformed) (scripts_of clients input)

-- a front of the whole output and its trace, or nothing
abbrev pub GainsFrontOrNone : Option (List ℕ) → Option (List ℕ) → (List ℕ → Type 0) → List ℕ → Type 0
GainsFrontOrNone old new IsWhole trace = Keeps old new ⊎ ((output : List ℕ) × IsWhole output × AppendsFront old new (output ++ trace))

-- What a run of so many clients beside so many workers left that ended with this status.
pub record RanClients (workers clients : ℕ) (trace : Bool) (status : ℕ) (left left' held held' : Option (List ℕ)) (r : List RegEntry) (b : List (BoardEntry Ask)) : Type 0 where
  -- under every status
  pub legal : LegalReg r
  pub legal_board : LegalBoard b
  pub faithful : Made table r
  pub callers : AreCallersBeside workers clients r b
  pub closed : IsShutOnce workers b ⊎ (((status ≡ 3) ⊎ (status ≡ 5) ⊎ (status ≡ 6)) × (r ≡ []) × (b ≡ []))
  -- where it reached the end: all was read, the whole output was written and then the trace, the board was shut last,
  -- and each shared pipeline had one list of requests, in which those of each client stand in order, and of which each
  -- was handed out
  pub ended : status ≤ 1 → IfSome left (λ input. left' ≡ Some [])
  pub whole : status ≤ 1 → IfSome left (λ input. GainsThen held held' (IsOutput workers clients input r b) (traced trace r b))
  pub readable : trace ≡ true → status ≤ 1 → IfSome left (λ input. CanBeRead r b)
  pub shut : status ≤ 1 → EndsShut b
  pub one_list : status ≤ 1 → AreOneList clients b
  pub malformed : status ≤ 1 → IfSome left (λ input. (status ≡ 1) ↔ IsTrue (has_malformed clients input))
  -- where the source failed or gave too much no script ran, and nothing was written; where the sink failed or memory
  -- was wanting, nothing, or a front
  pub unrun : (status ≡ 3) ⊎ (status ≡ 6) → (r ≡ []) × (b ≡ [])
  pub unwritten : (status ≡ 3) ⊎ (status ≡ 6) → Keeps held held'
  pub front : (status ≡ 4) ⊎ (status ≡ 5) → IfSome left (λ input. GainsFrontOrNone held held' (IsOutput workers clients input r b) (traced trace r b))

-- ---- where the input was read and cut

-- What the parts' scripts wrote that ran beside so many workers, and the histories that they left.
pub record RanParts (workers clients : ℕ) (trace : Bool) (parts : List (List ℕ)) (held held' : Option (List ℕ)) (r : List RegEntry) (b : List (BoardEntry Ask)) (answer : Result Bool RunError) : Type 0 where
  pub whole : OnOk answer (GainsThen held held' (IsOutputBy workers (map script_of parts) r b) (traced trace r b))
  pub front : OnErr answer (GainsFrontOrNone held held' (IsOutputBy workers (map script_of parts) r b) (traced trace r b))
  pub fits : trace ≡ true → OnOk answer (FitTypes ask_origin r b)
  pub malformed : IfOk answer (λ bad. bad ≡ list_any (list_any is_malformed) (map script_of parts))
  pub shut : OnOk answer (EndsShut b)
  pub one_list : OnOk answer (AreOneList clients b)
  pub closed : IsShutOnce workers b ⊎ ((answer ≡ Err NoMemory) × (r ≡ []) × (b ≡ []))
  pub callers : AreCallersBeside workers clients r b
  pub legal : LegalReg r
  pub legal_board : LegalBoard b
  pub faithful : Made table r
  pub causes : IfErr answer (λ e. (e ≡ WriteFault) ⊎ (e ≡ NoMemory))

-- what a read of a whole input left that was cut into parts for so many clients
pub record IsCut (clients : ℕ) (left left' : Option (List ℕ)) (parts : List (List ℕ)) : Type 0 where
  pub input : List ℕ
  pub read : Consumes left left' input
  pub at_end : IsAtEnd left'
  pub short : length input ≤ 2 ^ 28
  pub cut : parts ≡ parts_of clients input
