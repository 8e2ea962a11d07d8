-- What a whole run beside workers leaves.
use Rattle.std.specs.Prelude.{◌≡◌, ◌⊎◌, ℕ, Bool, List, [], Option, Some, Result, Err, OnOk, IfOk, IfSome, IsErrOf}
use Rattle.std.specs.List.{list_any}
use Rattle.alg_registry.specs.declared.entry.RegEntry.{RegEntry}
use Rattle.alg_registry.specs.Legal.{LegalReg}
use Rattle.alg_registry.specs.Made.{Made}
use Rattle.board.specs.declared.entry.BoardEntry.{BoardEntry}
use Rattle.board.specs.Legal.{LegalBoard}
use Rattle.dialogues.specs.Texts.{IsText}
use Rattle.script_run.specs.Fronts.{IsFrontText}
use Rattle.dialogues.specs.ScriptState.{start}
use Rattle.load_mode.specs.Requests.{digest_of, load_requests}
use Rattle.load_mode.specs.Turns.{AreLoaded}
use Rattle.script_text.specs.Script.{script_of}
use Rattle.settled_scripts.specs.Settled.{IsSettled, plain_text}
use Rattle.templates.specs.Table.{table}
use Rattle.transforms.specs.declared.ask.Ask.{Ask}
use Rattle.script_run.specs.declared.errors.RunError.{RunError}
use Rattle.script_run.specs.declared.errors.RunError.TheVariants.{NoMemory, WriteFault}
use Rattle.script_run.specs.Answered.{RanSource, IsCutOff, IsBrokenOff}
use Rattle.script_run.specs.ByLines.{IsTextByLines}
use Rattle.script_run.specs.Endings.{AreCallers, EndsShut, IsShutOnce}
use Rattle.script_run.specs.Runs.{Gains, InTurn}
use Rattle.script_run.specs.Text.{is_malformed}

-- The histories are right, and their entries the script's and so many workers'.
pub record AreHistories (workers : ℕ) (r : List RegEntry) (b : List (BoardEntry Ask)) : Type 0 where
  pub callers : AreCallers workers r b
  pub legal : LegalReg r
  pub legal_board : LegalBoard b
  pub faithful : Made table r

-- What a script has written that a source gave, and the histories that its run left.
pub record ScriptRan (workers : ℕ) (left left' : Option (List ℕ)) (r : List RegEntry) (b : List (BoardEntry Ask)) (result : Result Bool RunError) (held held' : Option (List ℕ)) : Type 0 where
  pub ended : OnOk result (IfSome left (λ _. left' ≡ Some []))
  pub whole : OnOk result (IfSome left (λ script. Gains held held' (IsText workers (start 0) 0 (script_of script) r b)))
  pub in_turn : OnOk result (IfSome left (λ script. InTurn (script_of script) r))
  pub settled : OnOk result (IfSome left (λ script. IsSettled (script_of script) → Gains held held' (λ text. text ≡ plain_text (script_of script))))
  pub shut : OnOk result (EndsShut b)
  pub front : IfSome left (λ script. Gains held held' (IsFrontText workers (start 0) 0 (script_of script) r b))
  pub by_lines : IfSome left (λ script. Gains held held' (IsTextByLines workers (script_of script) r b))
  pub first : RanSource workers left left' r b result held held'
  pub cut : IsErrOf result WriteFault → IfSome left (λ script. Gains held held' (IsCutOff workers (script_of script) r b))
  pub broken : IsErrOf result NoMemory → IfSome left (λ script. Gains held held' (IsBrokenOff workers (script_of script) r b))
  pub malformed : IfOk result (λ bad. IfSome left (λ script. bad ≡ list_any is_malformed (script_of script)))
  pub closed : IsShutOnce workers b ⊎ ((result ≡ Err NoMemory) × (r ≡ []) × (b ≡ []))
  pub histories : AreHistories workers r b

-- What a load came to, and the histories that its run left.
pub record LoadRan {F : Type 0} (workers seed count : ℕ) (r : List RegEntry) (b : List (BoardEntry Ask)) (result : Result (List ℕ) F) : Type 0 where
  pub digest : IfOk result (λ digest. digest ≡ digest_of (load_requests seed count))
  pub loaded : OnOk result (AreLoaded seed count b)
  pub shut : OnOk result (EndsShut b)
  pub closed : IsShutOnce workers b
  pub histories : AreHistories workers r b
