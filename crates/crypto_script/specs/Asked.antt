-- What holds of a run, by what its words ask for: a script, several scripts, or a load.
use Rattle.std.specs.Prelude.{◌≡◌, ◌-◌, ◌^◌, ◌≤◌, ◌⊎◌, ◌↔◌, ℕ, Bool, List, [], length, take, map, Option, None, IfSome, IsSome, IsTrue, String, string_bytes}
use Rattle.std.specs.List.{list_any}
use Rattle.run_options.specs.declared.options.ClientOptions.{ClientOptions}
use Rattle.run_options.specs.declared.options.LoadOptions.{LoadOptions}
use Rattle.run_options.specs.declared.options.ScriptOptions.{ScriptOptions}
use Rattle.script_text.specs.Script.{script_of}
use Rattle.script_text.specs.Whole.{whole_script}
use Rattle.settled_scripts.specs.Settled.{IsSettled, plain_text}
use Rattle.dialogues.specs.Texts.{IsText}
use Rattle.dialogues.specs.ScriptState.{start}
use Rattle.script_run.specs.Answered.{Gives, AreAnswered, BeginsWithText, IsCutOff, IsBrokenOff}
use Rattle.script_run.specs.ByLines.{IsTextByLines}
use Rattle.script_run.specs.Endings.{traced, CanBeRead}
use Rattle.script_run.specs.Fronts.{IsFrontText}
use Rattle.script_run.specs.Runs.{Gains, GainsThen, GainsFront}
use Rattle.script_run.specs.Text.{is_malformed}
use Rattle.client_texts.specs.Outputs.{IsOutput}
use Rattle.client_run.specs.Clients.{has_malformed, GainsFrontOrNone}
use Rattle.crypto_script.specs.declared.program.Outcome.{Outcome}
use Rattle.crypto_script.specs.Words.{script_asked, clients_asked, load_asked, workers_in, clients_in, MayBeUnbegun}

-- ---- what the words ask for

abbrev pub words_of : {Z : Type 0} → List (String Z) → List (List ℕ)
words_of words = map string_bytes words

module _ {Z : Type 0} (words : List (String Z)) where
  -- the words ask for a script; for several scripts; for one of these two; for a load
  abbrev pub AsksScript : Type 0
  AsksScript = IsSome (script_asked (words_of words))

  abbrev pub AsksClients : Type 0
  AsksClients = IsSome (clients_asked (words_of words))

  abbrev pub AsksScripts : Type 0
  AsksScripts = IsSome (script_asked (words_of words)) ⊎ IsSome (clients_asked (words_of words))

  abbrev pub AsksLoad : Type 0
  AsksLoad = IsSome (load_asked (words_of words))

  -- for none of these
  abbrev pub AsksNothing : Type 0
  AsksNothing = (script_asked (words_of words) ≡ None) × (clients_asked (words_of words) ≡ None) × (load_asked (words_of words) ≡ None)

  -- this holds if they ask for none of these
  abbrev pub UnlessAsked : Type 0 → Type 0
  UnlessAsked P = script_asked (words_of words) ≡ None → clients_asked (words_of words) ≡ None → load_asked (words_of words) ≡ None → P

  -- this holds of the options of a script, of several, of a load, where they ask for one
  abbrev pub ForScript : (ScriptOptions → Type 0) → Type 0
  ForScript P = IfSome (script_asked (words_of words)) P

  abbrev pub ForClients : (ClientOptions → Type 0) → Type 0
  ForClients P = IfSome (clients_asked (words_of words)) P

  abbrev pub ForLoad : (LoadOptions → Type 0) → Type 0
  ForLoad P = IfSome (load_asked (words_of words)) P

  -- beside how many workers, and of how many clients: 0 where they ask for none
  abbrev pub workers_for : ℕ
  workers_for = workers_in (words_of words)

  abbrev pub clients_for : ℕ
  clients_for = clients_in (words_of words)

-- ---- of which bytes; `ran` is what the run left, `left` and `left'` are the source's bytes before and after

module _ {Z : Type 0} (ran : Outcome) (words : List (String Z)) where
  -- this holds of the script, however the run ended; where it reached its end; where it ended with this status
  abbrev pub OfScript : Option (List ℕ) → (Outcome → ScriptOptions → List ℕ → Type 0) → Type 0
  OfScript left P = ForScript words (λ options. IfSome left (P ran options))

  abbrev pub OfEndedScript : Option (List ℕ) → (Outcome → ScriptOptions → List ℕ → Type 0) → Type 0
  OfEndedScript left P = ForScript words (λ options. ran.status ≤ 1 → IfSome left (P ran options))

  abbrev pub OfScriptAt : ℕ → Option (List ℕ) → (Outcome → ScriptOptions → List ℕ → Type 0) → Type 0
  OfScriptAt status left P = ForScript words (λ options. ran.status ≡ status → IfSome left (P ran options))

  -- of the bytes that the source gave, where the run ended with this status
  abbrev pub OfGiven : ℕ → Option (List ℕ) → Option (List ℕ) → (Outcome → ScriptOptions → List ℕ → Type 0) → Type 0
  OfGiven status left left' P = ForScript words (λ options. ran.status ≡ status → Gives left left' (P ran options))

  -- of the input of several scripts, where the run reached its end; where the sink failed or memory was wanting
  abbrev pub OfEndedInput : Option (List ℕ) → (Outcome → ClientOptions → List ℕ → Type 0) → Type 0
  OfEndedInput left P = ForClients words (λ options. ran.status ≤ 1 → IfSome left (P ran options))

  abbrev pub OfStoppedInput : Option (List ℕ) → (Outcome → ClientOptions → List ℕ → Type 0) → Type 0
  OfStoppedInput left P = ForClients words (λ options. (ran.status ≡ 4) ⊎ (ran.status ≡ 5) → IfSome left (P ran options))

  -- nothing was recorded, since there was no board yet
  abbrev pub IsUnbegun : Type 0
  IsUnbegun = MayBeUnbegun (clients_asked (words_of words)) ran.status × (ran.registry ≡ []) × (ran.board ≡ [])

-- ---- what was written, by the histories; `held` and `held'` are the sink's bytes before and after

-- the text of the script, by what it did
abbrev pub IsTextIn : Outcome → ScriptOptions → List ℕ → List ℕ → Type 0
IsTextIn ran options script = IsText options.workers (start 0) 0 (script_of script) ran.registry ran.board

-- what follows the text: the trace where it is asked for
abbrev pub trace_in : Outcome → Bool → List ℕ
trace_in ran trace = traced trace ran.registry ran.board

module _ (held held' : Option (List ℕ)) (ran : Outcome) where
  -- the text, and then the trace where it is asked for
  abbrev pub WritesText : ScriptOptions → List ℕ → Type 0
  WritesText options script = GainsThen held held' (IsTextIn ran options script) (trace_in ran options.trace)

  -- of a settled script its plain text, and then the trace
  abbrev pub WritesPlainText : ScriptOptions → List ℕ → Type 0
  WritesPlainText options script =
      IsSettled (script_of script) → GainsThen held held' (λ text. text ≡ plain_text (script_of script)) (trace_in ran options.trace)

  -- a front of the text that goes by lines, or the whole of it and a front of the trace
  abbrev pub WritesByLines : ScriptOptions → List ℕ → Type 0
  WritesByLines options script =
      GainsFront held held' (IsTextByLines options.workers (script_of script) ran.registry ran.board)
      (IsTextIn ran options script) (trace_in ran options.trace)

  -- any front of the text, or the whole of it and a front of the trace
  abbrev pub WritesFront : ScriptOptions → List ℕ → Type 0
  WritesFront options script =
      GainsFront held held' (IsFrontText options.workers (start 0) 0 (script_of script) ran.registry ran.board)
      (IsTextIn ran options script) (trace_in ran options.trace)

  -- a text cut off in a line or at the end of input, by all calls that the script made, or the whole and a front of the
  -- trace
  abbrev pub WritesCutOff : ScriptOptions → List ℕ → Type 0
  WritesCutOff options script =
      GainsFront held held' (IsCutOff options.workers (script_of script) ran.registry ran.board)
      (IsTextIn ran options script) (trace_in ran options.trace)

  -- such a text, or that of first lines where memory lacked in the next, or the whole and a front of the trace
  abbrev pub WritesBrokenOff : ScriptOptions → List ℕ → Type 0
  WritesBrokenOff options script =
      GainsFront held held' (IsBrokenOff options.workers (script_of script) ran.registry ran.board)
      (IsTextIn ran options script) (trace_in ran options.trace)

  -- the answers to the whole lines of what was given
  abbrev pub WritesAnswered : ScriptOptions → List ℕ → Type 0
  WritesAnswered options given = Gains held held' (AreAnswered options.workers (whole_script given) ran.registry ran.board)

  -- the answers to those of its first m bytes, where m is at most a read shorter than the limit
  abbrev pub WritesUpTo : ScriptOptions → List ℕ → Type 0
  WritesUpTo options given =
      (m : ℕ) × (2 ^ 28 - 65535 ≤ m) × (m ≤ 2 ^ 28)
      × Gains held held' (AreAnswered options.workers (whole_script (take m given)) ran.registry ran.board)

  -- at least the answers to those that stood before its last 65,536 bytes
  abbrev pub WritesFirst : ScriptOptions → List ℕ → Type 0
  WritesFirst options given =
      Gains held held' (BeginsWithText options.workers (whole_script (take (length given - 65536) given)) ran.registry ran.board)

  -- the whole output of several scripts, and then the trace
  abbrev pub WritesOutput : ClientOptions → List ℕ → Type 0
  WritesOutput options input =
      GainsThen held held' (IsOutput options.workers options.clients input ran.registry ran.board) (trace_in ran options.trace)

  -- nothing, or a front of these
  abbrev pub WritesFrontOrNone : ClientOptions → List ℕ → Type 0
  WritesFrontOrNone options input =
      GainsFrontOrNone held held' (IsOutput options.workers options.clients input ran.registry ran.board) (trace_in ran options.trace)

-- ---- how it ended

-- the source failed, or gave too much
abbrev pub DidNotRead : Outcome → Type 0
DidNotRead ran = (ran.status ≡ 3) ⊎ (ran.status ≡ 6)

-- the status says whether a line is malformed: of the script; of any of several
abbrev pub SaysMalformed : Outcome → List ℕ → Type 0
SaysMalformed ran script = (ran.status ≡ 1) ↔ IsTrue (list_any is_malformed (script_of script))

abbrev pub SaysAnyMalformed : Outcome → ClientOptions → List ℕ → Type 0
SaysAnyMalformed ran options input = (ran.status ≡ 1) ↔ IsTrue (has_malformed options.clients input)

-- where the source tells its bytes, the trace can be read back
abbrev pub TraceCanBeRead : Outcome → Option (List ℕ) → Type 0
TraceCanBeRead ran left = IfSome left (λ _. CanBeRead ran.registry ran.board)

-- an input within the limit came to its end, or memory was wanting
abbrev pub EndsOrWantsMemory : Outcome → Option (List ℕ) → Type 0
EndsOrWantsMemory ran left = IfSome left (λ script. length script ≤ 2 ^ 28 → (ran.status ≤ 1) ⊎ (ran.status ≡ 5))
