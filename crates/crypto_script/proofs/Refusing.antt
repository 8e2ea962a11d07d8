-- What holds where words are refused, or want memory: nothing is written.
use Rattle.std.proofs.Common.{◌≡◌, ℕ, List, [], Option, Some, None, inl}
use Rattle.std.specs.Prelude.{IfSome}
use Rattle.std.proofs.KnownBytes.{Appends-nil}
use Rattle.alg_registry.specs.declared.entry.RegEntry.{RegEntry}
use Rattle.board.specs.declared.entry.BoardEntry.{BoardEntry}
use Rattle.dialogues.specs.Texts.{IsText}
use Rattle.script_run.specs.Answered.{IsBrokenOff, NothingIsBrokenOff}
use Rattle.script_run.specs.ByLines.{IsTextByLines, NothingIsByLines}
use Rattle.script_run.specs.Fronts.{IsFrontText, NothingIsFront}
use Rattle.dialogues.specs.ScriptState.{start}
use Rattle.script_text.specs.Script.{script_of}
use Rattle.run_options.specs.declared.options.ScriptOptions.{ScriptOptions}
use Rattle.script_run.specs.Endings.{traced}
use Rattle.script_run.specs.Runs.{GainsFront}
use Rattle.transforms.specs.declared.ask.Ask.{Ask}

-- nothing is a front of each text
pub nothing_traced : NothingIsFront → (workers : ℕ) (left held : Option (List ℕ)) (r : List RegEntry) (b : List (BoardEntry Ask)) (trace : List ℕ)
    → IfSome left (λ script. GainsFront held held (IsFrontText workers (start 0) 0 (script_of script) r b) (IsText workers (start 0) 0 (script_of script) r b) trace)
nothing_traced nothing workers None held r b trace = tt
nothing_traced nothing workers (Some script) held r b trace = inl ([], nothing workers (start 0) 0 (script_of script) r b, Appends-nil held)

-- and the text of no line of each script
pub nothing_by_lines_traced : NothingIsByLines → (workers : ℕ) (left held : Option (List ℕ)) (r : List RegEntry) (b : List (BoardEntry Ask)) (trace : List ℕ)
    → IfSome left (λ script. GainsFront held held (IsTextByLines workers (script_of script) r b) (IsText workers (start 0) 0 (script_of script) r b) trace)
nothing_by_lines_traced nothing workers None held r b trace = tt
nothing_by_lines_traced nothing workers (Some script) held r b trace = inl ([], nothing workers (script_of script) r b, Appends-nil held)

-- and so for whatever script the words ask for
pub refused_by_lines : NothingIsByLines → (asked : Option ScriptOptions) (left held : Option (List ℕ)) (r : List RegEntry) (b : List (BoardEntry Ask))
    → IfSome asked (λ options. IfSome left (λ script. GainsFront held held (IsTextByLines options.workers (script_of script) r b) (IsText options.workers (start 0) 0 (script_of script) r b) (traced options.trace r b)))
refused_by_lines nothing None left held r b = tt
refused_by_lines nothing (Some options) left held r b = nothing_by_lines_traced nothing options.workers left held r b (traced options.trace r b)

-- and so where nothing happened
pub refused_broken : NothingIsBrokenOff → (status : ℕ) (asked : Option ScriptOptions) (left held : Option (List ℕ))
    → IfSome asked (λ options. status ≡ 5 → IfSome left (λ script. GainsFront held held (IsBrokenOff options.workers (script_of script) [] []) (IsText options.workers (start 0) 0 (script_of script) [] []) (traced options.trace [] [])))
refused_broken nothing status None left held = tt
refused_broken nothing status (Some options) None held = λ is. tt
refused_broken nothing status (Some options) (Some script) held = λ is. inl ([], nothing options.workers (script_of script), Appends-nil held)
