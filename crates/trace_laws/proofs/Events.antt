-- The events of a run can be read back.
use Rattle.std.proofs.Common.{◌≡◌, ◌≤◌, ℕ, true, false, List, [], ◌∷◌, ◌++◌, refl, sym, subst, arith}
use Rattle.std.specs.Prelude.{IsFalse}
use Rattle.std.specs.List.{All, list_all}
use Rattle.std.proofs.lemmas.Bool.{and_from, and_parts}
use Rattle.std.proofs.lemmas.Bool.Decides.{nat_tests}
use Rattle.std.proofs.lemmas.List.Elements.{All-head, All-tail, All-nil, All-cons}
use Rattle.alg_registry.specs.declared.entry.RegEntry.{RegEntry}
use Rattle.alg_registry.specs.declared.entry.RegEntry.TheVariants as entry
use Rattle.alg_registry.specs.Legal.{MayFollow, IsRight, is_worker}
use Rattle.alg_registry.specs.Made.{MadeAfter, IsMade}
use Rattle.alg_registry.specs.Rows.{registered, caller_of}
use Rattle.dialogues.specs.Texts.{turn_in}
use Rattle.dialogues.specs.ScriptState.{start}
use Rattle.script_text.specs.Script.{script_of}
use Rattle.templates.specs.Table.{table}
use Rattle.trace_text.specs.Trace.{has_words, has_text, fits, is_event}
use Rattle.trace_laws.specs.DriverNames.{AsksOfWord}
use Rattle.trace_laws.specs.Readable.{TracesCanBeRead}
use Rattle.trace_laws.proofs.Asking.{EntryOf, entries_of_calls, script_asks_of_words}
use Rattle.trace_laws.proofs.Registered.{registered_have_words, enlisted_has_text, end_has_words}
use Rattle.trace_laws.proofs.Words.{name_is_word, lines_name_words}

-- who isn't a worker is the script
pub script_alone : (caller : ℕ) → IsFalse (is_worker caller) → caller ≤ 16 → caller ≡ 0
script_alone caller other few = grind (arith, nat_tests)

-- an entry of one who isn't a worker names words, where the entry's line doesn't name them by itself
abbrev pub IsNamed : RegEntry → Type 0
IsNamed e = IsFalse (is_worker (caller_of e)) → EntryOf (caller_of e) e

event_has_text : (before : List RegEntry) (e : RegEntry) → list_all has_words (registered before) ≡ true → IsRight before e → IsMade table before e → IsNamed e → has_text e ≡ true
event_has_text before (entry.Enlist caller spec answer) words right made named = enlisted_has_text before caller spec answer right made
event_has_text before (entry.Look caller text false answer) words right made named = name_is_word text made
event_has_text before (entry.Look caller text true answer) words right made named = name_is_word text made.0
event_has_text before (entry.End caller larval answer) words right made named = end_has_words before caller larval answer words made
event_has_text before (entry.Unlist caller driver answer) words right made named = named right.0 refl
event_has_text before (entry.Refs caller driver) words right made named = named right refl
event_has_text before (entry.Claim caller larval) words right made named = refl
event_has_text before (entry.Waited caller larval) words right made named = refl
event_has_text before (entry.Get caller id ok) words right made named = refl
event_has_text before (entry.Put caller id) words right made named = refl
event_has_text before (entry.List caller) words right made named = refl

pub events_have_text : (before h : List RegEntry) → list_all has_words (registered before) ≡ true → MayFollow before h → MadeAfter table before h → All IsNamed h → list_all has_text h ≡ true
events_have_text before [] words legal made named = refl
events_have_text before (e ∷ h) words legal made named =
    and_from (has_text e) (list_all has_text h) (event_has_text before e words legal.0 made.0 (All-head IsNamed e h named))
    (events_have_text (before ++ e ∷ []) h (registered_have_words before e words made.0) legal.1 made.1 (All-tail IsNamed e h named))

-- what can be printed and fits its types can be read back
pub are_events : (h : List RegEntry) → list_all has_text h ≡ true → list_all fits h ≡ true → list_all is_event h ≡ true
are_events [] text fit = refl
are_events (e ∷ h) text fit =
    let texts = and_parts (has_text e) (list_all has_text h) text in
    let fitting = and_parts (fits e) (list_all fits h) fit in
    and_from (is_event e) (list_all is_event h) (and_from (has_text e) (fits e) texts.0 fitting.0) (are_events h texts.1 fitting.1)

named_at : (workers : ℕ) (e : RegEntry) → workers ≤ 16 → caller_of e ≤ workers → EntryOf 0 e → IsNamed e
named_at workers e most few own = λ other. subst (λ c. EntryOf c e) (sym (script_alone (caller_of e) other (omega (arith, most, few)))) own

named_by : (workers : ℕ) (h : List RegEntry) → workers ≤ 16 → All (λ e. caller_of e ≤ workers) h → All (EntryOf 0) h → All IsNamed h
named_by workers [] most few own = All-nil IsNamed
named_by workers (e ∷ h) most few own =
    All-cons IsNamed e h (named_at workers e most (All-head (λ e. caller_of e ≤ workers) e h few) (All-head (EntryOf 0) e h own))
    (named_by workers h most (All-tail (λ e. caller_of e ≤ workers) e h few) (All-tail (EntryOf 0) e h own))

pub traces_can_be_read : TracesCanBeRead
traces_can_be_read workers script r b text at_most legal made few is fit =
    let asked : All AsksOfWord (turn_in workers (start 0) 0 (script_of script) r b).registry = script_asks_of_words workers (start 0) (script_of script) _ _ (lines_name_words script) in
    let own : All (EntryOf 0) r = entries_of_calls 0 r (subst (All AsksOfWord) is.registry asked) in
    (are_events r (events_have_text [] r refl legal made (named_by workers r at_most few own)) fit.0, fit.1)
