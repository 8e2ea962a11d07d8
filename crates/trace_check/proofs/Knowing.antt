-- Whether a board's events are legal depends on nothing of an ask, and their trace on its line alone.
use Rattle.std.proofs.Common.{◌≡◌, Bool, false, ◌&&◌, List, [], ◌∷◌, ◌++◌, Option, Some, None, refl, sym, ◌∙◌, ap, subst, append-nil, append_assoc}
use Rattle.std.specs.Prelude.{⊤}
use Rattle.std.specs.List.{list_all, flat_map}
use Rattle.board.specs.declared.entry.BoardEntry.{BoardEntry}
use Rattle.board.specs.Legal.{IsRight, AreRightAfter, LegalBoard, pipelines}
use Rattle.board.specs.Entries.{entries_of}
use Rattle.alg_registry.specs.declared.entry.RegEntry.{RegEntry}
use Rattle.reply_text.specs.declared.origin.Origin.{Origin}
use Rattle.trace_check.specs.declared.reason.Reason.{Reason}
use Rattle.trace_check.specs.Pipes.{PipeState, judged, pipes_after, is_shut_by}
use Rattle.trace_text.specs.Text.{sentence, reg_words, board_words}
use Rattle.trace_text.specs.Trace.{trace_of, board_fits, AreEvents}
use Rattle.trace_check.specs.Lines.{origin_of}
use Rattle.trace_check.specs.declared.lines.AskLine.{AskLine}
use Rattle.trace_check.specs.AskLines.{known_by, with_line, with_lines}
use Rattle.trace_check.proofs.Asks.{judged_same, after_same, shut_same, words_same, fits_same}
use Rattle.trace_check.proofs.Judging.{IsBoard}
use Rattle.trace_check.proofs.Parts.{judged_right, judged_wrong, wrong_not_right, next_is_new}
use Rattle.trace_check.proofs.Boarding.{board_step, board_empty}

-- the checker finds nothing wrong
abbrev pub Passes : {A : Type 0} → List PipeState → Bool → List (BoardEntry A) → Type 0
Passes ps shut [] = ⊤
Passes ps shut (e ∷ h) = (judged ps shut e ≡ None) × Passes (pipes_after ps e) (is_shut_by shut e) h

passes_right : {A : Type 0} (ps : List PipeState) (shut : Bool) (before h : List (BoardEntry A)) → IsBoard ps shut before → Passes ps shut h → AreRightAfter before h
passes_right ps shut before [] k p = tt
passes_right ps shut before (e ∷ h) k p =
    let r = judged_right ps shut before e k p.0 in
    (r, passes_right (pipes_after ps e) (is_shut_by shut e) (before ++ e ∷ []) h (board_step ps shut before e r k) p.1)

pub none_judged : {A : Type 0} (ps : List PipeState) (shut : Bool) (before : List (BoardEntry A)) (e : BoardEntry A) (o : Option Reason) → judged ps shut e ≡ o → IsBoard ps shut before → IsRight before e → judged ps shut e ≡ None
none_judged ps shut before e None j k r = j
none_judged ps shut before e (Some reason) j k r = absurd (wrong_not_right before e reason (judged_wrong ps shut before e reason k j) r)

pub right_passes : {A : Type 0} (ps : List PipeState) (shut : Bool) (before h : List (BoardEntry A)) → IsBoard ps shut before → AreRightAfter before h → Passes ps shut h
right_passes ps shut before [] k r = tt
right_passes ps shut before (e ∷ h) k r = (
  none_judged ps shut before e (judged ps shut e) refl k r.0,
  right_passes (pipes_after ps e) (is_shut_by shut e) (before ++ e ∷ []) h (board_step ps shut before e r.0 k) r.1,
)

passes_there : {A : Type 0} (line : A → Origin) (ps : List PipeState) (shut : Bool) (h : List (BoardEntry A)) → Passes ps shut h → Passes ps shut (with_lines line h)
passes_there line ps shut [] p = tt
passes_there line ps shut (e ∷ h) p = (
  judged_same (known_by line) ps shut e ∙ p.0,
  rw (after_same (known_by line) ps e, shut_same (known_by line) shut e) (passes_there line (pipes_after ps e) (is_shut_by shut e) h p.1),
)

pass_on : {A : Type 0} (line : A → Origin) (ps qs : List PipeState) (shut shut' : Bool) (h : List (BoardEntry AskLine)) → ps ≡ qs → shut ≡ shut' → Passes ps shut h → Passes qs shut' h
pass_on line ps qs shut shut' h e f p = subst (λ b. Passes qs b h) f (subst (λ xs. Passes xs shut h) e p)

passes_back : {A : Type 0} (line : A → Origin) (ps : List PipeState) (shut : Bool) (h : List (BoardEntry A)) → Passes ps shut (with_lines line h) → Passes ps shut h
passes_back line ps shut [] p = tt
passes_back line ps shut (e ∷ h) p = (
  sym (judged_same (known_by line) ps shut e) ∙ p.0,
  passes_back line (pipes_after ps e) (is_shut_by shut e) h (pass_on line (pipes_after ps (with_line line e)) (pipes_after ps e) (is_shut_by shut (with_line line e)) (is_shut_by shut e) (with_lines line h) (after_same (known_by line) ps e) (shut_same (known_by line) shut e) p.1),
)

pub legal_there : {A : Type 0} (line : A → Origin) (h : List (BoardEntry A)) → LegalBoard h → LegalBoard (with_lines line h)
legal_there line h l = passes_right [] false [] (with_lines line h) board_empty (passes_there line [] false h (right_passes [] false [] h board_empty l))

pub legal_back : {A : Type 0} (line : A → Origin) (h : List (BoardEntry A)) → LegalBoard (with_lines line h) → LegalBoard h
legal_back line h l = passes_right [] false [] h board_empty (passes_back line [] false h (right_passes [] false [] (with_lines line h) board_empty l))

board_same : {A : Type 0} (line : A → Origin) (h : List (BoardEntry A)) → flat_map (λ e. sentence (board_words origin_of e)) (with_lines line h) ≡ flat_map (λ e. sentence (board_words line e)) h
board_same line [] = refl
board_same line (e ∷ h) = ap (λ ws. sentence ws ++ flat_map (λ x. sentence (board_words origin_of x)) (with_lines line h)) (words_same line (known_by line) e (λ ask. refl)) ∙ ap (λ t. sentence (board_words line e) ++ t) (board_same line h)

pub trace_same : {A : Type 0} (line : A → Origin) (r : List RegEntry) (h : List (BoardEntry A)) → trace_of origin_of r (with_lines line h) ≡ trace_of line r h
trace_same line r h = ap (λ t. flat_map (λ e. sentence (reg_words e)) r ++ t) (board_same line h)

all_fit : {A : Type 0} (line : A → Origin) (h : List (BoardEntry A)) → list_all (board_fits origin_of) (with_lines line h) ≡ list_all (board_fits line) h
all_fit line [] = refl
all_fit line (e ∷ h) = ap (λ b. b && list_all (board_fits origin_of) (with_lines line h)) (fits_same line (known_by line) e (λ ask. refl)) ∙ ap (λ b. board_fits line e && b) (all_fit line h)

pub events_same : {A : Type 0} (line : A → Origin) (r : List RegEntry) (h : List (BoardEntry A)) → AreEvents line r h → AreEvents origin_of r (with_lines line h)
events_same line r h k = (k.0, all_fit line h ∙ k.1)

-- the next pipeline of a legal history has no events yet
pub next_new : {A : Type 0} (h : List (BoardEntry A)) → LegalBoard h → entries_of (pipelines h) h ≡ []
next_new h l = stood [] false [] h board_empty l
  where
    stood : {A : Type 0} (ps : List PipeState) (shut : Bool) (before h : List (BoardEntry A)) → IsBoard ps shut before → AreRightAfter before h → entries_of (pipelines (before ++ h)) (before ++ h) ≡ []
    stood ps shut before [] k r = rw (append-nil before) (next_is_new ps shut before k)
    stood ps shut before (e ∷ h) k r =
        subst (λ xs. entries_of (pipelines xs) xs ≡ []) (append_assoc before (e ∷ []) h)
        (stood (pipes_after ps e) (is_shut_by shut e) (before ++ e ∷ []) h (board_step ps shut before e r.0 k) r.1)
