-- The first lines of more lines: their dialogue, and its turn.
use Rattle.std.proofs.Common.{◌≡◌, ℕ, ◌+◌, ◌≤◌, List, [], ◌∷◌, ◌++◌, length, Option, Some, None, refl, sym, ap, subst, ◌∙◌, append_assoc, append-nil, arith}
use Rattle.std.specs.Prelude.{IsSome}
use Rattle.std.specs.List.{flat_map}
use Rattle.std.proofs.lemmas.Grind.{flat_map-append}
use Rattle.alg_registry.specs.declared.entry.RegEntry.{RegEntry}
use Rattle.board.specs.declared.entry.BoardEntry.{BoardEntry}
use Rattle.dialogues.specs.BoardCalls.{BoardCall, board_calls}
use Rattle.dialogues.specs.Dialogues.{Dialogue, Ends, Says, Asks, Posts, followed}
use Rattle.dialogues.specs.Continuations.{Leads}
use Rattle.dialogues.specs.Lines.{line_dialogue, lines_dialogue, script}
use Rattle.dialogues.specs.PipelineCommands.{end}
use Rattle.dialogues.specs.Questions.{RegAnswer, reg_call, reg_answer, BoardAnswer, board_call, board_answer}
use Rattle.dialogues.specs.RegistryCalls.{RegCall, reg_calls}
use Rattle.dialogues.specs.Transcripts.{Transcript, ended, joined, broken, asking, posting, transcript_of, text_in}
use Rattle.dialogues.specs.ScriptState.{ScriptState}
use Rattle.dialogues.specs.Widths.{width_of, widest}
use Rattle.kc_base.specs.Streams.{IsPrefix}
use Rattle.reply_text.specs.Answers.{text_of}
use Rattle.script_text.specs.declared.commands.Line.{Line}
use Rattle.transforms.specs.declared.ask.Ask.{Ask}
use Rattle.script_run.specs.Fronts.{IsFrontText, NothingIsFront}

-- ---- dialogues

followed-assoc : (d : Dialogue) (f g : ScriptState → Dialogue) → followed (followed d f) g ≡ followed d (λ a. followed (f a) g)
followed-assoc (Ends after) f g = refl
followed-assoc (Says answers next) f g = ap (Says answers) (followed-assoc next f g)
followed-assoc (Asks question next) f g = λ i. Asks question (λ answer. followed-assoc (next answer) f g i)
followed-assoc (Posts question next) f g = λ i. Posts question (λ answer. followed-assoc (next answer) f g i)

-- what follows the first lines
abbrev rest_from : ℕ → ℕ → List Line → (ScriptState → Dialogue) → ScriptState → Dialogue
rest_from workers n later rest = λ script_state. lines_dialogue workers script_state n later rest

lines-after : (workers n : ℕ) (script_state : ScriptState) (first later : List Line) (rest : ScriptState → Dialogue)
    → lines_dialogue workers script_state n (first ++ later) rest ≡ followed (lines_dialogue workers script_state n first Ends) (rest_from workers (n + length first) later rest)
lines-after workers n script_state [] later rest = ap (λ m. lines_dialogue workers script_state m later rest) (let e : n ≡ n + 0 = omega arith in e)
lines-after workers n script_state (line ∷ first) later rest =
    let at : n + 1 + length first ≡ n + length (line ∷ first) = omega arith in
    let on : (after : ScriptState) → lines_dialogue workers after (n + 1) (first ++ later) rest ≡ followed (lines_dialogue workers after (n + 1) first Ends) (rest_from workers (n + length (line ∷ first)) later rest) =
    λ after. lines-after workers (n + 1) after first later rest ∙ ap (λ m. followed (lines_dialogue workers after (n + 1) first Ends) (rest_from workers m later rest)) at in
    (λ i. followed (line_dialogue workers script_state n line) (λ after. on after i))
    ∙ sym (followed-assoc (line_dialogue workers script_state n line) (λ after. lines_dialogue workers after (n + 1) first Ends) (rest_from workers (n + length (line ∷ first)) later rest))

-- ---- turns

abbrev IsDone : Transcript → Type 0
IsDone t = IsSome t.after

-- the first turn is done where the second is, and calls and prints a front of it
pub record IsFrontTurn (t u : Transcript) : Type 0 where
  pub registry : (more : List RegCall) × (t.registry ++ more ≡ u.registry)
  pub board : (more : List BoardCall) × (t.board ++ more ≡ u.board)
  pub ended : IsSome t.after
  pub front : IsPrefix (text_in t) (text_in u)

front-turn : (d : Dialogue) (later : ScriptState → Dialogue) (r : List RegCall) (b : List BoardCall) → IsSome (transcript_of (followed d later) r b).after
    → IsFrontTurn (transcript_of d r b) (transcript_of (followed d later) r b)
front-turn (Ends after) later r b some =
    let u = transcript_of (later after) r b in
    record { registry = (u.registry, refl); board = (u.board, refl); ended = refl; front = (text_in u, refl) }
front-turn (Says answers next) later r b some =
    let t = transcript_of next r b in
    let u = transcript_of (followed next later) r b in
    let on = front-turn next later r b some in
    record {
      registry = on.registry;
      board = on.board;
      ended = on.ended;
      front = (
        on.front.0,
        ap (λ x. x ++ on.front.0) (flat_map-append text_of answers t.answers)
            ∙ (append_assoc (flat_map text_of answers) (text_in t) on.front.0
            ∙ (ap (λ x. flat_map text_of answers ++ x) on.front.1 ∙ sym (flat_map-append text_of answers u.answers))),
      );
    }
front-turn (Asks question next) later [] b some = absurd cc
front-turn (Asks question next) later (call ∷ r) b some = by_answer (reg_answer question call) some (λ answer done. front-turn (next answer) later r b done)
  where
    by_answer : (o : Option (RegAnswer question))
        → IsDone (elim o [ Some answer ↦ asking (reg_call question answer) (transcript_of (followed (next answer) later) r b) | None ↦ broken ])
        → ((answer : RegAnswer question) → IsSome (transcript_of (followed (next answer) later) r b).after → IsFrontTurn (transcript_of (next answer) r b) (transcript_of (followed (next answer) later) r b))
        → IsFrontTurn (elim o [ Some answer ↦ asking (reg_call question answer) (transcript_of (next answer) r b) | None ↦ broken ])
        (elim o [ Some answer ↦ asking (reg_call question answer) (transcript_of (followed (next answer) later) r b) | None ↦ broken ])
    by_answer None done go = absurd cc
    by_answer (Some answer) done go =
        let on = go answer done in
        record { registry = (on.registry.0, ap (λ cs. reg_call question answer ∷ cs) on.registry.1); board = on.board; ended = on.ended; front = on.front }
front-turn (Posts question next) later r [] some = absurd cc
front-turn (Posts question next) later r (call ∷ b) some = by_answer (board_answer question call) some (λ answer done. front-turn (next answer) later r b done)
  where
    by_answer : (o : Option (BoardAnswer question))
        → IsDone (elim o [ Some answer ↦ posting (board_call question answer) (transcript_of (followed (next answer) later) r b) | None ↦ broken ])
        → ((answer : BoardAnswer question) → IsSome (transcript_of (followed (next answer) later) r b).after → IsFrontTurn (transcript_of (next answer) r b) (transcript_of (followed (next answer) later) r b))
        → IsFrontTurn (elim o [ Some answer ↦ posting (board_call question answer) (transcript_of (next answer) r b) | None ↦ broken ])
        (elim o [ Some answer ↦ posting (board_call question answer) (transcript_of (followed (next answer) later) r b) | None ↦ broken ])
    by_answer None done go = absurd cc
    by_answer (Some answer) done go =
        let on = go answer done in
        record { registry = on.registry; board = (on.board.0, ap (λ cs. board_call question answer ∷ cs) on.board.1); ended = on.ended; front = on.front }

pub front-lines : (workers n : ℕ) (script_state : ScriptState) (first later : List Line) (r : List RegCall) (b : List BoardCall) → IsSome (transcript_of (lines_dialogue workers script_state n (first ++ later) Ends) r b).after
    → IsFrontTurn (transcript_of (lines_dialogue workers script_state n first Ends) r b) (transcript_of (lines_dialogue workers script_state n (first ++ later) Ends) r b)
front-lines workers n script_state first later r b some =
    let is = lines-after workers n script_state first later Ends in
    let d = lines_dialogue workers script_state n first Ends in
    let rest = rest_from workers (n + length first) later Ends in
    subst (λ x. IsFrontTurn (transcript_of d r b) (transcript_of x r b)) (sym is) (front-turn d rest r b (subst (λ x. IsSome (transcript_of x r b).after) is some))

-- ---- a script that breaks off

-- where none of its calls is recorded, a dialogue makes none
uncalled : (d : Dialogue) → ((transcript_of d [] []).registry ≡ []) × ((transcript_of d [] []).board ≡ [])
uncalled (Ends after) = (refl, refl)
uncalled (Says answers next) = uncalled next
uncalled (Asks question next) = (refl, refl)
uncalled (Posts question next) = (refl, refl)

-- the turn of first lines, and what is said after them without a call
pub front-text : (workers : ℕ) (script_state now : ScriptState) (caller m : ℕ) (lines left : List Line) (t : Transcript) (r : List RegEntry) (b : List (BoardEntry Ask)) (more_r : List RegCall) (more_b : List BoardCall) (text : List ℕ)
    → Leads workers script_state 1 lines t now m left → reg_calls caller r ≡ t.registry ++ more_r → board_calls caller b ≡ t.board ++ more_b → IsPrefix text (text_in t) → IsFrontText workers script_state caller lines r b text
front-text workers script_state now caller m lines left t r b more_r more_b text leads at_r at_b front =
    let d = lines_dialogue workers now m left end in
    let rest : Transcript = transcript_of d [] [] in
    let whole : Transcript = joined t rest in
    let same_r : whole.registry ≡ t.registry ++ [] = ap (λ cs. t.registry ++ cs) (uncalled d).0 in
    let same_b : whole.board ≡ t.board ++ [] = ap (λ cs. t.board ++ cs) (uncalled d).1 in
    record {
      turn = whole;
      is =
          ap (λ cs. transcript_of (script workers script_state lines) cs whole.board) same_r
          ∙ (ap (transcript_of (script workers script_state lines) (t.registry ++ [])) same_b ∙ leads end [] []);
      registry = (more_r, ap (λ cs. cs ++ more_r) (same_r ∙ append-nil t.registry) ∙ sym at_r);
      board = (more_b, ap (λ cs. cs ++ more_b) (same_b ∙ append-nil t.board) ∙ sym at_b);
      front = (
        front.0 ++ text_in rest,
        sym (append_assoc text front.0 (text_in rest)) ∙ (ap (λ x. x ++ text_in rest) front.1 ∙ sym (flat_map-append text_of t.answers rest.answers)),
      );
    }

pub nothing-front : NothingIsFront
nothing-front workers script_state caller lines r b =
    front-text workers script_state script_state caller 1 lines lines (ended script_state) r b (reg_calls caller r) (board_calls caller b) [] (λ rest r b. refl) refl refl ([], refl)

-- ---- how many looks at once

pub widest-front : (first later : List Line) → widest first ≤ widest (first ++ later)
widest-front [] later = widest-some later
  where
    widest-some : (lines : List Line) → 1 ≤ widest lines
    widest-some [] = omega arith
    widest-some (line ∷ lines) = let on = widest-some lines in omega arith
widest-front (line ∷ first) later = let on = widest-front first later in omega arith

pub widest-last : (first : List Line) (line : Line) → width_of line ≤ widest (first ++ line ∷ [])
widest-last [] line = omega arith
widest-last (other ∷ first) line = let on = widest-last first line in omega arith
