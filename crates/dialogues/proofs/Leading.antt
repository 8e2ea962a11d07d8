-- A script, line by line.
use Rattle.std.proofs.Common.{◌≡◌, ℕ, ◌+◌, List, [], ◌∷◌, ◌++◌, Some, refl, sym, ap, subst, ◌∙◌, append_assoc, IsSome}
use Rattle.std.proofs.lemmas.Grind.{flat_map-append}
use Rattle.alg_registry.specs.declared.entry.RegEntry.{RegEntry}
use Rattle.board.specs.declared.entry.BoardEntry.{BoardEntry}
use Rattle.reply_text.specs.Answers.{text_of}
use Rattle.script_text.specs.declared.commands.Line.{Line}
use Rattle.transforms.specs.declared.ask.Ask.{Ask}
use Rattle.dialogues.specs.RegistryCalls.{RegCall, reg_calls}
use Rattle.dialogues.specs.BoardCalls.{BoardCall, board_calls}
use Rattle.dialogues.specs.Dialogues.{Dialogue, followed}
use Rattle.dialogues.specs.PipelineCommands.{end}
use Rattle.dialogues.specs.Continuations.{Leads}
use Rattle.dialogues.specs.Lines.{line_dialogue, lines_dialogue, script}
use Rattle.dialogues.specs.Texts.{turn_in, IsText}
use Rattle.dialogues.specs.Transcripts.{Transcript, ended, joined, transcript_of, text_in, IsTranscript}
use Rattle.dialogues.specs.ScriptState.{ScriptState}
use Rattle.dialogues.proofs.Following.{Takes, goes-on}

same_turn : (a b : Transcript) → a.registry ≡ b.registry → a.board ≡ b.board → a.answers ≡ b.answers → a.after ≡ b.after → a ≡ b
same_turn a b r p t w =
    ap (λ x. let y : Transcript = record { registry = x; board = a.board; answers = a.answers; after = a.after } in y) r
    ∙ (ap (λ x. let y : Transcript = record { registry = b.registry; board = x; answers = a.answers; after = a.after } in y) p
    ∙ (ap (λ x. let y : Transcript = record { registry = b.registry; board = b.board; answers = x; after = a.after } in y) t
    ∙ ap (λ x. let y : Transcript = record { registry = b.registry; board = b.board; answers = b.answers; after = x } in y) w))

pub joined-assoc : (a b c : Transcript) → joined (joined a b) c ≡ joined a (joined b c)
joined-assoc a b c = same_turn _ _ (append_assoc a.registry b.registry c.registry) (append_assoc a.board b.board c.board) (append_assoc a.answers b.answers c.answers) refl

pub text-joined : (a b : Transcript) → text_in (joined a b) ≡ text_in a ++ text_in b
text-joined a b = flat_map-append text_of a.answers b.answers

-- a whole turn takes up its calls
pub turn-takes : (d : Dialogue) (t : Transcript) (script_state : ScriptState) → IsTranscript d t → t.after ≡ Some script_state → Takes (transcript_of d t.registry t.board) t.registry t.board script_state
turn-takes d t script_state is after =
    record { registry = ap (λ (u : Transcript). u.registry) is; board = ap (λ (u : Transcript). u.board) is; after = ap (λ (u : Transcript). u.after) is ∙ after }

pub turn-goes_on : (d : Dialogue) (later : ScriptState → Dialogue) (t : Transcript) (script_state : ScriptState) (r : List RegCall) (b : List BoardCall) → IsTranscript d t → t.after ≡ Some script_state
    → transcript_of (followed d later) (t.registry ++ r) (t.board ++ b) ≡ joined t (transcript_of (later script_state) r b)
turn-goes_on d later t script_state r b is after =
    goes-on d later t.registry t.board script_state r b (turn-takes d t script_state is after) ∙ ap (λ u. joined u (transcript_of (later script_state) r b)) is

pub leads-nowhere : (workers : ℕ) (script_state : ScriptState) (n : ℕ) (lines : List Line) → Leads workers script_state n lines (ended script_state) script_state n lines
leads-nowhere workers script_state n lines = λ rest r b. refl

-- one line more
pub leads-on : (workers : ℕ) (script_state now after : ScriptState) (n m : ℕ) (lines left : List Line) (line : Line) (t u : Transcript) → Leads workers script_state n lines t now m (line ∷ left) → IsTranscript (line_dialogue workers now m line) u → u.after ≡ Some after
    → Leads workers script_state n lines (joined t u) after (m + 1) left
leads-on workers script_state now after n m lines left line t u leads is to = λ rest r b.
    let rest_of : ScriptState → Dialogue = λ w. lines_dialogue workers w (m + 1) left rest in
    ap (λ cs. transcript_of (lines_dialogue workers script_state n lines rest) cs ((t.board ++ u.board) ++ b)) (append_assoc t.registry u.registry r)
    ∙ (ap (transcript_of (lines_dialogue workers script_state n lines rest) (t.registry ++ (u.registry ++ r))) (append_assoc t.board u.board b)
    ∙ (leads rest (u.registry ++ r) (u.board ++ b)
    ∙ (ap (joined t) (turn-goes_on (line_dialogue workers now m line) rest_of u after r b is to)
    ∙ sym (joined-assoc t u (transcript_of (rest_of after) r b)))))

-- ---- texts

-- with the end of input it is the text
pub whole-text : (workers : ℕ) (script_state now after : ScriptState) (caller m : ℕ) (lines : List Line) (t u : Transcript) (r : List RegEntry) (b : List (BoardEntry Ask))
    → Leads workers script_state 1 lines t now m [] → IsTranscript (end now) u → u.after ≡ Some after → reg_calls caller r ≡ t.registry ++ u.registry → board_calls caller b ≡ t.board ++ u.board
    → IsText workers script_state caller lines r b (text_in t ++ text_in u)
whole-text workers script_state now after caller m lines t u r b leads is to at_r at_b =
    let whole : turn_in workers script_state caller lines r b ≡ joined t u = ap (λ cs. transcript_of (script workers script_state lines) cs (board_calls caller b)) at_r ∙ (ap (transcript_of (script workers script_state lines) (t.registry ++ u.registry)) at_b ∙ (leads end u.registry u.board ∙ ap (joined t) is)) in
    record {
      registry = ap (λ (x : Transcript). x.registry) whole ∙ sym at_r;
      board = ap (λ (x : Transcript). x.board) whole ∙ sym at_b;
      ended = subst IsSome (sym (ap (λ (x : Transcript). x.after) whole ∙ to)) refl;
      text_is = sym (text-joined t u) ∙ sym (ap text_in whole);
    }

-- a script has no second text
pub one-text : (workers : ℕ) (script_state : ScriptState) (caller : ℕ) (lines : List Line) (r : List RegEntry) (b : List (BoardEntry Ask)) (x y : List ℕ) → IsText workers script_state caller lines r b x → IsText workers script_state caller lines r b y → x ≡ y
one-text workers script_state caller lines r b x y is also = is.text_is ∙ sym also.text_is
