-- An input has one output over two histories.
use Rattle.std.proofs.Common.{◌≡◌, ℕ, ◌+◌, List, [], ◌∷◌, ◌++◌, append-nil, length, drop, Some, None, sym, ap, subst, ◌∙◌}
use Rattle.std.proofs.Math.Seq.{drop-append_seam}
use Rattle.alg_registry.specs.declared.entry.RegEntry.{RegEntry}
use Rattle.board.specs.declared.entry.BoardEntry.{BoardEntry}
use Rattle.script_text.specs.declared.commands.Line.{Line}
use Rattle.transforms.specs.declared.ask.Ask.{Ask}
use Rattle.dialogues.specs.BoardCalls.{BoardCall, board_calls}
use Rattle.dialogues.specs.Dialogues.{Dialogue, Ends, followed}
use Rattle.dialogues.specs.Lines.{lines_dialogue}
use Rattle.dialogues.specs.RegistryCalls.{RegCall, reg_calls}
use Rattle.dialogues.specs.SharedTransforms.{closing}
use Rattle.dialogues.specs.Texts.{AreFirstTexts}
use Rattle.dialogues.specs.Transcripts.{Transcript, IsTranscript, ended, joined, transcript_of, text_in}
use Rattle.dialogues.specs.ScriptState.{ScriptState, Live, start}
use Rattle.client_texts.specs.Outputs.{AreClientTexts, IsOutputBy, under_headings}
use Rattle.client_texts.proofs.Submitting.{followed-ends}

abbrev pub Follows : Type 0
Follows =
    (first : Dialogue) (later : ScriptState → Dialogue) (turn : Transcript) (script_state : ScriptState) (r : List RegCall) (b : List BoardCall)
    → IsTranscript first turn → turn.after ≡ Some script_state → transcript_of (followed first later) (turn.registry ++ r) (turn.board ++ b) ≡ joined turn (transcript_of (later script_state) r b)

-- a turn with what ends at once behind it
alone : (t : Transcript) (script_state : ScriptState) → t.after ≡ Some script_state → joined t (ended script_state) ≡ t
alone t script_state after = λ i. record { registry = append-nil t.registry i; board = append-nil t.board i; answers = append-nil t.answers i; after = sym after i }

-- the turn of the first part, by the calls in the histories
abbrev first_by : ℕ → List Line → List RegCall → List BoardCall → Transcript
first_by workers lines r b = transcript_of (lines_dialogue workers (start 0) 1 lines Ends) r b

-- and of the end
abbrev last_by : Transcript → ScriptState → List RegCall → List BoardCall → Transcript
last_by first script_state r b = transcript_of (closing script_state) (drop (length first.registry) r) (drop (length first.board) b)

module _ (follows : Follows) (workers : ℕ) (lines : List Line) (r : List RegEntry) (b : List (BoardEntry Ask)) where
  abbrev R : List RegCall
  R = reg_calls 0 r

  abbrev B : List BoardCall
  B = board_calls 0 b

  first-is : (script_state : ScriptState) (opening ending : List ℕ) (is : AreFirstTexts workers lines script_state r b opening ending) → first_by workers lines R B ≡ is.first
  first-is script_state opening ending is =
      let d : Dialogue = lines_dialogue workers (start 0) 1 lines Ends in
      (λ i. transcript_of (sym (followed-ends d) i) (sym is.registry i) (sym is.board i))
      ∙ (follows d Ends is.first script_state is.last.registry is.last.board is.is_first is.makes ∙ alone is.first script_state is.makes)

  last-is : (script_state : ScriptState) (opening ending : List ℕ) (is : AreFirstTexts workers lines script_state r b opening ending) → last_by (first_by workers lines R B) script_state R B ≡ is.last
  last-is script_state opening ending is =
      ap (λ (t : Transcript). last_by t script_state R B) (first-is script_state opening ending is)
      ∙ ((λ i. transcript_of (closing script_state) (left is.first.registry is.last.registry R is.registry i) (left is.first.board is.last.board B is.board i)) ∙ is.is_last)
    where
      left : {A : Type 0} (xs ys zs : List A) → xs ++ ys ≡ zs → drop (length xs) zs ≡ ys
      left xs ys zs same = ap (drop (length xs)) (sym same) ∙ drop-append_seam xs ys

  script_state-is : (script_state : ScriptState) (opening ending : List ℕ) (is : AreFirstTexts workers lines script_state r b opening ending) → (first_by workers lines R B).after ≡ Some script_state
  script_state-is script_state opening ending is = ap (λ (t : Transcript). t.after) (first-is script_state opening ending is) ∙ is.makes

same-some : (v w : ScriptState) → Some v ≡ Some w → v ≡ w
same-some v w same = ap (λ o. elim o [ Some x ↦ x | None ↦ v ]) same

same-texts : (workers client : ℕ) (shared : List Live) (parts : List (List Line)) (r : List RegEntry) (b : List (BoardEntry Ask)) (xs ys : List (List ℕ))
    → AreClientTexts workers client shared parts r b xs → AreClientTexts workers client shared parts r b ys → xs ≡ ys
same-texts workers client shared [] r b xs ys is also = is ∙ sym also
same-texts workers client shared (lines ∷ parts) r b [] ys is also = absurd is
same-texts workers client shared (lines ∷ parts) r b (x ∷ xs) [] is also = absurd also
same-texts workers client shared (lines ∷ parts) r b (x ∷ xs) (y ∷ ys) is also =
    λ i. (is.0.text_is ∙ sym also.0.text_is) i ∷ same-texts workers (client + 1) shared parts r b xs ys is.1 also.1 i

pub one-output : Follows → (workers : ℕ) (parts : List (List Line)) (r : List RegEntry) (b : List (BoardEntry Ask)) (x y : List ℕ)
    → IsOutputBy workers parts r b x → IsOutputBy workers parts r b y → x ≡ y
one-output follows workers [] r b x y is also = absurd is
one-output follows workers (lines ∷ parts) r b x y is also =
    let script_state : is.made ≡ also.made =
    same-some is.made also.made (sym (script_state-is follows workers lines r b is.made is.opening is.ending is.alone) ∙ script_state-is follows workers lines r b also.made also.opening also.ending also.alone) in
    let first : is.alone.first ≡ also.alone.first =
    sym (first-is follows workers lines r b is.made is.opening is.ending is.alone) ∙ first-is follows workers lines r b also.made also.opening also.ending also.alone in
    let last : is.alone.last ≡ also.alone.last =
    sym (last-is follows workers lines r b is.made is.opening is.ending is.alone)
    ∙ (ap (λ w. last_by (first_by workers lines (reg_calls 0 r) (board_calls 0 b)) w (reg_calls 0 r) (board_calls 0 b)) script_state
    ∙ last-is follows workers lines r b also.made also.opening also.ending also.alone) in
    let opening : is.opening ≡ also.opening = is.alone.opening_is ∙ (ap text_in first ∙ sym also.alone.opening_is) in
    let ending : is.ending ≡ also.ending = is.alone.ending_is ∙ (ap text_in last ∙ sym also.alone.ending_is) in
    let texts : is.texts ≡ also.texts =
    same-texts workers 1 also.made.lives parts r b is.texts also.texts (subst (λ (w : ScriptState). AreClientTexts workers 1 w.lives parts r b is.texts) script_state is.clients) also.clients in
    is.output_is ∙ ((λ i. opening i ++ under_headings 1 (texts i) ++ ending i) ∙ sym also.output_is)
