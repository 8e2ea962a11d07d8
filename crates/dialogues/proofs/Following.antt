-- One dialogue after another.
use Rattle.std.proofs.Common.{◌≡◌, List, [], ◌∷◌, ◌++◌, Option, Some, None, sym, ap, ◌∙◌, append_assoc}
use Rattle.reply_text.specs.declared.answers.Answer.{Answer}
use Rattle.dialogues.specs.RegistryCalls.{RegCall}
use Rattle.dialogues.specs.BoardCalls.{BoardCall}
use Rattle.dialogues.specs.Questions.{RegAnswer, reg_call, reg_answer, BoardAnswer, board_call, board_answer}
use Rattle.dialogues.specs.Dialogues.{Dialogue, Ends, Says, Asks, Posts, followed}
use Rattle.dialogues.specs.Transcripts.{Transcript, broken, saying, asking, posting, joined, transcript_of}
use Rattle.dialogues.specs.ScriptState.{ScriptState}

-- a turn that took up all these calls, and is done with this state
pub record Takes (turn : Transcript) (r : List RegCall) (b : List BoardCall) (script_state : ScriptState) : Type 0 where
  pub registry : turn.registry ≡ r
  pub board : turn.board ≡ b
  pub after : turn.after ≡ Some script_state

saying-joined : (answers : List Answer) (t u : Transcript) → saying answers (joined t u) ≡ joined (saying answers t) u
saying-joined answers t u =
    ap (λ all. record { registry = t.registry ++ u.registry; board = t.board ++ u.board; answers = all; after = u.after }) (sym (append_assoc answers t.answers u.answers))

pub goes-on : (d : Dialogue) (later : ScriptState → Dialogue) (cr : List RegCall) (cb : List BoardCall) (script_state : ScriptState) (r : List RegCall) (b : List BoardCall)
    → Takes (transcript_of d cr cb) cr cb script_state → transcript_of (followed d later) (cr ++ r) (cb ++ b) ≡ joined (transcript_of d cr cb) (transcript_of (later script_state) r b)
goes-on (Ends after) later [] [] script_state r b takes = let same : after ≡ script_state = cc (takes.after) in ap (λ w. transcript_of (later w) r b) same
goes-on (Ends after) later (call ∷ cr) cb script_state r b takes = absurd (let e = takes.registry in cc)
goes-on (Ends after) later [] (call ∷ cb) script_state r b takes = absurd (let e = takes.board in cc)
goes-on (Says answers next) later cr cb script_state r b takes =
    ap (saying answers) (goes-on next later cr cb script_state r b (record { registry = takes.registry; board = takes.board; after = takes.after }))
    ∙ saying-joined answers (transcript_of next cr cb) (transcript_of (later script_state) r b)
goes-on (Asks question next) later [] cb script_state r b takes = absurd (let e = takes.after in cc)
goes-on (Asks question next) later (call ∷ cr) cb script_state r b takes = by_answer (reg_answer question call) takes (λ answer taken. goes-on (next answer) later cr cb script_state r b taken)
  where
    by_answer : (o : Option (RegAnswer question))
        → Takes (elim o [ Some answer ↦ asking (reg_call question answer) (transcript_of (next answer) cr cb) | None ↦ broken ]) (call ∷ cr) cb script_state
        → ((answer : RegAnswer question) → Takes (transcript_of (next answer) cr cb) cr cb script_state → transcript_of (followed (next answer) later) (cr ++ r) (cb ++ b) ≡ joined (transcript_of (next answer) cr cb) (transcript_of (later script_state) r b))
        → elim o [ Some answer ↦ asking (reg_call question answer) (transcript_of (followed (next answer) later) (cr ++ r) (cb ++ b)) | None ↦ broken ]
        ≡ joined (elim o [ Some answer ↦ asking (reg_call question answer) (transcript_of (next answer) cr cb) | None ↦ broken ]) (transcript_of (later script_state) r b)
    by_answer None t go = absurd (let e = t.after in cc)
    by_answer (Some answer) t go =
        ap (asking (reg_call question answer)) (go answer (record { registry = let e = t.registry in cc; board = t.board; after = t.after }))
goes-on (Posts question next) later cr [] script_state r b takes = absurd (let e = takes.after in cc)
goes-on (Posts question next) later cr (call ∷ cb) script_state r b takes = by_answer (board_answer question call) takes (λ answer taken. goes-on (next answer) later cr cb script_state r b taken)
  where
    by_answer : (o : Option (BoardAnswer question))
        → Takes (elim o [ Some answer ↦ posting (board_call question answer) (transcript_of (next answer) cr cb) | None ↦ broken ]) cr (call ∷ cb) script_state
        → ((answer : BoardAnswer question) → Takes (transcript_of (next answer) cr cb) cr cb script_state → transcript_of (followed (next answer) later) (cr ++ r) (cb ++ b) ≡ joined (transcript_of (next answer) cr cb) (transcript_of (later script_state) r b))
        → elim o [ Some answer ↦ posting (board_call question answer) (transcript_of (followed (next answer) later) (cr ++ r) (cb ++ b)) | None ↦ broken ]
        ≡ joined (elim o [ Some answer ↦ posting (board_call question answer) (transcript_of (next answer) cr cb) | None ↦ broken ]) (transcript_of (later script_state) r b)
    by_answer None t go = absurd (let e = t.after in cc)
    by_answer (Some answer) t go =
        ap (posting (board_call question answer)) (go answer (record { registry = t.registry; board = let e = t.board in cc; after = t.after }))
