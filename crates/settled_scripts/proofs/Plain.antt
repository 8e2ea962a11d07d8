-- A turn whose calls came to what is plain says what the plain pass says.
use Rattle.std.proofs.Common.{◌≡◌, Bool, true, List, [], ◌∷◌, ◌++◌, refl, ap, sym, ◌∙◌, subst, Option, Some, None}
use Rattle.std.specs.Prelude.{slice_get}
use Rattle.std.specs.Option.{option_map_or}
use Rattle.std.proofs.lemmas.Bool.{and_parts}
use Rattle.board.specs.declared.entry.Entered.TheVariants.{NoSpace}
use Rattle.templates.specs.LookResults.{Found}
use Rattle.dialogues.specs.RegistryCalls.{RegCall}
use Rattle.dialogues.specs.BoardCalls.{BoardCall}
use Rattle.dialogues.specs.Questions.{RegQuestion, RegAnswer, Enlist, Look, Unlist, Get, Put, Count, ListAll, reg_call, reg_answer, BoardQuestion, BoardAnswer, Create, Submit, Enqueue, Hold, Go, Poll, Drain, Close, Share, Mask, Shut, board_call, board_answer}
use Rattle.dialogues.specs.Dialogues.{Dialogue, Ends, Says, Asks, Posts}
use Rattle.dialogues.specs.Transcripts.{Transcript, transcript_of, asking, posting, broken}
use Rattle.dialogues.specs.ScriptState.{ScriptState}
use Rattle.sequential_model.specs.Laws.{IsAnsweredBy, AreAnsweredBy, ThereIs, IsTimelessCall, IsToldBy, AreToldBy}
use Rattle.sequential_model.specs.Pipelines.{Pipeline, next_number, verdict_of, drained_from, reply_in, is_timeless, pipelines_after}
use Rattle.sequential_model.specs.Registry.{PlainRegistry, answer_in, registry_after}
use Rattle.settled_scripts.specs.PlainRuns.{IsAsPassed}
use Rattle.settled_scripts.specs.Settled.{Passed, pass}

-- ---- answers

found_same : {x y : Found} → Some x ≡ Some y → x ≡ y
found_same e = cc

-- an answer that a call came to is the plain one
answer_same : (registry : PlainRegistry) (q : RegQuestion) (a : RegAnswer q) → IsAnsweredBy registry (reg_call q a) → a ≡ answer_in registry q
answer_same registry (Enlist spec) a is = is
answer_same registry (Look text) a is = found_same is
answer_same registry (Unlist driver) a is = is
answer_same registry (Get id) a is = is
answer_same registry (Put id) a is = refl
answer_same registry (Count driver) a is = is
answer_same registry ListAll a is = is

there_is : {B : Type 0} (f : Pipeline → B) (d b : B) (o : Option Pipeline) → ThereIs o (λ pipeline. b ≡ f pipeline) → b ≡ option_map_or f o d
there_is f d b None t = absurd t
there_is f d b (Some pipeline) t = t

reply_same : (pipelines : List Pipeline) (q : BoardQuestion) (a : BoardAnswer q) → is_timeless pipelines q ≡ true → IsToldBy pipelines (board_call q a) → a ≡ reply_in pipelines q
reply_same pipelines (Create shape) a timeless is = is
reply_same pipelines (Submit pipe asked) a timeless is = there_is next_number 0 a (slice_get pipelines pipe) is
reply_same pipelines (Enqueue pipe asked backlog) a timeless is = there_is (verdict_of backlog) NoSpace a (slice_get pipelines pipe) is
reply_same pipelines (Hold pipe) a timeless is = refl
reply_same pipelines (Go pipe) a timeless is = refl
reply_same pipelines (Poll pipe) a timeless is = absurd cc
reply_same pipelines (Drain pipe) a timeless is = there_is drained_from [] a (slice_get pipelines pipe) is
reply_same pipelines (Close pipe) a timeless is = refl
reply_same pipelines (Share pipe) a timeless is = absurd cc
reply_same pipelines (Mask pipe bits) a timeless is = refl
reply_same pipelines Shut a timeless is = refl

-- a call that answers a timeless question is still
timeless_call : (pipelines : List Pipeline) (q : BoardQuestion) (a : BoardAnswer q) → is_timeless pipelines q ≡ true → IsTimelessCall pipelines (board_call q a)
timeless_call pipelines (Create shape) a timeless = tt
timeless_call pipelines (Submit pipe asked) a timeless = tt
timeless_call pipelines (Enqueue pipe asked backlog) a timeless = timeless
timeless_call pipelines (Hold pipe) a timeless = tt
timeless_call pipelines (Go pipe) a timeless = tt
timeless_call pipelines (Poll pipe) a timeless = absurd cc
timeless_call pipelines (Drain pipe) a timeless = refl
timeless_call pipelines (Close pipe) a timeless = tt
timeless_call pipelines (Share pipe) a timeless = absurd cc
timeless_call pipelines (Mask pipe bits) a timeless = tt
timeless_call pipelines Shut a timeless = tt

-- ---- turns

abbrev timeless_in : Passed → Bool
timeless_in passed = passed.timeless

-- it took up these calls, and ended
record IsWhole (turn : Transcript) (cr : List RegCall) (cb : List BoardCall) (script_state : ScriptState) : Type 0 where
  registry : turn.registry ≡ cr
  board : turn.board ≡ cb
  after : turn.after ≡ Some script_state

follows : (d : Dialogue) (cr : List RegCall) (cb : List BoardCall) (script_state : ScriptState) (registry : PlainRegistry) (pipelines : List Pipeline) → IsWhole (transcript_of d cr cb) cr cb script_state → AreAnsweredBy registry cr → AreToldBy pipelines cb → timeless_in (pass d registry pipelines) ≡ true
    → IsAsPassed d registry pipelines (transcript_of d cr cb)
follows (Ends after) cr cb script_state registry pipelines whole answered told timeless = record { answers = refl; calls = refl }
follows (Says answers next) cr cb script_state registry pipelines whole answered told timeless =
    let is = follows next cr cb script_state registry pipelines (record { registry = whole.registry; board = whole.board; after = whole.after }) answered told timeless in
    record { answers = ap (λ xs. answers ++ xs) is.answers; calls = is.calls }
follows (Asks q next) [] cb script_state registry pipelines whole answered told timeless = absurd (let e = whole.after in cc)
follows (Asks q next) (call ∷ cr) cb script_state registry pipelines whole answered told timeless =
    by (reg_answer q call) whole (λ a k w an t. follows (next a) cr cb script_state k pipelines w an told t)
  where
    by : (o : Option (RegAnswer q)) → IsWhole (elim o [ Some answer ↦ asking (reg_call q answer) (transcript_of (next answer) cr cb) | None ↦ broken ]) (call ∷ cr) cb script_state
        → ((a : RegAnswer q) (k : PlainRegistry) → IsWhole (transcript_of (next a) cr cb) cr cb script_state → AreAnsweredBy k cr → timeless_in (pass (next a) k pipelines) ≡ true → IsAsPassed (next a) k pipelines (transcript_of (next a) cr cb))
        → IsAsPassed (Asks q next) registry pipelines (elim o [ Some answer ↦ asking (reg_call q answer) (transcript_of (next answer) cr cb) | None ↦ broken ])
    by None w go = absurd (let e = w.after in cc)
    by (Some answer) w go =
        let head : reg_call q answer ≡ call = (let e = w.registry in cc) in
        let tail : (let u : Transcript = transcript_of (next answer) cr cb in u.registry) ≡ cr = (let e = w.registry in cc) in
        let same : answer ≡ answer_in registry q = answer_same registry q answer (subst (λ c. IsAnsweredBy registry c) (sym head) answered.0) in
        let call_is : reg_call q (answer_in registry q) ≡ call = ap (λ x. reg_call q x) (sym same) ∙ head in
        let then_registry : PlainRegistry = registry_after registry (reg_call q (answer_in registry q)) in
        let is = subst (λ x. IsAsPassed (next x) then_registry pipelines (transcript_of (next answer) cr cb)) same
        (go answer then_registry (record { registry = tail; board = w.board; after = w.after })
        (subst (λ c. AreAnsweredBy (registry_after registry c) cr) (sym call_is) answered.1)
        (subst (λ x. timeless_in (pass (next x) then_registry pipelines) ≡ true) (sym same) timeless)) in
        record { answers = is.answers; calls = is.calls }
follows (Posts q next) cr [] script_state registry pipelines whole answered told timeless = absurd (let e = whole.after in cc)
follows (Posts q next) cr (call ∷ cb) script_state registry pipelines whole answered told timeless =
    by (board_answer q call) whole (λ a ps w tl t. follows (next a) cr cb script_state registry ps w answered tl t)
  where
    by : (o : Option (BoardAnswer q)) → IsWhole (elim o [ Some answer ↦ posting (board_call q answer) (transcript_of (next answer) cr cb) | None ↦ broken ]) cr (call ∷ cb) script_state
        → ((a : BoardAnswer q) (ps : List Pipeline) → IsWhole (transcript_of (next a) cr cb) cr cb script_state → AreToldBy ps cb → timeless_in (pass (next a) registry ps) ≡ true → IsAsPassed (next a) registry ps (transcript_of (next a) cr cb))
        → IsAsPassed (Posts q next) registry pipelines (elim o [ Some answer ↦ posting (board_call q answer) (transcript_of (next answer) cr cb) | None ↦ broken ])
    by None w go = absurd (let e = w.after in cc)
    by (Some answer) w go =
        let then_pipelines : List Pipeline = pipelines_after pipelines (board_call q (reply_in pipelines q)) in
        let t = and_parts (is_timeless pipelines q) (timeless_in (pass (next (reply_in pipelines q)) registry then_pipelines)) timeless in
        let head : board_call q answer ≡ call = (let e = w.board in cc) in
        let tail : (let u : Transcript = transcript_of (next answer) cr cb in u.board) ≡ cb = (let e = w.board in cc) in
        let tells = told (subst (λ c. IsTimelessCall pipelines c) head (timeless_call pipelines q answer t.0)) in
        let same : answer ≡ reply_in pipelines q = reply_same pipelines q answer t.0 (subst (λ c. IsToldBy pipelines c) (sym head) tells.0) in
        let call_is : board_call q (reply_in pipelines q) ≡ call = ap (λ x. board_call q x) (sym same) ∙ head in
        let is = subst (λ x. IsAsPassed (next x) registry then_pipelines (transcript_of (next answer) cr cb)) same
        (go answer then_pipelines (record { registry = w.registry; board = tail; after = w.after })
        (subst (λ c. AreToldBy (pipelines_after pipelines c) cb) (sym call_is) tells.1)
        (subst (λ x. timeless_in (pass (next x) registry then_pipelines) ≡ true) (sym same) t.1)) in
        record {
          answers = is.answers;
          calls = ap (λ x. board_call q x ∷ (let u : Transcript = transcript_of (next answer) cr cb in u.board)) same ∙ ap (λ calls. board_call q (reply_in pipelines q) ∷ calls) is.calls;
        }

-- of a whole turn
pub turn_plain : (d : Dialogue) (turn : Transcript) (script_state : ScriptState) (registry : PlainRegistry) (pipelines : List Pipeline) → transcript_of d turn.registry turn.board ≡ turn → turn.after ≡ Some script_state → AreAnsweredBy registry turn.registry → AreToldBy pipelines turn.board
    → timeless_in (pass d registry pipelines) ≡ true → IsAsPassed d registry pipelines turn
turn_plain d turn script_state registry pipelines is after answered told timeless =
    let whole : IsWhole (transcript_of d turn.registry turn.board) turn.registry turn.board script_state =
    record { registry = ap (λ (t : Transcript). t.registry) is; board = ap (λ (t : Transcript). t.board) is; after = ap (λ (t : Transcript). t.after) is ∙ after } in
    subst (IsAsPassed d registry pipelines) is (follows d turn.registry turn.board script_state registry pipelines whole answered told timeless)
