-- A session that goes no further has called the first calls of its dialogue.
use Rattle.std.proofs.Common.{◌≡◌, ℕ, List, [], ◌∷◌, ◌++◌, Option, Result, Ok, Err, OnOk, refl, sym, subst, ◌∙◌, append-nil}
use Rattle.std.specs.Prelude.{MatchResult}
use Rattle.alg_registry.specs.declared.entry.RegEntry.{RegEntry}
use Rattle.alg_registry.specs.Rows.{caller_of as reg_caller}
use Rattle.board.specs.declared.entry.BoardEntry.{BoardEntry}
use Rattle.reply_text.specs.declared.answers.Answer.{Answer}
use Rattle.templates.specs.LookResults.{Found}
use Rattle.transforms.specs.declared.ask.Ask.{Ask}
use Rattle.turn_lock.specs.PassLaws.{IsOwn}
use Rattle.turn_lock.specs.Turns.{Known}
use Rattle.dialogues.specs.BoardCalls.{BoardCall}
use Rattle.dialogues.specs.Dialogues.{Dialogue, Asks as AsksFor}
use Rattle.dialogues.specs.First.{AreFurther, BeginsBy}
use Rattle.dialogues.specs.Questions.{RegQuestion, RegAnswer, Look, reg_call}
use Rattle.dialogues.specs.RegistryCalls.{RegCall, Looks, reg_calls}
use Rattle.dialogues.specs.ScriptState.{ScriptState, Live}
use Rattle.dialogues.proofs.First.{begins-none, begins-turn, begins-asks, begins-look, further-then}
use Rattle.recorded_calls.specs.RegistryCalls.{Asked, Asks}
use Rattle.recorded_calls.specs.Passes.{RegPass, BoardPass, known}
use Rattle.recorded_calls.specs.Pipelines.{Called}
use Rattle.script_session.specs.BrokenOff.{Breaks, CallsOn}
use Rattle.script_session.specs.PerformedDialogue.{DoneBy, PerformsBy, SeesOn, Stops, StopsIn}
use Rattle.script_session.specs.States.{State, ReferencesMatch, PipelinesMatch}
use Rattle.script_session.proofs.Arms.{viewed, called-sees, stops-same, stops-arm}
use Rattle.script_session.proofs.Rules.{called-nothing}

-- ---- further calls

further-nothing : (n : ℕ) (h : List RegEntry) → AreFurther n [] h h
further-nothing n h = record { more = []; goes_on = sym (append-nil h); calls_are = sym (append-nil (reg_calls n h)) }

asked-further : (k l : Known RegEntry) (calls : List RegCall) → Asked k l calls → AreFurther k.number calls k.seen l.seen
asked-further k l calls asked = record { more = asked.are.more; goes_on = asked.are.goes_on; calls_are = asked.are.calls_are }

asked-then : (k l m : Known RegEntry) (a b : List RegCall) → Asked k l a → AreFurther l.number b l.seen m.seen → AreFurther k.number (a ++ b) k.seen m.seen
asked-then k l m a b first later = further-then k.number a b k.seen l.seen m.seen first.are (subst (λ n. AreFurther n b l.seen m.seen) first.number later)

-- ---- the rules

-- nothing was called
pub breaks-none : (d : Dialogue) (k : Known RegEntry) (b : Known (BoardEntry Ask)) → IsOwn reg_caller k → Breaks d k b k b
breaks-none d k b own = record { registry = []; board = []; further = further-nothing k.number k.seen; own = own; called = called-nothing b; begins = begins-none d }

-- the board alone was called
pub breaks-board : (d : Dialogue) (k : Known RegEntry) (b b' : Known (BoardEntry Ask)) (board : List BoardCall) → IsOwn reg_caller k → Called b b' board → BeginsBy d [] board → Breaks d k b k b'
breaks-board d k b b' board own called begins = record { registry = []; board = board; further = further-nothing k.number k.seen; own = own; called = called; begins = begins }

-- others went on, and the caller worked
pub breaks-further : (d : Dialogue) (k l : Known RegEntry) (b : Known (BoardEntry Ask)) → AreFurther k.number [] k.seen l.seen → IsOwn reg_caller l → Breaks d k b l b
breaks-further d k l b further own = record { registry = []; board = []; further = further; own = own; called = called-nothing b; begins = begins-none d }

-- the registry wasn't asked
pub breaks-unasked : (d : Dialogue) (k l : Known RegEntry) (b : Known (BoardEntry Ask)) → Asked k l [] → Breaks d k b l b
breaks-unasked d k l b asked = breaks-further d k l b (asked-further k l [] asked) asked.caller.own

pub breaks-asked-none : (d : Dialogue) (k l k' : Known RegEntry) (b b' : Known (BoardEntry Ask)) → Asked k l [] → Breaks d l b k' b' → Breaks d k b k' b'
breaks-asked-none d k l k' b b' asked then = record {
  registry = then.registry;
  board = then.board;
  further = asked-then k l k' [] then.registry asked then.further;
  own = then.own;
  called = then.called;
  begins = then.begins;
}

pub breaks-asks : (k l k' : Known RegEntry) (b b' : Known (BoardEntry Ask)) (question : RegQuestion) (answer : RegAnswer question) (next : RegAnswer question → Dialogue)
    → Asked k l (reg_call question answer ∷ []) → Breaks (next answer) l b k' b' → Breaks (AsksFor question next) k b k' b'
breaks-asks k l k' b b' question answer next asked then =
    let call = reg_call question answer in
    record {
      registry = call ∷ then.registry;
      board = then.board;
      further = asked-then k l k' (call ∷ []) then.registry asked then.further;
      own = then.own;
      called = then.called;
      begins = begins-asks question answer next then.registry then.board then.begins;
    }

-- a look was made, which may have come to nothing
pub breaks-look : (k l : Known RegEntry) (b : Known (BoardEntry Ask)) (text : List ℕ) (found : Option Found) (next : Found → Dialogue)
    → AreFurther k.number (Looks text found ∷ []) k.seen l.seen → IsOwn reg_caller l → Breaks (AsksFor (Look text) next) k b l b
breaks-look k l b text found next further own = record {
  registry = Looks text found ∷ [];
  board = [];
  further = further;
  own = own;
  called = called-nothing b;
  begins = begins-look text found next;
}

-- all of the turn's calls were made
pub breaks-done : {width : ℕ} → (d : Dialogue) (k k' : Known RegEntry) (b b' : Known (BoardEntry Ask)) (after : ScriptState) (answers answers' : List Answer) → DoneBy width d k b k' b' after answers answers' → Breaks d k b k' b'
breaks-done d k k' b b' after answers answers' done = record {
  registry = done.turn.registry;
  board = done.turn.board;
  further = record { more = done.asked.are.more; goes_on = done.asked.are.goes_on; calls_are = done.asked.are.calls_are };
  own = done.asked.caller.own;
  called = done.called;
  begins = begins-turn d done.turn done.is done.asked.are.settled;
}

-- ---- a session's states

pub stops-in : (d : Dialogue) (s s' : State) → Stops s s' → Breaks d (known s.registry) (known s.board) (known s'.registry) (known s'.board) → StopsIn d s s'
stops-in d s s' stops breaks = record {
  stops = stops;
  registry = breaks.registry;
  board = breaks.board;
  further = breaks.further;
  own = breaks.own;
  called = breaks.called;
  begins = breaks.begins;
}

pub breaks-of : (d : Dialogue) (s s' : State) → StopsIn d s s' → Breaks d (known s.registry) (known s.board) (known s'.registry) (known s'.board)
breaks-of d s s' stops = record {
  registry = stops.registry;
  board = stops.board;
  further = stops.further;
  own = stops.own;
  called = stops.called;
  begins = stops.begins;
}

-- it is as it was
pub stops-none : (d : Dialogue) (s : State) → ReferencesMatch s.script_state.lives (known s.registry) → StopsIn d s s
stops-none d s stands = stops-in d s s (stops-same s stands) (breaks-none d (known s.registry) (known s.board) stands.caller.own)

-- all of its calls were made
pub stops-held : {width : ℕ} → (d : Dialogue) (s s' : State) (answers answers' : List Answer) → PerformsBy width d s s' answers answers' → PipelinesMatch s.script_state (known s.board) → StopsIn d s s'
stops-held d s s' answers answers' held posted =
    let done = held.done in
    let asked = done.asked in
    stops-in d s s'
    (record {
      locks = held.locks;
      registry = record { number = asked.number; next = asked.next; seen = (asked.are.more, asked.are.goes_on) };
      board = called-sees (known s.board) (known s'.board) done.turn.board done.called (λ zero_is. done.posted.unshut (done.called.number ∙ zero_is) ∙ sym (posted.unshut zero_is));
    })
    (breaks-done d (known s.registry) (known s'.registry) (known s.board) (known s'.board) s'.script_state answers answers' done)

-- it says what is left to say, or memory is wanting for that alone
pub or-breaks : {S A : Type 0} {width : ℕ} {d : Dialogue} {s s' : State} {answers : List Answer} (answers' said : List Answer) (result : Result A S) → OnOk result (answers' ≡ answers ++ said)
    → ((all : List Answer) → all ≡ answers ++ said → PerformsBy width d s s' answers all) → PipelinesMatch s.script_state (known s.board) → MatchResult result (λ _. PerformsBy width d s s' answers answers') (λ _. StopsIn d s s')
or-breaks answers' said (Ok done) says holds posted = holds answers' says
or-breaks {d = d} {s = s} {s' = s'} {answers = answers} answers' said (Err stop) says holds posted = stops-held d s s' answers (answers ++ said) (holds (answers ++ said) refl) posted

-- ---- the board

pub calls-on-sees : (k l : Known (BoardEntry Ask)) (calls : List BoardCall) → CallsOn k l calls → SeesOn k l
calls-on-sees k l calls on = called-sees k l calls on.called on.unshut

-- ---- a session as it is seen

module _ {ws c : ℕ} {sh lives : List Live} {q v : ℕ} {r : Option RegPass} {b : Option BoardPass} (s : State) (view : viewed ws c sh lives q v r b ≡ s) where
  pub stops-at : (d : State → Dialogue) (s' : State) → Stops s s' → Breaks (d (viewed ws c sh lives q v r b)) (known r) (known b) (known s'.registry) (known s'.board) → StopsIn (d s) s s'
  stops-at d s' stops breaks = stops-in (d s) s s' stops (subst (λ (x : State). Breaks (d x) (known x.registry) (known x.board) (known s'.registry) (known s'.board)) view breaks)

  -- its registry's caller asked nothing
  pub unasked-arm : {r' : Option RegPass} (d : Dialogue) → Asks r r' [] → StopsIn d s (viewed ws c sh lives q v r' b)
  unasked-arm {r'} d asks = stops-at (λ x. d) (viewed ws c sh lives q v r' b) (stops-arm s view [] asks) (breaks-unasked d (known r) (known r') (known b) asks.asked)
