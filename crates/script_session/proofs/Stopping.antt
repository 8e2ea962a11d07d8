-- Where memory is wanting: what was called are first calls of the dialogue.
use Rattle.std.proofs.Common.{◌≡◌, List, [], ◌++◌, refl, sym, ap, subst, ◌∙◌, append-nil}
use Rattle.board.specs.declared.entry.BoardEntry.{BoardEntry}
use Rattle.board.specs.Legal.{is_shut}
use Rattle.reply_text.specs.declared.answers.Answer.{Answer}
use Rattle.transforms.specs.declared.ask.Ask.{Ask}
use Rattle.turn_lock.specs.PassLaws.{IsOwn}
use Rattle.turn_lock.specs.Turns.{Known}
use Rattle.alg_registry.specs.Rows.{caller_of as reg_caller}
use Rattle.dialogues.specs.BoardCalls.{BoardCall}
use Rattle.dialogues.specs.Dialogues.{Dialogue}
use Rattle.dialogues.specs.First.{AreFurther, BeginsBy}
use Rattle.dialogues.specs.RegistryCalls.{reg_calls}
use Rattle.dialogues.specs.Transcripts.{Transcript}
use Rattle.dialogues.specs.ScriptState.{ScriptState, Live}
use Rattle.dialogues.proofs.First.{begins-none, begins-turn}
use Rattle.recorded_calls.specs.Passes.{known}
use Rattle.recorded_calls.specs.Pipelines.{Called, Unchanged}
use Rattle.recorded_calls.proofs.Boarding.{called-more, starts-same}
use Rattle.script_session.specs.TransformChanges.{PerformsFor, StopsFor}
use Rattle.script_session.specs.EndOfInput.{LeadsBy, Moves, StopsMoving}
use Rattle.script_session.specs.PerformedDialogue.{HasSeenMore, StopsIn}
use Rattle.script_session.specs.SharedTransforms.{GivesFor, StopsGiving}
use Rattle.script_session.specs.States.{State, SameLocks, ReferencesMatch}
use Rattle.script_session.proofs.Arms.{called-sees}
use Rattle.script_session.proofs.Rules.{called-nothing}

-- ---- a session's states

-- the registry wasn't asked
pub board-stops : (d : Dialogue) (s s' : State) (calls : List BoardCall) → SameLocks s s' → s'.registry ≡ s.registry → ReferencesMatch s.script_state.lives (known s.registry) → Called (known s.board) (known s'.board) calls
    → ((known s.board).number ≡ 0 → is_shut (known s'.board).seen ≡ is_shut (known s.board).seen) → BeginsBy d [] calls → StopsIn d s s'
board-stops d s s' calls locks same stands called unshut begins =
    let k = known s.registry in
    record {
      stops = record {
        locks = locks;
        registry = subst (λ r. HasSeenMore k (known r)) (sym same) (record { number = refl; next = refl; seen = starts-same k.seen });
        board = called-sees (known s.board) (known s'.board) calls called unshut;
      };
      registry = [];
      board = calls;
      further = subst (λ r. AreFurther k.number [] k.seen (known r).seen) (sym same)
          (record { more = []; goes_on = sym (append-nil k.seen); calls_are = sym (append-nil (reg_calls k.number k.seen)) });
      own = subst (λ r. IsOwn reg_caller (known r)) (sym same) stands.caller.own;
      called = called;
      begins = begins;
    }

-- ---- one transform

pub for-uncalled : (d : ScriptState → Dialogue) (live : Live) (k l : Known (BoardEntry Ask)) → Called k l [] → (k.number ≡ 0 → is_shut l.seen ≡ is_shut k.seen) → StopsFor d live k l
for-uncalled d live k l called unshut = record { calls = []; called = called; unshut = unshut; begins = λ script_state found posted. begins-none (d script_state) }

pub for-nothing : (d : ScriptState → Dialogue) (live : Live) (k : Known (BoardEntry Ask)) → StopsFor d live k k
for-nothing d live k = for-uncalled d live k k (called-nothing k) (λ zero_is. refl)

pub for-kept : (d : ScriptState → Dialogue) (live : Live) (k l : Known (BoardEntry Ask)) → Unchanged k l → StopsFor d live k l
for-kept d live k l kept = for-uncalled d live k l kept.called kept.unshut

-- the dialogue was held but for its answer
pub for-held : (d : ScriptState → Dialogue) (live live' : Live) (k l : Known (BoardEntry Ask)) (asks : List Ask) (answers answers' : List Answer) → PerformsFor d live live' k l asks answers answers' → StopsFor d live k l
for-held d live live' k l asks answers answers' held =
    record { calls = held.calls; called = held.changes.called; unshut = held.changes.unshut; begins = λ script_state found posted. begins-turn (d script_state) _ (held.is script_state found posted) tt }

-- ---- a transform that is shared

pub giving-nothing : (d : ScriptState → Dialogue) (live : Live) (k : Known (BoardEntry Ask)) → StopsGiving d live k k
giving-nothing d live k = record { calls = []; called = called-nothing k; unshut = λ zero_is. refl; begins = λ script_state none posted. begins-none (d script_state) }

pub giving-kept : (d : ScriptState → Dialogue) (live : Live) (k l : Known (BoardEntry Ask)) → Unchanged k l → StopsGiving d live k l
giving-kept d live k l kept = record { calls = []; called = kept.called; unshut = kept.unshut; begins = λ script_state none posted. begins-none (d script_state) }

pub giving-held : (d : ScriptState → Dialogue) (live : Live) (k l : Known (BoardEntry Ask)) (asks : List Ask) (answers answers' : List Answer) → GivesFor d live k l asks answers answers' → StopsGiving d live k l
giving-held d live k l asks answers answers' gives =
    record { calls = gives.calls; called = gives.gave.called; unshut = gives.gave.unshut; begins = λ script_state none posted. begins-turn (d script_state) _ (gives.is script_state none posted) tt }

-- ---- a part of the end of input

-- first calls of what is left follow a part's own
pub begins-after : (d : Dialogue → Dialogue) (calls more : List BoardCall) (said : List Answer) (rest : Dialogue) → LeadsBy d calls said → BeginsBy rest [] more → BeginsBy (d rest) [] (calls ++ more)
begins-after d calls more said rest leads begins r are =
    let turn = leads rest r more in
    let first = begins r are in
    (ap (λ (t : Transcript). t.registry) turn ∙ first.0, ap (λ (t : Transcript). t.board) turn ∙ ap (λ x. calls ++ x) first.1)

-- its calls are so alone
pub begins-part : (d : Dialogue → Dialogue) (calls : List BoardCall) (said : List Answer) (rest : Dialogue) → LeadsBy d calls said → BeginsBy (d rest) [] calls
begins-part d calls said rest leads = subst (BeginsBy (d rest) []) (append-nil calls) (begins-after d calls [] said rest leads (begins-none rest))

pub moving-nothing : (d : Dialogue → Dialogue) (k : Known (BoardEntry Ask)) → StopsMoving d k k
moving-nothing d k = record { calls = []; called = called-nothing k; unshut = λ zero_is. refl; begins = λ rest. begins-none (d rest) }

pub moving-kept : (d : Dialogue → Dialogue) (k l : Known (BoardEntry Ask)) → Unchanged k l → StopsMoving d k l
moving-kept d k l kept = record { calls = []; called = kept.called; unshut = kept.unshut; begins = λ rest. begins-none (d rest) }

-- the part was held but for its answers
pub moving-held : (d : Dialogue → Dialogue) (live live' : Live) (k l : Known (BoardEntry Ask)) (answers answers' : List Answer) → Moves d live live' k l answers answers' → StopsMoving d k l
moving-held d live live' k l answers answers' moves =
    record { calls = moves.calls; called = moves.changes.called; unshut = moves.changes.unshut; begins = λ rest. begins-part d moves.calls moves.said rest moves.leads }

-- one part behind another
pub moving-then : (first later : Dialogue → Dialogue) (k l m : Known (BoardEntry Ask)) (calls : List BoardCall) (said : List Answer) → LeadsBy first calls said → Called k l calls → (k.number ≡ 0 → is_shut l.seen ≡ is_shut k.seen)
    → StopsMoving later l m → StopsMoving (λ rest. first (later rest)) k m
moving-then first later k l m calls said leads called unshut stops =
    record {
      calls = calls ++ stops.calls;
      called = called-more k l m calls stops.calls called stops.called;
      unshut = λ zero_is. stops.unshut (called.number ∙ zero_is) ∙ unshut zero_is;
      begins = λ rest. begins-after first calls stops.calls said (later rest) leads (stops.begins rest);
    }

-- what is left begins so
pub moving-before : (d f : Dialogue → Dialogue) (k l : Known (BoardEntry Ask)) → StopsMoving d k l → StopsMoving (λ rest. d (f rest)) k l
moving-before d f k l stops = record { calls = stops.calls; called = stops.called; unshut = stops.unshut; begins = λ rest. stops.begins (f rest) }

pub moving-same : (d e : Dialogue → Dialogue) (k l : Known (BoardEntry Ask)) → ((rest : Dialogue) → e rest ≡ d rest) → StopsMoving d k l → StopsMoving e k l
moving-same d e k l same stops =
    record { calls = stops.calls; called = stops.called; unshut = stops.unshut; begins = λ rest. subst (λ x. BeginsBy x [] stops.calls) (sym (same rest)) (stops.begins rest) }
