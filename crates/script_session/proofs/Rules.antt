-- Rules by which a dialogue is held, one for each way in which it begins.
use Rattle.std.proofs.Common.{◌≡◌, List, [], ◌∷◌, ◌++◌, Some, None, refl, sym, ap, subst, ◌∙◌, append_assoc, append-nil}
use Rattle.alg_registry.specs.declared.entry.RegEntry.{RegEntry}
use Rattle.board.specs.declared.entry.BoardEntry.{BoardEntry}
use Rattle.reply_text.specs.declared.answers.Answer.{Answer}
use Rattle.transforms.specs.declared.ask.Ask.{Ask}
use Rattle.turn_lock.specs.Turns.{Known}
use Rattle.dialogues.specs.RegistryCalls.{RegCall, reg_calls}
use Rattle.dialogues.proofs.Taking.{AllSettled-append}
use Rattle.dialogues.specs.BoardCalls.{board_calls}
use Rattle.dialogues.specs.Dialogues.{Dialogue, Ends, Says, Asks, Posts}
use Rattle.dialogues.specs.Questions.{RegQuestion, Enlist, Look, Unlist, Get, Put, Count, ListAll, RegAnswer, reg_call, reg_answer, BoardQuestion, Create, Submit, Enqueue, Hold, Go, Poll, Drain, Close, Share, Mask, Shut, BoardAnswer, board_call, board_answer}
use Rattle.dialogues.specs.Transcripts.{Transcript, ended, broken, saying, asking, posting, transcript_of}
use Rattle.dialogues.specs.ScriptState.{ScriptState}
use Rattle.dialogues.specs.InTurn.{AreInTurnBy, AreCalls}
use Rattle.dialogues.proofs.Taking.{no_call}
use Rattle.dialogues.proofs.Grouping.{in_turn-by, by-after}
use Rattle.recorded_calls.specs.RegistryCalls.{IsCaller}
use Rattle.recorded_calls.proofs.Boarding.{starts-same, called-more}
use Rattle.script_session.specs.States.{ReferencesMatch, PipelinesMatch}
use Rattle.recorded_calls.specs.RegistryCalls.{Asked}
use Rattle.recorded_calls.specs.Pipelines.{Called}
use Rattle.script_session.specs.PerformedDialogue.{Done}

-- ---- what is known goes on

pub asked-nothing : (k : Known RegEntry) → IsCaller k → Asked k k []
asked-nothing k caller =
    record {
      number = refl;
      next = refl;
      in_turn = in_turn-by 1 k.number [] k.seen k.seen (no_call k.number k.seen);
      are = record {
        more = [];
        goes_on = sym (append-nil k.seen);
        calls_are = sym (append-nil (reg_calls k.number k.seen));
        settled = tt;
        all_settled = caller.settled;
      };
      caller = caller;
    }

pub asked-more : (k l m : Known RegEntry) (a b : List RegCall) → Asked k l a → Asked l m b → Asked k m (a ++ b)
asked-more k l m a b first later =
    let n = k.number in
    let turns : AreInTurnBy 1 n b l.seen m.seen = subst (λ x. AreInTurnBy 1 x b l.seen m.seen) first.number later.in_turn in
    let are : AreCalls n b l.seen m.seen = subst (λ x. AreCalls x b l.seen m.seen) first.number later.are in
    record {
      number = later.number ∙ first.number;
      next = later.next ∙ first.next;
      in_turn = by-after 1 n a b k.seen l.seen m.seen first.in_turn turns;
      are = record {
        more = first.are.more ++ are.more;
        goes_on = are.goes_on ∙ (ap (λ h. h ++ are.more) first.are.goes_on ∙ append_assoc k.seen first.are.more are.more);
        calls_are = are.calls_are ∙ (ap (λ cs. cs ++ b) first.are.calls_are ∙ append_assoc (reg_calls n k.seen) a b);
        settled = AllSettled-append a b first.are.settled are.settled;
        all_settled = are.all_settled;
      };
      caller = later.caller;
    }

pub called-nothing : (k : Known (BoardEntry Ask)) → Called k k []
called-nothing k = record { number = refl; next = refl; seen = starts-same k.seen; calls_are = sym (append-nil (board_calls k.number k.seen)) }

-- ---- the call by which a question is answered answers it

pub reg_answer-itself : (question : RegQuestion) (answer : RegAnswer question) → reg_answer question (reg_call question answer) ≡ Some answer
reg_answer-itself (Enlist spec) answer = refl
reg_answer-itself (Look text) answer = refl
reg_answer-itself (Unlist driver) answer = refl
reg_answer-itself (Get id) answer = refl
reg_answer-itself (Put id) answer = refl
reg_answer-itself (Count driver) answer = refl
reg_answer-itself ListAll answer = refl

pub board_answer-itself : (question : BoardQuestion) (answer : BoardAnswer question) → board_answer question (board_call question answer) ≡ Some answer
board_answer-itself (Create shape) answer = refl
board_answer-itself (Submit pipe asked) answer = refl
board_answer-itself (Enqueue pipe asked backlog) answer = refl
board_answer-itself (Hold pipe) answer = refl
board_answer-itself (Go pipe) answer = refl
board_answer-itself (Poll pipe) answer = refl
board_answer-itself (Drain pipe) answer = refl
board_answer-itself (Close pipe) answer = refl
board_answer-itself (Share pipe) answer = refl
board_answer-itself (Mask pipe bits) answer = refl
board_answer-itself Shut answer = refl

-- ---- the rules

-- it ends with answers
pub says-done : (k : Known RegEntry) (b : Known (BoardEntry Ask)) (after : ScriptState) (said answers answers' : List Answer) → ReferencesMatch after.lives k → PipelinesMatch after b → answers' ≡ answers ++ said
    → Done (Says said (Ends after)) k b k b after answers answers'
says-done k b after said answers answers' stands posted e =
    record {
      turn = saying said (ended after);
      is = refl;
      asked = asked-nothing k stands.caller;
      called = called-nothing b;
      ends = refl;
      says = e ∙ ap (λ a. answers ++ a) (sym (append-nil said));
      stands = stands;
      posted = posted;
    }

-- it asks the registry, and goes on by the answer
pub asks-done : (k l k' : Known RegEntry) (b b' : Known (BoardEntry Ask)) (question : RegQuestion) (answer : RegAnswer question) (next : RegAnswer question → Dialogue) (after : ScriptState) (answers answers' : List Answer)
    → Asked k l (reg_call question answer ∷ []) → Done (next answer) l b k' b' after answers answers' → Done (Asks question next) k b k' b' after answers answers'
asks-done k l k' b b' question answer next after answers answers' asked done =
    let call = reg_call question answer in
    record {
      turn = asking call done.turn;
      is =
          ap (λ o. elim o as (λ _. Transcript) [ Some a ↦ asking (reg_call question a) (transcript_of (next a) done.turn.registry done.turn.board) | None ↦ broken ]) (reg_answer-itself question answer)
          ∙ ap (asking call) done.is;
      asked = asked-more k l k' (call ∷ []) done.turn.registry asked done.asked;
      called = done.called;
      ends = done.ends;
      says = done.says;
      stands = done.stands;
      posted = done.posted;
    }

-- it asks the board, and goes on by the answer
pub posts-done : (k k' : Known RegEntry) (b c b' : Known (BoardEntry Ask)) (question : BoardQuestion) (answer : BoardAnswer question) (next : BoardAnswer question → Dialogue) (after : ScriptState) (answers answers' : List Answer)
    → Called b c (board_call question answer ∷ []) → Done (next answer) k c k' b' after answers answers' → Done (Posts question next) k b k' b' after answers answers'
posts-done k k' b c b' question answer next after answers answers' called done =
    let call = board_call question answer in
    record {
      turn = posting call done.turn;
      is =
          ap (λ o. elim o as (λ _. Transcript) [ Some a ↦ posting (board_call question a) (transcript_of (next a) done.turn.registry done.turn.board) | None ↦ broken ]) (board_answer-itself question answer)
          ∙ ap (posting call) done.is;
      asked = done.asked;
      called = called-more b c b' (call ∷ []) done.turn.board called done.called;
      ends = done.ends;
      says = done.says;
      stands = done.stands;
      posted = done.posted;
    }
