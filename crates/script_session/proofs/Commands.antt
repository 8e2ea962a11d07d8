-- Commands, lines, and their text.
use Rattle.std.proofs.Common.{◌≡◌, ℕ, List, [], ◌++◌, Result, Ok, Err, OnOk, refl, sym, ap, subst, ◌∙◌}
use Rattle.std.specs.Prelude.{◌≤◌, MatchResult, OnErr}
use Rattle.std.specs.List.{flat_map}
use Rattle.transforms.specs.declared.ask.Ask.{Ask}
use Rattle.transforms.specs.declared.request.Finished.{Finished}
use Rattle.shared_registry.specs.declared.registry_lock.SharedRegistry.{SharedRegistry}
use Rattle.shared_board.specs.declared.shared.SharedBoard.{SharedBoard}
use Rattle.reply_text.specs.declared.answers.Answer.{Answer}
use Rattle.reply_text.specs.Answers.{text_of}
use Rattle.script_text.specs.declared.commands.Command.{Command}
use Rattle.script_text.specs.declared.commands.Line.{Line}
use Rattle.dialogues.specs.Dialogues.{Dialogue, Ends}
use Rattle.dialogues.specs.Lines.{command_dialogue, line_dialogue}
use Rattle.dialogues.specs.RequestCommands.{request}
use Rattle.dialogues.specs.Transcripts.{ended}
use Rattle.dialogues.specs.Widths.{command_width, width_of}
use Rattle.transforms.specs.declared.request.Request.{Request}
use Rattle.recorded_calls.specs.Passes.{known}
use Rattle.script_session.specs.PerformedDialogue.{PerformsBy, Performs, StopsIn}
use Rattle.recorded_calls.specs.Pipelines.{Called}
use Rattle.script_session.specs.Replies.{IsReady, Replies}
use Rattle.script_session.specs.ReplyText.{SaysBy, BreaksOff}
use Rattle.board.specs.declared.entry.BoardEntry.{BoardEntry}
use Rattle.turn_lock.specs.Turns.{Known}
use Rattle.dialogues.specs.ScriptState.{PipelineState}
use Rattle.recorded_calls.specs.SharedCalls.{SharedStaysKnown}
use Rattle.script_session.specs.States.{State, AreShared, ReferencesMatch, PipelinesMatch}
use Rattle.script_session.proofs.Gives.{shared-stay}
use Rattle.script_session.proofs.Rules.{asked-nothing, called-nothing}
use Rattle.std.proofs.Common.{append-nil}

pub command-arm : {S A : Type 0} (result : Result A S) (s s' : State) (n : ℕ) (cmd given : Command) (answers answers' : List Answer) → cmd ≡ given
    → MatchResult result (λ _. PerformsBy (command_width given) (command_dialogue s.workers s.script_state n given) s s' answers answers') (λ _. StopsIn (command_dialogue s.workers s.script_state n given) s s')
    → MatchResult result (λ _. PerformsBy (command_width cmd) (command_dialogue s.workers s.script_state n cmd) s s' answers answers') (λ _. StopsIn (command_dialogue s.workers s.script_state n cmd) s s')
command-arm result s s' n cmd given answers answers' is held =
    subst (λ x. MatchResult result (λ _. PerformsBy (command_width x) (command_dialogue s.workers s.script_state n x) s s' answers answers') (λ _. StopsIn (command_dialogue s.workers s.script_state n x) s s')) (sym is) held

pub line-arm : {S A : Type 0} (result : Result A S) (s s' : State) (n : ℕ) (line given : Line) (answers answers' : List Answer) → line ≡ given
    → MatchResult result (λ _. PerformsBy (width_of given) (line_dialogue s.workers s.script_state n given) s s' answers answers') (λ _. StopsIn (line_dialogue s.workers s.script_state n given) s s')
    → MatchResult result (λ _. PerformsBy (width_of line) (line_dialogue s.workers s.script_state n line) s s' answers answers') (λ _. StopsIn (line_dialogue s.workers s.script_state n line) s s')
line-arm result s s' n line given answers answers' is held =
    subst (λ x. MatchResult result (λ _. PerformsBy (width_of x) (line_dialogue s.workers s.script_state n x) s s' answers answers') (λ _. StopsIn (line_dialogue s.workers s.script_state n x) s s')) (sym is) held

pub line-holds : (s s' : State) (n : ℕ) (line given : Line) (answers answers' : List Answer) → line ≡ given → PerformsBy (width_of given) (line_dialogue s.workers s.script_state n given) s s' answers answers' → PerformsBy (width_of line) (line_dialogue s.workers s.script_state n line) s s' answers answers'
line-holds s s' n line given answers answers' is held = subst (λ x. PerformsBy (width_of x) (line_dialogue s.workers s.script_state n x) s s' answers answers') (sym is) held

pub request-arm-as : {S A : Type 0} (result : Result A S) (s s' : State) (n : ℕ) (label : List ℕ) (asked given : Request) (backlog : _) (answers answers' : List Answer) → asked ≡ given
    → MatchResult result (λ _. Performs (request s.script_state n label asked backlog) s s' answers answers') (λ _. StopsIn (request s.script_state n label asked backlog) s s')
    → MatchResult result (λ _. Performs (request s.script_state n label given backlog) s s' answers answers') (λ _. StopsIn (request s.script_state n label given backlog) s s')
request-arm-as result s s' n label asked given backlog answers answers' is held =
    subst (λ x. MatchResult result (λ _. Performs (request s.script_state n label x backlog) s s' answers answers') (λ _. StopsIn (request s.script_state n label x backlog) s s')) is held

-- a line with nothing on it
pub nothing-holds : (s : State) (answers : List Answer) → ReferencesMatch s.script_state.lives (known s.registry) → PipelinesMatch s.script_state (known s.board) → Performs (Ends s.script_state) s s answers answers
nothing-holds s answers stands posted =
    record {
      locks = record { registry = refl; board = refl; workers = refl; shared = refl };
      done = record {
        turn = ended s.script_state;
        is = refl;
        asked = asked-nothing (known s.registry) stands.caller;
        called = called-nothing (known s.board);
        ends = refl;
        says = sym (append-nil answers);
        stands = stands;
        posted = posted;
      };
      wide = λ wide. wide;
    }

pub replies : {width : ℕ} → (d : Dialogue) (s s' : State) (answers : List Answer) (text text' : List ℕ) → PerformsBy width d s s' [] answers → text' ≡ text ++ flat_map text_of answers → Replies width d s s' text text'
replies {width} d s s' answers text text' held e =
    record {
      locks = held.locks;
      turn = held.done.turn;
      is = held.done.is;
      asked = held.done.asked;
      called = held.done.called;
      ends = held.done.ends;
      says = e ∙ ap (λ a. text ++ flat_map text_of a) held.done.says;
    }

pub ready : {W : Type 0} {width : ℕ} → ((k l : Known (BoardEntry Ask)) (pipe : PipelineState) → SharedStaysKnown k l pipe) → (registry : SharedRegistry) (board : SharedBoard W Ask Finished) (d : Dialogue) (s s' : State) (answers answers' : List Answer) → IsReady registry board s → PerformsBy width d s s' answers answers' → IsReady registry board s'
ready {W} {width} law registry board d s s' answers answers' is held =
    record {
      calls_registry = held.locks.registry ∙ is.calls_registry;
      calls_board = held.locks.board ∙ is.calls_board;
      stands = held.done.stands;
      posted = held.done.posted;
      few = subst (λ w. w ≤ 16) (sym held.locks.workers) is.few;
      wide = held.wide is.wide;
      shared = subst (λ ls. AreShared ls (known s'.board)) (sym held.locks.shared)
          (shared-stay law (known s.board) (known s'.board) s.script_state.shared held.done.called.number held.done.called.seen held.done.posted.legal is.shared);
    }

pub answered-ready : {S A W : Type 0} → ((k l : Known (BoardEntry Ask)) (pipe : PipelineState) → SharedStaysKnown k l pipe) → (width : ℕ) (result : Result A S) (Broken : Type 0) (registry : SharedRegistry) (board : SharedBoard W Ask Finished) (d : Dialogue) (s s' : State) (answers answers' : List Answer) → IsReady registry board s
    → MatchResult result (λ _. PerformsBy width d s s' answers answers') (λ _. Broken) → OnOk result (IsReady registry board s')
answered-ready law width (Ok done) Broken registry board d s s' answers answers' is held = ready law registry board d s s' answers answers' is held
answered-ready law width (Err stop) Broken registry board d s s' answers answers' is broken = tt

-- ---- lines whose text goes straight into the reply

pub line-replies : {S A : Type 0} (width : ℕ) (result : Result A S) (d : Dialogue) (s s' : State) (text text' : List ℕ) → MatchResult result (λ _. SaysBy width d s s' text text') (λ _. BreaksOff d s s' text text')
    → MatchResult result (λ _. Replies width d s s' text text') (λ _. StopsIn d s s')
line-replies width (Ok done) d s s' text text' says = replies d s s' says.said text text' says.held says.says
line-replies width (Err stop) d s s' text text' breaks = breaks.stops

pub line-ready : {S A W : Type 0} → ((k l : Known (BoardEntry Ask)) (pipe : PipelineState) → SharedStaysKnown k l pipe) → (width : ℕ) (result : Result A S) (Broken : Type 0) (registry : SharedRegistry) (board : SharedBoard W Ask Finished) (d : Dialogue) (s s' : State) (text text' : List ℕ) → IsReady registry board s
    → MatchResult result (λ _. SaysBy width d s s' text text') (λ _. Broken) → OnOk result (IsReady registry board s')
line-ready law width (Ok done) Broken registry board d s s' text text' is says = ready law registry board d s s' [] says.said is says.held
line-ready law width (Err stop) Broken registry board d s s' text text' is breaks = tt

pub line-unwritten : {S A : Type 0} (result : Result A S) (Said : Type 0) (d : Dialogue) (s s' : State) (text text' : List ℕ) → MatchResult result (λ _. Said) (λ _. BreaksOff d s s' text text') → OnErr result (text' ≡ text)
line-unwritten (Ok done) Said d s s' text text' says = tt
line-unwritten (Err stop) Said d s s' text text' breaks = breaks.says

pub line-uncalled : {S A : Type 0} (result : Result A S) (Said If : Type 0) (d : Dialogue) (s s' : State) (text text' : List ℕ) → MatchResult result (λ _. Said) (λ _. BreaksOff d s s' text text') → OnErr result (If → Called (known s.board) (known s'.board) [])
line-uncalled (Ok done) Said If d s s' text text' says = tt
line-uncalled (Err stop) Said If d s s' text text' breaks = λ so. breaks.called

-- the same of a line whose answers are put together
pub answers-reply : {S A : Type 0} (width : ℕ) (result : Result A S) (d : Dialogue) (s s' : State) (text text' : List ℕ) → MatchResult result (λ _. SaysBy width d s s' text text') (λ _. StopsIn d s s')
    → MatchResult result (λ _. Replies width d s s' text text') (λ _. StopsIn d s s')
answers-reply width (Ok done) d s s' text text' says = replies d s s' says.said text text' says.held says.says
answers-reply width (Err stop) d s s' text text' stops = stops

-- of a line that is such a one
pub done-on : {S A : Type 0} (result : Result A S) (s s' : State) (n : ℕ) (line given : Line) (text text' : List ℕ) → line ≡ given
    → MatchResult result (λ _. Replies (width_of given) (line_dialogue s.workers s.script_state n given) s s' text text') (λ _. StopsIn (line_dialogue s.workers s.script_state n given) s s')
    → MatchResult result (λ _. Replies (width_of line) (line_dialogue s.workers s.script_state n line) s s' text text') (λ _. StopsIn (line_dialogue s.workers s.script_state n line) s s')
done-on result s s' n line given text text' is replied =
    subst (λ x. MatchResult result (λ _. Replies (width_of x) (line_dialogue s.workers s.script_state n x) s s' text text') (λ _. StopsIn (line_dialogue s.workers s.script_state n x) s s')) (sym is) replied
