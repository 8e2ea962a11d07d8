-- What a client's script leaves.
use Rattle.std.proofs.Common.{◌≡◌, ℕ, ◌+◌, ◌-◌, ◌≤◌, Bool, true, List, [], ◌++◌, Option, Some, None, sym, ap, subst, ◌∙◌, arith}
use Rattle.std.specs.Prelude.{is_some, slice_get, All, Contains, Result, Ok, Err, IfOk, MatchResult}
use Rattle.std.specs.List.{list_any}
use Rattle.std.proofs.lemmas.List.Elements.{All-contains, All-weaker, Contains-get_or}
use Rattle.std.proofs.lemmas.Option.{get_or_from_slice_get, slice_get_within}
use Rattle.alg_registry.specs.declared.entry.RegEntry.{RegEntry}
use Rattle.alg_registry.specs.Rows.{caller_of as reg_caller}
use Rattle.board.specs.declared.entry.BoardEntry.{BoardEntry}
use Rattle.board.specs.Entries.{caller_of as board_caller}
use Rattle.board.specs.Legal.{LegalBoard}
use Rattle.crew.specs.declared.passes.Passes.{Passes}
use Rattle.crew.specs.Both.{ArePassesOn}
use Rattle.crew.specs.Peers.{OthersFollow}
use Rattle.dialogues.specs.AllocAndFree.{lists_beside}
use Rattle.dialogues.specs.BoardCalls.{board_calls}
use Rattle.dialogues.specs.Dialogues.{Dialogue, Ends}
use Rattle.dialogues.specs.Lines.{lines_dialogue, script_beside}
use Rattle.dialogues.specs.PipelineCommands.{end_beside}
use Rattle.dialogues.specs.RegistryCalls.{reg_calls}
use Rattle.dialogues.specs.Texts.{IsTextOf, IsClientText, turn_by}
use Rattle.dialogues.specs.Transcripts.{Transcript, IsTranscript, joined, text_in, transcript_of}
use Rattle.dialogues.specs.ScriptState.{Live, PipelineState, start_beside}
use Rattle.dialogues.specs.Widths.{widest}
use Rattle.dialogues.proofs.Leading.{text-joined}
use Rattle.script_run.specs.Text.{is_malformed}
use Rattle.script_session.specs.EndOfInput.{AnswersEndBeside, EndsDelivered}
use Rattle.script_session.specs.PerformedDialogue.{Stops}
use Rattle.script_session.specs.Replies.{IsReady, Replies}
use Rattle.script_session.specs.States.{State, HasShared}
use Rattle.script_text.specs.declared.commands.Line.{Line}
use Rattle.recorded_calls.specs.RegistryCalls.{IsCaller}
use Rattle.recorded_calls.specs.Passes.{known}
use Rattle.recorded_calls.specs.SharedCalls.{SharedStaysKnown}
use Rattle.recorded_calls.proofs.Boarding.{called-more as called-then}
use Rattle.shared_board.specs.declared.shared.SharedBoard.{SharedBoard}
use Rattle.shared_registry.specs.declared.registry_lock.SharedRegistry.{SharedRegistry}
use Rattle.transforms.specs.declared.ask.Ask.{Ask}
use Rattle.transforms.specs.declared.request.Finished.{Finished}
use Rattle.turn_lock.specs.PassLaws.{IsOwn}
use Rattle.turn_lock.specs.Passes.{knows}
use Rattle.turn_lock.specs.Turns.{Known, of}
use Rattle.client_run.specs.declared.client.ClientText.{ClientText}
use Rattle.client_run.specs.Laws.{Laws}
use Rattle.client_run.specs.Meets.{HasMet, HaveMet, AnswersPart}
use Rattle.client_run.specs.Parts.{MayRun, ClientAnswers}
use Rattle.client_run.proofs.Following.{uncalled, unasked, reg_calls-same, board_calls-same}
use Rattle.client_run.proofs.Fresh.{fresh-posted, fresh-wide, fresh-stands}
use Rattle.client_run.proofs.Turns.{asked-then, asked-more, called-more, locks-then, lines-followed, widest-some}

-- ---- a turn at which nothing is done

-- a pass that had made nothing has seen no entry of its own
met-none : {E : Type 0} (by : E → ℕ) (k l : Known E) → HasMet by k l → k.made ≡ [] → of by l.number l.seen ≡ []
met-none by k l met none = met.own ∙ (met.made ∙ none)

-- ---- a client begins

shared-on : (k l : Known (BoardEntry Ask)) → ((pipe : PipelineState) → SharedStaysKnown k l pipe) → HasMet board_caller k l → LegalBoard l.seen → (pipe : Option PipelineState) → HasShared k pipe → HasShared l pipe
shared-on k l stays met legal None shared = tt
shared-on k l stays met legal (Some pipe) shared = stays pipe met.number met.seen legal shared

pub client-ready : {W : Type 0} (laws : Laws) (registry : SharedRegistry) (board : SharedBoard W Ask Finished) (workers : ℕ) (shared : List Live) (parts : List (List ℕ)) (n : ℕ) (p q : Passes Ask) (s : State)
    → ((k l : Known (BoardEntry Ask)) (pipe : PipelineState) → SharedStaysKnown k l pipe)
    → 17 ≤ n → MayRun workers shared parts n p → HaveMet p q → ArePassesOn board registry q
    → s ≡ record { workers = workers; script_state = start_beside (n - 16) shared; registry = Some q.registry; board = Some q.board } → IsReady registry board s
client-ready laws registry board workers shared parts n p q s stays client may met at is =
    let reg_number : (knows q.registry).number ≡ n = met.registry.number ∙ may.registry.0 in
    let board_number : (knows q.board).number ≡ n = met.board.number ∙ may.board.0 in
    let reg_none = met-none reg_caller (knows p.registry) (knows q.registry) met.registry may.registry.1 in
    let board_none = met-none board_caller (knows p.board) (knows q.board) met.board may.board.1 in
    subst (IsReady registry board) (sym is) (record {
      calls_registry = ap (λ x. Some x) at.1;
      calls_board = ap (λ x. Some x) at.0;
      stands = fresh-stands laws (knows q.registry) (omega (arith, reg_number, client)) reg_none met.registry.own;
      posted = fresh-posted (knows q.board) board_none (n - 16) shared (omega (arith, board_number, client)) met.legal;
      few = may.few;
      wide = fresh-wide (knows q.board) board_none (lists_beside workers);
      shared =
          All-weaker (λ (live : Live). HasShared (knows p.board) live.pipe) (λ (live : Live). HasShared (knows q.board) live.pipe)
          (λ live has. shared-on (knows p.board) (knows q.board) (stays (knows p.board) (knows q.board)) met.board met.legal live.pipe has) shared may.shared_known;
    })

-- ---- its lines, and the end of its input

-- where they were answered the session has only gone on
pub replied-stops : {W : Type 0} (registry : SharedRegistry) (board : SharedBoard W Ask Finished) (width : ℕ) (d : Dialogue) (s t : State) (text text' : List ℕ) → IsReady registry board s → IsReady registry board t
    → Replies width d s t text text' → Stops s t
replied-stops registry board width d s t text text' before ready replies =
    let more = called-more (known s.board) (known t.board) replies.turn.board replies.called in
    record {
      locks = replies.locks;
      registry = asked-more width (known s.registry) (known t.registry) replies.turn.registry replies.asked;
      board = record { more = more; unshut = λ zero_is. ready.posted.unshut (more.number ∙ zero_is) ∙ sym (before.posted.unshut zero_is) };
    }

pub answers-part : Laws → (lines : List Line) (s t u : State) (text text' : List ℕ) (bad : Bool) → IsCaller (known s.registry)
    → Replies (widest lines) (lines_dialogue s.workers s.script_state 1 lines Ends) s t [] text → AnswersEndBeside t u text text' → bad ≡ list_any is_malformed lines → EndsDelivered (known u.board)
    → AnswersPart lines s u text' bad
answers-part laws lines s t u text text' bad caller replies ends bad_is paid =
    let x = replies.turn in
    let y = ends.turn in
    record {
      locks = locks-then s t u replies.locks ends.locks;
      turn = joined x y;
      is =
          ap (λ d. transcript_of d (x.registry ++ y.registry) (x.board ++ y.board)) (lines-followed s.workers 1 s.script_state lines end_beside)
          ∙ (laws.follow (lines_dialogue s.workers s.script_state 1 lines Ends) end_beside x t.script_state y.registry y.board replies.is replies.ends
          ∙ ap (joined x) ends.is);
      asked =
          asked-then laws (widest lines) 1 (widest lines) (known s.registry) (known t.registry) (known u.registry) x.registry y.registry
          (omega arith) (widest-some lines) caller replies.asked ends.asked;
      called = called-then (known s.board) (known t.board) (known u.board) x.board y.board replies.called ends.called;
      ended = ap is_some ends.ends;
      text_is = ends.says ∙ (ap (λ xs. xs ++ text_in y) replies.says ∙ sym (text-joined x y));
      malformed = bad_is;
      paid = paid;
    }

-- ---- over the whole histories

-- the text of a dialogue whose calls the caller made
text-of : (d : Dialogue) (t : Transcript) (caller : ℕ) (r : List RegEntry) (b : List (BoardEntry Ask)) (text : List ℕ) → IsTranscript d t → is_some t.after ≡ true → text ≡ text_in t
    → reg_calls caller r ≡ t.registry → board_calls caller b ≡ t.board → IsTextOf d caller r b text
text-of d t caller r b text is ended told registry board =
    let same : turn_by d caller r b ≡ t = (λ i. transcript_of d (registry i) (board i)) ∙ is in
    record {
      registry = ap (λ (x : Transcript). x.registry) same ∙ sym registry;
      board = ap (λ (x : Transcript). x.board) same ∙ sym board;
      ended = ap (λ (x : Transcript). is_some x.after) same ∙ ended;
      text_is = told ∙ sym (ap text_in same);
    }

module _ (laws : Laws) (workers : ℕ) (shared : List Live) (parts : List (List ℕ)) (n : ℕ) (client : 17 ≤ n) (p q q' : Passes Ask) (may : MayRun workers shared parts n p) (met : HaveMet p q) (s s' : State)
    (is : s ≡ record { workers = workers; script_state = start_beside (n - 16) shared; registry = Some q.registry; board = Some q.board }) (registry_is : s'.registry ≡ Some q'.registry) (board_is : s'.board ≡ Some q'.board) where
  first-registry : known s.registry ≡ knows q.registry
  first-registry = ap (λ (x : State). known x.registry) is

  first-board : known s.board ≡ knows q.board
  first-board = ap (λ (x : State). known x.board) is

  last-registry : known s'.registry ≡ knows q'.registry
  last-registry = ap known registry_is

  last-board : known s'.board ≡ knows q'.board
  last-board = ap known board_is

  registry-number : (known s.registry).number ≡ n
  registry-number = ap (λ k. k.number) first-registry ∙ (met.registry.number ∙ may.registry.0)

  board-number : (known s.board).number ≡ n
  board-number = ap (λ k. k.number) first-board ∙ (met.board.number ∙ may.board.0)

  module _ (lines : List Line) (text : List ℕ) (bad : Bool) (part : AnswersPart lines s s' text bad) where
    registry-none : reg_calls (known s.registry).number (known s.registry).seen ≡ []
    registry-none =
        subst (λ k. reg_calls k.number k.seen ≡ []) (sym first-registry)
        (unasked laws (knows q.registry).number (knows q.registry).seen (met-none reg_caller (knows p.registry) (knows q.registry) met.registry may.registry.1))

    board-none : board_calls (known s.board).number (known s.board).seen ≡ []
    board-none =
        subst (λ k. board_calls k.number k.seen ≡ []) (sym first-board)
        (uncalled laws (knows q.board).number (knows q.board).seen (met-none board_caller (knows p.board) (knows q.board) met.board may.board.1))

    registry-calls : (r : List RegEntry) → OthersFollow reg_caller (known s'.registry) r → reg_calls n r ≡ part.turn.registry
    registry-calls r on =
        ap (λ m. reg_calls m r) (sym (part.asked.number ∙ registry-number))
        ∙ (reg_calls-same laws (known s'.registry) r part.asked.caller.settled on
        ∙ (ap (λ m. reg_calls m (known s'.registry).seen) part.asked.number
        ∙ (part.asked.are.calls_are ∙ ap (λ cs. cs ++ part.turn.registry) registry-none)))

    board-calls : (b : List (BoardEntry Ask)) → OthersFollow board_caller (known s'.board) b → board_calls n b ≡ part.turn.board
    board-calls b on =
        ap (λ m. board_calls m b) (sym (part.called.number ∙ board-number))
        ∙ (board_calls-same laws (known s'.board) b on
        ∙ (part.called.calls_are ∙ ap (λ cs. cs ++ part.turn.board) board-none))

    turn-is : IsTranscript (script_beside workers (start_beside (n - 16) shared) lines) part.turn
    turn-is = subst (λ (x : State). IsTranscript (script_beside x.workers x.script_state lines) part.turn) is part.is

    text-after : (r : List RegEntry) (b : List (BoardEntry Ask)) → OthersFollow reg_caller (known s'.registry) r → OthersFollow board_caller (known s'.board) b → IsClientText workers (n - 16) shared lines r b text
    text-after r b on_r on_b =
        subst (λ m. IsTextOf (script_beside workers (start_beside (n - 16) shared) lines) m r b text) (let same : n ≡ 16 + (n - 16) = omega (arith, client) in same)
        (text-of (script_beside workers (start_beside (n - 16) shared) lines) part.turn n r b text turn-is part.ended part.text_is (registry-calls r on_r) (board-calls b on_b))

    client-answers : ClientAnswers workers (n - 16) shared lines q' text bad
    client-answers = record {
      text_after = λ r b on_r on_b. text-after r b (subst (λ k. OthersFollow reg_caller k r) (sym last-registry) on_r) (subst (λ k. OthersFollow board_caller k b) (sym last-board) on_b);
      malformed = part.malformed;
      own_registry = subst (IsOwn reg_caller) last-registry part.asked.caller.own;
      own_board = subst (IsOwn board_caller) last-board part.paid.own;
      paid = subst EndsDelivered last-board part.paid;
    }

  pub if-answered : {F : Type 0} (lines : List Line) (result : Result ClientText F) → MatchResult result (λ text. AnswersPart lines s s' text.reply.text text.malformed) (λ _. Stops s s')
      → IfOk result (λ text. ClientAnswers workers (n - 16) shared lines q' text.reply.text text.malformed)
  if-answered lines (Ok text) part = client-answers lines text.reply.text text.malformed part
  if-answered lines (Err stop) part = tt

-- ---- its part

pub all-at : {A : Type 0} (P : A → Type 0) (xs : List A) (i : ℕ) (x : A) → All P xs → slice_get xs i ≡ Some x → P x
all-at P xs i x all is = All-contains P xs x all (subst (Contains xs) (get_or_from_slice_get xs i x x is) (Contains-get_or xs i x (slice_get_within xs i x is)))
