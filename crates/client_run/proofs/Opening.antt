-- What the first part leaves.
use Rattle.std.proofs.Common.{◌≡◌, ℕ, ◌≤◌, Bool, List, [], ◌++◌, Some, refl, sym, ap, subst, ◌∙◌}
use Rattle.std.specs.Prelude.{Result, Ok, MatchResult, OnOk}
use Rattle.std.specs.List.{list_any}
use Rattle.alg_registry.specs.Rows.{caller_of as reg_caller}
use Rattle.board.specs.declared.entry.BoardEntry.{BoardEntry}
use Rattle.board.specs.Entries.{caller_of as board_caller}
use Rattle.crew.specs.declared.passes.Passes.{Passes}
use Rattle.dialogues.specs.BoardCalls.{board_calls}
use Rattle.dialogues.specs.Dialogues.{Ends}
use Rattle.dialogues.specs.Lines.{lines_dialogue}
use Rattle.dialogues.specs.RegistryCalls.{reg_calls, AllSettled}
use Rattle.dialogues.specs.SharedTransforms.{share_all}
use Rattle.dialogues.specs.Transcripts.{IsTranscript}
use Rattle.dialogues.specs.ScriptState.{Live, start}
use Rattle.dialogues.specs.Widths.{widest}
use Rattle.script_run.specs.Runs.{AreNew}
use Rattle.script_run.specs.Text.{is_malformed}
use Rattle.script_session.specs.EndOfInput.{LeadsBy}
use Rattle.script_session.specs.PerformedDialogue.{SeesOn}
use Rattle.script_session.specs.Loans.{AreLent, SharesAll}
use Rattle.script_session.specs.Replies.{IsReady, Replies}
use Rattle.script_session.specs.States.{State, owners}
use Rattle.script_text.specs.declared.commands.Line.{Line}
use Rattle.recorded_calls.specs.Passes.{known}
use Rattle.recorded_calls.specs.Pipelines.{Called}
use Rattle.recorded_calls.proofs.Boarding.{called-more}
use Rattle.shared_board.specs.declared.shared.SharedBoard.{SharedBoard}
use Rattle.shared_registry.specs.declared.registry_lock.SharedRegistry.{SharedRegistry}
use Rattle.transforms.specs.declared.ask.Ask.{Ask}
use Rattle.transforms.specs.declared.request.Finished.{Finished}
use Rattle.turn_lock.specs.PassLaws.{IsOwn}
use Rattle.turn_lock.specs.Passes.{knows}
use Rattle.turn_lock.specs.Turns.{Known}
use Rattle.client_run.specs.Parts.{FirstOpens}

-- ---- when its transforms are shared

no-reg-calls : reg_calls 0 [] ≡ []
unfolding reg_calls
no-reg-calls = refl

no-board-calls : board_calls 0 [] ≡ []
unfolding board_calls
no-board-calls = refl

-- what a session gave that shared its transforms
pub shared-of : {A F : Type 0} (value : A → List Live) (lives : List Live) (k l : Known (BoardEntry Ask)) (result : Result A F) (x : A) → result ≡ Ok x
    → MatchResult result (λ y. (value y ≡ lives) × SharesAll lives k l) (λ _. SeesOn k l) → (value x ≡ lives) × SharesAll lives k l
shared-of value lives k l result x is shares = subst (λ r. MatchResult r (λ y. (value y ≡ lives) × SharesAll lives k l) (λ _. SeesOn k l)) is shares

pub own-of : {A F : Type 0} (k : Known (BoardEntry Ask)) (result : Result A F) (x : A) → result ≡ Ok x → OnOk result (IsOwn board_caller k) → IsOwn board_caller k
own-of k result x is own = subst (λ r. OnOk r (IsOwn board_caller k)) is own

-- The session s of these passes answered the lines, and was s' then; and its transforms were shared.
module _ {W : Type 0} (registry : SharedRegistry) (board : SharedBoard W Ask Finished) (workers : ℕ) (p q : Passes Ask) (new : AreNew p) (s s' : State)
    (is : s ≡ record { workers = workers; script_state = start 0; registry = Some p.registry; board = Some p.board }) (registry_is : s'.registry ≡ Some q.registry) (ready : IsReady registry board s')
    (lines : List Line) (text : List ℕ) (replies : Replies (widest lines) (lines_dialogue s.workers s.script_state 1 lines Ends) s s' [] text)
    (shared : List Live) (shares : SharesAll s'.script_state.lives (known s'.board) (knows q.board)) (same : shared ≡ s'.script_state.lives) (own : IsOwn board_caller (knows q.board)) where
  first-registry : known s.registry ≡ knows p.registry
  first-registry = ap (λ (x : State). known x.registry) is

  first-board : known s.board ≡ knows p.board
  first-board = ap (λ (x : State). known x.board) is

  last-registry : known s'.registry ≡ knows q.registry
  last-registry = ap known registry_is

  registry-zero : (known s.registry).number ≡ 0
  registry-zero = ap (λ k. k.number) first-registry ∙ new.registry.0

  registry-none : reg_calls (known s.registry).number (known s.registry).seen ≡ []
  registry-none = (λ i. reg_calls (registry-zero i) ((ap (λ k. k.seen) first-registry ∙ new.registry.1) i)) ∙ no-reg-calls

  board-zero : (known s.board).number ≡ 0
  board-zero = ap (λ k. k.number) first-board ∙ new.board.0

  board-none : board_calls (known s.board).number (known s.board).seen ≡ []
  board-none = (λ i. board_calls (board-zero i) ((ap (λ k. k.seen) first-board ∙ new.board.1) i)) ∙ no-board-calls

  registry-calls : reg_calls 0 (known s'.registry).seen ≡ replies.turn.registry
  registry-calls =
      ap (λ n. reg_calls n (known s'.registry).seen) (sym registry-zero)
      ∙ (replies.asked.are.calls_are ∙ ap (λ cs. cs ++ replies.turn.registry) registry-none)

  registry-settled : AllSettled (reg_calls 0 (known s'.registry).seen)
  registry-settled = subst (λ n. AllSettled (reg_calls n (known s'.registry).seen)) registry-zero replies.asked.are.all_settled

  board-called : Called (known s.board) (knows q.board) (replies.turn.board ++ shares.calls)
  board-called = called-more (known s.board) (known s'.board) (knows q.board) replies.turn.board shares.calls replies.called shares.called

  board-calls : board_calls 0 (knows q.board).seen ≡ replies.turn.board ++ shares.calls
  board-calls =
      ap (λ n. board_calls n (knows q.board).seen) (sym (board-called.number ∙ board-zero))
      ∙ (board-called.calls_are ∙ ap (λ cs. cs ++ (replies.turn.board ++ shares.calls)) board-none)

  session-zero : (known s'.board).number ≡ 0
  session-zero = replies.called.number ∙ board-zero

  pub opens : (bad : Bool) → bad ≡ list_any is_malformed lines → FirstOpens workers lines shared q text bad
  opens bad bad_is = record {
    script_state = s'.script_state;
    turn = replies.turn;
    is = subst (λ (x : State). IsTranscript (lines_dialogue x.workers x.script_state 1 lines Ends) replies.turn) is replies.is;
    makes = replies.ends;
    lives = sym same;
    text_is = replies.says;
    malformed = bad_is;
    registry = sym registry-calls ∙ ap (λ k. reg_calls 0 k.seen) last-registry;
    settled = subst (λ k. AllSettled (reg_calls 0 k.seen)) last-registry registry-settled;
    own_registry = subst (IsOwn reg_caller) last-registry replies.asked.caller.own;
    shares = shares.calls;
    leads = subst (λ ls. LeadsBy (share_all ls) shares.calls []) (sym same) shares.leads;
    board = sym board-calls;
    own_board = own;
    legal = shares.legal;
    lent = subst (λ ls. AreLent ls (knows q.board)) (sym same) shares.lent;
    apart = λ number. subst (λ ls. owners number ls ≤ 1) (sym same) (ready.posted.apart number);
    owned = λ number owns. subst (λ ls. 1 ≤ owners number ls) (sym same) (ready.posted.owned number (shares.owned number owns));
    unshut = shares.unshut session-zero ∙ ready.posted.unshut session-zero;
  }
