-- What the first part and the end of its input print.
use Rattle.std.proofs.Common.{◌≡◌, ℕ, List, [], ◌++◌, Some, refl, sym, ap, subst, ◌∙◌, append-nil, append_assoc}
use Rattle.std.specs.List.{flat_map}
use Rattle.alg_registry.specs.declared.entry.RegEntry.{RegEntry}
use Rattle.alg_registry.specs.Rows.{caller_of as reg_caller}
use Rattle.board.specs.declared.entry.BoardEntry.{BoardEntry}
use Rattle.board.specs.Entries.{caller_of as board_caller}
use Rattle.crew.specs.Peers.{OthersFollow}
use Rattle.dialogues.specs.BoardCalls.{BoardCall, board_calls}
use Rattle.dialogues.specs.Dialogues.{Ends}
use Rattle.dialogues.specs.Lines.{lines_dialogue}
use Rattle.dialogues.specs.PipelineCommands.{end as ending_of}
use Rattle.dialogues.specs.RegistryCalls.{reg_calls, AllSettled}
use Rattle.dialogues.specs.SharedTransforms.{share_all, closing}
use Rattle.dialogues.specs.Texts.{AreFirstTexts}
use Rattle.dialogues.specs.Transcripts.{Transcript, IsTranscript, joined, transcript_of, text_in}
use Rattle.dialogues.specs.ScriptState.{ScriptState, Live, start}
use Rattle.reply_text.specs.Answers.{text_of}
use Rattle.reply_text.specs.declared.answers.Answer.{Answer}
use Rattle.script_text.specs.declared.commands.Line.{Line}
use Rattle.script_session.specs.EndOfInput.{part, LeadsBy}
use Rattle.transforms.specs.declared.ask.Ask.{Ask}
use Rattle.turn_lock.specs.Turns.{Known}
use Rattle.client_run.specs.Laws.{Laws}
use Rattle.client_run.proofs.Following.{board_calls-same, reg_calls-same}

-- the end of the first one's input, which shares first
module _ (script_state : ScriptState) (shared : List Live) (shares calls : List BoardCall) (said : List Answer) (lives : script_state.lives ≡ shared) (leads : LeadsBy (share_all shared) shares [])
    (is : IsTranscript (ending_of script_state) (record { registry = []; board = calls; answers = said; after = Some script_state })) where
  abbrev last-turn : Transcript
  last-turn = record { registry = []; board = shares ++ calls; answers = said; after = Some script_state }

  pub closes : IsTranscript (closing script_state) last-turn
  closes =
      ap (λ ls. transcript_of (share_all ls (ending_of script_state)) [] (shares ++ calls)) lives
      ∙ (leads (ending_of script_state) [] calls ∙ ap (λ t. joined (part shares []) t) is)

module _ (laws : Laws) (workers : ℕ) (lines : List Line) (r : List RegEntry) (b : List (BoardEntry Ask)) (kr : Known RegEntry) (kb m l : Known (BoardEntry Ask)) where
  registry-zero : kr.number ≡ 0 → AllSettled (reg_calls 0 kr.seen) → OthersFollow reg_caller kr r → reg_calls 0 r ≡ reg_calls 0 kr.seen
  registry-zero is settled others = subst (λ n. AllSettled (reg_calls n kr.seen) → reg_calls n r ≡ reg_calls n kr.seen) is (λ s. reg_calls-same laws kr r s others) settled

  board-zero : kb.number ≡ 0 → OthersFollow board_caller kb m.seen → board_calls 0 m.seen ≡ board_calls 0 kb.seen
  board-zero is others = subst (λ n. board_calls n m.seen ≡ board_calls n kb.seen) is (board_calls-same laws kb m.seen others)

  pub first-texts : (script_state : ScriptState) (shared : List Live) (turn : Transcript) (shares calls : List BoardCall) (said : List Answer) (opening ending : List ℕ)
      → IsTranscript (lines_dialogue workers (start 0) 1 lines Ends) turn → turn.after ≡ Some script_state → script_state.lives ≡ shared → opening ≡ text_in turn
      → turn.registry ≡ reg_calls 0 kr.seen → AllSettled (reg_calls 0 kr.seen) → kr.number ≡ 0 → OthersFollow reg_caller kr r
      → LeadsBy (share_all shared) shares [] → turn.board ++ shares ≡ board_calls 0 kb.seen → kb.number ≡ 0 → OthersFollow board_caller kb m.seen
      → m.number ≡ 0 → l.number ≡ 0 → board_calls l.number l.seen ≡ board_calls m.number m.seen ++ calls → b ≡ l.seen
      → IsTranscript (ending_of script_state) (record { registry = []; board = calls; answers = said; after = Some script_state }) → ending ≡ flat_map text_of said
      → AreFirstTexts workers lines script_state r b opening ending
  first-texts script_state shared turn shares calls said opening ending is makes lives opening_is registry settled kr_zero others_r leads board kb_zero others_b m_zero l_zero called whole ends ending_is = record {
    first = turn;
    last = last-turn script_state shared shares calls said lives leads ends;
    is_first = is;
    makes = makes;
    is_last = closes script_state shared shares calls said lives leads ends;
    ended = refl;
    registry = append-nil turn.registry ∙ (registry ∙ sym (registry-zero kr_zero settled others_r));
    board =
        sym (append_assoc turn.board shares calls)
        ∙ (ap (λ cs. cs ++ calls) (board ∙ (sym (board-zero kb_zero others_b) ∙ ap (λ n. board_calls n m.seen) (sym m_zero)))
        ∙ (sym called ∙ ((λ i. board_calls (l_zero i) (sym whole i)))));
    opening_is = opening_is;
    ending_is = ending_is;
  }
