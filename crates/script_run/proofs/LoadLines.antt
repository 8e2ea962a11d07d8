-- A load, line by line, and what it leaves.
use Rattle.std.proofs.Common.{◌≡◌, ℕ, Bool, false, Option, zero, suc, ◌+◌, ◌-◌, ◌<◌, List, [], ◌∷◌, ◌++◌, drop, map, Some, None, refl, sym, ap, subst, ◌∙◌, append_assoc, append-nil, arith}
use Rattle.std.specs.Prelude.{slice_get}
use Rattle.std.specs.List.{flat_map}
use Rattle.std.proofs.lemmas.Grind.{flat_map-append}
use Rattle.sha2.specs.Sha256.{sha256}
use Rattle.sha2.specs.Hashers.{Holds256}
use Rattle.sha2.specs.declared.Sha256.{Sha256}
use Rattle.alg_registry.specs.declared.entry.RegEntry.{RegEntry}
use Rattle.board.specs.declared.entry.BoardEntry.{BoardEntry}
use Rattle.dialogues.specs.BoardCalls.{board_calls}
use Rattle.dialogues.specs.Dialogues.{Dialogue, Ends, followed}
use Rattle.dialogues.specs.InTurn.{AreInTurnBy}
use Rattle.dialogues.specs.Lines.{line_dialogue, lines_dialogue}
use Rattle.dialogues.specs.PipelineCommands.{end}
use Rattle.dialogues.specs.RegistryCalls.{reg_calls, AllSettled}
use Rattle.dialogues.specs.Transcripts.{Transcript, IsTranscript, ended, joined, transcript_of}
use Rattle.dialogues.specs.ScriptState.{ScriptState}
use Rattle.dialogues.proofs.Leading.{joined-assoc}
use Rattle.load_mode.specs.Requests.{drawn_request, drawn_requests, asked_for, asked_from}
use Rattle.load_mode.specs.Lines.{opening, request_line, request_lines, load_dialogue}
use Rattle.load_mode.specs.Turns.{bytes_told}
use Rattle.reply_text.specs.declared.answers.Answer.{Answer}
use Rattle.script_session.specs.EndOfInput.{EndsWith}
use Rattle.script_session.specs.PerformedDialogue.{PerformsBy}
use Rattle.script_session.specs.ReplyText.{hands_out}
use Rattle.script_session.specs.States.{State}
use Rattle.script_text.specs.declared.commands.Line.{Line}
use Rattle.recorded_calls.specs.RegistryCalls.{AskedBy}
use Rattle.recorded_calls.specs.Passes.{known}
use Rattle.recorded_calls.specs.Pipelines.{Called}
use Rattle.transforms.specs.declared.ask.Ask.{Ask}
use Rattle.turn_lock.specs.Turns.{Known}
use Rattle.client_texts.proofs.Submitting.{followed-ends}
use Rattle.script_run.specs.Laws.{Laws}
use Rattle.script_run.specs.Loads.{IsHeld, PerformsOn, PerformsOpening, IsLoadTurnAfter}
use Rattle.script_run.specs.Runs.{GoesOn, IsFresh}
use Rattle.script_run.proofs.Following.{reg_calls-same, board_calls-same, in_turn-on}
use Rattle.script_run.proofs.Going.{goes-same, goes-then}

-- ---- a part of a dialogue

abbrev nothing : Transcript
nothing = record { registry = []; board = []; answers = []; after = None }

pub begins : Laws → (whole : Dialogue) (s : State) (hasher : Sha256) → IsFresh s → Holds256 hasher [] → IsHeld whole whole s hasher
unfolding reg_calls board_calls
begins laws whole s hasher fresh empty = record {
  turn = nothing;
  leads = λ r b. refl;
  asked = ap (λ h. reg_calls 0 h) fresh.registry.1;
  settled = subst (λ h. AllSettled (reg_calls 0 h)) (sym fresh.registry.1) tt;
  called = ap (λ h. board_calls 0 h) fresh.board.1;
  in_turn = subst (λ h. AreInTurnBy 1 0 [] [] h) (sym fresh.registry.1) (laws.any_width 1 0 [] [] [] (laws.no_call 0 []));
  caller = fresh.registry.0;
  board_caller = fresh.board.0;
  hashed = empty;
}

-- one turn more
module _ (laws : Laws) (whole d : Dialogue) (later : ScriptState → Dialogue) (s s' : State) (x y : Sha256) (script_state : ScriptState) (u : Transcript) (answers : List Answer) (is : IsTranscript d u) (asked : AskedBy 1 (known s.registry) (known s'.registry) u.registry) (called : Called (known s.board) (known s'.board) u.board)
    (ends : u.after ≡ Some script_state) (says : answers ≡ u.answers) (hashes : (m : List ℕ) → Holds256 x m → Holds256 y (m ++ flat_map bytes_told answers)) (held : IsHeld whole (followed d later) s x) where
  abbrev t : Transcript
  t = held.turn

  abbrev k : Known RegEntry
  k = known s.registry

  abbrev k' : Known RegEntry
  k' = known s'.registry

  abbrev l : Known (BoardEntry Ask)
  l = known s.board

  abbrev l' : Known (BoardEntry Ask)
  l' = known s'.board

  pub turned : IsHeld whole (later script_state) s' y
  turned = record {
    turn = joined t u;
    leads = λ r b.
        (λ i. transcript_of whole (append_assoc t.registry u.registry r i) (append_assoc t.board u.board b i))
        ∙ (held.leads (u.registry ++ r) (u.board ++ b)
        ∙ (ap (joined t) (laws.follow d later u script_state r b is ends) ∙ sym (joined-assoc t u (transcript_of (later script_state) r b))));
    asked = ap (λ n. reg_calls n k'.seen) (sym held.caller) ∙ (asked.are.calls_are ∙ (ap (λ n. reg_calls n k.seen ++ u.registry) held.caller ∙ ap (λ cs. cs ++ u.registry) held.asked));
    settled = subst (λ n. AllSettled (reg_calls n k'.seen)) held.caller asked.are.all_settled;
    called = ap (λ n. board_calls n l'.seen) (sym (called.number ∙ held.board_caller)) ∙ (called.calls_are ∙ (ap (λ n. board_calls n l.seen ++ u.board) held.board_caller ∙ ap (λ cs. cs ++ u.board) held.called));
    in_turn = laws.later_calls 1 0 t.registry u.registry [] k.seen k'.seen held.in_turn (subst (λ n. AreInTurnBy 1 n u.registry k.seen k'.seen) held.caller asked.in_turn);
    caller = asked.number ∙ held.caller;
    board_caller = called.number ∙ held.board_caller;
    hashed =
        subst (Holds256 y) (ap (λ xs. flat_map bytes_told t.answers ++ flat_map bytes_told xs) says ∙ sym (flat_map-append bytes_told t.answers u.answers)) (hashes (flat_map bytes_told t.answers) held.hashed);
  }

-- a line of one look at most
pub line-on : Laws → (width : ℕ) (d : Dialogue) (s s' : State) (x y : Sha256) (none answers : List Answer) → width ≡ 1 → none ≡ [] → PerformsBy width d s s' none answers → ((m : List ℕ) → Holds256 x m → Holds256 y (m ++ flat_map bytes_told answers))
    → (later : ScriptState → Dialogue) → PerformsOn (followed d later) later s s' x y
line-on laws width d s s' x y none answers narrow empty done hashes later = λ whole held.
    let h = done.done in
    turned laws whole d later s s' x y s'.script_state h.turn answers h.is (subst (λ w. AskedBy w (known s.registry) (known s'.registry) h.turn.registry) narrow h.asked) h.called h.ends
    (h.says ∙ ap (λ xs. xs ++ h.turn.answers) empty) hashes held

-- the end
pub end-on : Laws → (s s' : State) (x y : Sha256) (none answers : List Answer) → none ≡ [] → EndsWith s s' none answers → ((m : List ℕ) → Holds256 x m → Holds256 y (m ++ flat_map bytes_told answers))
    → (whole : Dialogue) → IsHeld whole (end s.script_state) s x → IsHeld whole (Ends s.script_state) s' y
end-on laws s s' x y none answers empty e hashes = λ whole held.
    turned laws whole (end s.script_state) Ends s s' x y s.script_state e.turn answers e.is e.asked e.called e.ends (e.says ∙ ap (λ xs. xs ++ e.turn.answers) empty) hashes
    (subst (λ d. IsHeld whole d s x) (sym (followed-ends (end s.script_state))) held)

-- ---- no line of a load collects

abbrev collects_at : Option Line → Bool
collects_at None = false
collects_at (Some line) = hands_out line

opening-collects : (number : ℕ) → collects_at (slice_get opening number) ≡ false
opening-collects zero = refl
opening-collects (suc zero) = refl
opening-collects (suc (suc zero)) = refl
opening-collects (suc (suc (suc zero))) = refl
opening-collects (suc (suc (suc (suc number)))) = refl

pub no_opening_collects : (number : ℕ) (line : Line) → slice_get opening number ≡ Some line → hands_out line ≡ false
no_opening_collects number line at = sym (ap collects_at at) ∙ opening-collects number

-- ---- the requests

-- so many lines from a number on, whose bytes are drawn from a state on
abbrev pub lines_from : ℕ → ℕ → ℕ → List Line
lines_from number state more = map request_line (asked_from number (drawn_requests state more))

pub lines-next : (count number state : ℕ) → number < count → lines_from number state (count - number) ≡ request_line (asked_for number (drawn_request state)) ∷ lines_from (number + 1) (drawn_request state).after (count - (number + 1))
lines-next count number state below =
    let one : count - number ≡ suc (count - (number + 1)) = omega arith in
    ap (λ n. lines_from number state n) one

-- ---- lines, one after another

abbrev LineOn : ℕ → ℕ → Line → State → State → Sha256 → Sha256 → Type 0
LineOn workers n line s s' x y = (later : ScriptState → Dialogue) → PerformsOn (followed (line_dialogue workers s.script_state n line) later) later s s' x y

-- beside as many workers as before
line-with : (workers n : ℕ) (line : Line) (s s' : State) (x y : Sha256) → s.workers ≡ workers → LineOn s.workers n line s s' x y → LineOn workers n line s s' x y
line-with workers n line s s' x y same on = subst (λ w. LineOn w n line s s' x y) same on

-- the same of a line of the opening
opening-with : (workers n : ℕ) (s s' : State) (x y : Sha256) → s.workers ≡ workers → PerformsOpening s.workers n s s' x y → PerformsOpening workers n s s' x y
opening-with workers n s s' x y same on = subst (λ w. PerformsOpening w n s s' x y) same on

-- what is left of the opening from a number on
abbrev OpeningLeft : ℕ → ℕ → (ScriptState → Dialogue) → ScriptState → Dialogue
OpeningLeft workers number later script_state = lines_dialogue workers script_state number (drop number opening) later

opening-step : (workers number : ℕ) (s s' : State) (x y : Sha256) → number < 4 → PerformsOpening workers number s s' x y
    → (later : ScriptState → Dialogue) → PerformsOn (OpeningLeft workers number later s.script_state) (OpeningLeft workers (number + 1) later) s s' x y
opening-step workers zero s s' x y below on later = on (OpeningLeft workers 1 later)
opening-step workers (suc zero) s s' x y below on later = on (OpeningLeft workers 2 later)
opening-step workers (suc (suc zero)) s s' x y below on later = on (OpeningLeft workers 3 later)
opening-step workers (suc (suc (suc zero))) s s' x y below on later = on later
opening-step workers (suc (suc (suc (suc number)))) s s' x y below on later = absurd (omega arith)

-- The session s has held the lines of the opening below a number, and is s' now.
pub record HoldsOpening (s s' : State) (x y : Sha256) (number : ℕ) : Type 0 where
  pub on : (later : ScriptState → Dialogue) → PerformsOn (lines_dialogue s.workers s.script_state 0 opening later) (OpeningLeft s.workers number later) s s' x y
  pub goes : GoesOn s s'

pub opening-begins : (s : State) (x : Sha256) → HoldsOpening s s x x 0
opening-begins s x = record { on = λ later whole held. held; goes = goes-same s }

pub opening-more : (number : ℕ) (s s1 s2 : State) (x x1 x2 : Sha256) → number < 4 → HoldsOpening s s1 x x1 number → PerformsOpening s1.workers number s1 s2 x1 x2 → GoesOn s1 s2 → HoldsOpening s s2 x x2 (number + 1)
opening-more number s s1 s2 x x1 x2 below before on goes = record {
  on = λ later whole held. opening-step s.workers number s1 s2 x1 x2 below (opening-with s.workers number s1 s2 x1 x2 before.goes.locks.workers on) later whole (before.on later whole held);
  goes = goes-then s s1 s2 before.goes goes;
}

pub opening-held : (number : ℕ) (s s' : State) (x y : Sha256) → number ≡ 4 → HoldsOpening s s' x y number → (later : ScriptState → Dialogue) → PerformsOn (lines_dialogue s.workers s.script_state 0 opening later) later s s' x y
opening-held number s s' x y all held later = subst (λ n. PerformsOn (lines_dialogue s.workers s.script_state 0 opening later) (OpeningLeft s.workers n later) s s' x y) all (held.on later)

abbrev pub LeftAt : ℕ → ℕ → ℕ → ℕ → ScriptState → Dialogue
LeftAt workers count number state script_state = lines_dialogue workers script_state number (lines_from number state (count - number)) end

pub requests-more : (workers count n state state' : ℕ) (first : Dialogue) (s s1 s2 : State) (x x1 x2 : Sha256) (line : Line) → n < count → s1.workers ≡ workers → line ≡ request_line (asked_for n (drawn_request state)) → state' ≡ (drawn_request state).after
    → PerformsOn first (LeftAt workers count n state) s s1 x x1 → LineOn s1.workers n line s1 s2 x1 x2 → PerformsOn first (LeftAt workers count (n + 1) state') s s2 x x2
requests-more workers count n state state' first s s1 s2 x x1 x2 line below same is after before on = λ whole held.
    let rest : List Line = lines_from (n + 1) (drawn_request state).after (count - (n + 1)) in
    let lines : lines_from n state (count - n) ≡ line ∷ rest = lines-next count n state below ∙ ap (λ l. l ∷ rest) (sym is) in
    let now : IsHeld whole (followed (line_dialogue workers s1.script_state n line) (λ script_state. lines_dialogue workers script_state (n + 1) rest end)) s1 x1 =
    subst (λ ls. IsHeld whole (lines_dialogue workers s1.script_state n ls end) s1 x1) lines (before whole held) in
    subst (λ g. IsHeld whole (LeftAt workers count (n + 1) g s2.script_state) s2 x2) (sym after)
    (line-with workers n line s1 s2 x1 x2 same on (λ script_state. lines_dialogue workers script_state (n + 1) rest end) whole now)

-- ---- what it leaves

pub done-load : Laws → (workers seed count : ℕ) (script_state : ScriptState) (s : State) (hasher : Sha256) (digest : List ℕ) → IsHeld (load_dialogue workers seed count) (Ends script_state) s hasher → ((m : List ℕ) → Holds256 hasher m → digest ≡ sha256 m)
    → IsLoadTurnAfter workers seed count (known s.registry) (known s.board) digest
done-load laws workers seed count script_state s hasher digest held hashes = λ r b from_r from_b.
    let t = held.turn in
    let k = known s.registry in
    let calls : reg_calls 0 r ≡ t.registry = reg_calls-same laws k r held.caller held.settled from_r ∙ held.asked in
    record {
      turn = joined t (ended script_state);
      is = held.leads [] [];
      registry = append-nil t.registry ∙ sym calls;
      board = append-nil t.board ∙ sym (board_calls-same laws (known s.board) b held.board_caller from_b ∙ held.called);
      ended = cc;
      in_turn = subst (λ cs. AreInTurnBy 1 0 cs [] r) (sym calls) (in_turn-on laws 1 k r t.registry held.caller from_r held.in_turn);
      digest_is = hashes (flat_map bytes_told t.answers) held.hashed ∙ ap (λ xs. sha256 (flat_map bytes_told xs)) (sym (append-nil t.answers));
    }

-- the whole load, from a session that has seen nothing
pub load-done : Laws → (seed count : ℕ) (s s1 s2 s3 : State) (x x1 x2 x3 : Sha256) (digest : List ℕ) → IsFresh s → Holds256 x [] → GoesOn s s1
    → ((later : ScriptState → Dialogue) → PerformsOn (lines_dialogue s.workers s.script_state 0 opening later) later s s1 x x1)
    → PerformsOn (lines_dialogue s1.workers s1.script_state 0 (request_lines seed count) end) end s1 s2 x1 x2
    → ((whole : Dialogue) → IsHeld whole (end s2.script_state) s2 x2 → IsHeld whole (Ends s2.script_state) s3 x3)
    → ((m : List ℕ) → Holds256 x3 m → digest ≡ sha256 m)
    → IsLoadTurnAfter s.workers seed count (known s3.registry) (known s3.board) digest
load-done laws seed count s s1 s2 s3 x x1 x2 x3 digest fresh empty goes opens requests ends hashes =
    let rest : ScriptState → Dialogue = λ script_state. lines_dialogue s.workers script_state 0 (request_lines seed count) end in
    let whole : Dialogue = load_dialogue s.workers seed count in
    let first : IsHeld whole (lines_dialogue s.workers s.script_state 0 opening rest) s x =
    subst (λ script_state. IsHeld whole (lines_dialogue s.workers script_state 0 opening rest) s x) (sym fresh.script_state) (begins laws whole s x fresh empty) in
    let second : IsHeld whole (rest s1.script_state) s1 x1 = opens rest whole first in
    let third : IsHeld whole (end s2.script_state) s2 x2 =
    requests whole (subst (λ w. IsHeld whole (lines_dialogue w s1.script_state 0 (request_lines seed count) end) s1 x1) (sym goes.locks.workers) second) in
    done-load laws s.workers seed count s2.script_state s3 x3 digest (ends whole third) hashes
