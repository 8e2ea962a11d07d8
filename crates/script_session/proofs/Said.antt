-- RequestLines, and the end of input, whose text goes straight into a reply.
use Rattle.std.proofs.Common.{◌≡◌, ℕ, ◌+◌, ◌<◌, ◌≤◌, Bool, true, false, List, [], ◌∷◌, ◌++◌, length, map, Some, Result, Ok, Err, OnOk, refl, sym, ap, ◌∙◌, append-nil, append_assoc, slice_index_or}
use Rattle.std.specs.Prelude.{◌==◌, ◌&&◌, if◌then◌else◌, filter, OnErr, MatchResult}
use Rattle.std.specs.List.{flat_map}
use Rattle.std.proofs.Math.ListN.{set}
use Rattle.std.proofs.lemmas.Grind.{flat_map-append}
use Rattle.std.proofs.lemmas.List.Elements.{filter-append}
use Rattle.kc_base.specs.declared.callback_list.Callback.{Callback}
use Rattle.kc_base.specs.declared.callback_list.Callback.TheVariants as callback
use Rattle.board.specs.declared.entry.BoardEntry.{BoardEntry}
use Rattle.board.specs.Allowance.{accepted_by}
use Rattle.board.specs.HandedOut.{completions}
use Rattle.board.specs.declared.board_core.BoardErr.{BoardErr}
use Rattle.board.specs.declared.board_core.BoardErr.TheVariants as board_err
use Rattle.board.specs.Legal.{LegalBoard}
use Rattle.transforms.specs.declared.ask.Ask.{Ask}
use Rattle.transforms.specs.declared.request.Finished.{Finished}
use Rattle.transforms.specs.declared.request.Finished.TheVariants.{Bytes, BadMsg, Invalid}
use Rattle.reply_text.specs.Answers.{text_of}
use Rattle.reply_text.specs.declared.answers.Answer.{Answer}
use Rattle.reply_text.specs.declared.answers.Answer.TheVariants as said
use Rattle.reply_text.specs.declared.origin.Origin.{Origin}
use Rattle.turn_lock.specs.Turns.{Known}
use Rattle.dialogues.specs.BoardCalls.{Goes, Collects}
use Rattle.dialogues.specs.Dialogues.{Dialogue, says}
use Rattle.dialogues.specs.PipelineCommands.{drains_at_end, drain_all, notice_said, end_said}
use Rattle.dialogues.specs.ScriptState.{ScriptState, Live, PipelineState, live_of}
use Rattle.recorded_calls.specs.Bounds.{AreWithin}
use Rattle.recorded_calls.specs.Passes.{known}
use Rattle.recorded_calls.specs.Pipelines.{Called, Changed, Unchanged, Polled, Drained, notice_by}
use Rattle.recorded_calls.proofs.Boarding.{kept-same, called-more}
use Rattle.script_session.specs.EndOfInput.{Moves, PipelinesMatchState}
use Rattle.script_session.specs.PerformedDialogue.{Performs}
use Rattle.script_session.specs.Keyed.{delivering}
use Rattle.script_session.specs.ReplyText.{SaysFor, BreaksFor, SaysBy, BreaksOff, SaysMove, SaysMoves, is_told, call_says, Tells, SaysTold, collects, collected_said, Collected}
use Rattle.script_session.specs.States.{State, HasPipe, ReferencesMatch, PipelinesMatch}
use Rattle.script_session.specs.CallbackText.{callback_said}
use Rattle.script_session.proofs.Breaking.{stops-none}
use Rattle.script_session.proofs.Ended.{drains-last}
use Rattle.script_session.proofs.Leading.{drain-more}
use Rattle.script_session.proofs.Moving.{OnTheWay, sets-out, goes-further, all-moved}
use Rattle.script_session.proofs.Piped.{says-for, said-is, collect-holds}
use Rattle.script_session.proofs.Rooms.{flat-one, flat-more}

-- it says what is left to say, or memory is wanting and it says nothing
pub or-breaks : {S A : Type 0} (result : Result A S) {Says Unsaid Performs Breaks : Type 0} → OnOk result Says → OnErr result Unsaid → (Says → Performs) → (Unsaid → Breaks) → MatchResult result (λ _. Performs) (λ _. Breaks)
or-breaks (Ok done) says unsaid holds breaks = holds says
or-breaks (Err stop) says unsaid holds breaks = breaks unsaid

pub on-err : {S A : Type 0} (result : Result A S) {P : Type 0} → P → OnErr result P
on-err (Ok done) p = tt
on-err (Err stop) p = p

pub breaks-same : (k : Known (BoardEntry Ask)) (text text' : List ℕ) → LegalBoard k.seen → text' ≡ text → BreaksFor k k text text'
breaks-same k text text' legal e = record { called = (kept-same k legal).called; unshut = λ zero_is. refl; says = e }

pub breaks-kept : (k l : Known (BoardEntry Ask)) (text text' : List ℕ) → Unchanged k l → text' ≡ text → BreaksFor k l text text'
breaks-kept k l text text' kept e = record { called = kept.called; unshut = kept.unshut; says = e }

-- ---- one answer

pub one-says : (d : ScriptState → Dialogue) (live : Live) (k : Known (BoardEntry Ask)) (answer : Answer) (text text' : List ℕ) → HasPipe k live.pipe → LegalBoard k.seen
    → ((script_state : ScriptState) → live_of script_state live.label ≡ Some live → PipelinesMatch script_state k → d script_state ≡ says script_state answer) → text' ≡ text ++ text_of answer → SaysFor d live live k k text text'
one-says d live k answer text text' on legal is e =
    record { said = answer ∷ []; held = says-for d live k answer [] (answer ∷ []) on legal is refl; says = e ∙ ap (λ x. text ++ x) (sym (flat-one answer)) }

-- ---- callbacks, and an answer behind them

pub told-text : (lines : List Origin) (callbacks : List (Callback Finished)) (answer : Answer) (text a b c : List ℕ) → a ≡ text → b ≡ a ++ flat_map text_of (map (callback_said lines) callbacks) → c ≡ b ++ text_of answer
    → c ≡ text ++ flat_map text_of (map (callback_said lines) callbacks ++ answer ∷ [])
told-text lines callbacks answer text a b c first middle last =
    let told = map (callback_said lines) callbacks in
    last
    ∙ (ap (λ x. x ++ text_of answer) (middle ∙ ap (λ x. x ++ flat_map text_of told) first)
    ∙ (append_assoc text (flat_map text_of told) (text_of answer) ∙ ap (λ x. text ++ x) (sym (flat-more told answer))))

pub collect-says : (waits : Bool) (k l : Known (BoardEntry Ask)) (live live' : Live) (pipe : PipelineState) (n count : ℕ) (callbacks : List (Callback Finished)) (all : Bool) (text a b text' : List ℕ)
    → live.pipe ≡ Some pipe → (waits && pipe.held) ≡ false → (waits ≡ true → all ≡ true) → Polled k l pipe callbacks all → count ≡ completions callbacks → live' ≡ delivering live count
    → a ≡ text → b ≡ a ++ flat_map text_of (map (callback_said pipe.lines) callbacks) → text' ≡ b ++ text_of (collected_said n waits count)
    → SaysFor (λ script_state. collects waits script_state n live.label) live live' k l text text'
collect-says waits k l live live' pipe n count callbacks all text a b text' has free whole polled counts live_is first middle last =
    let answers : List Answer = map (callback_said pipe.lines) callbacks ++ collected_said n waits count ∷ [] in
    record {
      said = answers;
      held = collect-holds waits k l live live' pipe n count callbacks all [] answers has free whole polled counts live_is refl;
      says = told-text pipe.lines callbacks (collected_said n waits count) text a b text' first middle last;
    }

-- what a poll collects, and what a drain does
pub polled-collected : {A : Type 0} (result : Result A BoardErr) (waits : Bool) (k l : Known (BoardEntry Ask)) (pipe : PipelineState) (had has : List (Callback Finished)) → waits ≡ false
    → MatchResult result (λ _. (callbacks : List (Callback Finished)) × (all : Bool) × (has ≡ had ++ callbacks) × Polled k l pipe callbacks all × AreWithin (length pipe.lines) (accepted_by k.number k.seen) callbacks) (λ e. (e ≡ board_err.Memory) × (has ≡ had) × Unchanged k l)
    → MatchResult result (λ _. Collected waits k l pipe had has) (λ _. Unchanged k l)
polled-collected (Ok done) waits k l pipe had has off d =
    record { callbacks = d.0; all = d.1; whole = λ yes. absurd (let both : true ≡ false = sym yes ∙ off in cc); added = d.2; polled = d.3; within = d.4 }
polled-collected (Err e) waits k l pipe had has off kept = kept.2

pub drained-collected : {A : Type 0} (result : Result A BoardErr) (waits : Bool) (k l : Known (BoardEntry Ask)) (pipe : PipelineState) (had has : List (Callback Finished))
    → MatchResult result (λ _. (callbacks : List (Callback Finished)) × (has ≡ had ++ callbacks) × Drained k l pipe callbacks × (pipe.delivered + completions callbacks ≡ length pipe.lines) × AreWithin (length pipe.lines) (accepted_by k.number k.seen) callbacks) (λ e. (e ≡ board_err.Memory) × (has ≡ had) × Unchanged k l)
    → MatchResult result (λ _. Collected waits k l pipe had has) (λ _. Unchanged k l)
drained-collected (Ok done) waits k l pipe had has d = record { callbacks = d.0; all = true; whole = λ yes. refl; added = d.1; polled = d.2; within = d.4 }
drained-collected (Err e) waits k l pipe had has kept = kept.2

-- ---- the last drain

pub last-says : (k l : Known (BoardEntry Ask)) (live live' : Live) (pipe : PipelineState) (count : ℕ) (callbacks : List (Callback Finished)) (text a b text' : List ℕ)
    → live.pipe ≡ Some pipe → Drained k l pipe callbacks → count ≡ completions callbacks → live' ≡ delivering live count
    → a ≡ text → b ≡ a ++ flat_map text_of (map (callback_said pipe.lines) callbacks) → text' ≡ b ++ flat_map text_of (end_said live.label count)
    → SaysMove (drains_at_end live.label live.pipe) live live' k l text text'
last-says k l live live' pipe count callbacks text a b text' has drained counts live_is first middle last =
    let told : List Answer = map (callback_said pipe.lines) callbacks in
    let tail : List Answer = end_said live.label count in
    record {
      said = told ++ tail;
      moves = drains-last k l live live' pipe count callbacks [] (told ++ tail) has drained counts live_is refl;
      says =
          last
          ∙ (ap (λ x. x ++ flat_map text_of tail) (middle ∙ ap (λ x. x ++ flat_map text_of told) first)
          ∙ (append_assoc text (flat_map text_of told) (flat_map text_of tail) ∙ ap (λ x. text ++ x) (sym (flat_map-append text_of told tail))));
    }

pub last-stays : (live : Live) (k : Known (BoardEntry Ask)) (text text' : List ℕ) (moves : Moves (drains_at_end live.label live.pipe) live live k k [] []) → text' ≡ text → SaysMove (drains_at_end live.label live.pipe) live live k k text text'
last-stays live k text text' moves e = record { said = []; moves = moves; says = e ∙ sym (append-nil text) }

-- ---- what the collects handed out is told

pub tells-nothing : (k l : Known (BoardEntry Ask)) → Called k l [] → Tells k l []
tells-nothing k l called = record { calls = []; called = called; whole = refl }

pub tells-go : (k l : Known (BoardEntry Ask)) (pipe pipe' : PipelineState) → Changed k l pipe pipe' (Goes pipe.number ∷ []) [] → Tells k l []
tells-go k l pipe pipe' changed = record { calls = Goes pipe.number ∷ []; called = changed.called; whole = refl }

all-told : (lines : List Origin) (callbacks : List (Callback Finished)) → filter is_told (map (callback_said lines) callbacks) ≡ map (callback_said lines) callbacks
all-told lines [] = refl
all-told lines (callback.Started n ∷ xs) = ap (λ rest. callback_said lines (callback.Started n) ∷ rest) (all-told lines xs)
all-told lines (callback.Done n (Bytes made) ∷ xs) = ap (λ rest. callback_said lines (callback.Done n (Bytes made)) ∷ rest) (all-told lines xs)
all-told lines (callback.Done n BadMsg ∷ xs) = ap (λ rest. callback_said lines (callback.Done n BadMsg) ∷ rest) (all-told lines xs)
all-told lines (callback.Done n Invalid ∷ xs) = ap (λ rest. callback_said lines (callback.Done n Invalid) ∷ rest) (all-told lines xs)

end-untold : (label : List ℕ) (count : ℕ) (none : Bool) → filter is_told (if none then [] else said.End label count ∷ []) ≡ []
end-untold label count true = refl
end-untold label count false = refl

pub tells-last : (k l : Known (BoardEntry Ask)) (pipe : PipelineState) (label : List ℕ) (count : ℕ) (callbacks : List (Callback Finished)) → Drained k l pipe callbacks
    → Tells k l (map (callback_said pipe.lines) callbacks ++ end_said label count)
tells-last k l pipe label count callbacks drained =
    let told : List Answer = map (callback_said pipe.lines) callbacks in
    let notices = map (notice_by pipe.lines) callbacks in
    record {
      calls = Collects pipe.number (record { notices = notices; all_done = true }) ∷ [];
      called = drained.called;
      whole =
          filter-append is_told told (end_said label count)
          ∙ (ap (λ x. filter is_told told ++ x) (end-untold label count (count == 0))
          ∙ (append-nil (filter is_told told) ∙ (all-told pipe.lines callbacks ∙ (sym (said-is pipe.lines callbacks) ∙ sym (append-nil (map notice_said notices))))));
    }

pub tells-more : (k l m : Known (BoardEntry Ask)) (before after : List Answer) → Tells k l before → Tells l m after → Tells k m (before ++ after)
tells-more k l m before after first later =
    record {
      calls = first.calls ++ later.calls;
      called = called-more k l m first.calls later.calls first.called later.called;
      whole =
          filter-append is_told before after
          ∙ (ap (λ x. x ++ filter is_told after) first.whole ∙ (ap (λ x. flat_map call_says first.calls ++ x) later.whole ∙ sym (flat_map-append call_says first.calls later.calls)));
    }

pub told-nothing : (k l : Known (BoardEntry Ask)) (text text' : List ℕ) → Called k l [] → text' ≡ text → SaysTold k l text text'
told-nothing k l text text' called e = record { said = []; tells = tells-nothing k l called; says = e ∙ sym (append-nil text) }

pub told-last : (k l : Known (BoardEntry Ask)) (pipe : PipelineState) (label : List ℕ) (count : ℕ) (callbacks : List (Callback Finished)) (text a b text' : List ℕ) → Drained k l pipe callbacks
    → a ≡ text → b ≡ a ++ flat_map text_of (map (callback_said pipe.lines) callbacks) → text' ≡ b ++ flat_map text_of (end_said label count) → SaysTold k l text text'
told-last k l pipe label count callbacks text a b text' drained first middle last =
    let told : List Answer = map (callback_said pipe.lines) callbacks in
    let tail : List Answer = end_said label count in
    record {
      said = told ++ tail;
      tells = tells-last k l pipe label count callbacks drained;
      says =
          last
          ∙ (ap (λ x. x ++ flat_map text_of tail) (middle ∙ ap (λ x. x ++ flat_map text_of told) first)
          ∙ (append_assoc text (flat_map text_of told) (flat_map text_of tail) ∙ ap (λ x. text ++ x) (sym (flat_map-append text_of told tail))));
    }

pub told-more : (k l m : Known (BoardEntry Ask)) (text a text' : List ℕ) → SaysTold k l text a → SaysTold l m a text' → SaysTold k m text text'
told-more k l m text a text' first later =
    record {
      said = first.said ++ later.said;
      tells = tells-more k l m first.said later.said first.tells later.tells;
      says =
          later.says
          ∙ (ap (λ x. x ++ flat_map text_of later.said) first.says
          ∙ (append_assoc text (flat_map text_of first.said) (flat_map text_of later.said) ∙ ap (λ x. text ++ x) (sym (flat_map-append text_of first.said later.said))));
    }

pub told-first : (k l : Known (BoardEntry Ask)) (text : List ℕ) → Tells k l [] → SaysTold k l text text
told-first k l text tells = record { said = []; tells = tells; says = sym (append-nil text) }

-- the queues that were let go first told nothing
pub told-after : (k l m : Known (BoardEntry Ask)) (text text' : List ℕ) → Tells k l [] → SaysTold l m text text' → SaysTold k m text text'
told-after k l m text text' first later = record { said = later.said; tells = tells-more k l m [] later.said first later.tells; says = later.says }

-- ---- a session's states

pub says-by : (d : Dialogue) (s s' : State) (answer : Answer) (text text' : List ℕ) → Performs d s s' [] (answer ∷ []) → text' ≡ text ++ text_of answer → SaysBy 1 d s s' text text'
says-by d s s' answer text text' held e = record { said = answer ∷ []; held = held; says = e ∙ ap (λ x. text ++ x) (sym (flat-one answer)) }

-- ---- a loop over all transforms

-- the first so many were drained, and the text of what they handed out was added
pub record SaidSoFar (i : ℕ) (lives now : List Live) (k l : Known (BoardEntry Ask)) (text text' : List ℕ) : Type 0 where
  pub said : List Answer
  pub way : OnTheWay drain_all i lives now k l [] said
  pub says : text' ≡ text ++ flat_map text_of said
  pub told : SaysTold k l text text'

pub says-out : (lives : List Live) (k : Known (BoardEntry Ask)) (text : List ℕ) → PipelinesMatchState lives k → LegalBoard k.seen → SaidSoFar 0 lives lives k k text text
says-out lives k text are legal =
    record {
      said = [];
      way = sets-out drain_all lives k [] (λ rest. refl) are legal;
      says = sym (append-nil text);
      told = told-nothing k k text text (kept-same k legal).called refl;
    }

-- the answers before a part's own
moves-behind : (dialogue : Dialogue → Dialogue) (live live' : Live) (k l : Known (BoardEntry Ask)) (before said : List Answer) → Moves dialogue live live' k l [] said → Moves dialogue live live' k l before (before ++ said)
moves-behind dialogue live live' k l before said moves =
    record { calls = moves.calls; said = moves.said; changes = moves.changes; place = moves.place; leads = moves.leads; says = ap (λ x. before ++ x) moves.says }

pub says-further : (i : ℕ) (lives now now' : List Live) (live live' : Live) (k l l' : Known (BoardEntry Ask)) (text a text' : List ℕ) → SaidSoFar i lives now k l text a → i < length now → live ≡ slice_index_or now i live → now' ≡ set now i live'
    → SaysMove (drains_at_end live.label live.pipe) live live' l l' a text' → SaysTold l l' a text' → SaidSoFar (i + 1) lives now' k l' text text'
says-further i lives now now' live live' k l l' text a text' saying within here set_to move told =
    let one : Live → Dialogue → Dialogue = λ x. drains_at_end x.label x.pipe in
    record {
      said = saying.said ++ move.said;
      way = goes-further drain_all one drain-more lives now i live live' k l l' [] saying.said (saying.said ++ move.said) saying.way within here now' set_to
          (moves-behind (drains_at_end live.label live.pipe) live live' l l' saying.said move.said move.moves);
      says =
          move.says
          ∙ (ap (λ x. x ++ flat_map text_of move.said) saying.says
          ∙ (append_assoc text (flat_map text_of saying.said) (flat_map text_of move.said) ∙ ap (λ x. text ++ x) (sym (flat_map-append text_of saying.said move.said))));
      told = told-more k l l' text a text' saying.told told;
    }

pub says-all : (i : ℕ) (lives now : List Live) (k l : Known (BoardEntry Ask)) (text text' : List ℕ) → SaidSoFar i lives now k l text text' → length now ≤ i → SaysMoves (drain_all lives) lives now k l text text'
says-all i lives now k l text text' saying past =
    record { said = saying.said; moves = all-moved drain_all i lives now k l [] saying.said saying.way past; says = saying.says }

pub breaks-off_same : (d : Dialogue) (s : State) (text text' : List ℕ) → ReferencesMatch s.script_state.lives (known s.registry) → PipelinesMatch s.script_state (known s.board) → text' ≡ text → BreaksOff d s s text text'
breaks-off_same d s text text' stands posted e = record { stops = stops-none d s stands; called = (kept-same (known s.board) posted.legal).called; says = e }
