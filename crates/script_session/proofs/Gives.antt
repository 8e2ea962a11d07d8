-- Requests of a transform that several scripts share.
use Rattle.std.proofs.Common.{◌≡◌, ℕ, ◌+◌, Bool, true, false, cond, List, [], ◌∷◌, ◌++◌, length, Option, Some, None, refl, sym, ap, subst, ◌∙◌, append-nil, length-append, zero-add, arith}
use Rattle.std.specs.Prelude.{find, All, sum_by}
use Rattle.std.proofs.lemmas.Slice.Eq.{bytes_eq-Decides}
use Rattle.std.proofs.lemmas.List.Elements.{All-nil, All-cons, All-head, All-tail}
use Rattle.std.proofs.lemmas.List.Sums.{sum_by-append}
use Rattle.alg_registry.specs.declared.entry.RegEntry.{RegEntry}
use Rattle.board.specs.declared.entry.BoardEntry.{BoardEntry}
use Rattle.board.specs.declared.entry.Entered.{Entered}
use Rattle.board.specs.declared.entry.Entered.TheVariants.{InProgress, Busy, NoSpace}
use Rattle.board.specs.Allowance.{IsAllowed, accepted_by}
use Rattle.board.specs.Legal.{IsNoWorker, LegalBoard}
use Rattle.kc_base.specs.declared.error_numbers.Errno.TheVariants.{EBUSY, EINPROGRESS, ENOENT, ENOSPC}
use Rattle.reply_text.specs.declared.answers.Answer.{Answer}
use Rattle.reply_text.specs.declared.answers.Answer.TheVariants as said
use Rattle.transforms.specs.declared.ask.Ask.{Ask}
use Rattle.transforms.specs.AskValue.{ask_size}
use Rattle.turn_lock.specs.Turns.{Known, StartsWith}
use Rattle.dialogues.specs.BoardCalls.{BoardCall, Submits, Enqueues, asked_by}
use Rattle.dialogues.specs.AllocAndFree.{lists_beside}
use Rattle.dialogues.specs.Dialogues.{Dialogue, says, for_live, with_either}
use Rattle.dialogues.specs.First.{BeginsBy}
use Rattle.dialogues.specs.RequestCommands.{requests_in, hands_in}
use Rattle.dialogues.specs.Transcripts.{Transcript, IsTranscript}
use Rattle.dialogues.specs.ScriptState.{ScriptState, Live, PipelineState, is_of, live_of, shared_of, either, either_of, with_live, replaced}
use Rattle.recorded_calls.specs.Pipelines.{Unchanged, entered_asks, with_ask}
use Rattle.recorded_calls.specs.SharedCalls.{Gave, SharedStaysKnown}
use Rattle.recorded_calls.specs.Passes.{RegPass, BoardPass, known, lock_of}
use Rattle.recorded_calls.proofs.Boarding.{kept-same}
use Rattle.script_session.specs.TransformChanges.{counting, asks_if}
use Rattle.script_session.specs.PerformedDialogue.{Done, Performs, StopsIn}
use Rattle.script_session.specs.Offers.{IsAnswerOf, offer_call, entered_said}
use Rattle.script_session.specs.SharedTransforms.{OffersShared, GivesFor, StopsGiving}
use Rattle.script_session.specs.States.{State, counted, HasPipe, HasShared, AreShared, MadeWide, PipelinesMatch, ReferencesMatch}
use Rattle.script_session.proofs.Arms.{viewed}
use Rattle.script_session.proofs.Changing.{IsOn}
use Rattle.script_session.proofs.Piped.{answered, counting-none, request-enters, turn_with, accepted-is}
use Rattle.script_session.proofs.Rules.{asked-nothing}
use Rattle.script_session.proofs.Stopping.{board-stops, giving-held}
use Rattle.script_session.proofs.Widths.{wide-gave}

-- ---- the transform of a label

find-first : (label : List ℕ) (x live : Live) (xs : List Live) (b : Bool) → is_of label x ≡ b → cond b (Some x) (find (is_of label) xs) ≡ Some live → (find (is_of label) xs ≡ Some live → is_of label live ≡ true) → is_of label live ≡ true
find-first label x live xs true is e go = (let same : x ≡ live = cc in subst (λ l. is_of label l ≡ true) same is)
find-first label x live xs false is e go = go e

find-is : (label : List ℕ) (live : Live) (xs : List Live) → find (is_of label) xs ≡ Some live → is_of label live ≡ true
find-is label live [] e = absurd cc
find-is label live (x ∷ xs) e = find-first label x live xs (is_of label x) refl e (find-is label live xs)

-- it has the label
pub find-label : (label : List ℕ) (live : Live) (xs : List Live) → find (is_of label) xs ≡ Some live → live.label ≡ label
find-label label live xs e = let d = bytes_eq-Decides live.label label in d.0 (find-is label live xs e)

all-first : (k : Known (BoardEntry Ask)) (label : List ℕ) (x live : Live) (xs : List Live) (b : Bool) → cond b (Some x) (find (is_of label) xs) ≡ Some live → HasShared k x.pipe → (find (is_of label) xs ≡ Some live → HasShared k live.pipe) → HasShared k live.pipe
all-first k label x live xs true e on go = (let same : x ≡ live = cc in subst (λ (l : Live). HasShared k l.pipe) same on)
all-first k label x live xs false e on go = go e

-- its pipeline is shared
pub find-shared : (k : Known (BoardEntry Ask)) (label : List ℕ) (live : Live) (xs : List Live) → find (is_of label) xs ≡ Some live → AreShared xs k → HasShared k live.pipe
find-shared k label live [] e all = absurd cc
find-shared k label live (x ∷ xs) e all =
    all-first k label x live xs (is_of label x) e (All-head (λ (l : Live). HasShared k l.pipe) x xs all) (λ found. find-shared k label live xs found (All-tail (λ (l : Live). HasShared k l.pipe) x xs all))

-- whoever goes on, what is shared stays so
pub shared-stay : ((k l : Known (BoardEntry Ask)) (pipe : PipelineState) → SharedStaysKnown k l pipe) → (k l : Known (BoardEntry Ask)) (lives : List Live) → l.number ≡ k.number → StartsWith l.seen k.seen → LegalBoard l.seen → AreShared lives k → AreShared lives l
shared-stay law k l [] same starts legal all = All-nil (λ (x : Live). HasShared l x.pipe)
shared-stay law k l (x ∷ xs) same starts legal all =
    All-cons (λ (x : Live). HasShared l x.pipe) x xs (stays x.pipe (All-head (λ (x : Live). HasShared k x.pipe) x xs all))
    (shared-stay law k l xs same starts legal (All-tail (λ (x : Live). HasShared k x.pipe) x xs all))
  where
    stays : (pipe : Option PipelineState) → HasShared k pipe → HasShared l pipe
    stays None on = tt
    stays (Some pipe) on = law k l pipe same starts legal on

pub either-shared : (script_state : ScriptState) (label : List ℕ) (o : Option Live) → live_of script_state label ≡ None → shared_of script_state label ≡ o → either_of script_state label ≡ o
either-shared script_state label o none is = ap (λ own. either own (shared_of script_state label)) none ∙ is

-- ---- the state keeps its transforms

replaced-first : (live x : Live) (xs : List Live) (b : Bool) → cond b (Some x) (find (is_of live.label) xs) ≡ None → (find (is_of live.label) xs ≡ None → replaced live xs ≡ xs) → cond b (live ∷ xs) (x ∷ replaced live xs) ≡ x ∷ xs
replaced-first live x xs true e go = absurd cc
replaced-first live x xs false e go = ap (λ ls. x ∷ ls) (go e)

replaced-none : (live : Live) (lives : List Live) → find (is_of live.label) lives ≡ None → replaced live lives ≡ lives
replaced-none live [] e = refl
replaced-none live (x ∷ xs) e = replaced-first live x xs (is_of live.label x) e (replaced-none live xs)

with-none : (script_state : ScriptState) (live new : Live) → new.label ≡ live.label → live_of script_state live.label ≡ None → with_live script_state new ≡ script_state
with-none script_state live new same none =
    ap (λ ls. record script_state { lives = ls }) (replaced-none new script_state.lives (subst (λ l. find (is_of l) script_state.lives ≡ None) (sym same) none))

-- ---- what is known of the board

pub gave-kept : (k l : Known (BoardEntry Ask)) → Unchanged k l → Gave k l [] []
gave-kept k l kept =
    record { called = kept.called; legal = kept.legal; pipes = kept.pipes; owned = kept.owned; accepted = kept.accepted ∙ sym (append-nil (accepted_by k.number k.seen)); unshut = kept.unshut }

pipes-stay : (k l : Known (BoardEntry Ask)) (calls : List BoardCall) (asks : List Ask) (lives : List Live) → Gave k l calls asks → All (IsOn k) lives → All (IsOn l) lives
pipes-stay k l calls asks [] gave all = All-nil (IsOn l)
pipes-stay k l calls asks (x ∷ xs) gave all = All-cons (IsOn l) x xs (stays x.pipe (All-head (IsOn k) x xs all)) (pipes-stay k l calls asks xs gave (All-tail (IsOn k) x xs all))
  where
    stays : (pipe : Option PipelineState) → HasPipe k pipe → HasPipe l pipe
    stays None on = tt
    stays (Some pipe) on = gave.pipes pipe on

gave-posted : (script_state : ScriptState) (k l : Known (BoardEntry Ask)) (calls : List BoardCall) (asks : List Ask) → PipelinesMatch script_state k → Gave k l calls asks → PipelinesMatch (counting script_state asks) l
gave-posted script_state k l calls asks posted gave =
    record {
      outsider = subst IsNoWorker (sym gave.called.number) posted.outsider;
      legal = gave.legal;
      pipes = pipes-stay k l calls asks script_state.lives gave posted.pipes;
      apart = posted.apart;
      owned = λ number owns. posted.owned number (gave.owned number owns);
      requests = ap length gave.accepted ∙ (length-append (accepted_by k.number k.seen) asks ∙ ap (λ n. n + length asks) posted.requests);
      bytes = ap (sum_by ask_size) gave.accepted ∙ (sum_by-append ask_size (accepted_by k.number k.seen) asks ∙ ap (λ n. n + sum_by ask_size asks) posted.bytes);
      unshut = λ zero_is. gave.unshut (sym gave.called.number ∙ zero_is) ∙ posted.unshut (sym gave.called.number ∙ zero_is);
    }

pub gives-done : (script_state : ScriptState) (live : Live) (r : Known RegEntry) (k l : Known (BoardEntry Ask)) (asks : List Ask) (answers answers' : List Answer) (whole : Dialogue) (d : ScriptState → Dialogue) → whole ≡ d script_state → live_of script_state live.label ≡ None
    → ReferencesMatch script_state.lives r → PipelinesMatch script_state k → GivesFor d live k l asks answers answers' → Done whole r k r l (counting script_state asks) answers answers'
gives-done script_state live r k l asks answers answers' whole d same_d none stands posted gives =
    let turn : Transcript = record { registry = []; board = gives.calls; answers = gives.said; after = Some (counting script_state asks) } in
    record {
      turn = turn;
      is = subst (λ x. IsTranscript x turn) (sym same_d) (gives.is script_state none posted);
      asked = asked-nothing r stands.caller;
      called = gives.gave.called;
      ends = refl;
      says = gives.says;
      stands = stands;
      posted = gave-posted script_state k l gives.calls asks posted gives.gave;
    }

-- ---- one request

-- nothing is asked, while others go on
pub gives-said : (d : ScriptState → Dialogue) (live : Live) (k l : Known (BoardEntry Ask)) (answer : Answer) (answers answers' : List Answer) → Unchanged k l
    → ((script_state : ScriptState) → PipelinesMatch script_state k → d script_state ≡ says script_state answer) → answers' ≡ answers ++ answer ∷ [] → GivesFor d live k l [] answers answers'
gives-said d live k l answer answers answers' kept is e =
    record {
      calls = [];
      said = answer ∷ [];
      gave = gave-kept k l kept;
      is = λ script_state none posted.
          subst (λ w. IsTranscript (d script_state) (answered w answer)) (sym (counting-none script_state)) (subst (λ x. IsTranscript x (answered script_state answer)) (sym (is script_state posted)) refl);
      says = e;
    }

pub gives-said-here : (d : ScriptState → Dialogue) (live : Live) (k : Known (BoardEntry Ask)) (answer : Answer) (answers answers' : List Answer) → LegalBoard k.seen
    → ((script_state : ScriptState) → PipelinesMatch script_state k → d script_state ≡ says script_state answer) → answers' ≡ answers ++ answer ∷ [] → GivesFor d live k k [] answers answers'
gives-said-here d live k answer answers answers' legal is e = gives-said d live k k answer answers answers' (kept-same k legal) is e

stays-so : (script_state : ScriptState) (live : Live) (pipe : PipelineState) (ask : Ask) (call : BoardCall) (answer : Answer) → live_of script_state live.label ≡ None
    → turn_with call answer (counting (with_live script_state (record live { pipe = Some (with_ask pipe ask) })) (ask ∷ [])) ≡ turn_with call answer (counting script_state (ask ∷ []))
stays-so script_state live pipe ask call answer none =
    ap (λ w. turn_with call answer (counting w (ask ∷ []))) (with-none script_state live (record live { pipe = Some (with_ask pipe ask) }) refl none)

-- the turn of a request that a pipeline answered
gives-is : (script_state : ScriptState) (n : ℕ) (live : Live) (pipe : PipelineState) (ask : Ask) (backlog : Bool) (answer : Entered) (bound : Option ℕ) → IsAnswerOf bound answer → live_of script_state live.label ≡ None
    → IsTranscript (hands_in script_state n live pipe (asked_by ask) backlog bound) (turn_with (offer_call pipe ask backlog answer bound) (entered_said n answer) (counting script_state (entered_asks ask answer)))
gives-is script_state n live pipe ask backlog (InProgress number) None ok none =
    accepted-is script_state n live pipe ask (Submits pipe.number number (asked_by ask)) EINPROGRESS ∙ stays-so script_state live pipe ask (Submits pipe.number number (asked_by ask)) (said.Refused n EINPROGRESS) none
gives-is script_state n live pipe ask backlog (InProgress number) (Some max) ok none =
    accepted-is script_state n live pipe ask (Enqueues pipe.number (asked_by ask) backlog (InProgress number)) EINPROGRESS ∙ stays-so script_state live pipe ask (Enqueues pipe.number (asked_by ask) backlog (InProgress number)) (said.Refused n EINPROGRESS) none
gives-is script_state n live pipe ask backlog (Busy number) (Some max) ok none =
    accepted-is script_state n live pipe ask (Enqueues pipe.number (asked_by ask) backlog (Busy number)) EBUSY ∙ stays-so script_state live pipe ask (Enqueues pipe.number (asked_by ask) backlog (Busy number)) (said.Refused n EBUSY) none
gives-is script_state n live pipe ask backlog NoSpace (Some max) ok none =
    ap (λ w. turn_with (Enqueues pipe.number (asked_by ask) backlog NoSpace) (said.Refused n ENOSPC) w) (sym (counting-none script_state))
gives-is script_state n live pipe ask backlog (Busy number) None ok none = absurd ok
gives-is script_state n live pipe ask backlog NoSpace None ok none = absurd ok

pub gives-entered : (k l : Known (BoardEntry Ask)) (live : Live) (pipe : PipelineState) (n : ℕ) (ask : Ask) (backlog : Bool) (answer : Entered) (answers answers' : List Answer)
    → live.pipe ≡ Some pipe → pipe.mask_is_empty ≡ false → OffersShared k l pipe ask backlog answer → IsAllowed ask_size k.seen k.number ask → answers' ≡ answers ++ entered_said n answer ∷ []
    → GivesFor (λ script_state. requests_in script_state n live (asked_by ask) backlog live.pipe) live k l (entered_asks ask answer) answers answers'
gives-entered k l live pipe n ask backlog answer answers answers' has manned offered allowed e =
    record {
      calls = offer_call pipe ask backlog answer pipe.bound ∷ [];
      said = entered_said n answer ∷ [];
      gave = offered.1;
      is = λ script_state none posted.
          subst (λ d. IsTranscript d (turn_with (offer_call pipe ask backlog answer pipe.bound) (entered_said n answer) (counting script_state (entered_asks ask answer)))) (sym (request-enters script_state k n live pipe ask backlog has manned allowed posted))
          (gives-is script_state n live pipe ask backlog answer pipe.bound offered.0 none);
      says = e;
    }

-- memory was wanting for what is said
pub gives-stopped : (k l : Known (BoardEntry Ask)) (live : Live) (pipe : PipelineState) (n : ℕ) (ask : Ask) (backlog : Bool) (answer : Entered)
    → live.pipe ≡ Some pipe → pipe.mask_is_empty ≡ false → OffersShared k l pipe ask backlog answer → IsAllowed ask_size k.seen k.number ask
    → StopsGiving (λ script_state. requests_in script_state n live (asked_by ask) backlog live.pipe) live k l
gives-stopped k l live pipe n ask backlog answer has manned offered allowed =
    giving-held (λ script_state. requests_in script_state n live (asked_by ask) backlog live.pipe) live k l (entered_asks ask answer) [] (entered_said n answer ∷ [])
    (gives-entered k l live pipe n ask backlog answer [] (entered_said n answer ∷ []) has manned offered allowed refl)

-- ---- a session's request

module _ {ws c q v : ℕ} {sh lives : List Live} {r : Option RegPass} {b : Option BoardPass} (s : State) (view : viewed ws c sh lives q v r b ≡ s) (label name : List ℕ) (same : name ≡ label) where
  pub shared-at : (o : Option Live) → o ≡ find (is_of name) sh → shared_of s.script_state label ≡ o
  shared-at o at = sym (ap (λ (x : State). shared_of x.script_state label) view) ∙ (ap (λ l. find (is_of l) sh) (sym same) ∙ sym at)

  -- the shared transform has the label, and none of the script's own
  label-at : (live : Live) → Some live ≡ find (is_of name) sh → live.label ≡ label
  label-at live at = find-label label live sh (ap (λ l. find (is_of l) sh) (sym same) ∙ sym at)

  pub pipe-at : (live : Live) → Some live ≡ find (is_of name) sh → AreShared s.script_state.shared (known s.board) → HasShared (known b) live.pipe
  pipe-at live at shared =
      subst (λ (x : State). HasShared (known x.board) live.pipe) (sym view)
      (find-shared (known s.board) label live s.script_state.shared (shared-at (Some live) at) shared)

  -- the dialogue that is held with it is the session's
  gives-holds : (live : Live) (whole : Dialogue) (d : ScriptState → Dialogue) (q' v' : ℕ) (b' : Option BoardPass) (asks : List Ask) (answers answers' : List Answer) → Some live ≡ find (is_of name) sh → live_of s.script_state label ≡ None
      → whole ≡ d s.script_state → lock_of b' ≡ lock_of b → q' ≡ q + length asks → v' ≡ v + sum_by ask_size asks → ReferencesMatch s.script_state.lives (known s.registry) → PipelinesMatch s.script_state (known s.board)
      → GivesFor d live (known b) (known b') asks answers answers' → Performs whole s (viewed ws c sh lives q' v' r b') answers answers'
  gives-holds live whole d q' v' b' asks answers answers' at none same_d lock more_q more_v stands posted gives =
      let there : GivesFor d live (known s.board) (known b') asks answers answers' = subst (λ (x : State). GivesFor d live (known x.board) (known b') asks answers answers') view gives in
      let done = gives-done s.script_state live (known s.registry) (known s.board) (known b') asks answers answers' whole d same_d (ap (live_of s.script_state) (label-at live at) ∙ none) stands posted there in
      let walk_is : record { client = c; shared = sh; lives = lives; requests = q'; bytes = v' } ≡ counting s.script_state asks =
      ap (λ m. let x : ScriptState = record { client = c; shared = sh; lives = lives; requests = m; bytes = v' } in x) more_q
      ∙ (ap (λ m. let x : ScriptState = record { client = c; shared = sh; lives = lives; requests = q + length asks; bytes = m } in x) more_v
      ∙ ap (λ (x : State). let y : ScriptState = record { client = x.script_state.client; shared = x.script_state.shared; lives = x.script_state.lives; requests = x.script_state.requests + length asks; bytes = x.script_state.bytes + sum_by ask_size asks } in y) view) in
      record {
        locks = record { registry = ap (λ (x : State). lock_of x.registry) view; board = lock ∙ ap (λ (x : State). lock_of x.board) view; workers = ap (λ (x : State). x.workers) view; shared = ap (λ (x : State). x.script_state.shared) view };
        wide = λ wide.
            subst (λ n. MadeWide (lists_beside n) (known b')) (sym (ap (λ (x : State). x.workers) view))
            (wide-gave (lists_beside s.workers) (known s.board) (known b') there.calls asks there.gave wide);
        done = subst (λ x. Done whole (known s.registry) (known s.board) (known r) (known b') x answers answers') (sym walk_is)
            (subst (λ (x : State). Done whole (known s.registry) (known s.board) (known x.registry) (known b') (counting s.script_state asks) answers answers') (sym view) done);
      }

  -- the dialogue of the whole line
  whole-is : (n : ℕ) (live : Live) (rest : ScriptState → Live → Dialogue) (d : ScriptState → Dialogue) → Some live ≡ find (is_of name) sh → live_of s.script_state label ≡ None → rest s.script_state live ≡ d s.script_state → with_either s.script_state n label (rest s.script_state) ≡ d s.script_state
  whole-is n live rest d at none same_d = ap (λ o. for_live s.script_state n o ENOENT (rest s.script_state)) (either-shared s.script_state label (Some live) none (shared-at (Some live) at)) ∙ same_d

  -- memory was wanting
  pub gives-stops : (n : ℕ) (live : Live) (rest : ScriptState → Live → Dialogue) (d : ScriptState → Dialogue) (b' : Option BoardPass) → Some live ≡ find (is_of name) sh → live_of s.script_state label ≡ None → rest s.script_state live ≡ d s.script_state
      → lock_of b' ≡ lock_of b → ReferencesMatch s.script_state.lives (known s.registry) → PipelinesMatch s.script_state (known s.board) → StopsGiving d live (known b) (known b') → StopsIn (with_either s.script_state n label (rest s.script_state)) s (viewed ws c sh lives q v r b')
  gives-stops n live rest d b' at none same_d lock stands posted stops =
      let here : StopsGiving d live (known s.board) (known b') = subst (λ (x : State). StopsGiving d live (known x.board) (known b')) view stops in
      let whole : Dialogue = with_either s.script_state n label (rest s.script_state) in
      board-stops whole s (viewed ws c sh lives q v r b') here.calls
      (record { registry = ap (λ (x : State). lock_of x.registry) view; board = lock ∙ ap (λ (x : State). lock_of x.board) view; workers = ap (λ (x : State). x.workers) view; shared = ap (λ (x : State). x.script_state.shared) view })
      (ap (λ (x : State). x.registry) view) stands here.called here.unshut
      (subst (λ x. BeginsBy x [] here.calls) (sym (whole-is n live rest d at none same_d)) (here.begins s.script_state (ap (live_of s.script_state) (label-at live at) ∙ none) posted))

  -- a request that is counted where it was accepted
  pub give-arm : (n : ℕ) (live : Live) (rest : ScriptState → Live → Dialogue) (d : ScriptState → Dialogue) (s' : State) (b' : Option BoardPass) (accepted : Bool) (size : ℕ) (ask : Ask) (answers answers' : List Answer) → Some live ≡ find (is_of name) sh
      → live_of s.script_state label ≡ None → rest s.script_state live ≡ d s.script_state → lock_of b' ≡ lock_of b → ReferencesMatch s.script_state.lives (known s.registry) → PipelinesMatch s.script_state (known s.board) → size ≡ ask_size ask
      → GivesFor d live (known b) (known b') (asks_if accepted ask) answers answers' → s' ≡ counted (viewed ws c sh lives q v r b') accepted size → Performs (with_either s.script_state n label (rest s.script_state)) s s' answers answers'
  give-arm n live rest d s' b' accepted size ask answers answers' at none same_d lock stands posted sized held e =
      let whole_is : with_either s.script_state n label (rest s.script_state) ≡ d s.script_state = whole-is n live rest d at none same_d in
      subst (λ x. Performs (with_either s.script_state n label (rest s.script_state)) s x answers answers') (sym e) (by_accepted accepted whole_is held)
    where
      by_accepted : (accepted : Bool) → with_either s.script_state n label (rest s.script_state) ≡ d s.script_state → GivesFor d live (known b) (known b') (asks_if accepted ask) answers answers'
          → Performs (with_either s.script_state n label (rest s.script_state)) s (counted (viewed ws c sh lives q v r b') accepted size) answers answers'
      by_accepted true whole_is held =
          gives-holds live (with_either s.script_state n label (rest s.script_state)) d (q + 1) (v + size) b' (ask ∷ []) answers answers' at none whole_is lock refl (ap (λ m. v + m) (sized ∙ sym (zero-add (ask_size ask)))) stands posted held
      by_accepted false whole_is held =
          gives-holds live (with_either s.script_state n label (rest s.script_state)) d q v b' [] answers answers' at none whole_is lock (omega arith) (omega arith) stands posted held
