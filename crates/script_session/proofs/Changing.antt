-- A transform changes, and with it what a session knows of the board.
use Rattle.std.proofs.Common.{◌≡◌, ℕ, ◌+◌, ◌≤◌, Bool, true, false, cond, List, [], ◌∷◌, ◌++◌, length, Option, Some, None, refl, sym, ap, subst, ◌∙◌, append-nil, length-append, arith}
use Rattle.std.specs.Prelude.{find, ◌==◌, All, nat_lt, sum_by}
use Rattle.std.proofs.lemmas.Slice.Eq.{bytes_eq-Decides}
use Rattle.std.proofs.lemmas.List.Elements.{All-nil, All-cons, All-head, All-tail, All-append}
use Rattle.std.proofs.lemmas.List.Sums.{sum_by-append}
use Rattle.std.proofs.lemmas.Bool.{eq-eqb, eqb-true}
use Rattle.alg_registry.specs.declared.entry.RegEntry.{RegEntry}
use Rattle.board.specs.declared.entry.BoardEntry.{BoardEntry}
use Rattle.board.specs.Allowance.{accepted_by}
use Rattle.board.specs.Legal.{IsNoWorker, LegalBoard}
use Rattle.reply_text.specs.declared.answers.Answer.{Answer}
use Rattle.transforms.specs.declared.ask.Ask.{Ask}
use Rattle.transforms.specs.AskValue.{ask_size}
use Rattle.turn_lock.specs.Turns.{Known}
use Rattle.dialogues.specs.BoardCalls.{BoardCall, origin_of}
use Rattle.dialogues.specs.Dialogues.{Dialogue}
use Rattle.dialogues.specs.Transcripts.{Transcript, IsTranscript}
use Rattle.dialogues.specs.ScriptState.{ScriptState, Live, PipelineState, is_of, live_of, with_live, replaced, without}
use Rattle.script_session.specs.States.{HasPipe, PipelinesMatch, ReferencesMatch, is_at, owners}
use Rattle.recorded_calls.specs.Pipelines.{Called, Owns, KnowsPipe, Unchanged, Changed, Closed}
use Rattle.script_session.specs.TransformChanges.{AreApart, Changes, PerformsFor, counting, close_calls, has_undelivered, Released}
use Rattle.script_session.specs.PerformedDialogue.{Done}
use Rattle.script_session.proofs.Standing.{stands-more}
use Rattle.recorded_calls.proofs.Boarding.{kept-same}
use Rattle.std.proofs.lemmas.Bool.{ltb-false}
use Rattle.std.proofs.lemmas.List.{length-map}
use Rattle.board.specs.Entries.{entries_of, submissions}
use Rattle.board.specs.HandedOut.{HandsOutAtMost}
use Rattle.script_session.proofs.Placed.{Split, uses-replaced}
use Rattle.script_session.proofs.Rules.{asked-nothing}

pub owners-append : (number : ℕ) (xs ys : List Live) → owners number (xs ++ ys) ≡ owners number xs + owners number ys
owners-append number [] ys = omega arith
owners-append number (x ∷ xs) ys = let h = owners-append number xs ys in omega (arith, h)

pub first-free : (b : Bool) (n : ℕ) → cond b 1 0 + n ≡ 0 → b ≡ false
first-free true n e = absurd (omega (arith, e))
first-free false n e = refl

pub rest-free : (b : Bool) (n : ℕ) → cond b 1 0 + n ≡ 0 → n ≡ 0
rest-free true n e = absurd (omega (arith, e))
rest-free false n e = omega (arith, e)

pub All-left : {X : Type 0} (P : X → Type 0) (xs ys : List X) → All P (xs ++ ys) → All P xs
All-left P [] ys all = All-nil P
All-left P (x ∷ xs) ys all = All-cons P x xs (All-head P x (xs ++ ys) all) (All-left P xs ys (All-tail P x (xs ++ ys) all))

pub All-right : {X : Type 0} (P : X → Type 0) (xs ys : List X) → All P (xs ++ ys) → All P ys
All-right P [] ys all = all
All-right P (x ∷ xs) ys all = All-right P xs ys (All-tail P x (xs ++ ys) all)

abbrev pub IsOn : Known (BoardEntry Ask) → Live → Type 0
IsOn k live = HasPipe k live.pipe

-- the pipelines of transforms that have others stay
pub others-stay : (k l : Known (BoardEntry Ask)) (pipe : Option PipelineState) (lives : List Live)
    → ((other : Option PipelineState) → AreApart pipe other → HasPipe k other → HasPipe l other)
    → ((number : ℕ) → is_at number pipe ≡ true → owners number lives ≡ 0) → All (IsOn k) lives → All (IsOn l) lives
others-stay k l pipe [] stay free all = All-nil (IsOn l)
others-stay k l pipe (x ∷ xs) stay free all =
    All-cons (IsOn l) x xs
    (stay x.pipe (λ number at. first-free (is_at number x.pipe) (owners number xs) (free number at)) (All-head (IsOn k) x xs all))
    (others-stay k l pipe xs stay (λ number at. rest-free (is_at number x.pipe) (owners number xs) (free number at)) (All-tail (IsOn k) x xs all))

-- beside the one transform nobody has its pipeline
pub beside : (number : ℕ) (before later : List Live) (live : Live) → owners number (before ++ live ∷ later) ≤ 1 → is_at number live.pipe ≡ true
    → (owners number before ≡ 0) × (owners number later ≡ 0)
beside number before later live most at =
    let split = owners-append number before (live ∷ later) in
    let counted : Bool → ℕ = λ b. cond b 1 0 in
    let one : counted (is_at number live.pipe) ≡ 1 = ap counted at in
    (omega (arith, most, split, one), omega (arith, most, split, one))

-- ---- a transform changes

pub label-of : (label : List ℕ) (lives : List Live) (place : ℕ) (s : Split label lives 0 place) → s.live.label ≡ label
label-of label lives place s = (bytes_eq-Decides s.live.label label).0 s.is_live

pub found-by_own : (script_state : ScriptState) (label : List ℕ) (place : ℕ) (s : Split label script_state.lives 0 place) → live_of script_state s.live.label ≡ Some s.live
found-by_own script_state label place s = ap (λ l. find (is_of l) script_state.lives) (label-of label script_state.lives place s) ∙ s.found

pub replaced-at : (script_state : ScriptState) (label : List ℕ) (place : ℕ) (new : Live) (s : Split label script_state.lives 0 place) → new.label ≡ s.live.label → replaced new script_state.lives ≡ s.before ++ new ∷ s.later
replaced-at script_state label place new s same = s.replaces new (same ∙ label-of label script_state.lives place s)

-- what is known of the board is that of the state with the one that changed
pub list-posted : (script_state : ScriptState) (before later : List Live) (live live' : Live) (k l : Known (BoardEntry Ask)) (calls : List BoardCall) (asks : List Ask) → script_state.lives ≡ before ++ live ∷ later
    → PipelinesMatch script_state k → Changes live live' k l calls asks → PipelinesMatch (counting (record script_state { lives = before ++ live' ∷ later }) asks) l
list-posted script_state before later live live' k l calls asks lives_is posted changes =
    let were : All (IsOn k) (before ++ live ∷ later) = subst (All (IsOn k)) lives_is posted.pipes in
    let most = λ (number : ℕ). subst (λ ls. owners number ls ≤ 1) lives_is (posted.apart number) in
    let first = others-stay k l live.pipe before changes.others (λ number at. (beside number before later live (most number) at).0) (All-left (IsOn k) before (live ∷ later) were) in
    let rest = others-stay k l live.pipe later changes.others (λ number at. (beside number before later live (most number) at).1) (All-tail (IsOn k) live later (All-right (IsOn k) before (live ∷ later) were)) in
    record {
      outsider = subst IsNoWorker (sym changes.called.number) posted.outsider;
      legal = changes.legal;
      pipes = All-append (IsOn l) before (live' ∷ later) first (All-cons (IsOn l) live' later changes.pipe rest);
      apart = λ number.
          (let new = owners-append number before (live' ∷ later) in
          let old = owners-append number before (live ∷ later) in
          let counted : Bool → ℕ = λ t. cond t 1 0 in
          let one : counted (is_at number live'.pipe) ≡ counted (is_at number live.pipe) = ap counted (changes.same number) in
          let few = most number in
          let goal : owners number (before ++ live' ∷ later) ≤ 1 = omega (arith, new, old, one, few) in
          goal);
      owned = λ number owns. by_place number (is_at number live.pipe) refl owns;
      requests = ap length changes.accepted ∙ (length-append (accepted_by k.number k.seen) asks ∙ ap (λ n. n + length asks) posted.requests);
      bytes = ap (sum_by ask_size) changes.accepted ∙ (sum_by-append ask_size (accepted_by k.number k.seen) asks ∙ ap (λ n. n + sum_by ask_size asks) posted.bytes);
      unshut = λ zero_is. changes.unshut (sym changes.called.number ∙ zero_is) ∙ posted.unshut (sym changes.called.number ∙ zero_is);
    }
  where
    by_place : (number : ℕ) (t : Bool) → is_at number live.pipe ≡ t → Owns l number → 1 ≤ owners number (before ++ live' ∷ later)
    by_place number true at owns =
        let new = owners-append number before (live' ∷ later) in
        let counted : Bool → ℕ = λ t. cond t 1 0 in
        let one : counted (is_at number live'.pipe) ≡ 1 = ap counted (changes.same number ∙ at) in
        omega (arith, new, one)
    by_place number false at owns =
        let new = owners-append number before (live' ∷ later) in
        let old = owners-append number before (live ∷ later) in
        let counted : Bool → ℕ = λ t. cond t 1 0 in
        let one : counted (is_at number live'.pipe) ≡ counted (is_at number live.pipe) = ap counted (changes.same number) in
        let had : 1 ≤ owners number (before ++ live ∷ later) = subst (λ ls. 1 ≤ owners number ls) lives_is (posted.owned number (changes.owned number at owns)) in
        omega (arith, new, old, one, had)

pub changed-posted : (script_state : ScriptState) (label : List ℕ) (place : ℕ) (s : Split label script_state.lives 0 place) (live' : Live) (k l : Known (BoardEntry Ask)) (calls : List BoardCall) (asks : List Ask)
    → PipelinesMatch script_state k → Changes s.live live' k l calls asks → PipelinesMatch (counting (with_live script_state live') asks) l
changed-posted script_state label place s live' k l calls asks posted changes =
    subst (λ ls. PipelinesMatch (counting (record script_state { lives = ls }) asks) l) (sym (replaced-at script_state label place live' s changes.label))
    (list-posted script_state s.before s.later s.live live' k l calls asks s.lives_is posted changes)

-- ---- by what the board's caller says of the pipeline

pub eq-swap : (a b : ℕ) → (a == b) ≡ false → (b == a) ≡ false
eq-swap a b apart = by_test (b == a) refl
  where
    by_test : (t : Bool) → (b == a) ≡ t → t ≡ false
    by_test false same = refl
    by_test true same = let yes : (a == b) ≡ true = eq-eqb a b (sym (eqb-true b a same)) in sym yes ∙ apart

pub apart-of : (pipe other : PipelineState) → AreApart (Some pipe) (Some other) → (other.number == pipe.number) ≡ false
apart-of pipe other apart = by_test (other.number == pipe.number) refl
  where
    by_test : (t : Bool) → (other.number == pipe.number) ≡ t → (other.number == pipe.number) ≡ false
    by_test true q = sym (let no = apart pipe.number (eq-eqb pipe.number pipe.number refl) in sym (no))
    by_test false q = q

pub changes-pipe : (live : Live) (k l : Known (BoardEntry Ask)) (pipe pipe' : PipelineState) (calls : List BoardCall) (asks : List Ask) → live.pipe ≡ Some pipe → Changed k l pipe pipe' calls asks
    → Changes live (record live { pipe = Some pipe' }) k l calls asks
changes-pipe live k l pipe pipe' calls asks has changed =
    record {
      label = refl;
      id = refl;
      same = λ n. ap (λ m. m == n) changed.same ∙ sym (ap (is_at n) has);
      called = changed.called;
      legal = changed.legal;
      pipe = changed.now;
      others = λ other apart on. by_other other (subst (λ o. AreApart o other) has apart) on;
      owned = λ number at owns. changed.owned number (eq-swap pipe.number number (ap (is_at number) (sym has) ∙ at)) owns;
      accepted = changed.accepted;
      unshut = changed.unshut;
    }
  where
    by_other : (other : Option PipelineState) → AreApart (Some pipe) other → HasPipe k other → HasPipe l other
    by_other None apart on = tt
    by_other (Some other) apart on = changed.others other (apart-of pipe other apart) on

pub changes-kept : (live : Live) (k l : Known (BoardEntry Ask)) → HasPipe k live.pipe → Unchanged k l → Changes live live k l [] []
changes-kept live k l on kept =
    record {
      label = refl;
      id = refl;
      same = λ n. refl;
      called = kept.called;
      legal = kept.legal;
      pipe = stays live.pipe on;
      others = λ other apart was. stays other was;
      owned = λ number at owns. kept.owned number owns;
      accepted = kept.accepted ∙ sym (append-nil (accepted_by k.number k.seen));
      unshut = kept.unshut;
    }
  where
    stays : (other : Option PipelineState) → HasPipe k other → HasPipe l other
    stays None on = tt
    stays (Some pipe) on = kept.pipes pipe on

-- ---- a dialogue that is held with a transform

pub live-done : (script_state : ScriptState) (label : List ℕ) (place : ℕ) (s : Split label script_state.lives 0 place) (live' : Live) (r : Known RegEntry) (k l : Known (BoardEntry Ask)) (asks : List Ask) (answers answers' : List Answer) (whole : Dialogue) (d : ScriptState → Dialogue) → whole ≡ d script_state
    → ReferencesMatch script_state.lives r → PipelinesMatch script_state k → PerformsFor d s.live live' k l asks answers answers'
    → Done whole r k r l (counting (with_live script_state live') asks) answers answers'
live-done script_state label place s live' r k l asks answers answers' whole d same_d stands posted holds =
    let turn : Transcript = record { registry = []; board = holds.calls; answers = holds.said; after = Some (counting (with_live script_state live') asks) } in
    let same : live'.label ≡ s.live.label = holds.changes.label in
    record {
      turn = turn;
      is = subst (λ x. IsTranscript x turn) (sym same_d) (holds.is script_state (found-by_own script_state label place s) posted);
      asked = asked-nothing r stands.caller;
      called = holds.changes.called;
      ends = refl;
      says = holds.says;
      stands = stands-more script_state.lives (replaced live' script_state.lives) r r [] stands (asked-nothing r stands.caller)
          (λ id. let u = uses-replaced label script_state.lives place id live' s (same ∙ label-of label script_state.lives place s) holds.changes.id in omega (arith, u));
      posted = changed-posted script_state label place s live' k l holds.calls asks posted holds.changes;
    }

-- ---- a transform is released

pub released-posted : (script_state : ScriptState) (label : List ℕ) (place : ℕ) (s : Split label script_state.lives 0 place) (k l : Known (BoardEntry Ask)) → PipelinesMatch script_state k → Released s.live k l → PipelinesMatch (without script_state label) l
released-posted script_state label place s k l posted released =
    let were : All (IsOn k) (s.before ++ s.live ∷ s.later) = subst (All (IsOn k)) s.lives_is posted.pipes in
    let most = λ (number : ℕ). subst (λ ls. owners number ls ≤ 1) s.lives_is (posted.apart number) in
    let first = others-stay k l s.live.pipe s.before released.others (λ number at. (beside number s.before s.later s.live (most number) at).0) (All-left (IsOn k) s.before (s.live ∷ s.later) were) in
    let later = others-stay k l s.live.pipe s.later released.others (λ number at. (beside number s.before s.later s.live (most number) at).1) (All-tail (IsOn k) s.live s.later (All-right (IsOn k) s.before (s.live ∷ s.later) were)) in
    record {
      outsider = subst IsNoWorker (sym released.called.number) posted.outsider;
      legal = released.legal;
      pipes = subst (All (IsOn l)) (sym s.removes) (All-append (IsOn l) s.before s.later first later);
      apart = λ number. subst (λ ls. owners number ls ≤ 1) (sym s.removes)
          (let new = owners-append number s.before s.later in
          let old = owners-append number s.before (s.live ∷ s.later) in
          let few = most number in
          let goal : owners number (s.before ++ s.later) ≤ 1 = omega (arith, new, old, few) in
          goal);
      owned = λ number owns. subst (λ ls. 1 ≤ owners number ls) (sym s.removes)
          (let new = owners-append number s.before s.later in
          let old = owners-append number s.before (s.live ∷ s.later) in
          let counted : Bool → ℕ = λ t. cond t 1 0 in
          let none : counted (is_at number s.live.pipe) ≡ 0 = ap counted (released.owned number owns).1 in
          let had : 1 ≤ owners number (s.before ++ s.live ∷ s.later) = subst (λ ls. 1 ≤ owners number ls) s.lives_is (posted.owned number (released.owned number owns).0) in
          let goal : 1 ≤ owners number (s.before ++ s.later) = omega (arith, new, old, none, had) in
          goal);
      requests = ap length released.accepted ∙ posted.requests;
      bytes = ap (sum_by ask_size) released.accepted ∙ posted.bytes;
      unshut = λ zero_is. released.unshut (sym released.called.number ∙ zero_is) ∙ posted.unshut (sym released.called.number ∙ zero_is);
    }

pub released-none : (live : Live) (k : Known (BoardEntry Ask)) → live.pipe ≡ None → LegalBoard k.seen → Released live k k
released-none live k none legal =
    let same = kept-same k legal in
    record {
      called = subst (λ p. Called k k (close_calls p)) (sym none) same.called;
      legal = legal;
      others = λ other apart on. on;
      owned = λ number owns. (owns, ap (is_at number) none);
      accepted = refl;
      unshut = λ zero_is. refl;
    }

pub released-closed : (live : Live) (pipe : PipelineState) (k l : Known (BoardEntry Ask)) → live.pipe ≡ Some pipe → Closed k l pipe → Released live k l
released-closed live pipe k l has closed =
    record {
      called = subst (λ p. Called k l (close_calls p)) (sym has) closed.called;
      legal = closed.legal;
      others = λ other apart on. by_other other (subst (λ o. AreApart o other) has apart) on;
      owned = λ number owns. ((closed.owned number owns).0, ap (is_at number) has ∙ eq-swap number pipe.number (closed.owned number owns).1);
      accepted = closed.accepted;
      unshut = closed.unshut;
    }
  where
    by_other : (other : Option PipelineState) → AreApart (Some pipe) other → HasPipe k other → HasPipe l other
    by_other None apart on = tt
    by_other (Some p) apart on = closed.others p (apart-of pipe p apart) on

-- a pipeline that owes nothing has handed out as much as it accepted
pub nothing-owed : ((h : List (BoardEntry Ask)) (p : ℕ) → HandsOutAtMost h p) → (k : Known (BoardEntry Ask)) (live : Live) (pipe : PipelineState) → live.pipe ≡ Some pipe → LegalBoard k.seen → KnowsPipe k pipe → has_undelivered live.pipe ≡ false → pipe.delivered ≡ length pipe.lines
nothing-owed law k live pipe has legal on paid =
    let es = entries_of pipe.number k.seen in
    let most = law k.seen pipe.number legal in
    let given = on.delivered in
    let had : length (submissions es) ≡ length pipe.lines = sym (length-map (submissions es) origin_of) ∙ ap length on.lines in
    let test : nat_lt pipe.delivered (length pipe.lines) ≡ false = ap has_undelivered (sym has) ∙ paid in
    let not_less = ltb-false pipe.delivered (length pipe.lines) test in
    omega (arith, most, given, had, not_less)
