-- Calls of the board's caller, by what its lock says of a turn.
use Rattle.std.proofs.Common.{◌≡◌, ◌≢◌, inl, inr, ℕ, zero, suc, ◌+◌, Bool, true, false, List, [], ◌∷◌, ◌++◌, length, map, Option, Some, None, Result, Ok, Err, refl, sym, ap, subst, ◌∙◌, append-nil, append_assoc, arith}
use Rattle.std.specs.Prelude.{◌<◌, ◌≤◌, ◌-◌, ◌^◌, ◌==◌, ◌||◌, ◌↔◌, if◌then◌else◌, IfErr, MatchResult, sum_by, slice_get, unwrap_or}
use Rattle.std.specs.Arc.{arc_value}
use Rattle.std.specs.declared.sync.Arc.{Arc}
use Rattle.std.specs.declared.alloc.Global.{Global}
use Rattle.std.proofs.lemmas.Bool.{eq-eqb}
use Rattle.std.proofs.lemmas.Nat.{pow_below}
use Rattle.kc_base.specs.declared.callback_list.Callback.{Callback}
use Rattle.kc_base.specs.declared.callback_list.Callback.TheVariants as callback
use Rattle.board.specs.declared.board_core.BoardErr.{BoardErr}
use Rattle.board.specs.declared.board_core.BoardErr.TheVariants.{NoWorker, TooBig, Memory}
use Rattle.board.specs.declared.entry.BoardEntry.{BoardEntry}
use Rattle.board.specs.declared.entry.BoardEntry.TheVariants as event
use Rattle.board.specs.declared.entry.Shape.{Shape}
use Rattle.board.specs.declared.entry.Shape.TheVariants.{Pad, Queue, Chain}
use Rattle.board.specs.Entries.{caller_of, is_close, is_closed, is_held, mask, birth, accepted_in, entries_of, submissions, front, told, delivered}
use Rattle.board.specs.Allowance.{IsAllowed}
use Rattle.board.specs.Legal.{IsNoWorker, IsOpen, IsOpenPad, IsOpenAs, LegalBoard, pipelines}
use Rattle.board.specs.HandedOut.{is_collect, completions}
use Rattle.std.proofs.lemmas.Bool.{eqb-true}
use Rattle.std.proofs.lemmas.List.Folds.{list_any-append}
use Rattle.board.specs.PipelineHistory.{IsDrained}
use Rattle.board.specs.Allowance.{accepted_by}
use Rattle.std.proofs.lemmas.List.{length-map}
use Rattle.std.specs.Option.{option_map}
use Rattle.board.specs.Shapes.{IsShape}
use Rattle.transforms.specs.declared.ask.Ask.{Ask}
use Rattle.transforms.specs.declared.request.Finished.{Finished}
use Rattle.transforms.specs.AskValue.{ask_size}
use Rattle.turn_lock.specs.Turns.{Known, sees}
use Rattle.turn_lock.specs.PassLaws.{AtTurn, Enters, Leaves, IsOwn}
use Rattle.turn_lock.specs.TurnLaws.{still_kept, own_entered}
use Rattle.crew.specs.BoardWork.{Worked, Drained as CrewDrained}
use Rattle.dialogues.specs.RegistryCalls.{if_own}
use Rattle.reply_text.specs.declared.origin.Origin.{Origin}
use Rattle.dialogues.specs.BoardCalls.{BoardCall, Creates, Submits, Enqueues, Holds, Goes, Collects, Closes, Masks, Shuts, Started, Completed, asked_by, outcome, board_calls, notice_of, origin_in, origin_of, collected_to}
use Rattle.dialogues.specs.ScriptState.{PipelineState}
use Rattle.recorded_calls.specs.Bounds.{AreWithin}
use Rattle.recorded_calls.specs.Pipelines.{Laws, IsPipeIn, origin_at, made_so, KnowsPipe, Unchanged, Changed, Closed, IsPad, IsQueue, entered_pipe, entered_asks, with_ask, notice_by, IsShut, Owns, Drained, Polled, Opened}
use Rattle.recorded_calls.proofs.HandedOut.{hands-within}
use Rattle.dialogues.specs.AllocAndFree.{new_pipe}
use Rattle.board.specs.declared.entry.Entered.{Entered}
use Rattle.board.specs.declared.entry.Entered.TheVariants.{InProgress, Busy, NoSpace}
use Rattle.board.proofs.Lists.{length-numbers}
use Rattle.recorded_calls.proofs.Boarding.{Met, OwnsIn, IsPlain, IsMaskless, goes-kept, opened-more, managed-more, unshared-more, masked-more, lines-more, delivered-more, calls-one, meets-kept, leaves-kept, changed-later, accepted-none, accepted-more, pipe-stays, pipe-accepts, pipe-collected, apart-same, entry-changed}

own : {C : Type 0} (n : ℕ) (call : C) → if_own n n call ≡ Some call
own {C} n call = ap (λ b. if b then Some call else None) (eq-eqb n n refl)

pub open-pad : (bound : Option ℕ) (es : List (BoardEntry Ask)) → IsPad bound → IsOpenAs (made_so bound) es → IsOpenPad es
open-pad None es pad o = o
open-pad (Some max) es pad o = absurd pad

pub is-open : (bound : Option ℕ) (es : List (BoardEntry Ask)) → IsOpenAs (made_so bound) es → IsOpen es
is-open None es o = inl o
is-open (Some max) es o = inr o

-- ---- `submit`

own_ask : (b : Bool) (ask : Ask) → b ≡ true → (if b then Some ask else None) ≡ Some ask
own_ask b ask e = ap (λ t. if t then Some ask else None) e

pub submit-changed : Laws → (k l : Known (BoardEntry Ask)) (pipe : PipelineState) (asked : Ask) (r : Result ℕ BoardErr) → KnowsPipe k pipe
    → AtTurn caller_of LegalBoard k (λ h. MatchResult r
    (λ n. (n ≡ length (submissions (entries_of pipe.number h))) × IsAllowed ask_size h k.number asked
    × ((ask : Arc Ask Global) × (arc_value ask ≡ asked) × Enters LegalBoard k h (event.Submit k.number pipe.number n ask) l))
    (λ e. ((e ≡ NoWorker) ↔ (mask (entries_of pipe.number h) ≡ 0)) × ((e ≡ TooBig) ↔ ((0 < mask (entries_of pipe.number h)) × (IsAllowed ask_size h k.number asked → ⊥))) × Leaves k h l))
    → MatchResult r (λ number. Changed k l pipe (with_ask pipe asked) (Submits pipe.number number (asked_by asked) ∷ []) (asked ∷ [])) (λ _. Unchanged k l)
submit-changed laws k l pipe asked (Err e) on turn = leaves-kept laws k l turn.0 turn.1 turn.2.2
submit-changed laws k l pipe asked (Ok n) on turn =
    let h = turn.0 in
    let done = turn.2.2 in
    let e : BoardEntry Ask = event.Submit k.number pipe.number n done.0 in
    let kept = meets-kept laws k h turn.1 in
    changed-later k (sees k h) l pipe (with_ask pipe asked) (Submits pipe.number n (asked_by asked) ∷ []) (asked ∷ []) kept
    (entry-changed laws k l h e pipe (with_ask pipe asked) (Submits pipe.number n (asked_by asked)) (asked ∷ []) done.2 (eq-eqb pipe.number pipe.number refl) refl
    (own k.number (Submits pipe.number n (asked_by (arc_value done.0))) ∙ ap (λ a. Some (Submits pipe.number n (asked_by a))) done.1)
    (accepted-more k.number h e asked (own_ask (k.number == k.number) (arc_value done.0) (eq-eqb k.number k.number refl) ∙ ap (λ a. Some a) done.1)) refl
    (pipe-accepts laws k.number h e pipe (record { closes = refl; shares = refl }) (kept.pipes pipe on) (record { born = refl; masks = refl }) asked (eq-eqb pipe.number pipe.number refl) (ap (λ a. Some a) done.1) refl refl))

-- two facts of a refusal
pub not-unserved : {A : Type 0} (r : Result A BoardErr) (P : A → Type 0) (Q : BoardErr → Type 0) → MatchResult r P (λ e. (e ≢ NoWorker) × Q e) → IfErr r (λ e. e ≢ NoWorker)
not-unserved (Ok a) P Q is = tt
not-unserved (Err e) P Q is = is.0

pub by-allowance : {A : Type 0} (r : Result A BoardErr) (P : A → Type 0) (Q : BoardErr → Type 0) → MatchResult r P (λ e. (e ≢ NoWorker) × Q e) → MatchResult r P Q
by-allowance (Ok a) P Q is = is
by-allowance (Err e) P Q is = is.1

-- what was accepted from the caller is as before
allowed-here : Laws → (k : Known (BoardEntry Ask)) (h : List (BoardEntry Ask)) (asked : Ask) → Met k h → IsAllowed ask_size h k.number asked ↔ IsAllowed ask_size k.seen k.number asked
allowed-here laws k h asked met =
    let same : accepted_by k.number h ≡ accepted_by k.number k.seen = (meets-kept laws k h met).accepted in
    let IsRoom : List Ask → Type 0 = λ asks. (length asks < 2 ^ 20) × (sum_by ask_size asks + ask_size asked ≤ 2 ^ 26) in
    ((λ allowed. subst IsRoom same allowed), (λ allowed. subst IsRoom (sym same) allowed))

some-bit : (mask : ℕ) → (mask == 0) ≡ false → 0 < mask
some-bit zero e = absurd cc
some-bit (suc m) e = omega arith

-- a pad that is manned refuses for want of room in the allowance alone, or of memory
pub submit-refused : Laws → (k l : Known (BoardEntry Ask)) (pipe : PipelineState) (asked : Ask) (r : Result ℕ BoardErr) (O : List (BoardEntry Ask) → ℕ → Type 0) → KnowsPipe k pipe → IsPad pipe.bound → pipe.mask_is_empty ≡ false
    → AtTurn caller_of LegalBoard k (λ h. MatchResult r
    (λ n. (n ≡ length (submissions (entries_of pipe.number h))) × IsAllowed ask_size h k.number asked × O h n)
    (λ e. ((e ≡ NoWorker) ↔ (mask (entries_of pipe.number h) ≡ 0)) × ((e ≡ TooBig) ↔ ((0 < mask (entries_of pipe.number h)) × (IsAllowed ask_size h k.number asked → ⊥))) × Leaves k h l))
    → MatchResult r (λ _. IsAllowed ask_size k.seen k.number asked) (λ e. (e ≢ NoWorker) × ((e ≡ TooBig) ↔ (IsAllowed ask_size k.seen k.number asked → ⊥)))
submit-refused laws k l pipe asked (Ok n) O on pad manned turn = (allowed-here laws k turn.0 asked turn.1).0 turn.2.1
submit-refused laws k l pipe asked (Err e) O on pad manned turn =
    let here = allowed-here laws k turn.0 asked turn.1 in
    let some : 0 < mask (entries_of pipe.number turn.0) = some-bit (mask (entries_of pipe.number turn.0)) (((meets-kept laws k turn.0 turn.1).pipes pipe on).masked pad ∙ manned) in (
      (λ none. let zero_is = turn.2.0.0 none in absurd (omega (arith, some, zero_is))),
      ((λ big allowed. (turn.2.1.0 big).1 (here.1 allowed)), (λ never. turn.2.1.1 (some, λ allowed. never (here.0 allowed)))),
    )

-- ---- `enqueue`

pub enqueue-refused : Laws → (k l : Known (BoardEntry Ask)) (asked : Ask) (r : Result Entered BoardErr) (V O : List (BoardEntry Ask) → Entered → Type 0)
    → AtTurn caller_of LegalBoard k (λ h. MatchResult r
    (λ answer. V h answer × IsAllowed ask_size h k.number asked × O h answer)
    (λ e. (e ≢ NoWorker) × ((e ≡ TooBig) ↔ (IsAllowed ask_size h k.number asked → ⊥)) × Leaves k h l))
    → MatchResult r (λ _. IsAllowed ask_size k.seen k.number asked) (λ e. (e ≢ NoWorker) × ((e ≡ TooBig) ↔ (IsAllowed ask_size k.seen k.number asked → ⊥)))
enqueue-refused laws k l asked (Ok answer) V O turn = (allowed-here laws k turn.0 asked turn.1).0 turn.2.1
enqueue-refused laws k l asked (Err e) V O turn =
    let here = allowed-here laws k turn.0 asked turn.1 in
    (turn.2.0, ((λ big allowed. turn.2.1.0 big (here.1 allowed)), (λ never. turn.2.1.1 (λ allowed. never (here.0 allowed)))))

pub enqueue-changed : Laws → (k l : Known (BoardEntry Ask)) (pipe : PipelineState) (asked : Ask) (backlog : Bool) (V : List (BoardEntry Ask) → Entered → Type 0) (r : Result Entered BoardErr) → KnowsPipe k pipe
    → AtTurn caller_of LegalBoard k (λ h. MatchResult r
    (λ answer. V h answer × IsAllowed ask_size h k.number asked
    × ((ask : Arc Ask Global) × (arc_value ask ≡ asked) × Enters LegalBoard k h (event.Enq k.number pipe.number ask backlog answer) l))
    (λ e. (e ≢ NoWorker) × ((e ≡ TooBig) ↔ (IsAllowed ask_size h k.number asked → ⊥)) × Leaves k h l))
    → MatchResult r (λ answer. Changed k l pipe (entered_pipe pipe asked answer) (Enqueues pipe.number (asked_by asked) backlog answer ∷ []) (entered_asks asked answer)) (λ _. Unchanged k l)
enqueue-changed laws k l pipe asked backlog V (Err e) on turn = leaves-kept laws k l turn.0 turn.1 turn.2.2
enqueue-changed laws k l pipe asked backlog V (Ok answer) on turn = by_answer answer turn.2.2
  where
    h : List (BoardEntry Ask)
    h = turn.0

    kept : Unchanged k (sees k h)
    kept = meets-kept laws k h turn.1

    called : (answer : Entered) (ask : Arc Ask Global) → arc_value ask ≡ asked → if_own k.number k.number (Enqueues pipe.number (asked_by (arc_value ask)) backlog answer) ≡ Some (Enqueues pipe.number (asked_by asked) backlog answer)
    called answer ask e = own k.number (Enqueues pipe.number (asked_by (arc_value ask)) backlog answer) ∙ ap (λ a. Some (Enqueues pipe.number (asked_by a) backlog answer)) e

    accepts : (answer : Entered) (ask : Arc Ask Global) → arc_value ask ≡ asked → accepted_in (event.Enq k.number pipe.number ask backlog answer) ≡ Some asked → Enters LegalBoard k h (event.Enq k.number pipe.number ask backlog answer) l
        → Changed k l pipe (with_ask pipe asked) (Enqueues pipe.number (asked_by asked) backlog answer ∷ []) (asked ∷ [])
    accepts answer ask e some enters =
        let x : BoardEntry Ask = event.Enq k.number pipe.number ask backlog answer in
        changed-later k (sees k h) l pipe (with_ask pipe asked) (Enqueues pipe.number (asked_by asked) backlog answer ∷ []) (asked ∷ []) kept
        (entry-changed laws k l h x pipe (with_ask pipe asked) (Enqueues pipe.number (asked_by asked) backlog answer) (asked ∷ []) enters (eq-eqb pipe.number pipe.number refl) refl (called answer ask e)
        (accepted-more k.number h x asked (ap (λ b. if b then accepted_in x else None) (eq-eqb k.number k.number refl) ∙ some)) refl
        (pipe-accepts laws k.number h x pipe (record { closes = refl; shares = refl }) (kept.pipes pipe on) (record { born = refl; masks = refl }) asked (eq-eqb pipe.number pipe.number refl) some refl refl))

    by_answer : (answer : Entered) → ((ask : Arc Ask Global) × (arc_value ask ≡ asked) × Enters LegalBoard k h (event.Enq k.number pipe.number ask backlog answer) l)
        → Changed k l pipe (entered_pipe pipe asked answer) (Enqueues pipe.number (asked_by asked) backlog answer ∷ []) (entered_asks asked answer)
    by_answer (InProgress n) done = accepts (InProgress n) done.0 done.1 (ap (λ a. Some a) done.1) done.2
    by_answer (Busy n) done = accepts (Busy n) done.0 done.1 (ap (λ a. Some a) done.1) done.2
    by_answer NoSpace done =
        let x : BoardEntry Ask = event.Enq k.number pipe.number done.0 backlog NoSpace in
        changed-later k (sees k h) l pipe pipe (Enqueues pipe.number (asked_by asked) backlog NoSpace ∷ []) [] kept
        (entry-changed laws k l h x pipe pipe (Enqueues pipe.number (asked_by asked) backlog NoSpace) [] done.2 (eq-eqb pipe.number pipe.number refl) refl (called NoSpace done.0 done.1)
        (accepted-none k.number h x refl) refl (pipe-stays laws k.number h x pipe (record { closes = refl; shares = refl }) (kept.pipes pipe on) (record { born = refl; masks = refl }) refl refl refl))

-- ---- what is told, by the lines of the requests

origin-of-some : (o : Option Ask) → origin_in o ≡ unwrap_or (option_map origin_of o) (record { client = 0; line = 0 })
origin-of-some (Some ask) = refl
origin-of-some None = refl

get-map : (asks : List Ask) (n : ℕ) → option_map origin_of (slice_get asks n) ≡ slice_get (map origin_of asks) n
get-map [] n = refl
get-map (x ∷ xs) zero = refl
get-map (x ∷ xs) (suc n) = get-map xs n

origin-is : (asks : List Ask) (n : ℕ) → origin_in (slice_get asks n) ≡ origin_at (map origin_of asks) n
origin-is asks n = origin-of-some (slice_get asks n) ∙ ap (λ o. unwrap_or o (record { client = 0; line = 0 })) (get-map asks n)

notice-is : (asks : List Ask) (told : Callback Finished) → notice_of asks told ≡ notice_by (map origin_of asks) told
notice-is asks (callback.Started n) = ap Started (origin-is asks n)
notice-is asks (callback.Done n finished) = ap (λ line. Completed line finished) (origin-is asks n)

pub notices-are : (asks : List Ask) (lines : List Origin) (callbacks : List (Callback Finished)) → map origin_of asks ≡ lines → map (notice_of asks) callbacks ≡ map (notice_by lines) callbacks
notices-are asks lines [] e = refl
notices-are asks lines (x ∷ xs) e =
    ap (λ first. first ∷ map (notice_of asks) xs) (notice-is asks x ∙ ap (λ ls. notice_by ls x) e) ∙ ap (λ rest. notice_by lines x ∷ rest) (notices-are asks lines xs e)

-- ---- `try_drain`

pub drained-changed : Laws → (k l : Known (BoardEntry Ask)) (pipe : PipelineState) (h : List (BoardEntry Ask)) → KnowsPipe k pipe → Met k h → front (entries_of pipe.number h) ≡ length (submissions (entries_of pipe.number h))
    → Enters LegalBoard k h (event.Collect k.number pipe.number (length (told (entries_of pipe.number h)))) l
    → Drained k l pipe (delivered outcome (entries_of pipe.number h) (length (told (entries_of pipe.number h))))
drained-changed laws k l pipe h on meets all enters =
    let es = entries_of pipe.number h in
    let to = length (told es) in
    let callbacks = delivered outcome es to in
    let kept = meets-kept laws k h meets in
    let here = kept.pipes pipe on in
    let pipe' : PipelineState = record pipe { delivered = pipe.delivered + completions callbacks } in
    let call : BoardCall = Collects pipe.number (record { notices = map (notice_by pipe.lines) callbacks; all_done = true }) in
    changed-later k (sees k h) l pipe pipe' (call ∷ []) [] kept
    (entry-changed laws k l h (event.Collect k.number pipe.number to) pipe pipe' call [] enters (eq-eqb pipe.number pipe.number refl) refl
    (own k.number (Collects pipe.number (collected_to es to))
    ∙ (ap (λ ns. Some (Collects pipe.number (record { notices = ns; all_done = front es == length (submissions es) }))) (notices-are (submissions es) pipe.lines callbacks here.lines)
    ∙ ap (λ b. Some (Collects pipe.number (record { notices = map (notice_by pipe.lines) callbacks; all_done = b }))) (eq-eqb (front es) (length (submissions es)) all)))
    (accepted-none k.number h (event.Collect k.number pipe.number to) refl) refl (pipe-collected laws k.number h pipe to enters.1 here))

-- it has handed all out
drained-all : Laws → (k : Known (BoardEntry Ask)) (pipe : PipelineState) (h : List (BoardEntry Ask)) → KnowsPipe k pipe → Met k h → front (entries_of pipe.number h) ≡ length (submissions (entries_of pipe.number h))
    → LegalBoard (h ++ event.Collect k.number pipe.number (length (told (entries_of pipe.number h))) ∷ [])
    → pipe.delivered + completions (delivered outcome (entries_of pipe.number h) (length (told (entries_of pipe.number h)))) ≡ length pipe.lines
drained-all laws k pipe h on meets all legal =
    let p = pipe.number in
    let to = length (told (entries_of p h)) in
    let here = (meets-kept laws k h meets).pipes pipe on in
    let now = pipe-collected laws k.number h pipe to legal here in
    sym now.delivered
    ∙ (ap length (laws.steps.all h p k.number to legal (laws.steps.finished (entries_of p h) all))
    ∙ (length-numbers (length (submissions (entries_of p h)))
    ∙ (sym (length-map (submissions (entries_of p h)) origin_of) ∙ ap length here.lines)))

-- ---- `close`

pub all-drained : Laws → (k : Known (BoardEntry Ask)) (pipe : PipelineState) → LegalBoard k.seen → KnowsPipe k pipe → pipe.delivered ≡ length pipe.lines → IsDrained (entries_of pipe.number k.seen)
all-drained laws k pipe legal on paid =
    let es = entries_of pipe.number k.seen in
    laws.steps.drained k.seen pipe.number legal
    (on.delivered ∙ (paid ∙ (ap length (sym on.lines) ∙ length-map (submissions es) origin_of)))

or-true : (b : Bool) → (b || true) ≡ true
or-true true = refl
or-true false = refl

pub close-closed : Laws → (k l : Known (BoardEntry Ask)) (pipe : PipelineState) → AtTurn caller_of LegalBoard k (λ h. Enters LegalBoard k h (event.Close k.number pipe.number) l) → Closed k l pipe
close-closed laws k l pipe turn =
    let h = turn.0 in
    let e : BoardEntry Ask = event.Close k.number pipe.number in
    let kept = meets-kept laws k h turn.1 in
    subst (λ x. Closed k x pipe) (sym turn.2.0) (record {
      called = record {
        number = refl;
        next = refl;
        seen = (turn.1.others ++ e ∷ [], ap (λ x. x ++ e ∷ []) turn.1.goes_on ∙ append_assoc k.seen turn.1.others (e ∷ []));
        calls_are = calls-one laws k.number h e (Closes pipe.number) (own k.number (Closes pipe.number)) ∙ ap (λ cs. cs ++ Closes pipe.number ∷ []) (kept.called.calls_are ∙ append-nil (board_calls k.number k.seen));
      };
      legal = turn.2.1;
      others = λ other apart on. subst (λ es. IsPipeIn k.number es other) (sym (apart-same laws h e pipe.number other.number (eq-eqb pipe.number pipe.number refl) apart)) (kept.pipes other on);
      owned = λ p owns. by_number p (p == pipe.number) refl owns;
      accepted = accepted-none k.number h e refl ∙ (append-nil (accepted_by k.number h) ∙ kept.accepted);
      unshut = λ zero_is. laws.steps.shut h e refl ∙ kept.unshut zero_is;
    })
  where
    h : List (BoardEntry Ask)
    h = turn.0

    e : BoardEntry Ask
    e = event.Close k.number pipe.number

    by_number : (p : ℕ) (b : Bool) → (p == pipe.number) ≡ b → OwnsIn k.number (entries_of p (h ++ e ∷ [])) → Owns k p × ((p == pipe.number) ≡ false)
    by_number p true is owns =
        let open_still : is_closed (entries_of pipe.number (h ++ e ∷ [])) ≡ false = subst (λ q. is_closed (entries_of q (h ++ e ∷ [])) ≡ false) (eqb-true p pipe.number is) owns.1 in
        let closed : is_closed (entries_of pipe.number (h ++ e ∷ [])) ≡ true = ap is_closed (laws.steps.joins h e pipe.number (eq-eqb pipe.number pipe.number refl)) ∙ (list_any-append is_close (entries_of pipe.number h) (e ∷ []) ∙ or-true (is_closed (entries_of pipe.number h))) in
        let bad : true ≡ false = sym closed ∙ open_still in
        cc
    by_number p false apart owns =
        ((meets-kept laws k h turn.1).owned p (subst (λ es. OwnsIn k.number es) (apart-same laws h e pipe.number p (eq-eqb pipe.number pipe.number refl) apart) owns), apart)

-- ---- `hold` and `go`

-- a pipeline is held, or let go
pipe-switched : Laws → (n : ℕ) (h : List (BoardEntry Ask)) (e : BoardEntry Ask) (pipe : PipelineState) (held : Bool) → IsPlain e → IsMaskless e → accepted_in e ≡ None → is_collect e ≡ false → is_held (entries_of pipe.number (h ++ e ∷ [])) ≡ held → (held ≡ true → IsQueue pipe.bound)
    → IsPipeIn n (entries_of pipe.number h) pipe → IsPipeIn n (entries_of pipe.number (h ++ e ∷ [])) (record pipe { held = held })
pipe-switched laws n h e pipe held plain maskless none hands holds queue on =
    record {
      opened = opened-more laws n h e pipe plain on;
      managed = managed-more laws n h e pipe plain on;
      unshared = unshared-more laws n h e pipe plain on;
      masked = masked-more laws n h e pipe plain on maskless;
      held = holds;
      queue = queue;
      lines = lines-more laws n h e pipe plain on none;
      delivered = delivered-more laws n h e pipe plain on hands;
    }

pub hold-changed : Laws → (k l : Known (BoardEntry Ask)) (pipe : PipelineState) (r : Result (Unit {0}) BoardErr) → KnowsPipe k pipe → IsQueue pipe.bound
    → AtTurn caller_of LegalBoard k (λ h. MatchResult r (λ _. Enters LegalBoard k h (event.Hold k.number pipe.number) l) (λ e. (e ≡ Memory) × Leaves k h l))
    → MatchResult r (λ _. Changed k l pipe (record pipe { held = true }) (Holds pipe.number ∷ []) []) (λ e. (e ≡ Memory) × Unchanged k l)
hold-changed laws k l pipe (Err e) on queue turn = (turn.2.0, leaves-kept laws k l turn.0 turn.1 turn.2.1)
hold-changed laws k l pipe (Ok done) on queue turn =
    let h = turn.0 in
    let n = k.number in
    let e : BoardEntry Ask = event.Hold n pipe.number in
    let pipe' : PipelineState = record pipe { held = true } in
    let same = eq-eqb pipe.number pipe.number refl in
    let kept = meets-kept laws k h turn.1 in
    changed-later k (sees k h) l pipe pipe' (Holds pipe.number ∷ []) [] kept
    (entry-changed laws k l h e pipe pipe' (Holds pipe.number) [] turn.2 same refl (own n (Holds pipe.number)) (accepted-none n h e refl) refl
    (pipe-switched laws n h e pipe true (record { closes = refl; shares = refl }) (record { born = refl; masks = refl }) refl refl (laws.steps.switched h n pipe.number).0 (λ held. queue) (kept.pipes pipe on)))

pub go-changed : Laws → (k l : Known (BoardEntry Ask)) (pipe : PipelineState) (r : Result (Unit {0}) BoardErr) → KnowsPipe k pipe
    → AtTurn caller_of LegalBoard k (λ h. MatchResult r (λ _. Enters LegalBoard k h (event.Go k.number pipe.number) l) (λ e. (e ≡ Memory) × Leaves k h l))
    → MatchResult r (λ _. Changed k l pipe (record pipe { held = false }) (Goes pipe.number ∷ []) []) (λ e. (e ≡ Memory) × Unchanged k l)
go-changed laws k l pipe (Err e) on turn = (turn.2.0, leaves-kept laws k l turn.0 turn.1 turn.2.1)
go-changed laws k l pipe (Ok done) on turn =
    let h = turn.0 in
    let n = k.number in
    let e : BoardEntry Ask = event.Go n pipe.number in
    let pipe' : PipelineState = record pipe { held = false } in
    let same = eq-eqb pipe.number pipe.number refl in
    let kept = meets-kept laws k h turn.1 in
    changed-later k (sees k h) l pipe pipe' (Goes pipe.number ∷ []) [] kept
    (entry-changed laws k l h e pipe pipe' (Goes pipe.number) [] turn.2 same refl (own n (Goes pipe.number)) (accepted-none n h e refl) refl
    (pipe-switched laws n h e pipe false (record { closes = refl; shares = refl }) (record { born = refl; masks = refl }) refl refl (laws.steps.switched h n pipe.number).1 (λ held. absurd cc) (kept.pipes pipe on)))

-- ---- `mask`

pub mask-changed : Laws → (k l : Known (BoardEntry Ask)) (pipe : PipelineState) (bits : ℕ) (r : Result (Unit {0}) BoardErr) → KnowsPipe k pipe
    → AtTurn caller_of LegalBoard k (λ h. MatchResult r (λ _. Enters LegalBoard k h (event.Mask k.number pipe.number bits) l) (λ e. (e ≡ Memory) × Leaves k h l))
    → MatchResult r (λ _. Changed k l pipe (record pipe { mask_is_empty = bits == 0 }) (Masks pipe.number bits ∷ []) []) (λ e. (e ≡ Memory) × Unchanged k l)
mask-changed laws k l pipe bits (Err e) on turn = (turn.2.0, leaves-kept laws k l turn.0 turn.1 turn.2.1)
mask-changed laws k l pipe bits (Ok done) on turn =
    let h = turn.0 in
    let n = k.number in
    let e : BoardEntry Ask = event.Mask n pipe.number bits in
    let pipe' : PipelineState = record pipe { mask_is_empty = bits == 0 } in
    let plain : IsPlain e = record { closes = refl; shares = refl } in
    let same = eq-eqb pipe.number pipe.number refl in
    let kept = meets-kept laws k h turn.1 in
    let here = kept.pipes pipe on in
    let now : IsPipeIn n (entries_of pipe.number (h ++ e ∷ [])) pipe' = record {
      opened = opened-more laws n h e pipe plain here;
      managed = managed-more laws n h e pipe plain here;
      unshared = unshared-more laws n h e pipe plain here;
      masked = λ pad. ap (λ m. m == 0) (laws.steps.remasked h n pipe.number bits);
      held = laws.steps.held h e pipe.number refl ∙ here.held;
      queue = here.queue;
      lines = lines-more laws n h e pipe plain here refl;
      delivered = delivered-more laws n h e pipe plain here refl;
    } in
    changed-later k (sees k h) l pipe pipe' (Masks pipe.number bits ∷ []) [] kept
    (entry-changed laws k l h e pipe pipe' (Masks pipe.number bits) [] turn.2 same refl (own n (Masks pipe.number bits)) (accepted-none n h e refl) refl now)

-- ---- what is handed out

-- of a pipeline of its own
knows-within : Laws → (n : ℕ) (h : List (BoardEntry Ask)) (pipe : PipelineState) (to : ℕ) → LegalBoard h → IsPipeIn n (entries_of pipe.number h) pipe
    → AreWithin (length pipe.lines) (accepted_by n h) (delivered outcome (entries_of pipe.number h) to)
knows-within laws n h pipe to legal on =
    let asks = submissions (entries_of pipe.number h) in
    subst (λ many. AreWithin many (accepted_by n h) (delivered outcome (entries_of pipe.number h) to)) (sym (length-map asks origin_of) ∙ ap length on.lines)
    (hands-within laws n h pipe.number to legal on.managed.1 on.unshared)

-- ---- `poll`

pub poll-changed : Laws → (k l : Known (BoardEntry Ask)) (pipe : PipelineState) (into into' : List (Callback Finished)) (r : Result (Unit {0}) BoardErr) → KnowsPipe k pipe
    → AtTurn caller_of LegalBoard k (λ h. let es = entries_of pipe.number h in MatchResult r
    (λ _. (into' ≡ into ++ delivered outcome es (length (told es))) × Enters LegalBoard k h (event.Collect k.number pipe.number (length (told es))) l)
    (λ e. (e ≡ Memory) × (into' ≡ into) × Leaves k h l))
    → MatchResult r (λ _. (callbacks : List (Callback Finished)) × (all : Bool) × (into' ≡ into ++ callbacks) × Polled k l pipe callbacks all × AreWithin (length pipe.lines) (accepted_by k.number k.seen) callbacks) (λ e. (e ≡ Memory) × (into' ≡ into) × Unchanged k l)
poll-changed laws k l pipe into into' (Err e) on turn = (turn.2.0, turn.2.1, leaves-kept laws k l turn.0 turn.1 turn.2.2)
poll-changed laws k l pipe into into' (Ok done) on turn =
    let h = turn.0 in
    let es = entries_of pipe.number h in
    let to = length (told es) in
    let callbacks = delivered outcome es to in
    let all : Bool = front es == length (submissions es) in
    let kept = meets-kept laws k h turn.1 in
    let here = kept.pipes pipe on in
    let pipe' : PipelineState = record pipe { delivered = pipe.delivered + completions callbacks } in
    let call : BoardCall = Collects pipe.number (record { notices = map (notice_by pipe.lines) callbacks; all_done = all }) in (
      callbacks,
      all,
      turn.2.0,
      changed-later k (sees k h) l pipe pipe' (call ∷ []) [] kept
          (entry-changed laws k l h (event.Collect k.number pipe.number to) pipe pipe' call [] turn.2.1 (eq-eqb pipe.number pipe.number refl) refl
          (own k.number (Collects pipe.number (collected_to es to))
          ∙ ap (λ ns. Some (Collects pipe.number (record { notices = ns; all_done = all }))) (notices-are (submissions es) pipe.lines callbacks here.lines))
          (accepted-none k.number h (event.Collect k.number pipe.number to) refl) refl (pipe-collected laws k.number h pipe to turn.2.1.1 here)),
      subst (λ asks. AreWithin (length pipe.lines) asks callbacks) kept.accepted (knows-within laws k.number h pipe to kept.legal here),
    )

-- ---- a pipeline is made

-- a mask of so many bits is not empty
full : (lists : ℕ) → 1 ≤ lists → 0 < 2 ^ lists - 1
full lists some = let more = pow_below 0 lists some in omega (arith, more)

not-empty : (mask : ℕ) → 0 < mask → (mask == 0) ≡ false
not-empty mask some = by_test (mask == 0) refl
  where
    by_test : (t : Bool) → (mask == 0) ≡ t → (mask == 0) ≡ false
    by_test true e = let none = eqb-true mask 0 e in absurd (omega (arith, some, none))
    by_test false e = e

new-pipe_in : (n number : ℕ) (shape : Shape) → IsNoWorker n → IsShape shape → IsPipeIn n (event.Born n number shape ∷ []) (new_pipe number shape)
new-pipe_in n number (Pad lists) outsider fits =
    record { opened = (refl, refl); managed = (outsider, refl); unshared = refl; masked = λ pad. not-empty (2 ^ lists - 1) (full lists fits.0); held = refl; queue = λ held. absurd cc; lines = refl; delivered = refl }
new-pipe_in n number (Queue max) outsider fits =
    record { opened = (refl, refl); managed = (outsider, refl); unshared = refl; masked = λ pad. absurd pad; held = refl; queue = λ held. absurd cc; lines = refl; delivered = refl }
new-pipe_in n number (Chain max lists) outsider fits =
    record { opened = (refl, refl); managed = (outsider, refl); unshared = refl; masked = λ pad. absurd pad; held = refl; queue = λ held. absurd cc; lines = refl; delivered = refl }

-- a pipeline that a caller knows has entries
not-new : (n : ℕ) (h : List (BoardEntry Ask)) (number : ℕ) (pipe : PipelineState) → entries_of number h ≡ [] → IsPipeIn n (entries_of pipe.number h) pipe → (pipe.number == number) ≡ false
not-new n h number pipe none on = by_test (pipe.number == number) refl
  where
    by_test : (t : Bool) → (pipe.number == number) ≡ t → t ≡ false
    by_test true e =
        let same : pipe.number ≡ number = eqb-true pipe.number number e in
        let empty : entries_of pipe.number h ≡ [] = ap (λ m. entries_of m h) same ∙ none in
        absurd (let f : false ≡ true = (subst (IsOpenAs (made_so pipe.bound)) empty on.opened).0 in cc)
    by_test false e = refl

pub born-opened : Laws → (k l : Known (BoardEntry Ask)) (shape : Shape) (r : Result ℕ BoardErr) → IsNoWorker k.number
    → AtTurn caller_of LegalBoard k (λ h. MatchResult r (λ pipe. (pipe ≡ pipelines h) × Enters LegalBoard k h (event.Born k.number pipe shape) l) (λ e. (e ≡ Memory) × Leaves k h l))
    → MatchResult r (λ pipe. Opened k l pipe shape) (λ e. (e ≡ Memory) × Unchanged k l)
born-opened laws k l shape (Err e) outsider turn = (turn.2.0, leaves-kept laws k l turn.0 turn.1 turn.2.1)
born-opened laws k l shape (Ok p) outsider turn =
    let h = turn.0 in
    let n = k.number in
    let e : BoardEntry Ask = event.Born n p shape in
    let same = eq-eqb p p refl in
    let kept = meets-kept laws k h turn.1 in
    let empty : entries_of p h ≡ [] = laws.steps.alone h n p shape turn.2.1.1 in
    let fits : IsShape shape = (laws.steps.last h e turn.2.1.1).1.1.2 in
    let begun : entries_of p (h ++ e ∷ []) ≡ e ∷ [] = laws.steps.joins h e p same ∙ ap (λ es. es ++ e ∷ []) empty in
    let now : IsPipeIn n (entries_of p (h ++ e ∷ [])) (new_pipe p shape) = subst (λ es. IsPipeIn n es (new_pipe p shape)) (sym begun) (new-pipe_in n p shape outsider fits) in
    record {
      changed = changed-later k (sees k h) l (new_pipe p shape) (new_pipe p shape) (Creates p shape ∷ []) [] kept
          (entry-changed laws k l h e (new_pipe p shape) (new_pipe p shape) (Creates p shape) [] turn.2.1 same refl (own n (Creates p shape)) (accepted-none n h e refl) refl now);
      fresh = λ other on. not-new n h p other empty (kept.pipes other on);
      born = ap (λ (x : Known (BoardEntry Ask)). birth (entries_of p x.seen)) turn.2.1.0 ∙ (ap birth begun ∙ ap (λ m. Some (m, shape)) (sym (ap (λ (x : Known (BoardEntry Ask)). x.number) turn.2.1.0)));
    }

-- ---- `shut`

pub shut-changed : Laws → (k l : Known (BoardEntry Ask)) → AtTurn caller_of LegalBoard k (λ h. Enters LegalBoard k h (event.Shut k.number) l) → IsShut k l
shut-changed laws k l turn =
    let h = turn.0 in
    let n = k.number in
    let e : BoardEntry Ask = event.Shut n in
    let kept = meets-kept laws k h turn.1 in
    subst (λ x. IsShut k x) (sym turn.2.0) (record {
      called = record {
        number = refl;
        next = refl;
        seen = (turn.1.others ++ e ∷ [], ap (λ x. x ++ e ∷ []) turn.1.goes_on ∙ append_assoc k.seen turn.1.others (e ∷ []));
        calls_are = calls-one laws n h e Shuts (own n Shuts) ∙ ap (λ cs. cs ++ Shuts ∷ []) (kept.called.calls_are ∙ append-nil (board_calls n k.seen));
      };
      before = h;
      kept = kept;
      last = refl;
      legal = turn.2.1;
      own = subst (λ x. IsOwn caller_of x) turn.2.0 (own_entered caller_of LegalBoard k l (λ x. e) (h, turn.1, turn.2) refl);
    })

-- ---- `drain`

drained-within : Laws → (k m : Known (BoardEntry Ask)) (pipe : PipelineState) (h : List (BoardEntry Ask)) (to : ℕ) → Unchanged k m → KnowsPipe m pipe → Met m h
    → AreWithin (length pipe.lines) (accepted_by k.number k.seen) (delivered outcome (entries_of pipe.number h) to)
drained-within laws k m pipe h to worked on met =
    let kept = meets-kept laws m h met in
    subst (λ asks. AreWithin (length pipe.lines) asks (delivered outcome (entries_of pipe.number h) to)) (kept.accepted ∙ worked.accepted)
    (knows-within laws m.number h pipe to kept.legal (kept.pipes pipe on))

pub crew-drained : Laws → (k l : Known (BoardEntry Ask)) (pipe : PipelineState) (into into' : List (Callback Finished)) (r : Result (Unit {0}) BoardErr) → LegalBoard k.seen → KnowsPipe k pipe
    → MatchResult r (λ _. CrewDrained outcome pipe.number k l into into') (λ e. (e ≡ Memory) × (into' ≡ into) × Worked k l)
    → MatchResult r (λ _. (callbacks : List (Callback Finished)) × (into' ≡ into ++ callbacks) × Drained k l pipe callbacks × (pipe.delivered + completions callbacks ≡ length pipe.lines) × AreWithin (length pipe.lines) (accepted_by k.number k.seen) callbacks) (λ e. (e ≡ Memory) × (into' ≡ into) × Unchanged k l)
crew-drained laws k l pipe into into' (Err e) legal on did =
    let w = did.2 in
    (did.0, did.1, goes-kept laws k l w.own w.goes w.work (still_kept caller_of LegalBoard k l w.own w.goes legal))
crew-drained laws k l pipe into into' (Ok done) legal on did =
    let m = did.0 in
    let w = did.1 in
    let kept = goes-kept laws k m w.own w.goes w.work (still_kept caller_of LegalBoard k m w.own w.goes legal) in
    let turn = did.2 in
    let callbacks = delivered outcome (entries_of pipe.number turn.0) (length (told (entries_of pipe.number turn.0))) in
    let pipe' : PipelineState = record pipe { delivered = pipe.delivered + completions callbacks } in (
      callbacks,
      turn.2.1,
      changed-later k m l pipe pipe' (Collects pipe.number (record { notices = map (notice_by pipe.lines) callbacks; all_done = true }) ∷ []) [] kept
          (drained-changed laws m l pipe turn.0 (kept.pipes pipe on) turn.1 turn.2.0 turn.2.2),
      drained-all laws m pipe turn.0 (kept.pipes pipe on) turn.1 turn.2.0 turn.2.2.1,
      drained-within laws k m pipe turn.0 (length (told (entries_of pipe.number turn.0))) kept (kept.pipes pipe on) turn.1,
    )
