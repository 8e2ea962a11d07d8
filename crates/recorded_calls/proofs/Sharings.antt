-- Calls on pipelines that are shared, by what the lock says of a turn.
use Rattle.std.proofs.Common.{◌≡◌, ◌≢◌, ℕ, zero, suc, ◌+◌, Bool, true, false, List, [], ◌∷◌, ◌++◌, length, Option, Some, None, Result, Ok, Err, is_some, refl, sym, ap, subst, ◌∙◌, arith}
use Rattle.std.specs.Prelude.{◌<◌, ◌≤◌, ◌^◌, ◌==◌, ◌||◌, ◌↔◌, if◌then◌else◌, MatchResult, sum_by}
use Rattle.std.specs.Arc.{arc_value}
use Rattle.std.specs.declared.sync.Arc.{Arc}
use Rattle.std.specs.declared.alloc.Global.{Global}
use Rattle.std.proofs.lemmas.Bool.{eq-eqb, eqb-true}
use Rattle.std.proofs.lemmas.List.Folds.{list_any-append}
use Rattle.board.specs.declared.board_core.BoardErr.{BoardErr}
use Rattle.board.specs.declared.board_core.BoardErr.TheVariants.{NoWorker, TooBig}
use Rattle.board.specs.declared.entry.BoardEntry.{BoardEntry}
use Rattle.board.specs.declared.entry.BoardEntry.TheVariants as event
use Rattle.board.specs.declared.entry.Shape.{Shape}
use Rattle.board.specs.Entries.{is_of, entries_of, submissions, caller_of, accepted_in, birth, maker_is, is_close, is_closed, is_shared, mask}
use Rattle.board.specs.Allowance.{IsAllowed, accepted_by}
use Rattle.board.specs.Legal.{LegalBoard, is_shut_entry}
use Rattle.board.specs.Shapes.{is_born}
use Rattle.transforms.specs.declared.ask.Ask.{Ask}
use Rattle.transforms.specs.AskValue.{ask_size}
use Rattle.turn_lock.specs.Turns.{Known, StartsWith, sees, adds, of}
use Rattle.turn_lock.specs.PassLaws.{AtTurn, Enters, Leaves}
use Rattle.dialogues.specs.RegistryCalls.{if_own}
use Rattle.board.specs.declared.entry.Entered.{Entered}
use Rattle.board.specs.declared.entry.Entered.TheVariants.{InProgress, Busy, NoSpace}
use Rattle.dialogues.specs.BoardCalls.{BoardCall, Submits, Enqueues, asked_by, board_call_of}
use Rattle.dialogues.specs.ScriptState.{PipelineState}
use Rattle.recorded_calls.specs.Pipelines.{Laws, IsPipeIn, IsPad, made_so, Unchanged, entered_asks}
use Rattle.recorded_calls.specs.SharedCalls.{SharingLaws, IsSharedIn, KnowsShared, Gave}
use Rattle.recorded_calls.proofs.Boarding.{Met, OwnsIn, called-more, calls-one, meets-kept, leaves-kept, accepted-none, accepted-more, apart-same}

own : {C : Type 0} (n : ℕ) (call : C) → if_own n n call ≡ Some call
own {C} n call = ap (λ b. if b then Some call else None) (eq-eqb n n refl)

-- ---- what is shared stays so

pub shared-on : SharingLaws → (n : ℕ) (h es : List (BoardEntry Ask)) (pipe : PipelineState) → LegalBoard (h ++ es) → IsSharedIn n (entries_of pipe.number h) pipe → IsSharedIn n (entries_of pipe.number (h ++ es)) pipe
shared-on laws n h es pipe legal on =
    let stays = laws.stays (made_so pipe.bound) h es pipe.number legal on.shared on.opened in
    record {
      opened = stays.opened;
      submits = stays.submits n on.submits;
      shared = stays.shared;
      masked = λ pad. ap (λ m. m == 0) stays.masked ∙ on.masked pad;
    }

-- whoever goes on
pub knows-shared-on : SharingLaws → (k l : Known (BoardEntry Ask)) (pipe : PipelineState) → l.number ≡ k.number → StartsWith l.seen k.seen → LegalBoard l.seen → KnowsShared k pipe → KnowsShared l pipe
knows-shared-on laws k l pipe same starts legal on =
    subst (λ n. IsSharedIn n (entries_of pipe.number l.seen) pipe) (sym same)
    (subst (λ h. IsSharedIn k.number (entries_of pipe.number h) pipe) (sym starts.1)
    (shared-on laws k.number k.seen starts.0 pipe (subst LegalBoard starts.1 legal) on))

shared-at : SharingLaws → (k : Known (BoardEntry Ask)) (h : List (BoardEntry Ask)) (pipe : PipelineState) → Met k h → KnowsShared k pipe → IsSharedIn k.number (entries_of pipe.number h) pipe
shared-at laws k h pipe met on = knows-shared-on laws k (sees k h) pipe refl (met.others, met.goes_on) met.kept on

-- what one knows of an unshared pipeline is of another one
apart-shared : (n : ℕ) (h : List (BoardEntry Ask)) (mine other : PipelineState) → IsPipeIn n (entries_of mine.number h) mine → IsSharedIn n (entries_of other.number h) other → (mine.number == other.number) ≡ false
apart-shared n h mine other on lent = by_test (mine.number == other.number) refl
  where
    by_test : (t : Bool) → (mine.number == other.number) ≡ t → t ≡ false
    by_test true is =
        let same : mine.number ≡ other.number = eqb-true mine.number other.number is in
        let bad : true ≡ false = sym lent.shared ∙ (ap (λ p. is_shared (entries_of p h)) (sym same) ∙ on.unshared) in cc
    by_test false is = refl

some-maker : (b : Option (ℕ × Shape)) (such : Shape → Bool) → is_born such b ≡ true → is_some b ≡ true
some-maker (Some x) such is = refl
some-maker None such is = absurd cc

or-left : (a b : Bool) → (a || b) ≡ false → a ≡ false
or-left false b e = refl
or-left true b e = absurd cc

-- a pipeline that it owns after an entry on one that is shared it owned before
owned-still : SharingLaws → (n : ℕ) (h : List (BoardEntry Ask)) (e : BoardEntry Ask) (pipe : PipelineState) (p : ℕ) → is_of pipe.number e ≡ true → IsSharedIn n (entries_of pipe.number h) pipe → OwnsIn n (entries_of p (h ++ e ∷ [])) → OwnsIn n (entries_of p h)
owned-still laws n h e pipe p of on owns = by_number (p == pipe.number) refl
  where
    by_number : (t : Bool) → (p == pipe.number) ≡ t → OwnsIn n (entries_of p h)
    by_number false apart = subst (λ es. OwnsIn n es) (apart-same laws.laws h e pipe.number p of apart) owns
    by_number true is =
        let same : p ≡ pipe.number = eqb-true p pipe.number is in
        let es = entries_of pipe.number h in
        let after : OwnsIn n (es ++ e ∷ []) = subst (λ xs. OwnsIn n xs) (laws.laws.steps.joins h e pipe.number of) (subst (λ q. OwnsIn n (entries_of q (h ++ e ∷ []))) same owns) in
        let born = laws.birth es e (some-maker (birth es) (made_so pipe.bound) on.opened.0) in
        subst (λ q. OwnsIn n (entries_of q h)) (sym same)
        ((after.0.0, subst (λ b. maker_is b n) born after.0.1), or-left (is_closed es) (is_close e || false) (sym (list_any-append is_close es (e ∷ [])) ∙ after.1))

-- an entry of the caller's on a pipeline that is shared
entry-gave : SharingLaws → (k l : Known (BoardEntry Ask)) (h : List (BoardEntry Ask)) (e : BoardEntry Ask) (pipe : PipelineState) (call : BoardCall) (asks : List Ask) → Met k h → KnowsShared k pipe → Enters LegalBoard k h e l → is_of pipe.number e ≡ true → is_shut_entry e ≡ false
    → board_call_of k.number h e ≡ Some call → accepted_by k.number (h ++ e ∷ []) ≡ accepted_by k.number h ++ asks
    → Gave k l (call ∷ []) asks
entry-gave laws k l h e pipe call asks met on enters of unshuts called accepts =
    let kept = meets-kept laws.laws k h met in
    let here = shared-at laws k h pipe met on in
    subst (λ x. Gave k x (call ∷ []) asks) (sym enters.0) (record {
      called = called-more k (sees k h) (adds (sees k h) e) [] (call ∷ []) kept.called (record { number = refl; next = refl; seen = (e ∷ [], refl); calls_are = calls-one laws.laws k.number h e call called });
      legal = enters.1;
      pipes = λ mine was.
          let there = kept.pipes mine was in
          subst (λ es. IsPipeIn k.number es mine) (sym (apart-same laws.laws h e pipe.number mine.number of (apart-shared k.number h mine pipe there here))) there;
      owned = λ p owns. kept.owned p (owned-still laws k.number h e pipe p of here owns);
      accepted = accepts ∙ ap (λ a. a ++ asks) kept.accepted;
      unshut = λ zero_is. laws.laws.steps.shut h e unshuts ∙ kept.unshut zero_is;
    })

-- ---- `submit`

own_ask : (b : Bool) (ask : Ask) → b ≡ true → (if b then Some ask else None) ≡ Some ask
own_ask b ask e = ap (λ t. if t then Some ask else None) e

pub submit-gave : SharingLaws → (k l : Known (BoardEntry Ask)) (pipe : PipelineState) (asked : Ask) (r : Result ℕ BoardErr) → KnowsShared k pipe
    → AtTurn caller_of LegalBoard k (λ h. MatchResult r
    (λ n. (n ≡ length (submissions (entries_of pipe.number h))) × IsAllowed ask_size h k.number asked
    × ((ask : Arc Ask Global) × (arc_value ask ≡ asked) × Enters LegalBoard k h (event.Submit k.number pipe.number n ask) l))
    (λ e. ((e ≡ NoWorker) ↔ (mask (entries_of pipe.number h) ≡ 0)) × ((e ≡ TooBig) ↔ ((0 < mask (entries_of pipe.number h)) × (IsAllowed ask_size h k.number asked → ⊥))) × Leaves k h l))
    → MatchResult r (λ number. Gave k l (Submits pipe.number number (asked_by asked) ∷ []) (asked ∷ [])) (λ _. Unchanged k l)
submit-gave laws k l pipe asked (Err e) on turn = leaves-kept laws.laws k l turn.0 turn.1 turn.2.2
submit-gave laws k l pipe asked (Ok n) on turn =
    let h = turn.0 in
    let done = turn.2.2 in
    let e : BoardEntry Ask = event.Submit k.number pipe.number n done.0 in
    entry-gave laws k l h e pipe (Submits pipe.number n (asked_by asked)) (asked ∷ []) turn.1 on done.2 (eq-eqb pipe.number pipe.number refl) refl
    (own k.number (Submits pipe.number n (asked_by (arc_value done.0))) ∙ ap (λ a. Some (Submits pipe.number n (asked_by a))) done.1)
    (accepted-more k.number h e asked (own_ask (k.number == k.number) (arc_value done.0) (eq-eqb k.number k.number refl) ∙ ap (λ a. Some a) done.1))

-- what was accepted from the caller is as before
allowed-here : Laws → (k : Known (BoardEntry Ask)) (h : List (BoardEntry Ask)) (asked : Ask) → Met k h → IsAllowed ask_size h k.number asked ↔ IsAllowed ask_size k.seen k.number asked
allowed-here laws k h asked met =
    let same : accepted_by k.number h ≡ accepted_by k.number k.seen = (meets-kept laws k h met).accepted in
    let IsRoom : List Ask → Type 0 = λ asks. (length asks < 2 ^ 20) × (sum_by ask_size asks + ask_size asked ≤ 2 ^ 26) in
    ((λ allowed. subst IsRoom same allowed), (λ allowed. subst IsRoom (sym same) allowed))

some-bit : (bits : ℕ) → (bits == 0) ≡ false → 0 < bits
some-bit zero e = absurd cc
some-bit (suc m) e = omega arith

-- nobody masks a pad that is shared: manned, it refuses for want of room in the allowance alone, or of memory
pub submit-shared-refused : SharingLaws → (k l : Known (BoardEntry Ask)) (pipe : PipelineState) (asked : Ask) (r : Result ℕ BoardErr) (O : List (BoardEntry Ask) → ℕ → Type 0) → KnowsShared k pipe → IsPad pipe.bound → pipe.mask_is_empty ≡ false
    → AtTurn caller_of LegalBoard k (λ h. MatchResult r
    (λ n. (n ≡ length (submissions (entries_of pipe.number h))) × IsAllowed ask_size h k.number asked × O h n)
    (λ e. ((e ≡ NoWorker) ↔ (mask (entries_of pipe.number h) ≡ 0)) × ((e ≡ TooBig) ↔ ((0 < mask (entries_of pipe.number h)) × (IsAllowed ask_size h k.number asked → ⊥))) × Leaves k h l))
    → MatchResult r (λ _. IsAllowed ask_size k.seen k.number asked) (λ e. (e ≢ NoWorker) × ((e ≡ TooBig) ↔ (IsAllowed ask_size k.seen k.number asked → ⊥)))
submit-shared-refused laws k l pipe asked (Ok n) O on pad manned turn = (allowed-here laws.laws k turn.0 asked turn.1).0 turn.2.1
submit-shared-refused laws k l pipe asked (Err e) O on pad manned turn =
    let here = allowed-here laws.laws k turn.0 asked turn.1 in
    let some : 0 < mask (entries_of pipe.number turn.0) = some-bit (mask (entries_of pipe.number turn.0)) ((shared-at laws k turn.0 pipe turn.1 on).masked pad ∙ manned) in (
      (λ none. let zero_is = turn.2.0.0 none in absurd (omega (arith, some, zero_is))),
      ((λ big allowed. (turn.2.1.0 big).1 (here.1 allowed)), (λ never. turn.2.1.1 (some, λ allowed. never (here.0 allowed)))),
    )

-- ---- `enqueue`

pub enqueue-gave : SharingLaws → (k l : Known (BoardEntry Ask)) (pipe : PipelineState) (asked : Ask) (backlog : Bool) (V : List (BoardEntry Ask) → Entered → Type 0) (r : Result Entered BoardErr) → KnowsShared k pipe
    → AtTurn caller_of LegalBoard k (λ h. MatchResult r
    (λ answer. V h answer × IsAllowed ask_size h k.number asked
    × ((ask : Arc Ask Global) × (arc_value ask ≡ asked) × Enters LegalBoard k h (event.Enq k.number pipe.number ask backlog answer) l))
    (λ e. (e ≢ NoWorker) × ((e ≡ TooBig) ↔ (IsAllowed ask_size h k.number asked → ⊥)) × Leaves k h l))
    → MatchResult r (λ answer. Gave k l (Enqueues pipe.number (asked_by asked) backlog answer ∷ []) (entered_asks asked answer)) (λ _. Unchanged k l)
enqueue-gave laws k l pipe asked backlog V (Err e) on turn = leaves-kept laws.laws k l turn.0 turn.1 turn.2.2
enqueue-gave laws k l pipe asked backlog V (Ok answer) on turn = by_answer answer turn.2.2
  where
    h : List (BoardEntry Ask)
    h = turn.0

    gave : (answer : Entered) (ask : Arc Ask Global) → arc_value ask ≡ asked → (asks : List Ask) → accepted_by k.number (h ++ event.Enq k.number pipe.number ask backlog answer ∷ []) ≡ accepted_by k.number h ++ asks
        → Enters LegalBoard k h (event.Enq k.number pipe.number ask backlog answer) l → Gave k l (Enqueues pipe.number (asked_by asked) backlog answer ∷ []) asks
    gave answer ask e asks accepts enters =
        entry-gave laws k l h (event.Enq k.number pipe.number ask backlog answer) pipe (Enqueues pipe.number (asked_by asked) backlog answer) asks turn.1 on enters (eq-eqb pipe.number pipe.number refl) refl
        (own k.number (Enqueues pipe.number (asked_by (arc_value ask)) backlog answer) ∙ ap (λ a. Some (Enqueues pipe.number (asked_by a) backlog answer)) e) accepts

    accepts : (answer : Entered) (ask : Arc Ask Global) → accepted_in (event.Enq k.number pipe.number ask backlog answer) ≡ Some asked → accepted_by k.number (h ++ event.Enq k.number pipe.number ask backlog answer ∷ []) ≡ accepted_by k.number h ++ asked ∷ []
    accepts answer ask some =
        let x : BoardEntry Ask = event.Enq k.number pipe.number ask backlog answer in
        accepted-more k.number h x asked (ap (λ b. if b then accepted_in x else None) (eq-eqb k.number k.number refl) ∙ some)

    by_answer : (answer : Entered) → ((ask : Arc Ask Global) × (arc_value ask ≡ asked) × Enters LegalBoard k h (event.Enq k.number pipe.number ask backlog answer) l)
        → Gave k l (Enqueues pipe.number (asked_by asked) backlog answer ∷ []) (entered_asks asked answer)
    by_answer (InProgress n) done = gave (InProgress n) done.0 done.1 (asked ∷ []) (accepts (InProgress n) done.0 (ap (λ a. Some a) done.1)) done.2
    by_answer (Busy n) done = gave (Busy n) done.0 done.1 (asked ∷ []) (accepts (Busy n) done.0 (ap (λ a. Some a) done.1)) done.2
    by_answer NoSpace done = gave NoSpace done.0 done.1 [] (accepted-none k.number h (event.Enq k.number pipe.number done.0 backlog NoSpace) refl) done.2
