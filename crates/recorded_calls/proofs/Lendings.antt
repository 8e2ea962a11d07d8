-- A caller shares one of its pipelines, and knows it again once the others have ended.
use Rattle.std.proofs.Common.{◌≡◌, inr, ℕ, Bool, true, false, List, [], ◌∷◌, ◌++◌, length, Some, None, Result, Ok, Err, refl, sym, ap, subst, ◌∙◌, append-nil}
use Rattle.std.specs.Prelude.{◌==◌, ◌||◌, if◌then◌else◌, MatchResult}
use Rattle.std.specs.List.{list_all}
use Rattle.std.proofs.lemmas.Bool.{eq-eqb, eqb-true}
use Rattle.std.proofs.lemmas.List.Folds.{list_any-append}
use Rattle.board.specs.declared.board_core.BoardErr.{BoardErr}
use Rattle.board.specs.declared.board_core.BoardErr.TheVariants.{Memory}
use Rattle.board.specs.declared.entry.BoardEntry.{BoardEntry}
use Rattle.board.specs.declared.entry.BoardEntry.TheVariants as event
use Rattle.board.specs.Entries.{is_of, entries_of, caller_of, is_closed, is_share, is_shared}
use Rattle.board.specs.Allowance.{accepted_by}
use Rattle.board.specs.Legal.{MayManage, LegalBoard}
use Rattle.board.specs.Order.{completed}
use Rattle.board.specs.PipelineHistory.{is_work}
use Rattle.transforms.specs.declared.ask.Ask.{Ask}
use Rattle.turn_lock.specs.Turns.{Known, sees, adds, of}
use Rattle.turn_lock.specs.PassLaws.{AtTurn, GoesOn, Enters, Leaves, IsOwn}
use Rattle.turn_lock.specs.TurnLaws.{none_after, starts_through}
use Rattle.dialogues.specs.RegistryCalls.{if_own}
use Rattle.dialogues.specs.BoardCalls.{Shares}
use Rattle.dialogues.specs.ScriptState.{PipelineState}
use Rattle.recorded_calls.specs.Pipelines.{IsPipeIn, made_so, KnowsPipe, Unchanged}
use Rattle.recorded_calls.specs.SharedCalls.{SharingLaws, IsSharedIn, IsLentIn, KnowsLent, Rejoined, Rejoins, Lends, LentIsShared}
use Rattle.recorded_calls.proofs.Boarding.{Met, OwnsIn, goes-kept, called-more, calls-one, meets-kept, leaves-kept, accepted-none, apart-same}

own : {C : Type 0} (n : ℕ) (call : C) → if_own n n call ≡ Some call
own {C} n call = ap (λ b. if b then Some call else None) (eq-eqb n n refl)

or-true : (b : Bool) → (b || true) ≡ true
or-true true = refl
or-true false = refl

-- ---- a pipeline that is lent, while others go on

-- and its maker works
pub lent-works : SharingLaws → (n : ℕ) (h es : List (BoardEntry Ask)) (pipe : PipelineState) → LegalBoard (h ++ es) → list_all (λ e. is_work e) (of caller_of n es) ≡ true → IsLentIn n (entries_of pipe.number h) pipe
    → IsLentIn n (entries_of pipe.number (h ++ es)) pipe
lent-works laws n h es pipe legal works on =
    let known = laws.laws.mine h es pipe.number n (legal, works) on.managed in
    record {
      opened = known.opened (made_so pipe.bound) on.opened;
      managed = known.managed;
      shared = known.shared ∙ on.shared;
      masked = λ pad. ap (λ m. m == 0) known.masked ∙ on.masked pad;
      held = known.held ∙ on.held;
      queue = on.queue;
      delivered = ap (λ ns. length (completed ns)) known.handed ∙ on.delivered;
    }

pub lent-on : SharingLaws → (n : ℕ) (h es : List (BoardEntry Ask)) (pipe : PipelineState) → LegalBoard (h ++ es) → of caller_of n es ≡ [] → IsLentIn n (entries_of pipe.number h) pipe → IsLentIn n (entries_of pipe.number (h ++ es)) pipe
lent-on laws n h es pipe legal none on = lent-works laws n h es pipe legal (ap (list_all (λ e. is_work e)) none) on

pub lent-at : SharingLaws → (k : Known (BoardEntry Ask)) (h : List (BoardEntry Ask)) (pipe : PipelineState) → Met k h → KnowsLent k pipe → IsLentIn k.number (entries_of pipe.number h) pipe
lent-at laws k h pipe met on =
    subst (λ x. IsLentIn k.number (entries_of pipe.number x) pipe) (sym met.goes_on) (lent-on laws k.number k.seen met.others pipe (subst LegalBoard met.goes_on met.kept) met.apart on)

-- Others were joined into the pass k, which is l now and sees h at its next turn.
pub rejoins : SharingLaws → (k l : Known (BoardEntry Ask)) (h : List (BoardEntry Ask)) → IsOwn caller_of k → Rejoined k l → Met l h → Rejoins k (sees l h)
rejoins laws k l h mine again met =
    let s = starts_through h l.seen k.seen met.shows.seen again.seen in
    let all : of caller_of k.number h ≡ k.made = subst (λ n. of caller_of n h ≡ l.made) again.number met.shows.made ∙ again.made in
    let none = none_after caller_of k.number h k.seen k.made s.0 s.1 all mine in
    let goes : GoesOn caller_of LegalBoard k (sees k h) [] = record { number = refl; next = refl; ended = refl; between = s.0; seen = s.1; mine = none; made = sym (append-nil k.made); kept = inr met.kept } in
    record {
      number = again.number;
      kept = goes-kept laws.laws k (sees k h) [] goes refl met.kept;
      lent = λ pipe on.
          subst (λ n. IsLentIn n (entries_of pipe.number h) pipe) (sym again.number)
          (subst (λ x. IsLentIn k.number (entries_of pipe.number x) pipe) (sym s.1) (lent-on laws k.number k.seen s.0 pipe (subst LegalBoard s.1 met.kept) none on));
    }

pub lent-is-shared : (k l : Known (BoardEntry Ask)) (pipe : PipelineState) → LentIsShared k l pipe
lent-is-shared k l pipe same outsider on =
    subst (λ h. IsSharedIn l.number (entries_of pipe.number h) pipe) (sym same) (record { opened = on.opened; submits = (outsider, inr on.shared); shared = on.shared; masked = on.masked })

-- ---- `share`

apart-lent : (n : ℕ) (h : List (BoardEntry Ask)) (mine other : PipelineState) → IsPipeIn n (entries_of mine.number h) mine → IsLentIn n (entries_of other.number h) other → (other.number == mine.number) ≡ false
apart-lent n h mine other on lent = by_test (other.number == mine.number) refl
  where
    by_test : (t : Bool) → (other.number == mine.number) ≡ t → t ≡ false
    by_test true is =
        let same : other.number ≡ mine.number = eqb-true other.number mine.number is in
        let bad : true ≡ false = sym lent.shared ∙ (ap (λ p. is_shared (entries_of p h)) same ∙ on.unshared) in cc
    by_test false is = refl

pub share-lends : SharingLaws → (k l : Known (BoardEntry Ask)) (pipe : PipelineState) (r : Result (Unit {0}) BoardErr) → KnowsPipe k pipe
    → AtTurn caller_of LegalBoard k (λ h. MatchResult r (λ _. Enters LegalBoard k h (event.Share k.number pipe.number) l) (λ e. (e ≡ Memory) × Leaves k h l))
    → MatchResult r (λ _. Lends k l pipe) (λ e. (e ≡ Memory) × Unchanged k l)
share-lends laws k l pipe (Err e) on turn = (turn.2.0, leaves-kept laws.laws k l turn.0 turn.1 turn.2.1)
share-lends laws k l pipe (Ok done) on turn =
    let h = turn.0 in
    let n = k.number in
    let p : ℕ = pipe.number in
    let e : BoardEntry Ask = event.Share n p in
    let l' = laws.laws in
    let same : is_of p e ≡ true = eq-eqb p p refl in
    let kept = meets-kept l' k h turn.1 in
    let here = kept.pipes pipe on in
    let now : IsLentIn n (entries_of p (h ++ e ∷ [])) pipe = record {
      opened = l'.steps.opened (made_so pipe.bound) h e p here.opened refl;
      managed = l'.steps.managed h e p n here.managed;
      shared = ap is_shared (l'.steps.joins h e p same) ∙ (list_any-append is_share (entries_of p h) (e ∷ []) ∙ or-true (is_shared (entries_of p h)));
      masked = λ pad. ap (λ m. m == 0) (l'.steps.masked h e p refl refl) ∙ here.masked pad;
      held = l'.steps.held h e p refl ∙ here.held;
      queue = here.queue;
      delivered = ap (λ ns. length (completed ns)) (l'.steps.nothing h e p refl) ∙ here.delivered;
    } in
    subst (λ x. Lends k x pipe) (sym turn.2.0) (record {
      called = called-more k (sees k h) (adds (sees k h) e) [] (Shares p ∷ []) kept.called (record { number = refl; next = refl; seen = (e ∷ [], refl); calls_are = calls-one l' n h e (Shares p) (own n (Shares p)) });
      legal = turn.2.1;
      now = now;
      others = λ other apart was. subst (λ es. IsPipeIn n es other) (sym (apart-same l' h e p other.number same apart)) (kept.pipes other was);
      lent = λ other was.
          let there = lent-at laws k h other turn.1 was in
          subst (λ es. IsLentIn n es other) (sym (apart-same l' h e p other.number same (apart-lent n h pipe other here there))) there;
      owned = λ q owns. kept.owned q (by_number q (q == p) refl owns here.managed here.opened.1);
      accepted = accepted-none n h e refl ∙ (append-nil (accepted_by n h) ∙ kept.accepted);
      unshut = λ zero_is. l'.steps.shut h e refl ∙ kept.unshut zero_is;
    })
  where
    by_number : (q : ℕ) (b : Bool) → (q == pipe.number) ≡ b → OwnsIn k.number (entries_of q (turn.0 ++ event.Share k.number pipe.number ∷ [])) → MayManage (entries_of pipe.number turn.0) k.number → is_closed (entries_of pipe.number turn.0) ≡ false → OwnsIn k.number (entries_of q turn.0)
    by_number q true is owns managed open_ = subst (λ p. OwnsIn k.number (entries_of p turn.0)) (sym (eqb-true q pipe.number is)) (managed, open_)
    by_number q false apart owns managed open_ = subst (λ es. OwnsIn k.number es) (apart-same laws.laws turn.0 (event.Share k.number pipe.number) pipe.number q (eq-eqb pipe.number pipe.number refl) apart) owns
