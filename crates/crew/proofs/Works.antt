-- What work leaves of a pass.
use Rattle.std.proofs.Common.{◌≡◌, ℕ, Option, Some, None, Bool, true, false, List, [], ◌∷◌, ◌++◌, append-nil, refl, sym, ◌∙◌, ap, subst, ◌⊎◌, inl, inr}
use Rattle.std.specs.Prelude.{MatchBool, MatchOption}
use Rattle.std.specs.List.{list_all}
use Rattle.std.proofs.lemmas.List.Folds.{list_all-append}
use Rattle.std.proofs.lemmas.Bool.{and_from}
use Rattle.turn_lock.specs.Turns.{Known, sees}
use Rattle.turn_lock.specs.PassLaws.{Meets, AtTurn, Enters, Leaves}
use Rattle.turn_lock.specs.TurnLaws.{stays, goes_left, goes_entered, goes_added, goes_then}
use Rattle.board.specs.declared.entry.BoardEntry.{BoardEntry}
use Rattle.board.specs.Shapes.{is_pad, is_chain, has_queue}
use Rattle.board.specs.Entries.{entries_of, caller_of, take_entry, finish_entry, pass_entry, NoneFor, NonePasses}
use Rattle.board.specs.Legal.{Is, MayManage, IsOpen, LegalBoard}
use Rattle.board.specs.PipelineHistory.{is_work, TakingIsWork, FinishingIsWork, PassingIsWork}
use Rattle.board.specs.Others.{StaysKnown, WorkLeavesKnown}
use Rattle.crew.specs.BoardWork.{FinishesFirst, RunsFirst, FindsNoJob, WorksSome, FindsNone, Worked}

module _ {A : Type 0} where
  abbrev Legal : List (BoardEntry A) → Type 0
  Legal xs = LegalBoard xs

  pub worked_still : (k : Known (BoardEntry A)) → Worked k k
  worked_still k = record { own = []; goes = stays caller_of Legal k; work = refl }

  pub worked_none : (k l : Known (BoardEntry A)) → AtTurn caller_of Legal k (λ h. Leaves k h l) → Worked k l
  worked_none k l t = record { own = []; goes = goes_left caller_of Legal k l t; work = refl }

  pub worked_entry : (k l : Known (BoardEntry A)) (f : List (BoardEntry A) → BoardEntry A) → ((h : List (BoardEntry A)) → (is_work (f h) ≡ true) × (caller_of (f h) ≡ k.number)) → AtTurn caller_of Legal k (λ h. Enters Legal k h (f h) l) → Worked k l
  worked_entry k l f all t = record {
    own = f t.0 ∷ [];
    goes = goes_entered caller_of Legal k l f t (all t.0).1;
    work = and_from (is_work (f t.0)) true (all t.0).0 refl;
  }

  pub worked_on : (k l m : Known (BoardEntry A)) → Worked k l → Worked l m → Worked k m
  worked_on k l m a b = record {
    own = a.own ++ b.own;
    goes = goes_then caller_of Legal k l m a.own b.own a.goes b.goes;
    work = list_all-append is_work a.own b.own ∙ and_from (list_all is_work a.own) (list_all is_work b.own) a.work b.work;
  }

  -- a second entry of a turn
  worked_added : (m l : Known (BoardEntry A)) (e : BoardEntry A) → (is_work e ≡ true) × (caller_of e ≡ m.number) → Enters Legal m m.seen e l → Worked m l
  worked_added m l e all entered = record {
    own = e ∷ [];
    goes = goes_added caller_of Legal m l e entered all.1;
    work = and_from (is_work e) true all.0 refl;
  }

  -- what a turn that finishes a job goes on with: nothing, or the next job v, which is number j v of the pipeline q v
  module _ {X : Type 0} (m l : Known (BoardEntry A)) (q j : X → ℕ) where
    abbrev Next : Option X → Type 0 → (X → Type 0) → (X → Type 0) → Type 0
    Next r N P Q = MatchOption r (N × (l ≡ m)) (λ v. P v × Enters Legal m m.seen (take_entry m.seen m.number (q v) (j v)) l × Q v)

    pub next_worked : ((h : List (BoardEntry A)) (caller p n : ℕ) → TakingIsWork h caller p n) → (r : Option X) (N : Type 0) (P Q : X → Type 0) → Next r N P Q → Worked m l
    next_worked taking None N P Q t = subst (λ z. Worked m z) (sym t.1) (worked_still m)
    next_worked taking (Some v) N P Q t = let w = taking m.seen m.number (q v) (j v) in worked_added m l (take_entry m.seen m.number (q v) (j v)) (w.0, w.1) t.1

  pub finished_worked : ((h : List (BoardEntry A)) (caller p n : ℕ) → FinishingIsWork h caller p n) → (k l : Known (BoardEntry A)) (p n : ℕ) → FinishesFirst k p n l → Worked k l
  finished_worked finishing k l p n w =
      worked_on k w.0 l (worked_entry k w.0 (λ h. finish_entry h k.number p n) (λ h. let t = finishing h k.number p n in (t.0, t.1)) w.1) w.2

  pub finished_on : (k l m : Known (BoardEntry A)) (p n : ℕ) → FinishesFirst k p n l → Worked l m → FinishesFirst k p n m
  finished_on k l m p n w more = (w.0, w.1, worked_on w.0 l m w.2 more)

  pub first_worked : ((h : List (BoardEntry A)) (caller p n : ℕ) → TakingIsWork h caller p n) → ((h : List (BoardEntry A)) (caller p n : ℕ) → FinishingIsWork h caller p n) → (k l : Known (BoardEntry A)) → RunsFirst k l → Worked k l
  first_worked taking finishing k l w =
      worked_on k w.0 l
      (worked_entry k w.0 (λ h. take_entry h k.number w.1 w.2) (λ h. let t = taking h k.number w.1 w.2 in (t.0, t.1)) w.3)
      (finished_worked finishing w.0 l w.1 w.2 w.4)

  -- the turn after one that found no job
  abbrev pub Passes : (m l : Known (BoardEntry A)) → Bool → Type 0
  Passes m l passed =
      AtTurn caller_of Legal m (λ h. MatchBool passed ((p : ℕ) × Is is_chain (entries_of p h) × Enters Legal m h (pass_entry h m.number p) l) (NonePasses h × Leaves m h l))

  pub passes_worked : ((h : List (BoardEntry A)) (caller p : ℕ) → PassingIsWork h caller p) → (m l : Known (BoardEntry A)) (passed : Bool) → Passes m l passed → Worked m l
  passes_worked passing m l true t =
      worked_entry m l (λ h. pass_entry h m.number t.2.0) (λ h. let w = passing h m.number t.2.0 in (w.0, w.1)) (t.0, t.1, t.2.2)
  passes_worked passing m l false t = worked_none m l (t.0, t.1, t.2.1)

  pub passed_worked : ((h : List (BoardEntry A)) (caller p : ℕ) → PassingIsWork h caller p) → (k m l : Known (BoardEntry A)) (passed : Bool) → FindsNoJob k m → Passes m l passed → Worked k l
  passed_worked passing k m l passed t u = worked_on k m l (worked_none k m (t.0, t.1, t.2.1)) (passes_worked passing m l passed u)

  -- one turn that found no job, and a request to pass on or none
  abbrev pub Turned : (k l : Known (BoardEntry A)) → Bool → Type 0
  Turned k l passed =
      AtTurn caller_of Legal k (λ h. MatchBool passed ((p : ℕ) × Is is_chain (entries_of p h) × NoneFor h k.number × Enters Legal k h (pass_entry h k.number p) l) (NonePasses h × NoneFor h k.number × Leaves k h l))

  again : (k : Known (BoardEntry A)) (h : List (BoardEntry A)) → Meets caller_of Legal k h → Meets caller_of Legal (sees k h) h
  again k h m = record {
    others = [];
    goes_on = sym (append-nil h);
    apart = refl;
    kept = m.kept;
    shows = record { seen = ([], sym (append-nil h)); made = m.shows.made; own = m.shows.made; ended = m.shows.ended; next = m.shows.next; below = m.shows.below };
  }

  -- is two turns on one history
  pub two_turns : (k l : Known (BoardEntry A)) (passed : Bool) → Turned k l passed → (m : Known (BoardEntry A)) × FindsNoJob k m × Passes m l passed
  two_turns k l true t = (sees k t.0, (t.0, t.1, (t.2.2, refl)), (t.0, again k t.0 t.1, (t.2.0, t.2.1, t.2.3)))
  two_turns k l false t = (sees k t.0, (t.0, t.1, (t.2.1, refl)), (t.0, again k t.0 t.1, (t.2.0, t.2.2)))

  pub passed_some : (k m l : Known (BoardEntry A)) (passed : Bool) → FindsNoJob k m → Passes m l passed → MatchBool passed (WorksSome k l) (FindsNone k l)
  passed_some k m l true t u = inr (m, t, u)
  passed_some k m l false t u = (m, t, u)

module _ {A : Type 0} (leaves : (h es : List (BoardEntry A)) (p caller : ℕ) → WorkLeavesKnown h es p caller) where
  known_start : (h : List (BoardEntry A)) (p caller : ℕ) → MayManage (entries_of p h) caller → StaysKnown h h p caller
  known_start h p caller m = record { managed = m; opened = λ such o. o; held = refl; shared = refl; masked = refl; collected = refl; handed = refl; accepted = λ a. refl }

  known_cases : (k l : Known (BoardEntry A)) (p : ℕ) (w : Worked k l) → (l.seen ≡ k.seen) ⊎ LegalBoard l.seen → MayManage (entries_of p k.seen) k.number → StaysKnown k.seen l.seen p k.number
  known_cases k l p w (inl same) may = subst (λ xs. StaysKnown k.seen xs p k.number) (sym same) (known_start k.seen p k.number may)
  known_cases k l p w (inr legal) may =
      subst (λ xs. StaysKnown k.seen xs p k.number) (sym w.goes.seen)
      (leaves k.seen w.goes.between p k.number (subst (λ xs. LegalBoard xs) w.goes.seen legal, ap (list_all is_work) w.goes.mine ∙ w.work) may)

  -- what a pass knows of a pipeline that it made stays while it works
  pub known_worked : (k l : Known (BoardEntry A)) (p : ℕ) → Worked k l → MayManage (entries_of p k.seen) k.number → StaysKnown k.seen l.seen p k.number
  known_worked k l p w may = known_cases k l p w w.goes.kept may

  pub managed_worked : (k l : Known (BoardEntry A)) (p : ℕ) → Worked k l → MayManage (entries_of p k.seen) k.number → MayManage (entries_of p l.seen) l.number
  managed_worked k l p w may = subst (λ n. MayManage (entries_of p l.seen) n) (sym w.goes.number) (known_worked k l p w may).managed

  pub open_worked : (k l : Known (BoardEntry A)) (p : ℕ) → Worked k l → MayManage (entries_of p k.seen) k.number → IsOpen (entries_of p k.seen) → IsOpen (entries_of p l.seen)
  open_worked k l p w may (inl o) = inl ((known_worked k l p w may).opened is_pad o)
  open_worked k l p w may (inr o) = inr ((known_worked k l p w may).opened has_queue o)
