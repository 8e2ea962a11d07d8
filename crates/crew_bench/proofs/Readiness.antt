-- What stays of what a caller knows, after each call.
use Rattle.std.proofs.Common.{◌≡◌, ◌<◌, ℕ, Bool, true, false, ◌||◌, List, [], ◌∷◌, ◌++◌, refl, sym, ◌∙◌, ap, subst, inl, inr, ◌⊎◌, Ok, Err}
use Rattle.std.specs.Prelude.{Result, MatchResult, IfOk}
use Rattle.std.specs.List.{list_all}
use Rattle.std.proofs.lemmas.Bool.{eq-eqb, or_right}
use Rattle.std.proofs.lemmas.List.Folds.{list_any-append}
use Rattle.kc_base.specs.declared.callback_list.Callback.{Callback}
use Rattle.turn_lock.specs.Turns.{Known, gets_number, fresh_pass}
use Rattle.turn_lock.specs.Passes.{knows}
use Rattle.turn_lock.specs.PassLaws.{Meets, AtTurn, Enters, Leaves}
use Rattle.board.specs.declared.entry.Shape.TheVariants.{Pad}
use Rattle.board.specs.declared.entry.BoardEntry.{BoardEntry}
use Rattle.board.specs.declared.entry.BoardEntry.TheVariants.{Born, Share}
use Rattle.board.specs.Shapes.{is_pad}
use Rattle.board.specs.Entries.{entries_of, is_close, is_share, is_shared, caller_of}
use Rattle.board.specs.Legal.{MaySubmit, IsOpenPad, LegalBoard, is_shut, is_shut_entry}
use Rattle.board.specs.PipelineHistory.{IsOpenFor, is_work}
use Rattle.crew.specs.declared.passes.Passes.{Passes}
use Rattle.crew.specs.BoardWork.{Worked, Drained}
use Rattle.crew.specs.Both.{AreFirst}
use Rattle.crew_bench.specs.Learned.{BoardLaws}
use Rattle.crew_bench.specs.Ready.{StaysFirst, Ready}

module _ {A : Type 0} where
  abbrev Legal : List (BoardEntry A) → Type 0
  Legal hs = LegalBoard hs

  pub submits : (p : ℕ) (k : Known (BoardEntry A)) → Ready p k → MaySubmit (entries_of p k.seen) k.number
  submits p k r = (r.1.0, inl r.1.1)

  -- a pass with another number, split off after the share
  pub other_submits : (p n : ℕ) (k o : Known (BoardEntry A)) → 16 < n → o ≡ gets_number n k → is_shared (entries_of p k.seen) ≡ true → MaySubmit (entries_of p o.seen) o.number
  other_submits p n k o big got open_ = subst (λ (x : Known (BoardEntry A)). MaySubmit (entries_of p x.seen) x.number) (sym got) (inr big, inr open_)

  pub other_open : (p n : ℕ) (k o : Known (BoardEntry A)) → o ≡ gets_number n k → IsOpenPad (entries_of p k.seen) → IsOpenPad (entries_of p o.seen)
  other_open p n k o got opened = subst (λ (x : Known (BoardEntry A)). IsOpenPad (entries_of p x.seen)) (sym got) opened

  shut-same : (h : List (BoardEntry A)) (e : BoardEntry A) → is_shut_entry e ≡ false → is_shut (h ++ e ∷ []) ≡ is_shut h
  shut-same h e none = list_any-append is_shut_entry h (e ∷ []) ∙ (ap (λ b. is_shut h || (b || false)) none ∙ neither (is_shut h))
    where
      neither : (b : Bool) → (b || false) ≡ b
      neither true = refl
      neither false = refl

module _ {A O : Type 0} (meaning : A → O) (laws : BoardLaws meaning) where
  ready_here : (p : ℕ) (k : Known (BoardEntry A)) (h : List (BoardEntry A)) → Ready p k → Meets caller_of Legal k h → IsOpenFor is_pad h p k.number
  ready_here p k h r m = let s = (laws.holds k h m).known p r.1 in (s.opened is_pad r.0, s.managed)

  ready_leaves : (p : ℕ) (k l : Known (BoardEntry A)) (h : List (BoardEntry A)) → Ready p k → Meets caller_of Legal k h → Leaves k h l → Ready p l
  ready_leaves p k l h r m t = subst (λ (x : Known (BoardEntry A)). Ready p x) (sym t) (ready_here p k h r m)

  ready_enters : (p : ℕ) (k l : Known (BoardEntry A)) (e : BoardEntry A) (h : List (BoardEntry A)) → Ready p k → Meets caller_of Legal k h → Enters Legal k h e l → is_close e ≡ false → Ready p l
  ready_enters p k l e h r m t c = let s = ready_here p k h r m in
      subst (λ (x : Known (BoardEntry A)). Ready p x) (sym t.0) (laws.stays_open is_pad h e p s.0 c, laws.managed h e p k.number s.1)

  first_leaves : (k l : Known (BoardEntry A)) (h : List (BoardEntry A)) → Meets caller_of Legal k h → Leaves k h l → StaysFirst k l
  first_leaves k l h m t r = (ap (λ n. n.number) t ∙ r.0, subst (λ hs. is_shut hs ≡ false) (sym (ap (λ n. n.seen) t)) ((laws.holds k h m).unshut r.0 r.1))

  first_enters : (k l : Known (BoardEntry A)) (e : BoardEntry A) (h : List (BoardEntry A)) → Meets caller_of Legal k h → Enters Legal k h e l → is_shut_entry e ≡ false → StaysFirst k l
  first_enters k l e h m t n r = (ap (λ x. x.number) t.0 ∙ r.0, subst (λ hs. is_shut hs ≡ false) (sym (ap (λ (x : Known (BoardEntry A)). x.seen) t.0)) (shut-same h e n ∙ (laws.holds k h m).unshut r.0 r.1))

  module _ {X F I : Type 0} (k l : Known (BoardEntry A)) (r : Result X F) (P : List (BoardEntry A) → X → Type 0) (V : I → Type 0) (f : X → I → BoardEntry A) (Q S : List (BoardEntry A) → F → Type 0) (R : List (BoardEntry A) → Type 0)
      (quiet : (x : X) (i : I) → (is_close (f x i) ≡ false) × (is_shut_entry (f x i) ≡ false)) where
    abbrev Submits : Result X F → Type 0
    Submits a = AtTurn caller_of Legal k (λ h. MatchResult a (λ x. P h x × R h × ((i : I) × V i × Enters Legal k h (f x i) l)) (λ e. Q h e × S h e × Leaves k h l))

    submit_ready : (p : ℕ) (a : Result X F) → Ready p k → Submits a → Ready p l
    submit_ready p (Ok x) ready t = ready_enters p k l (f x t.2.2.0) t.0 ready t.1 t.2.2.2 (quiet x t.2.2.0).0
    submit_ready p (Err e) ready t = ready_leaves p k l t.0 ready t.1 t.2.2

    submit_first : (a : Result X F) → Submits a → StaysFirst k l
    submit_first (Ok x) t = first_enters k l (f x t.2.2.0) t.0 t.1 t.2.2.2 (quiet x t.2.2.0).1
    submit_first (Err e) t = first_leaves k l t.0 t.1 t.2.2

    pub submitted : (p : ℕ) → Ready p k → Submits r → Ready p l × StaysFirst k l
    submitted p ready t = (submit_ready p r ready t, submit_first r t)

  pub made_first : {X F : Type 0} (k l : Known (BoardEntry A)) (r : Result X F) (P : List (BoardEntry A) → X → Type 0) (f : X → BoardEntry A) (Q : List (BoardEntry A) → F → Type 0) → ((x : X) → is_shut_entry (f x) ≡ false)
      → AtTurn caller_of Legal k (λ h. MatchResult r (λ x. P h x × Enters Legal k h (f x) l) (λ e. Q h e × Leaves k h l)) → StaysFirst k l
  made_first k l (Ok x) P f Q quiet t = first_enters k l (f x) t.0 t.1 t.2.1 (quiet x)
  made_first k l (Err e) P f Q quiet t = first_leaves k l t.0 t.1 t.2.1

  pub made_ready : {F : Type 0} (lists : ℕ) (k l : Known (BoardEntry A)) (r : Result ℕ F) (P : List (BoardEntry A) → ℕ → Type 0) (Q : List (BoardEntry A) → F → Type 0)
      → AtTurn caller_of Legal k (λ h. MatchResult r (λ pipe. P h pipe × Enters Legal k h (Born k.number pipe (Pad lists)) l) (λ e. Q h e × Leaves k h l)) → IfOk r (λ pipe. Ready pipe l)
  made_ready lists k l (Ok p) P Q t =
      subst (λ (x : Known (BoardEntry A)). Ready p x) (sym t.2.1.0) (laws.born is_pad t.0 k.number p (Pad lists) t.2.1.1 refl)
  made_ready lists k l (Err e) P Q t = tt

  worked_cases : (k l : Known (BoardEntry A)) (w : Worked k l) → (l.seen ≡ k.seen) ⊎ LegalBoard l.seen → StaysFirst k l
  worked_cases k l w (inl same) first = (w.goes.number ∙ first.0, ap (λ hs. is_shut hs) same ∙ first.1)
  worked_cases k l w (inr legal) first =
      (w.goes.number ∙ first.0, ap (λ hs. is_shut hs) w.goes.seen ∙ ((laws.own k.seen w.goes.between k.number (subst Legal w.goes.seen legal, ap (list_all is_work) w.goes.mine ∙ w.work)).1 first.0 ∙ first.1))

  first_worked : (k l : Known (BoardEntry A)) → Worked k l → StaysFirst k l
  first_worked k l w = worked_cases k l w w.goes.kept

  pub first_drained : {O F : Type 0} (meaning : A → O) (pipe : ℕ) (given more : List (Callback O)) (k l : Known (BoardEntry A)) (r : Result (Unit {0}) F) (Q : F → Type 0) (N : Type 0)
      → MatchResult r (λ _. Drained meaning pipe k l given more) (λ e. Q e × N × Worked k l) → StaysFirst k l
  first_drained meaning pipe given more k l (Ok u) Q N d first = let t = d.2 in first_enters d.0 l _ t.0 t.1 t.2.2 refl (first_worked k d.0 d.1 first)
  first_drained meaning pipe given more k l (Err e) Q N d first = first_worked k l d.2 first

  pub done_ready : {F : Type 0} (p : ℕ) (k l : Known (BoardEntry A)) (r : Result (Unit {0}) F) (f : BoardEntry A) (Q : F → Type 0) → is_close f ≡ false → Ready p k
      → AtTurn caller_of Legal k (λ h. MatchResult r (λ _. Enters Legal k h f l) (λ e. Q e × Leaves k h l)) → Ready p l
  done_ready p k l (Ok u) f Q c ready t = ready_enters p k l f t.0 ready t.1 t.2 c
  done_ready p k l (Err e) f Q c ready t = ready_leaves p k l t.0 ready t.1 t.2.1

  pub done_shared : {F : Type 0} (p n : ℕ) (k l : Known (BoardEntry A)) (r : Result (Unit {0}) F) (Q : F → Type 0)
      → AtTurn caller_of Legal k (λ h. MatchResult r (λ _. Enters Legal k h (Share n p) l) (λ e. Q e × Leaves k h l)) → IfOk r (λ _. is_shared (entries_of p l.seen) ≡ true)
  done_shared p n k l (Ok u) Q t =
      let e : BoardEntry A = Share n p in
      ap (λ (x : Known (BoardEntry A)). is_shared (entries_of p x.seen)) t.2.0
      ∙ (ap (λ es. is_shared es) (laws.joins t.0 e p (eq-eqb p p refl)) ∙ (list_any-append is_share (entries_of p t.0) (e ∷ []) ∙ or_right (is_shared (entries_of p t.0)) true refl))
  done_shared p n k l (Err e) Q t = tt

-- what a job means, as contracts see it
abbrev pub nothing : ℕ → Unit {0}
nothing asked = tt

-- the passes that a board and a registry come with are first
pub first_passes : {A : Type 0} (p : Passes A) → knows p.board ≡ fresh_pass → knows p.registry ≡ fresh_pass → AreFirst p
first_passes p b r = record {
  board = (ap (λ k. k.number) b, ap (λ k. k.next) b, ap (λ k. k.ended) b);
  registry = (ap (λ k. k.number) r, ap (λ k. k.next) r, ap (λ k. k.ended) r);
}
