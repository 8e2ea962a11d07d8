-- The board's history ends with the shut, and each pipeline's requests are all finished then.
use Rattle.std.proofs.Common.{◌≡◌, ◌≢◌, ◌<◌, ◌≤◌, ◌⊎◌, ◌+◌, ℕ, zero, suc, Bool, true, false, ◌&&◌, List, [], ◌∷◌, ◌++◌, length, sym, refl, ap, ◌∙◌, subst, arith, inl, inr, append-nil, append_assoc}
use Rattle.std.specs.Prelude.{All}
use Rattle.std.specs.List.{list_all}
use Rattle.std.proofs.lemmas.List.Elements.{filter-append, All-nil, All-cons}
use Rattle.turn_lock.specs.TurnLaws.{none_after}
use Rattle.turn_lock.specs.Turns.{Known, Each, Shows, of}
use Rattle.turn_lock.specs.PassLaws.{IsOwn}
use Rattle.board.specs.declared.entry.BoardEntry.{BoardEntry}
use Rattle.board.specs.declared.entry.BoardEntry.TheVariants.{Shut}
use Rattle.board.specs.Alone.{WorkAlone}
use Rattle.board.specs.Ends.{IsAllFinished, ShutIsLast}
use Rattle.board.specs.Entries.{is_of, entries_of, submissions, front, is_closed, caller_of}
use Rattle.board.specs.Legal.{AreRightAfter, MayManage, LegalBoard}
use Rattle.board.specs.SharedPipelines.{MakersFinish}
use Rattle.board.specs.PipelineHistory.{is_work}
use Rattle.crew.specs.Peers.{HasEnded}
use Rattle.client_run.specs.WithWorkers.{IsHistoryOf, HasShutLast}
use Rattle.client_run.proofs.Ended.{each-right, none-here, none-later, begins, shows-own, ended-made}

above-zero : (n : ℕ) → n ≢ 0 → 1 ≤ n
above-zero zero not = absurd (not refl)
above-zero (suc n) not = omega arith

module _ {A : Type 0} where
  -- what stands before a part of a legal history is legal
  pub legal-front : (before h es : List (BoardEntry A)) → AreRightAfter before (h ++ es) → AreRightAfter before h
  legal-front before [] es right = tt
  legal-front before (x ∷ h) es right = (right.0, legal-front (before ++ x ∷ []) h es right.1)

  -- who makes entries: the first client, a worker, or one of so many further clients
  abbrev pub IsBeside : ℕ → ℕ → BoardEntry A → Type 0
  IsBeside workers clients e = (caller_of e ≤ workers) ⊎ ((17 ≤ caller_of e) × (caller_of e ≤ 16 + clients))

  -- a worker's work
  abbrev pub IsCrews : ℕ → BoardEntry A → Type 0
  IsCrews workers e = (1 ≤ caller_of e) × (caller_of e ≤ workers) × (is_work e ≡ true)

  -- what has ended is nobody's later entry
  all-crews : (workers clients next : ℕ) (es : List (BoardEntry A)) → ((n : ℕ) → 17 ≤ n → n < next → of caller_of n es ≡ []) → of caller_of 0 es ≡ []
      → Each (λ e. caller_of e < next) es → Each (IsBeside workers clients) es → list_all is_work es ≡ true → All (IsCrews workers) es
  all-crews workers clients next [] gone none below beside work = All-nil (IsCrews workers)
  all-crews workers clients next (e ∷ es) gone none below beside work =
      All-cons (IsCrews workers) e es (by_work (is_work e) refl work)
      (all-crews workers clients next es (λ n low high. none-later caller_of n e es (gone n low high)) (none-later caller_of 0 e es none) below.1 beside.1 (later (is_work e) work))
    where
      by_caller : IsBeside workers clients e → caller_of e ≤ workers
      by_caller (inl few) = few
      by_caller (inr client) = absurd (none-here caller_of (caller_of e) e es (gone (caller_of e) client.0 below.0) refl)

      later : (t : Bool) → (t && list_all is_work es) ≡ true → list_all is_work es ≡ true
      later true is = is
      later false is = absurd cc

      by_work : (t : Bool) → is_work e ≡ t → (t && list_all is_work es) ≡ true → IsCrews workers e
      by_work true is all = (above-zero (caller_of e) (none-here caller_of 0 e es none), by_caller beside.0, is)
      by_work false is all = absurd cc

  module _ (k : Known (BoardEntry A)) (log : List (BoardEntry A)) (h : IsHistoryOf caller_of k log) (shut : HasShutLast k) (legal : LegalBoard log) where
    abbrev rest : List (BoardEntry A)
    rest = (begins caller_of k log h).0

    pub goes-on : log ≡ k.seen ++ rest
    goes-on = (begins caller_of k log h).1

    shown : Shows caller_of k log
    shown = shows-own caller_of k log h shut.own

    history : log ≡ shut.before ++ Shut 0 ∷ rest
    history = goes-on ∙ (ap (λ xs. xs ++ rest) shut.shut ∙ append_assoc shut.before (Shut 0 ∷ []) rest)

    -- who has ended adds nothing
    none-of : (n : ℕ) → 17 ≤ n → n < k.next → of caller_of n rest ≡ []
    none-of n low high =
        let gone = shut.gone.gone n low high in
        none_after caller_of n log k.seen gone.0 rest goes-on (ended-made caller_of k log h n gone.0 gone.1) gone.2

    none-first : of caller_of 0 rest ≡ []
    none-first =
        subst (λ n. of caller_of n rest ≡ []) shut.gone.first
        (none_after caller_of k.number log k.seen k.made rest goes-on shown.made shut.own)

    module _ (alone : (k m : Known (BoardEntry A)) (xs es : List (BoardEntry A)) → WorkAlone k m xs es) where
      work-follows : list_all is_work rest ≡ true
      work-follows = alone k k log rest shut.gone goes-on legal refl refl refl shown (ap (λ es. list_all is_work es) none-first)

      -- what follows on the shut is the workers'
      pub crews-follow : (workers clients : ℕ) → Each (IsBeside workers clients) log → (log ≡ shut.before ++ Shut 0 ∷ rest) × All (IsCrews workers) rest
      crews-follow workers clients beside = (
        history,
        all-crews workers clients k.next rest none-of none-first
            (each-right (λ e. caller_of e < k.next) k.seen rest (subst (Each (λ e. caller_of e < k.next)) goes-on (shown.below shut.gone.first)))
            (each-right (IsBeside workers clients) k.seen rest (subst (Each (IsBeside workers clients)) goes-on beside)) work-follows,
      )

      -- nothing does where each maker has finished what it made
      module _ (makers : (xs : List (BoardEntry A)) → MakersFinish xs) (last : (xs : List (BoardEntry A)) (caller : ℕ) (es : List (BoardEntry A)) → ShutIsLast xs caller es)
          (finished : (p caller : ℕ) → MayManage (entries_of p k.seen) caller → is_closed (entries_of p k.seen) ≡ false → front (entries_of p k.seen) ≡ length (submissions (entries_of p k.seen))) where
        pub legal-seen : LegalBoard k.seen
        legal-seen = legal-front [] k.seen rest (subst LegalBoard goes-on legal)

        -- the shut is of no pipeline
        pub same-entries : (p : ℕ) → entries_of p k.seen ≡ entries_of p shut.before
        same-entries p = ap (λ xs. entries_of p xs) shut.shut ∙ (filter-append (is_of p) shut.before (Shut 0 ∷ []) ∙ append-nil (entries_of p shut.before))

        all-finished : IsAllFinished shut.before
        all-finished p = subst (λ es. front es ≡ length (submissions es)) (same-entries p) (makers k.seen legal-seen finished p)

        nothing-follows : rest ≡ []
        nothing-follows = last shut.before 0 rest (subst LegalBoard history legal) all-finished work-follows

        pub shut-is-last : log ≡ shut.before ++ Shut 0 ∷ []
        shut-is-last = history ∙ ap (λ es. shut.before ++ Shut 0 ∷ es) nothing-follows

        pub seen-whole : log ≡ k.seen
        seen-whole = goes-on ∙ (ap (λ es. k.seen ++ es) nothing-follows ∙ append-nil k.seen)

    -- ---- a client that has ended

    module _ (w : Known (BoardEntry A)) (ended : HasEnded w k) (own : IsOwn caller_of w) (low : 17 ≤ w.number) (high : w.number < k.next) where
      -- others alone follow on what it had seen
      pub client-follow : (more : List (BoardEntry A)) × (k.seen ≡ w.seen ++ more) × (of caller_of w.number more ≡ [])
      client-follow =
          let gone = shut.gone.gone w.number low high in
          let all : of caller_of w.number k.seen ≡ w.made = gone.2 ∙ (sym (ended-made caller_of k log h w.number gone.0 gone.1) ∙ ended-made caller_of k log h w.number w.made ended.kept) in
          (ended.seen.0, ended.seen.1, none_after caller_of w.number k.seen w.seen w.made ended.seen.0 ended.seen.1 all own)
