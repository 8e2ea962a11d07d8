-- Each maker has finished what it made, and what is shared the first one made.
use Rattle.std.proofs.Common.{◌≡◌, ◌<◌, ◌≤◌, ◌⊎◌, ◌+◌, ℕ, suc, Bool, true, false, List, [], ◌∷◌, length, sym, ap, ◌∙◌, subst, arith, inl, inr}
use Rattle.std.proofs.Math.Nat.{eq-or-lt_of_le}
use Rattle.turn_lock.specs.Turns.{Known, Each}
use Rattle.turn_lock.specs.PassLaws.{IsOwn}
use Rattle.board.specs.declared.entry.BoardEntry.{BoardEntry}
use Rattle.board.specs.Entries.{entries_of, submissions, front, is_closed, is_shared, caller_of}
use Rattle.board.specs.NextEntry.{AreRightAlone}
use Rattle.board.specs.Legal.{MayManage, LegalBoard}
use Rattle.board.specs.Others.{OthersAlone, WorkLeavesKnown, WorkLeavesDrained}
use Rattle.board.specs.PipelineHistory.{IsDrained}
use Rattle.crew.specs.Peers.{HasEnded, Peered}
use Rattle.client_run.specs.WithWorkers.{IsHistoryOf, HasShutLast}
use Rattle.client_run.proofs.Makers.{IsHad, made-before, open-before, maker-of, shared-had}
use Rattle.client_run.proofs.ShutLast.{IsBeside, client-follow}

both : (b : Bool) → b ≡ true → b ≡ false → ⊥
both b is isnt = let bad : true ≡ false = sym is ∙ isnt in cc

-- numbers one after the other
abbrev pub Numbered : {E : Type 0} → ℕ → List (Known E) → Type 0
Numbered from [] = Unit {0}
Numbered from (w ∷ ws) = (w.number ≡ from) × Numbered (suc from) ws

module _ {E : Type 0} where
  pub numbers-of : (from : ℕ) (ws : List (Known E)) (k l : Known E) → Peered from ws k l → Numbered from ws
  numbers-of from [] k l is = tt
  numbers-of from (w ∷ ws) k l is = (is.2, numbers-of (suc from) ws _ is.0 is.1)

  -- the one with a number
  pub pick : (P : Known E → Type 0) (from : ℕ) (ws : List (Known E)) (n : ℕ) → Numbered from ws → from ≤ n → n < from + length ws → Each P ws → (w : Known E) × (w.number ≡ n) × P w
  pick P from [] n numbered low high each = absurd (omega arith)
  pick P from (w ∷ ws) n numbered low high each = by_place (eq-or-lt_of_le low) (λ le lt. pick P (suc from) ws n numbered.1 le lt each.1)
    where
      by_place : (from ≡ n) ⊎ (from < n) → (suc from ≤ n → n < suc from + length ws → (w : Known E) × (w.number ≡ n) × P w) → (w : Known E) × (w.number ≡ n) × P w
      by_place (inl is) later = (w, numbered.0 ∙ is, each.0)
      by_place (inr lt) later = later (omega arith) (omega arith)

module _ {A : Type 0} where
  -- the caller made the pipeline, and hasn't closed it
  abbrev pub Has_ : Known (BoardEntry A) → ℕ → Type 0
  Has_ k p = MayManage (entries_of p k.seen) k.number × (is_closed (entries_of p k.seen) ≡ false)

  -- It has seen what it did. What it made and hasn't closed is shared with nobody, and drained.
  pub record HasPaid (w : Known (BoardEntry A)) : Type 0 where
    pub own : IsOwn caller_of w
    pub unshared : (p : ℕ) → Has_ w p → is_shared (entries_of p w.seen) ≡ false
    pub drained : (p : ℕ) → Has_ w p → IsDrained (entries_of p w.seen)

  module _ (log : List (BoardEntry A)) (k : Known (BoardEntry A)) (h : IsHistoryOf caller_of k log) (shut : HasShutLast k) (legal : LegalBoard k.seen)
      (alone : (xs es : List (BoardEntry A)) (caller : ℕ) → OthersAlone xs es caller)
      (mine : (xs es : List (BoardEntry A)) (p caller : ℕ) → WorkLeavesKnown xs es p caller)
      (stays : (xs es : List (BoardEntry A)) (p caller : ℕ) → WorkLeavesDrained xs es p caller)
      (legal_log : LegalBoard log) where
    -- what a client made is finished, and shared with nobody
    client-paid : (w : Known (BoardEntry A)) → HasEnded w k → HasPaid w → 17 ≤ w.number → w.number < k.next → (p : ℕ) → MayManage (entries_of p k.seen) w.number → is_closed (entries_of p k.seen) ≡ false
        → (front (entries_of p k.seen) ≡ length (submissions (entries_of p k.seen))) × (is_shared (entries_of p k.seen) ≡ false)
    client-paid w ended paid low high p may opened =
        let f = client-follow k log h shut legal_log w ended paid.own low high in
        let had : Has_ w p =
        (made-before w.number p w.seen f.0 f.2 (subst (λ xs. MayManage (entries_of p xs) w.number) f.1 may), open-before p w.seen f.0 (subst (λ xs. is_closed (entries_of p xs) ≡ false) f.1 opened)) in
        let come = alone w.seen f.0 w.number (subst LegalBoard f.1 legal, f.2) in
        let unshared = paid.unshared p had in
        let later : IsDrained (entries_of p k.seen) = subst (λ xs. IsDrained (entries_of p xs)) (sym f.1) (stays w.seen f.0 p w.number come had.0 unshared (paid.drained p had)) in
        let known = mine w.seen f.0 p w.number come had.0 in
        (later.0, ap (λ xs. is_shared (entries_of p xs)) f.1 ∙ (known.shared ∙ unshared))

    module _ (workers clients : ℕ) (few : workers ≤ 16) (beside : Each (IsBeside workers clients) k.seen) (next : k.next ≡ 17 + clients)
        (ws : List (Known (BoardEntry A))) (numbered : Numbered 17 ws) (count : length ws ≡ clients) (each : Each (λ w. HasEnded w k × HasPaid w) ws) where
      -- a maker is the first caller, or a client
      by-maker : (p caller : ℕ) → MayManage (entries_of p k.seen) caller → (caller ≡ 0) ⊎ ((w : Known (BoardEntry A)) × (w.number ≡ caller) × (HasEnded w k × HasPaid w) × (17 ≤ caller) × (caller < k.next))
      by-maker p caller may = of_ (maker-of (λ n. (n ≤ workers) ⊎ ((17 ≤ n) × (n ≤ 16 + clients))) caller p k.seen beside may.1) may.0
        where
          of_ : (caller ≤ workers) ⊎ ((17 ≤ caller) × (caller ≤ 16 + clients)) → (caller < 1) ⊎ (16 < caller)
              → (caller ≡ 0) ⊎ ((w : Known (BoardEntry A)) × (w.number ≡ caller) × (HasEnded w k × HasPaid w) × (17 ≤ caller) × (caller < k.next))
          of_ one (inl low) = inl (omega arith)
          of_ (inl worker) (inr high) = absurd (omega arith)
          of_ (inr client) (inr high) =
              let w = pick (λ w. HasEnded w k × HasPaid w) 17 ws caller numbered client.0 (let a = client.1 in omega arith) each in
              inr (w.0, w.1, w.2, client.0, (let a = client.1 in omega arith))

      paid-by : (p caller : ℕ) → MayManage (entries_of p k.seen) caller → is_closed (entries_of p k.seen) ≡ false
          → (caller ≡ 0) ⊎ ((front (entries_of p k.seen) ≡ length (submissions (entries_of p k.seen))) × (is_shared (entries_of p k.seen) ≡ false))
      paid-by p caller may opened = of_ (by-maker p caller may)
        where
          of_ : (caller ≡ 0) ⊎ ((w : Known (BoardEntry A)) × (w.number ≡ caller) × (HasEnded w k × HasPaid w) × (17 ≤ caller) × (caller < k.next))
              → (caller ≡ 0) ⊎ ((front (entries_of p k.seen) ≡ length (submissions (entries_of p k.seen))) × (is_shared (entries_of p k.seen) ≡ false))
          of_ (inl is) = inl is
          of_ (inr found) =
              let w = found.0 in
              inr (client-paid w found.2.0 found.2.1 (subst (λ n. 17 ≤ n) (sym found.1) found.3) (subst (λ n. n < k.next) (sym found.1) found.4) p (subst (λ n. MayManage (entries_of p k.seen) n) (sym found.1) may) opened)

      -- so each pipeline that is open is finished, where those of the first caller's are
      pub finished-by : ((p : ℕ) → MayManage (entries_of p k.seen) 0 → is_closed (entries_of p k.seen) ≡ false → front (entries_of p k.seen) ≡ length (submissions (entries_of p k.seen)))
          → (p caller : ℕ) → MayManage (entries_of p k.seen) caller → is_closed (entries_of p k.seen) ≡ false → front (entries_of p k.seen) ≡ length (submissions (entries_of p k.seen))
      finished-by own p caller may opened = of_ (paid-by p caller may opened)
        where
          of_ : (caller ≡ 0) ⊎ ((front (entries_of p k.seen) ≡ length (submissions (entries_of p k.seen))) × (is_shared (entries_of p k.seen) ≡ false)) → front (entries_of p k.seen) ≡ length (submissions (entries_of p k.seen))
          of_ (inl is) = own p (subst (λ n. MayManage (entries_of p k.seen) n) is may) opened
          of_ (inr paid) = paid.0

      -- and each that is shared is open, and the first caller's
      pub shared-is-first : ((xs : List (BoardEntry A)) (p : ℕ) → AreRightAlone xs p) → (p : ℕ) → is_shared (entries_of p k.seen) ≡ true
          → MayManage (entries_of p k.seen) 0 × (is_closed (entries_of p k.seen) ≡ false)
      shared-is-first right p shared = of_ (shared-had (entries_of p k.seen) (right k.seen p legal) shared)
        where
          by : (had : IsHad (entries_of p k.seen)) → (had.caller ≡ 0) ⊎ ((front (entries_of p k.seen) ≡ length (submissions (entries_of p k.seen))) × (is_shared (entries_of p k.seen) ≡ false))
              → MayManage (entries_of p k.seen) 0 × (is_closed (entries_of p k.seen) ≡ false)
          by had (inl is) = (subst (λ n. MayManage (entries_of p k.seen) n) is had.may, had.opened)
          by had (inr paid) = absurd (both (is_shared (entries_of p k.seen)) shared paid.1)

          of_ : IsHad (entries_of p k.seen) → MayManage (entries_of p k.seen) 0 × (is_closed (entries_of p k.seen) ≡ false)
          of_ had = by had (paid-by p had.caller had.may had.opened)
