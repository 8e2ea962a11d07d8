-- Each number is taken once and finished once.
use Rattle.std.proofs.Common.{◌≡◌, ℕ, zero, suc, ◌+◌, ◌*◌, ◌<◌, ◌≤◌, Bool, true, false, cond, ◌||◌, List, [], ◌∷◌, ◌++◌, length, map, Some, None, refl, sym, ◌∙◌, ap, subst, arith, append-nil, append_assoc, length-append, inl, inr, ◌⊎◌}
use Rattle.std.specs.Prelude.{◌==◌}
use Rattle.std.specs.List.{filter_map, filter}
use Rattle.std.proofs.lemmas.Bool.{eqb-true, eq-eqb, cases_lt, cases_eq, false_from_ne_true}
use Rattle.std.proofs.lemmas.List.{map-append}
use Rattle.board.specs.declared.entry.BoardEntry.{BoardEntry}
use Rattle.board.specs.declared.entry.BoardEntry.TheVariants.{Born, Submit, Take, Finish, Enq, Deq, Done, Hold, Go, Collect, Close, Share, Mask, Shut}
use Rattle.board.specs.Shapes.{queue_born}
use Rattle.board.specs.Entries.{entries_of, birth, accepted_in, submissions, dequeues, dequeued, passed_on, taken_in, takings, takers, finished_in, finished, has}
use Rattle.board.specs.Legal.{IsRightFor}
use Rattle.board.specs.Order.{AreRightForAfter, handed_in}
use Rattle.board.proofs.Lists.{filter_map-none, filter_map-some, filter_map_grows, has-more}
use Rattle.board.proofs.Transfer.{each_right}
use Rattle.board.proofs.Keeping.{AreNumbered, IsOrderly, orderly, orderly_start, orderly_step, passed-le, took_passed, runs_next, lists_no_queue}
use Rattle.progress_laws.specs.Progress.{works, WorksFew}

abbrev pub bit : Bool → ℕ
bit true = 1
bit false = 0

-- how many numbers below m are in the list
abbrev pub among : List ℕ → ℕ → ℕ
among ns zero = 0
among ns (suc m) = bit (has m ns) + among ns m

one_most : (b : Bool) → bit b ≤ 1
one_most true = omega arith
one_most false = omega arith

pub among-le : (ns : List ℕ) (m : ℕ) → among ns m ≤ m
among-le ns zero = omega arith
among-le ns (suc m) = (let h = among-le ns m in let o = one_most (has m ns) in omega arith)

or_same : (b c : Bool) → c ≡ false → (b || (c || false)) ≡ b
or_same true c h = refl
or_same false true h = cc
or_same false false h = refl

has_other : (ns : List ℕ) (n k : ℕ) → (n ≡ k → ⊥) → has k (ns ++ n ∷ []) ≡ has k ns
has_other ns n k other = has-more ns n k ∙ or_same (has k ns) (n == k) (false_from_ne_true (n == k) (λ h. other (eqb-true n k h)))

has_last : (b c : Bool) → c ≡ true → (b || (c || false)) ≡ true
has_last true c h = refl
has_last false true h = refl
has_last false false h = cc

has_it : (ns : List ℕ) (n : ℕ) → has n (ns ++ n ∷ []) ≡ true
has_it ns n = has-more ns n n ∙ has_last (has n ns) (n == n) (eq-eqb n n refl)

among_below : (ns : List ℕ) (n m : ℕ) → m ≤ n → among (ns ++ n ∷ []) m ≡ among ns m
among_below ns n zero l = refl
among_below ns n (suc m) l =
    let e : bit (has m (ns ++ n ∷ [])) ≡ bit (has m ns) = ap bit (has_other ns n m (λ (q : n ≡ m). absurd (omega arith))) in
    let h = among_below ns n m (omega arith) in
    omega arith

lower : (n m : ℕ) → n < suc m → (n ≡ m → ⊥) → (n < m) ⊎ (m ≤ n) → n < m
lower n m l other (inl low) = low
lower n m l other (inr high) = absurd (other (omega arith))

-- a new number is one more
pub among_more : (ns : List ℕ) (n m : ℕ) → n < m → has n ns ≡ false → among (ns ++ n ∷ []) m ≡ suc (among ns m)
among_more ns n zero l new = absurd (omega arith)
among_more ns n (suc m) l new = by_last (λ k. among_more ns n m k new) (cases_eq n m)
  where
    by_last : (n < m → among (ns ++ n ∷ []) m ≡ suc (among ns m)) → (n ≡ m) ⊎ (n ≡ m → ⊥) → among (ns ++ n ∷ []) (suc m) ≡ suc (among ns (suc m))
    by_last again (inl q) =
        let a : bit (has m (ns ++ n ∷ [])) ≡ 1 = ap bit (subst (λ k. has k (ns ++ n ∷ []) ≡ true) q (has_it ns n)) in
        let b : bit (has m ns) ≡ 0 = ap bit (subst (λ k. has k ns ≡ false) q new) in
        let h = among_below ns n m (omega arith) in
        omega arith
    by_last again (inr other) =
        let e : bit (has m (ns ++ n ∷ [])) ≡ bit (has m ns) = ap bit (has_other ns n m other) in
        let h = again (lower n m l other (cases_lt n m)) in
        omega arith

none_among : (ts : List (ℕ × ℕ)) (n : ℕ) → map (λ (t : ℕ × ℕ). t.1) (filter (λ (t : ℕ × ℕ). t.0 == n) ts) ≡ [] → has n (map (λ (t : ℕ × ℕ). t.0) ts) ≡ false
none_among [] n h = refl
none_among (t ∷ ts) n h = by_first (t.0 == n) h (none_among ts n)
  where
    by_first : (b : Bool) → map (λ (t : ℕ × ℕ). t.1) (cond b (t ∷ filter (λ (t : ℕ × ℕ). t.0 == n) ts) (filter (λ (t : ℕ × ℕ). t.0 == n) ts)) ≡ []
        → (map (λ (t : ℕ × ℕ). t.1) (filter (λ (t : ℕ × ℕ). t.0 == n) ts) ≡ [] → has n (map (λ (t : ℕ × ℕ). t.0) ts) ≡ false) → (b || has n (map (λ (t : ℕ × ℕ). t.0) ts)) ≡ false
    by_first true none later = cc
    by_first false none later = later none

one_more : (ns : List ℕ) (n m : ℕ) → n < m → has n ns ≡ false → length ns ≤ among ns m → length (ns ++ n ∷ []) ≤ among (ns ++ n ∷ []) m
one_more ns n m l new s =
    let a = among_more ns n m l new in
    let b = length-append ns (n ∷ []) in
    omega arith

mapped : {X Y : Type 0} (f : X → Y) (xs : List X) → length (map f xs) ≡ length xs
mapped f [] = refl
mapped f (x ∷ xs) = ap suc (mapped f xs)

module _ {A : Type 0} where
  -- the numbers taken off a pad
  abbrev off : List (BoardEntry A) → List ℕ
  off es = map (λ (t : ℕ × ℕ). t.0) (filter_map taken_in es)

  -- there are no more of them than different ones, and so of those finished
  abbrev IsSpent : List (BoardEntry A) → Type 0
  IsSpent es = (m : ℕ) → length (submissions es) ≤ m → (length (off es) ≤ among (off es) m) × (length (finished es) ≤ among (finished es) m)

  more_subs : (es : List (BoardEntry A)) (e : BoardEntry A) → length (submissions es) ≤ length (submissions (es ++ e ∷ []))
  more_subs es e = filter_map_grows accepted_in es e

  quiet : (es : List (BoardEntry A)) (e : BoardEntry A) → IsSpent es → taken_in e ≡ None → finished_in e ≡ None → IsSpent (es ++ e ∷ [])
  quiet es e spent t f m l =
      let g = more_subs es e in
      let te : off (es ++ e ∷ []) ≡ off es = ap (map (λ (t : ℕ × ℕ). t.0)) (filter_map-none taken_in es e t) in
      let fe : finished (es ++ e ∷ []) ≡ finished es = filter_map-none finished_in es e f in
      let s = spent m (omega arith) in
      (subst (λ ns. length ns ≤ among ns m) (sym te) s.0, subst (λ ns. length ns ≤ among ns m) (sym fe) s.1)

  takes : (es : List (BoardEntry A)) (caller p n : ℕ) → AreNumbered es → IsSpent es → queue_born (birth es) ≡ false → n < passed_on es → takers n es ≡ [] → IsSpent (es ++ Take caller p n ∷ [])
  takes es caller p n o spent q low none m l =
      let e : BoardEntry A = Take caller p n in
      let g = more_subs es e in
      let le = passed-le es o.queued in
      let te : off (es ++ e ∷ []) ≡ off es ++ n ∷ [] = ap (map (λ (t : ℕ × ℕ). t.0)) (filter_map-some taken_in es e (n, caller) refl) ∙ map-append (λ (t : ℕ × ℕ). t.0) (filter_map taken_in es) ((n, caller) ∷ []) in
      let fe : finished (es ++ e ∷ []) ≡ finished es = filter_map-none finished_in es e refl in
      let s = spent m (omega arith) in
      let same : takings es ≡ filter_map taken_in es = ap (λ b. cond b (dequeues es) (filter_map taken_in es)) q in
      let new : has n (off es) ≡ false = subst (λ ts. has n (map (λ (t : ℕ × ℕ). t.0) ts) ≡ false) same (none_among (takings es) n none) in
      (subst (λ ns. length ns ≤ among ns m) (sym te) (one_more (off es) n m (omega arith) new s.0), subst (λ ns. length ns ≤ among ns m) (sym fe) s.1)

  ends : (es : List (BoardEntry A)) (e : BoardEntry A) (n : ℕ) → IsSpent es → taken_in e ≡ None → finished_in e ≡ Some n → n < length (submissions es) → has n (finished es) ≡ false → IsSpent (es ++ e ∷ [])
  ends es e n spent t f low new m l =
      let g = more_subs es e in
      let te : off (es ++ e ∷ []) ≡ off es = ap (map (λ (t : ℕ × ℕ). t.0)) (filter_map-none taken_in es e t) in
      let fe : finished (es ++ e ∷ []) ≡ finished es ++ n ∷ [] = filter_map-some finished_in es e n f in
      let s = spent m (omega arith) in
      (subst (λ ns. length ns ≤ among ns m) (sym te) s.0, subst (λ ns. length ns ≤ among ns m) (sym fe) (one_more (finished es) n m (omega arith) new s.1))

  spent_step : (es : List (BoardEntry A)) (e : BoardEntry A) → AreNumbered es → IsSpent es → IsRightFor es e → IsSpent (es ++ e ∷ [])
  spent_step es (Born caller pipe shape) o s r = quiet es (Born caller pipe shape) s refl refl
  spent_step es (Submit caller pipe number ask) o s r = quiet es (Submit caller pipe number ask) s refl refl
  spent_step es (Take caller pipe number) o s r = takes es caller pipe number o s (lists_no_queue (birth es) r.0.0) r.1 r.2
  spent_step es (Finish caller pipe number) o s r =
      let low = took_passed es number caller o (lists_no_queue (birth es) r.0) r.1 in
      let le = passed-le es o.queued in
      ends es (Finish caller pipe number) number s refl refl (omega arith) r.2
  spent_step es (Enq caller pipe ask backlog answer) o s r = quiet es (Enq caller pipe ask backlog answer) s refl refl
  spent_step es (Deq caller pipe number started) o s r = quiet es (Deq caller pipe number started) s refl refl
  spent_step es (Done caller pipe number) o s r =
      let low = (runs_next es number caller o r.0 r.1 r.2).1 in
      let le = o.queued in
      ends es (Done caller pipe number) number s refl refl (omega arith) r.2
  spent_step es (Hold caller pipe) o s r = quiet es (Hold caller pipe) s refl refl
  spent_step es (Go caller pipe) o s r = quiet es (Go caller pipe) s refl refl
  spent_step es (Collect caller pipe to) o s r = quiet es (Collect caller pipe to) s refl refl
  spent_step es (Close caller pipe) o s r = quiet es (Close caller pipe) s refl refl
  spent_step es (Share caller pipe) o s r = quiet es (Share caller pipe) s refl refl
  spent_step es (Mask caller pipe bits) o s r = quiet es (Mask caller pipe bits) s refl refl
  spent_step es (Shut caller) o s r = absurd r

  spent_run : (before es : List (BoardEntry A)) (given : List _) → IsOrderly before given → IsSpent before → AreRightForAfter before es → IsSpent (before ++ es)
  spent_run before [] given o s r = subst IsSpent (sym (append-nil before)) s
  spent_run before (e ∷ es) given o s r =
      subst IsSpent (append_assoc before (e ∷ []) es) (spent_run (before ++ e ∷ []) es (given ++ handed_in before e) (orderly_step before e given o r.0) (spent_step before e o.numbered s r.0) r.1)

  -- an entry of work lets out, takes or finishes one
  works_are : (es : List (BoardEntry A)) → works es ≡ dequeued es + (length (filter_map taken_in es) + length (finished es))
  works_are [] = refl
  works_are (Born caller pipe shape ∷ es) = works_are es
  works_are (Submit caller pipe number ask ∷ es) = works_are es
  works_are (Take caller pipe number ∷ es) = (let h = works_are es in omega arith)
  works_are (Finish caller pipe number ∷ es) = (let h = works_are es in omega arith)
  works_are (Enq caller pipe ask backlog answer ∷ es) = works_are es
  works_are (Deq caller pipe number started ∷ es) = (let h = works_are es in omega arith)
  works_are (Done caller pipe number ∷ es) = (let h = works_are es in omega arith)
  works_are (Hold caller pipe ∷ es) = works_are es
  works_are (Go caller pipe ∷ es) = works_are es
  works_are (Collect caller pipe to ∷ es) = works_are es
  works_are (Close caller pipe ∷ es) = works_are es
  works_are (Share caller pipe ∷ es) = works_are es
  works_are (Mask caller pipe bits ∷ es) = works_are es
  works_are (Shut caller ∷ es) = works_are es

  pub few : (es : List (BoardEntry A)) → AreRightForAfter [] es → works es ≤ 3 * length (submissions es)
  few es r =
      let m : ℕ = length (submissions es) in
      let start : IsSpent [] = λ m l. (omega arith, omega arith) in
      let s = spent_run [] es [] orderly_start start r m (omega arith) in
      let t = among-le (off es) m in
      let f = among-le (finished es) m in
      let q = (orderly es r).numbered.queued in
      let w = works_are es in
      let k = mapped (λ (t : ℕ × ℕ). t.0) (filter_map taken_in es) in
      omega (arith, s.0, s.1)

  pub works_few : (h : List (BoardEntry A)) (p : ℕ) → WorksFew h p
  works_few h p legal = few (entries_of p h) (each_right [] h p legal)
