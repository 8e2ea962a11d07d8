-- Workers alone are left.
use Rattle.std.proofs.Common.{◌≡◌, ◌⊎◌, ℕ, ◌<◌, ◌≤◌, Bool, true, false, ◌&&◌, List, [], ◌∷◌, ◌++◌, refl, sym, ◌∙◌, ap, subst, arith, append-nil, append_assoc, inl, inr}
use Rattle.std.specs.Prelude.{◌==◌, if◌then◌else◌}
use Rattle.std.specs.List.{list_all}
use Rattle.std.proofs.lemmas.Bool.{eq-eqb, eqb-true, cases_lt, and_parts}
use Rattle.std.proofs.lemmas.List.Elements.{filter-append}
use Rattle.turn_lock.specs.Turns.{Known, Each, Has, Shows, of, sees}
use Rattle.board.specs.declared.entry.BoardEntry.{BoardEntry}
use Rattle.board.specs.declared.entry.BoardEntry.TheVariants.{Born, Submit, Take, Finish, Enq, Deq, Done, Hold, Go, Collect, Close, Share, Mask, Shut}
use Rattle.board.specs.Entries.{caller_of}
use Rattle.board.specs.Legal.{IsNoWorker, IsRight, AreRightAfter}
use Rattle.board.specs.PipelineHistory.{is_work}
use Rattle.board.specs.Alone.{IsGone, PeersAreGone, PeersStayGone, WorkersAreLeft, WorkAlone}

no_worker : (n : ℕ) → 1 ≤ n → n ≤ 16 → IsNoWorker n → ⊥
no_worker n low high (inl none) = (let l = none in absurd (omega arith))
no_worker n low high (inr above) = (let l = above in absurd (omega arith))

module _ {A : Type 0} where
  -- what a worker adds is work
  worker_works : (h : List (BoardEntry A)) (e : BoardEntry A) → 1 ≤ caller_of e → caller_of e ≤ 16 → IsRight h e → is_work e ≡ true
  worker_works h (Born caller pipe shape) low high r = absurd (no_worker caller low high r.1.0)
  worker_works h (Submit caller pipe number ask) low high r = absurd (no_worker caller low high r.1.0.0)
  worker_works h (Take caller pipe number) low high r = refl
  worker_works h (Finish caller pipe number) low high r = refl
  worker_works h (Enq caller pipe ask backlog answer) low high r = absurd (no_worker caller low high r.1.0.0)
  worker_works h (Deq caller pipe number started) low high r = refl
  worker_works h (Done caller pipe number) low high r = refl
  worker_works h (Hold caller pipe) low high r = absurd (no_worker caller low high r.1.0.0)
  worker_works h (Go caller pipe) low high r = absurd (no_worker caller low high r.1.0.0)
  worker_works h (Collect caller pipe to) low high r = absurd (no_worker caller low high r.1.0.0)
  worker_works h (Close caller pipe) low high r = absurd (no_worker caller low high r.1.0.0)
  worker_works h (Share caller pipe) low high r = absurd (no_worker caller low high r.1.0.0)
  worker_works h (Mask caller pipe bits) low high r = absurd (no_worker caller low high r.1.0.0)
  worker_works h (Shut caller) low high r = (let z = r.0 in absurd (omega arith))

  right_behind : (before h es : List (BoardEntry A)) → AreRightAfter before (h ++ es) → AreRightAfter (before ++ h) es
  right_behind before [] es r = subst (λ hs. AreRightAfter hs es) (sym (append-nil before)) r
  right_behind before (x ∷ h) es r = subst (λ hs. AreRightAfter hs es) (append_assoc before (x ∷ []) h) (right_behind (before ++ x ∷ []) h es r.1)

  each_right_part : (P : (BoardEntry A) → Type 0) (xs ys : List (BoardEntry A)) → Each P (xs ++ ys) → Each P ys
  each_right_part P [] ys each = each
  each_right_part P (x ∷ xs) ys each = each_right_part P xs ys each.1

  kept_of : (n : ℕ) (made log : List (BoardEntry A)) (xs : List (ℕ × List (BoardEntry A))) → Each (λ x. of caller_of x.0 log ≡ x.1) xs → Has (λ x. x ≡ (n, made)) xs → of caller_of n log ≡ made
  kept_of n made log [] each has = absurd has
  kept_of n made log (x ∷ xs) each (inl e) = ap (λ (y : ℕ × List (BoardEntry A)). of caller_of y.0 log) (sym e) ∙ (each.0 ∙ ap (λ (y : ℕ × List (BoardEntry A)). y.1) e)
  kept_of n made log (x ∷ xs) each (inr has) = kept_of n made log xs each.1 has

  no_rest : (xs ys : List (BoardEntry A)) → xs ++ ys ≡ xs → ys ≡ []
  no_rest [] ys e = e
  no_rest (x ∷ xs) ys e = no_rest xs ys (let t : xs ++ ys ≡ xs = cc in t)

  first_of : (e : BoardEntry A) (es : List (BoardEntry A)) (n : ℕ) (t : Bool) → t ≡ true → (if t then e ∷ of caller_of n es else of caller_of n es) ≡ [] → ⊥
  first_of e es n true t none = absurd cc
  first_of e es n false t none = absurd cc

  none_later : (n : ℕ) (e : BoardEntry A) (es : List (BoardEntry A)) (t : Bool) → (if t then e ∷ of caller_of n es else of caller_of n es) ≡ [] → of caller_of n es ≡ []
  none_later n e es true none = absurd cc
  none_later n e es false none = none

  all_first : (e : BoardEntry A) (es : List (BoardEntry A)) (t : Bool) → t ≡ true → list_all is_work (if t then e ∷ of caller_of 0 es else of caller_of 0 es) ≡ true → is_work e ≡ true
  all_first e es true t all = (and_parts (is_work e) (list_all is_work (of caller_of 0 es)) all).0
  all_first e es false t all = absurd cc

  all_later : (e : BoardEntry A) (es : List (BoardEntry A)) (t : Bool) → list_all is_work (if t then e ∷ of caller_of 0 es else of caller_of 0 es) ≡ true → list_all is_work (of caller_of 0 es) ≡ true
  all_later e es true all = (and_parts (is_work e) (list_all is_work (of caller_of 0 es)) all).1
  all_later e es false all = all

  all_work : (next : ℕ) (before es : List (BoardEntry A)) → AreRightAfter before es → Each (λ e. caller_of e < next) es → list_all is_work (of caller_of 0 es) ≡ true → ((n : ℕ) → 17 ≤ n → n < next → of caller_of n es ≡ []) → list_all is_work es ≡ true
  all_work next before [] r below own gone = refl
  all_work next before (e ∷ es) r below own gone =
      (λ i. works (cases_lt 0 (caller_of e)) (cases_lt (caller_of e) 17) i
      && all_work next (before ++ e ∷ []) es r.1 below.1 (all_later e es (caller_of e == 0) own) (λ n low high. none_later n e es (caller_of e == n) (gone n low high)) i)
    where
      works : (0 < caller_of e) ⊎ (caller_of e ≤ 0) → (caller_of e < 17) ⊎ (17 ≤ caller_of e) → is_work e ≡ true
      works (inl some) (inl low) = worker_works before e (omega arith) (omega arith) r.0
      works (inl some) (inr high) = absurd (first_of e es (caller_of e) (caller_of e == caller_of e) (eq-eqb (caller_of e) (caller_of e) refl) (gone (caller_of e) high below.0))
      works (inr none) other = (let z : caller_of e ≡ 0 = omega arith in all_first e es (caller_of e == 0) (eq-eqb (caller_of e) 0 z) own)

  pub work_alone : (k m : Known (BoardEntry A)) (h es : List (BoardEntry A)) → WorkAlone k m h es
  work_alone k m h es gone is legal number next ended shows own =
      let right : AreRightAfter [] (k.seen ++ es) = subst (AreRightAfter []) is legal in
      let below : Each (λ e. caller_of e < k.next) es = each_right_part (λ e. caller_of e < k.next) k.seen es (subst (Each (λ e. caller_of e < k.next)) is (subst (λ n. Each (λ e. caller_of e < n) h) next (shows.below (number ∙ gone.first)))) in
      all_work k.next k.seen es (right_behind [] k.seen es right) below own (λ n low high. none n (gone.gone n low high))
    where
      none : (n : ℕ) → IsGone n k → of caller_of n es ≡ []
      none n was =
          let has_it = subst (Has (λ x. x ≡ (n, was.0))) (sym ended) was.1 in
          no_rest (of caller_of n k.seen) (of caller_of n es)
          (sym (filter-append (λ e. caller_of e == n) k.seen es) ∙ (ap (of caller_of n) (sym is) ∙ (kept_of n was.0 h m.ended shows.ended has_it ∙ sym was.2)))

  pub workers_are_left : (k : Known (BoardEntry A)) (h : List (BoardEntry A)) → WorkersAreLeft k h
  workers_are_left k h gone met =
      work_alone k (sees k h) h met.others gone met.goes_on met.kept refl refl refl shows none
    where
      shows : Shows caller_of (sees k h) h
      shows = record { seen = ([], sym (append-nil h)); made = met.shows.made; own = met.shows.made; ended = met.shows.ended; next = met.shows.next; below = met.shows.below }

      none : list_all is_work (of caller_of 0 met.others) ≡ true
      none = ap (list_all is_work) (subst (λ n. of caller_of n met.others ≡ []) gone.first met.apart)

  pub peers_are_gone : (k : Known (BoardEntry A)) (h : List (BoardEntry A)) → PeersAreGone k h
  peers_are_gone k h met first has = record {
    first = first;
    gone = λ n low high. (let made = has n low high in (made.0, made.1, kept_of n made.0 h k.ended met.shows.ended made.1));
  }

  own_later : (n : ℕ) (h : List (BoardEntry A)) (e : BoardEntry A) → caller_of e ≡ 0 → 17 ≤ n → of caller_of n (h ++ e ∷ []) ≡ of caller_of n h
  own_later n h e zero_is low =
      filter-append (λ x. caller_of x == n) h (e ∷ []) ∙ (ap (λ b. of caller_of n h ++ (if b then e ∷ [] else [])) (not_same (caller_of e == n) refl) ∙ append-nil (of caller_of n h))
    where
      not_same : (t : Bool) → (caller_of e == n) ≡ t → (caller_of e == n) ≡ false
      not_same true is = (let same = eqb-true (caller_of e) n is in absurd (omega (arith, same, zero_is, low)))
      not_same false is = is

  pub peers_stay_gone : (k : Known (BoardEntry A)) (h : List (BoardEntry A)) (e : BoardEntry A) → PeersStayGone k h e
  peers_stay_gone k h e met gone = (
    record { first = gone.first; gone = λ n low high. seen_all n (gone.gone n low high) },
    (λ zero_is. record {
      first = gone.first;
      gone = λ n low high. (let now = seen_all n (gone.gone n low high) in (now.0, now.1, own_later n h e zero_is low ∙ now.2));
    }),
  )
    where
      seen_all : (n : ℕ) → IsGone n k → IsGone n (sees k h)
      seen_all n is = (is.0, is.1, kept_of n is.0 h k.ended met.shows.ended is.1)
