-- A crew with one worker more.
use Rattle.std.proofs.Common.{◌≡◌, ◌<◌, ◌≤◌, ◌⊎◌, ℕ, zero, false, suc, Bool, true, List, [], ◌∷◌, ◌++◌, sym, refl, ap, ◌∙◌, subst, ◌+◌, ◌-◌, arith, ⊎_elim, inl, inr}
use Rattle.std.specs.List.{list_all}
use Rattle.std.specs.Prelude.{◌==◌, if◌then◌else◌}
use Rattle.std.proofs.lemmas.Bool.{or_left, and_parts, eq-eqb}
use Rattle.std.proofs.lemmas.List.{append_assoc, append-nil}
use Rattle.std.proofs.lemmas.List.Folds.{list_any-append}
use Rattle.std.proofs.Math.Nat.{eq-or-lt_of_le}
use Rattle.turn_lock.specs.Turns.{Known, Each, Has, StartsWith, of, gives_number, gets_number, joined, skipped}
use Rattle.turn_lock.specs.TurnLaws.{none_after}
use Rattle.turn_lock.specs.TurnLaws.{starts_through}
use Rattle.turn_lock.proofs.Lists.{each_more}
use Rattle.board.specs.declared.entry.BoardEntry.{BoardEntry}
use Rattle.board.specs.Legal.{is_shut, is_shut_entry}
use Rattle.board.specs.PipelineHistory.{is_work}
use Rattle.crew.specs.BoardWork.{Worked}
use Rattle.crew.specs.Crews.{Crewed, SawEnd, with_next, CrewsEnd, CrewWorks}

module _ {A : Type 0} where
  has_more : (P : A → Type 0) (xs : List A) (x : A) → Has P xs → Has P (xs ++ x ∷ [])
  has_more P [] x h = absurd h
  has_more P (y ∷ ys) x (inl p) = inl p
  has_more P (y ∷ ys) x (inr h) = inr (has_more P ys x h)

  has_end : (P : A → Type 0) (xs : List A) (x : A) → P x → Has P (xs ++ x ∷ [])
  has_end P [] x p = inl p
  has_end P (y ∷ ys) x p = inr (has_end P ys x p)

pub skips_none : {E : Type 0} (n d : ℕ) → d ≡ 0 → skipped {E = E} n d ≡ []
skips_none n zero e = refl
skips_none n (suc d) e = absurd (omega arith)

module _ {E : Type 0} where
  pub next_same : (k : Known E) (count : ℕ) → count ≡ 0 → k ≡ with_next (k.next + count) k
  next_same k count e = let h : k.next ≡ k.next + count = omega arith in ap (λ n. with_next n k) h

  -- the first pass of a split that skips nothing
  pub next_more : (k own : Known E) (rest count : ℕ) → own ≡ gives_number k.next k → k.ended ≡ [] → count ≡ rest + 1
      → with_next (own.next + rest) own ≡ with_next (k.next + count) k
  next_more k own rest count gave none one =
      let a : own.next ≡ k.next + 1 = ap (λ n. n.next) gave in
      let b : own.next + rest ≡ k.next + count = omega arith in
      let s : k.ended ++ skipped k.next (k.next - k.next) ≡ k.ended = ap (λ xs. k.ended ++ xs) (skips_none k.next (k.next - k.next) (omega arith)) ∙ append-nil k.ended in
      (λ i. with_next (b i) (gave i)) ∙ (λ i. record { number = k.number; next = k.next + count; seen = k.seen; made = k.made; ended = s i })

module _ {E : Type 0} (does : E → Bool) where
  pub crewed_none : (from count : ℕ) (k : Known E) → count ≡ 0 → Crewed does from count k k
  crewed_none from count k e = record {
    number = refl;
    next = refl;
    made = refl;
    seen = ([], sym (append-nil k.seen));
    more = [];
    ended = sym (append-nil k.ended);
    works = tt;
    all = λ i a b. absurd (omega arith);
  }

  -- a worker's pass w, which went on from `other`, is joined
  pub crewed_more : (k own other w q m l : Known E) (rest count : ℕ)
      → own ≡ gives_number k.next k → other ≡ gets_number k.next k → k.ended ≡ [] → count ≡ rest + 1
      → w.number ≡ other.number → w.ended ≡ other.ended → list_all does w.made ≡ true
      → Crewed does own.next rest q m → l ≡ joined m w → StartsWith l.seen m.seen → Crewed does k.next count q l
  crewed_more k own other w q m l rest count gave got none one number ended made crewed is seen =
      let x : ℕ × List E = (w.number, w.made) in
      let w_none : w.ended ≡ [] = ended ∙ (ap (λ n. n.ended) got ∙ none) in
      let w_number : w.number ≡ k.next = number ∙ ap (λ n. n.number) got in
      let own_next : own.next ≡ k.next + 1 = ap (λ n. n.next) gave in
      record {
        number = ap (λ n. n.number) is ∙ crewed.number;
        next = ap (λ n. n.next) is ∙ crewed.next;
        made = ap (λ n. n.made) is ∙ crewed.made;
        seen = starts_through l.seen m.seen q.seen seen crewed.seen;
        more = crewed.more ++ x ∷ [];
        ended = ap (λ n. n.ended) is ∙ (ap (λ xs. m.ended ++ xs ++ x ∷ []) w_none ∙ (ap (λ xs. xs ++ x ∷ []) (append-nil m.ended ∙ crewed.ended) ∙ append_assoc q.ended crewed.more (x ∷ [])));
        works = each_more (λ y. list_all does y.1 ≡ true) crewed.more x crewed.works made;
        all = λ i a b. ⊎_elim
            (λ e. has_end (λ y. y.0 ≡ i) crewed.more x (w_number ∙ e))
            (λ lt. has_more (λ y. y.0 ≡ i) crewed.more x (crewed.all i (omega arith) (omega arith)))
            (eq-or-lt_of_le a);
      }

  pub crews_end : (by : E → ℕ) (from count : ℕ) (k l : Known E) (log : List E) → CrewsEnd by does from count k l log
  crews_end by from count k l log own crewed shows =
      let s = starts_through log l.seen k.seen shows.seen crewed.seen in
      let all : of by k.number log ≡ k.made = subst (λ n. of by n log ≡ l.made) crewed.number shows.made ∙ crewed.made in
      (s.0, s.1, none_after by k.number log k.seen k.made s.0 s.1 all own)

  -- the entries of a number that has ended are work
  ended_works : (by : E → ℕ) (i : ℕ) (log : List E) (xs : List (ℕ × List E)) → Each (λ x. of by x.0 log ≡ x.1) xs → Each (λ x. list_all does x.1 ≡ true) xs → Has (λ x. x.0 ≡ i) xs → list_all does (of by i log) ≡ true
  ended_works by i log [] are works has = absurd has
  ended_works by i log (x ∷ xs) are works (inl same) = ap (λ n. list_all does (of by n log)) (sym same) ∙ (ap (list_all does) are.0 ∙ works.0)
  ended_works by i log (x ∷ xs) are works (inr has) = ended_works by i log xs are.1 works.1 has

  each_right-part : (P : ℕ × List E → Type 0) (xs ys : List (ℕ × List E)) → Each P (xs ++ ys) → Each P ys
  each_right-part P [] ys each = each
  each_right-part P (x ∷ xs) ys each = each_right-part P xs ys each.1

  all_later : (by : E → ℕ) (i : ℕ) (x : E) (xs : List E) (t : Bool) → list_all does (if t then x ∷ of by i xs else of by i xs) ≡ true → list_all does (of by i xs) ≡ true
  all_later by i x xs true all = (and_parts (does x) (list_all does (of by i xs)) all).1
  all_later by i x xs false all = all

  all_first : (by : E → ℕ) (i : ℕ) (x : E) (xs : List E) (t : Bool) → t ≡ true → list_all does (if t then x ∷ of by i xs else of by i xs) ≡ true → does x ≡ true
  all_first by i x xs true t all = (and_parts (does x) (list_all does (of by i xs)) all).0
  all_first by i x xs false t all = absurd cc

  -- each entry with another number than 0 is work, where each number's entries are
  each_works : (by : E → ℕ) (workers : ℕ) (xs : List E) → ((i : ℕ) → 1 ≤ i → i ≤ workers → list_all does (of by i xs) ≡ true) → Each (λ e. by e < workers + 1) xs
      → Each (λ e. (by e ≤ workers) × ((by e ≡ 0) ⊎ (does e ≡ true))) xs
  each_works by workers [] all below = tt
  each_works by workers (x ∷ xs) all below =
      let low : by x ≤ workers = (let b = below.0 in omega arith) in
      let least : 0 ≤ by x = omega arith in
      ((low, by_number (eq-or-lt_of_le least) low), each_works by workers xs (λ i one most. all_later by i x xs (by x == i) (all i one most)) below.1)
    where
      by_number : (0 ≡ by x) ⊎ (0 < by x) → by x ≤ workers → (by x ≡ 0) ⊎ (does x ≡ true)
      by_number (inl zero_is) low = inl (sym zero_is)
      by_number (inr some) low = inr (all_first by (by x) x xs (by x == by x) (eq-eqb (by x) (by x) refl) (all (by x) (omega arith) low))

  pub crew_works : (by : E → ℕ) (workers : ℕ) (k l : Known E) (log : List E) → CrewWorks by does workers k l log
  crew_works by workers k l log zero_is next crewed shows =
      let ended : Each (λ x. of by x.0 log ≡ x.1) crewed.more = each_right-part (λ x. of by x.0 log ≡ x.1) k.ended crewed.more (subst (Each (λ x. of by x.0 log ≡ x.1)) crewed.ended shows.ended) in
      let below : Each (λ e. by e < workers + 1) log = subst (λ n. Each (λ e. by e < n) log) (crewed.next ∙ next) (shows.below (crewed.number ∙ zero_is)) in
      each_works by workers log (λ i one most. ended_works by i log crewed.more ended crewed.works (crewed.all i one (omega arith))) below

module _ {A : Type 0} where
  -- a board that was shut is shut
  pub saw_end : (workers : ℕ) (w l : Known (BoardEntry A)) → StartsWith l.seen w.seen → is_shut w.seen ≡ true → SawEnd workers l
  saw_end workers w l s shut some = ap (λ h. is_shut h) s.1 ∙ (list_any-append is_shut_entry w.seen s.0 ∙ or_left (is_shut w.seen) (is_shut s.0) shut)

  pub saw_none : (workers : ℕ) (l : Known (BoardEntry A)) → workers ≡ 0 → SawEnd workers l
  saw_none workers l none some = absurd (omega arith)

  -- what a pass made while it worked, which had made nothing
  pub worked_alone : (k other w : Known (BoardEntry A)) (n : ℕ) → other ≡ gets_number n k → Worked other w → list_all is_work w.made ≡ true
  worked_alone k other w n got worked = ap (list_all is_work) (worked.goes.made ∙ ap (λ x. x.made ++ worked.own) got) ∙ worked.work
