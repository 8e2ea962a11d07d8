-- Callers beside a first one.
use Rattle.std.proofs.Common.{◌≡◌, ◌<◌, ◌≤◌, ◌⊎◌, ℕ, zero, suc, Bool, true, false, List, [], ◌∷◌, ◌++◌, length, sym, refl, ap, ◌∙◌, subst, ◌+◌, ◌-◌, arith, inl, inr}
use Rattle.std.specs.Prelude.{◌==◌, if◌then◌else◌, reverse, IfOk, IsOk, Result, Ok, Err}
use Rattle.std.proofs.lemmas.Bool.{eq-eqb, cases_lt}
use Rattle.std.proofs.lemmas.List.{append_assoc, append-nil, reverse-append}
use Rattle.std.proofs.Math.Nat.{eq-or-lt_of_le}
use Rattle.turn_lock.specs.Turns.{Known, Each, Has, StartsWith, of, gives_number, gets_number, joined, skipped}
use Rattle.turn_lock.specs.TurnLaws.{none_after, starts_through}
use Rattle.turn_lock.specs.Passes.{knows}
use Rattle.turn_lock.proofs.Lists.{each_map}
use Rattle.crew.specs.declared.passes.Passes.{Passes}
use Rattle.crew.specs.Peers.{HasEnded, Peered, RunsOnBoth, PeersLeave, PeersTakeNumbers, PeersHaveEnded, EndedStays, EndedAreAlone, FirstIsAlone, CallersAre}

module _ {A : Type 0} where
  starts_same : (xs : List A) → StartsWith xs xs
  starts_same xs = ([], sym (append-nil xs))

  has_left : (P : A → Type 0) (xs ys : List A) → Has P xs → Has P (xs ++ ys)
  has_left P [] ys h = absurd h
  has_left P (x ∷ xs) ys (inl p) = inl p
  has_left P (x ∷ xs) ys (inr h) = inr (has_left P xs ys h)

  has_right : (P : A → Type 0) (xs ys : List A) → Has P ys → Has P (xs ++ ys)
  has_right P [] ys h = h
  has_right P (x ∷ xs) ys h = inr (has_right P xs ys h)

  pub has_on : (P : A → Type 0) (ys xs : List A) → StartsWith ys xs → Has P xs → Has P ys
  has_on P ys xs starts h = subst (Has P) (sym starts.1) (has_left P xs starts.0 h)

-- a number that was passed over is kept, without an entry
skips_each : (E : Type 0) (from count j : ℕ) → from ≤ j → j < from + count → Has (λ x. x ≡ (j, [])) (skipped {E = E} from count)
skips_each E from zero j low high = absurd (omega arith)
skips_each E from (suc count) j low high = by_place (skips_each E (suc from) count j) (eq-or-lt_of_le low)
  where
    by_place : (suc from ≤ j → j < suc from + count → Has (λ x. x ≡ (j, [])) (skipped {E = E} (suc from) count)) → (from ≡ j) ⊎ (from < j) → Has (λ x. x ≡ (j, [])) (skipped {E = E} from (suc count))
    by_place later (inl e) = inl (λ i. (e i, []))
    by_place later (inr lt) = inr (later (omega arith) (omega arith))

module _ {E : Type 0} where
  gave_ended : (from : ℕ) (k : Known E) → StartsWith (gives_number from k).ended k.ended
  gave_ended from k = (skipped k.next (from - k.next), refl)

  joined_ended : (m w l : Known E) → l ≡ joined m w → StartsWith l.ended m.ended
  joined_ended m w l is = (w.ended ++ (w.number, w.made) ∷ [], ap (λ n. n.ended) is ∙ append_assoc m.ended w.ended ((w.number, w.made) ∷ []))

  pub peers_leave : (from : ℕ) (ws : List (Known E)) (k l : Known E) → PeersLeave from ws k l
  peers_leave from [] k l is =
      (ap (λ n. n.number) is, ap (λ n. n.made) is, subst (λ n. StartsWith n.seen k.seen) (sym is) (starts_same k.seen), subst (λ n. StartsWith n.ended k.ended) (sym is) (starts_same k.ended))
  peers_leave from (w ∷ ws) k l is =
      let m = is.0 in
      let own = gives_number from k in
      let left = peers_leave (suc from) ws own m is.1 in (
        ap (λ n. n.number) is.3 ∙ left.0,
        ap (λ n. n.made) is.3 ∙ left.1,
        starts_through l.seen m.seen k.seen is.4 left.2,
        starts_through l.ended own.ended k.ended (starts_through l.ended m.ended own.ended (joined_ended m w l is.3) left.3) (gave_ended from k),
      )

  next_after : (from : ℕ) (ws : List (Known E)) (k l : Known E) → k.next ≡ from → Peered from ws k l → l.next ≡ from + length ws
  next_after from [] k l next is = let e = ap (λ n. n.next) is in omega arith
  next_after from (w ∷ ws) k l next is =
      let e : l.next ≡ is.0.next = ap (λ n. n.next) is.3 in
      let later = next_after (suc from) ws (gives_number from k) is.0 (omega arith) is.1 in omega arith

  pub peers_take_numbers : (from : ℕ) (w : Known E) (ws : List (Known E)) (k l : Known E) → PeersTakeNumbers from w ws k l
  peers_take_numbers from w ws k l is =
      let m = is.0 in
      let own = gives_number from k in
      let e : l.next ≡ m.next = ap (λ n. n.next) is.3 in
      let later = next_after (suc from) ws own m (omega arith) is.1 in
      let left = peers_leave (suc from) ws own m is.1 in (
        (omega arith),
        (λ j low high.
            let starts = starts_through l.ended m.ended own.ended (joined_ended m w l is.3) left.3 in
            has_on (λ x. x ≡ (j, [])) l.ended own.ended starts
            (has_right (λ x. x ≡ (j, [])) k.ended (skipped k.next (from - k.next)) (skips_each E k.next (from - k.next) j low (omega arith)))),
      )

  pub ended_stays : (w l m : Known E) → EndedStays w l m
  ended_stays w l m ended seen more = record {
    kept = has_on (λ x. x ≡ (w.number, w.made)) m.ended l.ended more ended.kept;
    seen = starts_through m.seen l.seen w.seen seen ended.seen;
  }

  pub peers_have_ended : (from : ℕ) (ws : List (Known E)) (k l : Known E) → PeersHaveEnded from ws k l
  peers_have_ended from [] k l is = tt
  peers_have_ended from (w ∷ ws) k l is =
      let m = is.0 in (
        record {
          kept = subst (λ n. Has (λ x. x ≡ (w.number, w.made)) n.ended) (sym is.3)
              (has_right (λ x. x ≡ (w.number, w.made)) (m.ended ++ w.ended) ((w.number, w.made) ∷ []) (inl refl));
          seen = is.5;
        },
        each_map (λ v. HasEnded v m) (λ v. HasEnded v l) ws (λ v. λ ended. ended_stays v m l ended is.4 (joined_ended m w l is.3)) (peers_have_ended (suc from) ws (gives_number from k) m is.1),
      )

  kept_of : (by : E → ℕ) (n : ℕ) (made log : List E) (xs : List (ℕ × List E)) → Each (λ x. of by x.0 log ≡ x.1) xs → Has (λ x. x ≡ (n, made)) xs → of by n log ≡ made
  kept_of by n made log [] each has = absurd has
  kept_of by n made log (x ∷ xs) each (inl e) = ap (λ (y : ℕ × List E). of by y.0 log) (sym e) ∙ (each.0 ∙ ap (λ (y : ℕ × List E). y.1) e)
  kept_of by n made log (x ∷ xs) each (inr has) = kept_of by n made log xs each.1 has

  pub ended_are_alone : (by : E → ℕ) (w l : Known E) (log : List E) → EndedAreAlone by w l log
  ended_are_alone by w l log own ended shows =
      let s = starts_through log l.seen w.seen shows.seen ended.seen in
      (s.0, s.1, none_after by w.number log w.seen w.made s.0 s.1 (kept_of by w.number w.made log l.ended shows.ended ended.kept) own)

  pub first_is_alone : (by : E → ℕ) (k l : Known E) (log : List E) → FirstIsAlone by k l log
  first_is_alone by k l log own number made seen shows =
      let s = starts_through log l.seen k.seen shows.seen seen in
      let all : of by k.number log ≡ k.made = subst (λ n. of by n log ≡ l.made) number shows.made ∙ made in
      (s.0, s.1, none_after by k.number log k.seen k.made s.0 s.1 all own)

  -- ---- whose entries there are

  -- no entry of a list has a number of which the list has none
  first_of : (by : E → ℕ) (e : E) (es : List E) (t : Bool) → t ≡ true → (if t then e ∷ of by (by e) es else of by (by e) es) ≡ [] → ⊥
  first_of by e es true t none = absurd cc
  first_of by e es false t none = absurd cc

  none_later : (by : E → ℕ) (n : ℕ) (e : E) (es : List E) (t : Bool) → (if t then e ∷ of by n es else of by n es) ≡ [] → of by n es ≡ []
  none_later by n e es true none = absurd cc
  none_later by n e es false none = none

  each_caller : (by : E → ℕ) (workers count : ℕ) (es : List E) → ((j : ℕ) → workers + 1 ≤ j → j < 17 → of by j es ≡ []) → Each (λ e. by e < 17 + count) es
      → Each (λ e. (by e ≤ workers) ⊎ ((17 ≤ by e) × (by e ≤ 16 + count))) es
  each_caller by workers count [] none below = tt
  each_caller by workers count (e ∷ es) none below =
      (by_worker (cases_lt workers (by e)), each_caller by workers count es (λ j low high. none_later by j e es (by e == j) (none j low high)) below.1)
    where
      by_peer : workers < by e → (by e < 17) ⊎ (17 ≤ by e) → (by e ≤ workers) ⊎ ((17 ≤ by e) × (by e ≤ 16 + count))
      by_peer above (inl low) = absurd (first_of by e es (by e == by e) (eq-eqb (by e) (by e) refl) (none (by e) (omega arith) low))
      by_peer above (inr high) = (let b = below.0 in inr (high, omega arith))

      by_worker : (workers < by e) ⊎ (by e ≤ workers) → (by e ≤ workers) ⊎ ((17 ≤ by e) × (by e ≤ 16 + count))
      by_worker (inl above) = by_peer above (cases_lt (by e) 17)
      by_worker (inr low) = inl low

  pub callers_are : (by : E → ℕ) (workers count : ℕ) (l : Known E) (log : List E) → CallersAre by workers count l log
  callers_are by workers count l log zero_is next skips shows =
      each_caller by workers count log (λ j low high. kept_of by j [] log l.ended shows.ended (skips j low high)) (subst (λ n. Each (λ e. by e < n) log) next (shows.below zero_is))

-- ---- what runs

module _ {E : Type 0} where
  pub peered_more : (from next : ℕ) (k own m w l : Known E) (ws : List (Known E)) → next ≡ from + 1
      → own ≡ gives_number from k → w.number ≡ from → Peered next ws own m → l ≡ joined m w → StartsWith l.seen m.seen × StartsWith l.seen w.seen
      → Peered from (w ∷ ws) k l
  peered_more from next k own m w l ws one gave number peered is seen =
      (m, subst (λ n. Peered (suc from) ws n m) gave (subst (λ n. Peered n ws own m) (omega arith) peered), number, is, seen.0, seen.1)

module _ {A X : Type 0} (gives : ℕ → Passes A → Passes A → X → Type 0) where
  pub both_on : (from : ℕ) (k own : Passes A) (rs : List (Passes A × X)) → (knows own.board).seen ≡ (knows k.board).seen → (knows own.registry).seen ≡ (knows k.registry).seen → RunsOnBoth gives from own rs → RunsOnBoth gives from k rs
  both_on from k own [] b r runs = tt
  both_on from k own (x ∷ rs) b r runs =
      let p = runs.0.0 in
      let fresh = runs.0.1 in (
        (
          p,
          record {
            board = record { number = fresh.board.number; seen = fresh.board.seen ∙ b; made = fresh.board.made };
            registry = record { number = fresh.registry.number; seen = fresh.registry.seen ∙ r; made = fresh.registry.made };
          },
          runs.0.2,
        ),
        both_on (suc from) k own rs b r runs.1,
      )

  pub both_more : (from next : ℕ) (k own other w : Passes A) (x : X) (rs : List (Passes A × X)) → next ≡ from + 1
      → knows own.board ≡ gives_number from (knows k.board) → knows own.registry ≡ gives_number from (knows k.registry)
      → knows other.board ≡ gets_number from (knows k.board) → knows other.registry ≡ gets_number from (knows k.registry)
      → gives from other w x → RunsOnBoth gives next own rs → RunsOnBoth gives from k ((w, x) ∷ rs)
  both_more from next k own other w x rs one board_gave registry_gave board_got registry_got did runs =
      let later : RunsOnBoth gives (suc from) own rs = subst (λ n. RunsOnBoth gives n own rs) (omega arith) runs in (
        (
          other,
          record {
            board = record { number = ap (λ n. n.number) board_got; seen = ap (λ n. n.seen) board_got; made = ap (λ n. n.made) board_got };
            registry = record { number = ap (λ n. n.number) registry_got; seen = ap (λ n. n.seen) registry_got; made = ap (λ n. n.made) registry_got };
          },
          did,
        ),
        both_on (suc from) k own rs (ap (λ n. n.seen) board_gave) (ap (λ n. n.seen) registry_gave) later,
      )

-- what each gave, the last first
pub outs_more : {V X F : Type 0} (items : V → List X) (result later : Result V F) (xs : List X) (x : X) → IfOk result (λ outs. IsOk later × IfOk later (λ before. items outs ≡ items before ++ x ∷ [])) → IfOk later (λ outs. items outs ≡ reverse xs) → IfOk result (λ outs. items outs ≡ reverse (x ∷ xs))
outs_more items (Err e) later xs x is before = tt
outs_more items (Ok outs) (Err e) xs x is before = absurd (let no = is.0 in cc)
outs_more items (Ok outs) (Ok list) xs x is before = is.1 ∙ (ap (λ ys. ys ++ x ∷ []) before ∙ sym (reverse-append (x ∷ []) xs))
