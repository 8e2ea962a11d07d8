-- What follows at the end from what the scripts left.
use Rattle.std.proofs.Common.{◌≡◌, ◌<◌, ◌≤◌, ◌⊎◌, ◌+◌, ℕ, Bool, true, false, List, [], ◌∷◌, ◌++◌, sym, ap, ◌∙◌, subst, arith, inl, inr}
use Rattle.std.specs.Prelude.{◌==◌, if◌then◌else◌}
use Rattle.std.proofs.lemmas.Bool.{eq-eqb}
use Rattle.turn_lock.specs.TurnLaws.{starts_through}
use Rattle.turn_lock.specs.Turns.{Known, Each, Has, StartsWith, Shows, of}
use Rattle.turn_lock.specs.PassLaws.{IsOwn}
use Rattle.crew.specs.Peers.{HasEnded, OthersFollow, EndedStays, EndedAreAlone, FirstIsAlone, CallersAre}
use Rattle.crew.proofs.Peering.{has_on}
use Rattle.client_run.specs.WithWorkers.{IsHistoryOf, GaveNumbers}

module _ {A : Type 0} where
  pub each-left : (P : A → Type 0) (xs ys : List A) → Each P (xs ++ ys) → Each P xs
  each-left P [] ys each = tt
  each-left P (x ∷ xs) ys each = (each.0, each-left P xs ys each.1)

  pub each-right : (P : A → Type 0) (xs ys : List A) → Each P (xs ++ ys) → Each P ys
  each-right P [] ys each = each
  each-right P (x ∷ xs) ys each = each-right P xs ys each.1

  pub each-map : (P Q : A → Type 0) → ((x : A) → P x → Q x) → (xs : List A) → Each P xs → Each Q xs
  each-map P Q f [] each = tt
  each-map P Q f (x ∷ xs) each = (f x each.0, each-map P Q f xs each.1)

module _ {E : Type 0} (by : E → ℕ) where
  -- what was kept of a number that has ended is what the history has of it
  pub kept-of : (n : ℕ) (made log : List E) (xs : List (ℕ × List E)) → Each (λ x. of by x.0 log ≡ x.1) xs → Has (λ x. x ≡ (n, made)) xs → of by n log ≡ made
  kept-of n made log [] each has = absurd has
  kept-of n made log (x ∷ xs) each (inl e) = ap (λ (y : ℕ × List E). of by y.0 log) (sym e) ∙ (each.0 ∙ ap (λ (y : ℕ × List E). y.1) e)
  kept-of n made log (x ∷ xs) each (inr has) = kept-of n made log xs each.1 has

  -- whose number a list has no entry of made none of its entries
  pub none-here : (n : ℕ) (e : E) (es : List E) → of by n (e ∷ es) ≡ [] → by e ≡ n → ⊥
  none-here n e es none is = by_test (by e == n) (eq-eqb (by e) n is) none
    where
      by_test : (t : Bool) → t ≡ true → (if t then e ∷ of by n es else of by n es) ≡ [] → ⊥
      by_test true is none = absurd cc
      by_test false is none = absurd cc

  pub none-later : (n : ℕ) (e : E) (es : List E) → of by n (e ∷ es) ≡ [] → of by n es ≡ []
  none-later n e es none = by_test (by e == n) none
    where
      by_test : (t : Bool) → (if t then e ∷ of by n es else of by n es) ≡ [] → of by n es ≡ []
      by_test true none = absurd cc
      by_test false none = none

module _ {E : Type 0} (by : E → ℕ) (k : Known E) (log : List E) (h : IsHistoryOf by k log) where
  pub begins : StartsWith log k.seen
  begins = starts_through log h.last.seen k.seen h.shows.seen h.seen

  all-made : of by k.number log ≡ k.made
  all-made = subst (λ n. of by n log ≡ h.last.made) h.number h.shows.made ∙ h.made

  -- the pass knows the history, as if nobody had been joined into it
  pub shows-own : IsOwn by k → Shows by k log
  shows-own own = record {
    seen = begins;
    made = all-made;
    own = own;
    ended = each-left (λ x. of by x.0 log ≡ x.1) k.ended h.ended.0 (subst (Each (λ x. of by x.0 log ≡ x.1)) h.ended.1 h.shows.ended);
    next = (let a = h.shows.next in let b = h.number in let c = h.next in omega arith);
    below = λ zero_is. subst (λ n. Each (λ e. by e < n) log) h.next (h.shows.below (h.number ∙ zero_is));
  }

  -- what ended in it made what is kept of it
  pub ended-made : (n : ℕ) (made : List E) → Has (λ x. x ≡ (n, made)) k.ended → of by n log ≡ made
  ended-made n made has = kept-of by n made log h.last.ended h.shows.ended (has_on (λ x. x ≡ (n, made)) h.last.ended k.ended h.ended has)

  -- others alone follow on what a client's pass had seen
  pub client-alone : ((w l m : Known E) → EndedStays w l m) → ((by : E → ℕ) (w l : Known E) (xs : List E) → EndedAreAlone by w l xs)
      → (w : Known E) → IsOwn by w → HasEnded w k → OthersFollow by w log
  client-alone stays alone w own ended = alone by w h.last log own (stays w k h.last ended h.seen h.ended) h.shows

  -- and on what the first one's had seen, at any time at which it had made as much
  pub first-alone : ((by : E → ℕ) (k l : Known E) (xs : List E) → FirstIsAlone by k l xs)
      → (m : Known E) → IsOwn by m → k.number ≡ m.number → k.made ≡ m.made → StartsWith k.seen m.seen → OthersFollow by m log
  first-alone law m own number made seen = law by m h.last log own (h.number ∙ number) (h.made ∙ made) (starts_through h.last.seen k.seen m.seen h.seen seen) h.shows

  -- who made entries
  pub callers-beside : ((by : E → ℕ) (workers count : ℕ) (l : Known E) (xs : List E) → CallersAre by workers count l xs)
      → (workers clients : ℕ) → k.number ≡ 0 → GaveNumbers workers clients k → Each (λ e. (by e ≤ workers) ⊎ ((17 ≤ by e) × (by e ≤ 16 + clients))) log
  callers-beside law workers clients zero_is (inl few) =
      each-map (λ e. by e < workers + 1) (λ e. (by e ≤ workers) ⊎ ((17 ≤ by e) × (by e ≤ 16 + clients))) (λ e lt. inl (omega arith)) log
      (subst (λ n. Each (λ e. by e < n) log) (h.next ∙ few) (h.shows.below (h.number ∙ zero_is)))
  callers-beside law workers clients zero_is (inr gave) =
      law by workers clients h.last log (h.number ∙ zero_is) (h.next ∙ gave.0)
      (λ j low high. has_on (λ x. x ≡ (j, [])) h.last.ended k.ended h.ended (gave.1 j low high)) h.shows
