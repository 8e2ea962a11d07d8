-- A walk over the first bytes of a text.
use Rattle.std.specs.Prelude.{◌≡◌, ℕ, ◌+◌, ◌-◌, ◌%◌, ◌<◌, ◌≤◌, List, [], ◌++◌, length, take, drop}
use Rattle.std.proofs.Common.{refl, sym, ap, ap₂, subst, ◌∙◌, arith, ⊎_elim, length-append}
use Rattle.std.proofs.lemmas.Bool.{cases_lt}
use Rattle.std.proofs.lemmas.List.{take_all}
use Rattle.std.proofs.Math.Seq.{take-append-add, drop-append-add, take-append-le, drop-append-le}
use Rattle.sg_walk.proofs.Steps.{Joins}

-- a walker u goes over at most m bytes of a text, and is v then, with k bytes left to go. The rest of the text stays
pub record GoesOver {W : Type 0} (makes : W → List ℕ → List ℕ → W → Type 0) (u : W) (m : ℕ) (text made : List ℕ) (v : W) (k : ℕ) : Type 0 where
  pub left : k ≡ m - length text
  pub long : length made ≡ length text
  pub rest : drop m made ≡ drop m text
  pub stood : m ≡ 0 → v ≡ u
  pub gone : 0 < m → makes u (take m text) (take m made) v

pub goes_none : {W : Type 0} (makes : W → List ℕ → List ℕ → W → Type 0) (u : W) (m : ℕ) → makes u [] [] u → GoesOver makes u m [] [] u m
goes_none makes u m stays = record {
  left = omega arith;
  long = refl;
  rest = refl;
  stood = λ _. refl;
  gone = λ _. subst (λ (t : List ℕ). makes u t t u) (sym (take_all m [] (omega arith))) stays;
}

module _ {W : Type 0} (makes : W → List ℕ → List ℕ → W → Type 0) (joins : Joins makes) (u : W) (m : ℕ) (v : W) (k : ℕ) (w : W) (l : ℕ) (a b made_a made_b : List ℕ)
    (whole : length a % 16 ≡ 0) (first : GoesOver makes u m a made_a v k) (second : GoesOver makes v k b made_b w l) where
  -- the walker stood still in the second text
  module _ (within : m ≤ length a) where
    no_more : k ≡ 0
    no_more = omega (arith, first.left, within)

    same_b : made_b ≡ b
    same_b = subst (λ (j : ℕ). drop j made_b ≡ drop j b) no_more second.rest

    rest_within : drop m (made_a ++ made_b) ≡ drop m (a ++ b)
    rest_within =
        drop-append-le m made_a made_b (omega (arith, first.long, within))
        ∙ ap₂ (λ (x y : List ℕ). x ++ y) first.rest same_b
        ∙ sym (drop-append-le m a b within)

    gone_within : 0 < m → makes u (take m (a ++ b)) (take m (made_a ++ made_b)) w
    gone_within h =
        subst (λ (x : List ℕ). makes u x (take m (made_a ++ made_b)) w) (sym (take-append-le m a b within))
        (subst (λ (y : List ℕ). makes u (take m a) y w) (sym (take-append-le m made_a made_b (omega (arith, first.long, within))))
        (subst (λ (z : W). makes u (take m a) (take m made_a) z) (sym (second.stood no_more)) (first.gone h)))

  -- it went on
  module _ (beyond : length a < m) where
    place : m ≡ length a + k
    place = omega (arith, first.left, beyond)

    made_place : m ≡ length made_a + k
    made_place = omega (arith, place, first.long)

    rest_beyond : drop m (made_a ++ made_b) ≡ drop m (a ++ b)
    rest_beyond =
        ap (λ (j : ℕ). drop j (made_a ++ made_b)) made_place
        ∙ drop-append-add made_a made_b k
        ∙ second.rest
        ∙ sym (ap (λ (j : ℕ). drop j (a ++ b)) place ∙ drop-append-add a b k)

    front_is : take m (a ++ b) ≡ take m a ++ take k b
    front_is =
        ap (λ (j : ℕ). take j (a ++ b)) place ∙ take-append-add a b k ∙ ap (λ (x : List ℕ). x ++ take k b) (sym (take_all m a (omega (arith, place))))

    made_is : take m (made_a ++ made_b) ≡ take m made_a ++ take k made_b
    made_is =
        ap (λ (j : ℕ). take j (made_a ++ made_b)) made_place ∙ take-append-add made_a made_b k
        ∙ ap (λ (x : List ℕ). x ++ take k made_b) (sym (take_all m made_a (omega (arith, made_place))))

    blocks : length (take m a) % 16 ≡ 0
    blocks = ap (λ (x : List ℕ). length x % 16) (take_all m a (omega (arith, place))) ∙ whole

    gone_beyond : 0 < m → makes u (take m (a ++ b)) (take m (made_a ++ made_b)) w
    gone_beyond h =
        subst (λ (x : List ℕ). makes u x (take m (made_a ++ made_b)) w) (sym front_is)
        (subst (λ (y : List ℕ). makes u (take m a ++ take k b) y w) (sym made_is)
        (joins u v w (take m a) (take k b) (take m made_a) (take k made_b) blocks (first.gone h) (second.gone (omega (arith, place, beyond)))))

  pub goes_on : GoesOver makes u m (a ++ b) (made_a ++ made_b) w l
  goes_on = record {
    left = omega (arith, second.left, first.left, length-append a b);
    long = omega (arith, length-append a b, length-append made_a made_b, first.long, second.long);
    rest = ⊎_elim (λ (h : length a < m). rest_beyond h) (λ (h : m ≤ length a). rest_within h) (cases_lt (length a) m);
    stood = λ none. second.stood (omega (arith, first.left, none)) ∙ first.stood none;
    gone = ⊎_elim (λ (h : length a < m). gone_beyond h) (λ (h : m ≤ length a). gone_within h) (cases_lt (length a) m);
  }
