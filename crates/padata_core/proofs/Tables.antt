-- Outcomes of a stretch of numbers.
use Rattle.std.proofs.Common.{◌≡◌, ◌≢◌, ℕ, zero, suc, ◌+◌, ◌<◌, ◌≤◌, List, [], ◌∷◌, ◌++◌, length, Option, Some, None, refl, sym, ◌∙◌, ap, subst, arith, add-zero}
use Rattle.std.specs.Prelude.{slice_get, slice_set}
use Rattle.padata_core.specs.Pad.{outcomes_from, ready, running_of}

pub length-outcomes : {F : Type 0} (at : ℕ → Option F) (n many : ℕ) → length (outcomes_from at n many) ≡ many
length-outcomes at n zero = refl
length-outcomes at n (suc many) = ap suc (length-outcomes at (suc n) many)

pub outcomes-same : {F : Type 0} (at bt : ℕ → Option F) (n many : ℕ) → ((m : ℕ) → n ≤ m → m < n + many → at m ≡ bt m) → outcomes_from at n many ≡ outcomes_from bt n many
outcomes-same at bt n zero h = refl
outcomes-same at bt n (suc many) h = rw (h n (omega arith) (omega arith), outcomes-same at bt (suc n) many (λ m l g. h m (omega arith) (omega arith))) refl

pub outcomes-more : {F : Type 0} (at : ℕ → Option F) (n many : ℕ) → outcomes_from at n (suc many) ≡ outcomes_from at n many ++ at (n + many) ∷ []
outcomes-more at n zero = ap (λ m. at m ∷ []) (sym (add-zero n))
outcomes-more at n (suc many) =
    let q : suc n + many ≡ n + suc many = omega arith in
    ap (λ xs. at n ∷ xs) (outcomes-more at (suc n) many ∙ ap (λ m. outcomes_from at (suc n) many ++ at m ∷ []) q)

pub outcomes-get : {F : Type 0} (at : ℕ → Option F) (n many i : ℕ) (v : Option F) → slice_get (outcomes_from at n many) i ≡ Some v → at (n + i) ≡ v
outcomes-get at n zero i v h = cc
outcomes-get at n (suc many) zero v h = (let e : at n ≡ v = cc in rw (add-zero n) e)
outcomes-get at n (suc many) (suc i) v h = (let q : suc n + i ≡ n + suc i = omega arith in subst (λ m. at m ≡ v) q (outcomes-get at (suc n) many i v h))

pub outcomes-set : {F : Type 0} (at bt : ℕ → Option F) (n many i : ℕ) (v : Option F) → i < many → bt (n + i) ≡ v → ((m : ℕ) → m ≢ n + i → bt m ≡ at m) → outcomes_from bt n many ≡ slice_set (outcomes_from at n many) i v
outcomes-set at bt n zero i v l h o = absurd (omega arith)
outcomes-set at bt n (suc many) zero v l h o =
    let e : bt n ≡ v = subst (λ m. bt m ≡ v) (add-zero n) h in
    let r : outcomes_from bt (suc n) many ≡ outcomes_from at (suc n) many = outcomes-same bt at (suc n) many (λ m g k. o m (λ q. (let p : m ≡ n + 0 = q in absurd (omega arith)))) in
    rw (e, r) refl
outcomes-set at bt n (suc many) (suc i) v l h o =
    let q : n + suc i ≡ suc n + i = omega arith in
    let e : bt n ≡ at n = o n (λ p. (let w : n ≡ n + suc i = p in absurd (omega arith))) in
    let r = outcomes-set at bt (suc n) many i v (omega arith) (subst (λ m. bt m ≡ v) q h) (λ m g. o m (λ p. g (p ∙ q))) in
    rw (e, r) refl

-- ---- how many run

pub running-more : {F : Type 0} (os : List (Option F)) → running_of (os ++ None ∷ []) ≡ running_of os + 1
running-more [] = refl
running-more (None ∷ os) = (let h = running-more os in omega arith)
running-more (Some o ∷ os) = running-more os

pub running-set : {F : Type 0} (os : List (Option F)) (i : ℕ) (o : F) → slice_get os i ≡ Some None → running_of (slice_set os i (Some o)) + 1 ≡ running_of os
running-set [] i o h = cc
running-set (None ∷ os) zero o h = omega arith
running-set (Some p ∷ os) zero o h = cc
running-set (None ∷ os) (suc i) o h = (let q = running-set os i o h in omega arith)
running-set (Some p ∷ os) (suc i) o h = running-set os i o h

pub running-le : {F : Type 0} (os : List (Option F)) → running_of os ≤ length os
running-le [] = omega arith
running-le (None ∷ os) = (let h = running-le os in omega arith)
running-le (Some o ∷ os) = (let h = running-le os in omega arith)

-- what is ready doesn't run
pub ready-le : {F : Type 0} (os : List (Option F)) → length (ready os) + running_of os ≤ length os
ready-le [] = omega arith
ready-le (None ∷ os) = (let h = running-le os in omega arith)
ready-le (Some o ∷ os) = (let h = ready-le os in omega arith)
