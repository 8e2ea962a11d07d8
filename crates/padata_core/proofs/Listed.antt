-- What a list holds is read off the outcomes.
use Rattle.std.proofs.Common.{◌≡◌, ◌≢◌, ℕ, zero, suc, ◌+◌, ◌-◌, ◌<◌, ◌≤◌, ◌%◌, Bool, true, false, List, [], ◌∷◌, Option, Some, None, refl, sym, ◌∙◌, ap, subst, arith, inl, inr, ◌⊎◌}
use Rattle.std.specs.Prelude.{◌==◌, slice_index_or}
use Rattle.std.proofs.lemmas.Bool.{cases_eq, eqb-true, eq-eqb, false_from_ne_true}
use Rattle.std.proofs.lemmas.List.{get_or_default}
use Rattle.padata_core.specs.Rows.{Slot, first_is, found}
use Rattle.padata_core.specs.Pad.{AreRows, IsRow, kept_at, outcomes_from, with_rest}
use Rattle.padata_core.proofs.Sorted.{row_first, row_raise, first_other, empty_held}

skipped : {F : Type 0} (lists k n : ℕ) (o : Option F) (os : List (Option F)) → ((n % lists == k) ≡ false) ⊎ (o ≡ None) → with_rest lists k n (o ∷ os) ≡ with_rest lists k (n + 1) os
skipped lists k n None os h = refl
skipped lists k n (Some x) os (inl f) = rw f refl
skipped lists k n (Some x) os (inr e) = cc

taken : {F : Type 0} (lists k n : ℕ) (o : Option F) (x : F) (os : List (Option F)) → (n % lists == k) ≡ true → o ≡ Some x → with_rest lists k n (o ∷ os) ≡ (n, x) ∷ with_rest lists k (n + 1) os
taken lists k n o x os h e = rw (e, h) refl

-- what follows on the least number
abbrev Rest : {F : Type 0} (lists k low to many : ℕ) (at : ℕ → Option F) → Type 0
Rest {F} lists k low to many at =
    (es : List (ℕ × F)) → IsRow lists k (low + 1) to es → ((n : ℕ) → low + 1 ≤ n → n % lists ≡ k → at n ≡ found n es) → with_rest lists k (low + 1) (outcomes_from at (suc low) many) ≡ es

first_cases : {F : Type 0} (lists k low to many : ℕ) (at : ℕ → Option F) (es : List (ℕ × F)) → IsRow lists k low to es → ((n : ℕ) → low ≤ n → n % lists ≡ k → at n ≡ found n es) → Rest lists k low to many at
    → (low % lists ≡ k) ⊎ (low % lists ≢ k) → (b : Bool) → first_is low es ≡ b → with_rest lists k low (at low ∷ outcomes_from at (suc low) many) ≡ es
first_cases lists k low to many at es r h ih (inr o) b f =
    skipped lists k low (at low) (outcomes_from at (suc low) many) (inl (false_from_ne_true (low % lists == k) (λ p. o (eqb-true (low % lists) k p))))
    ∙ ih es (row_raise lists k low to es r (first_other lists k low to es r o)) (λ n l m. h n (omega arith) m)
first_cases lists k low to many at es r h ih (inl m) false f =
    skipped lists k low (at low) (outcomes_from at (suc low) many) (inr (h low (omega arith) m ∙ row_first lists k low to es r f))
    ∙ ih es (row_raise lists k low to es r f) (λ n l q. h n (omega arith) q)
first_cases lists k low to many at [] r h ih (inl m) true f = cc
first_cases lists k low to many at (e ∷ es) r h ih (inl m) true f =
    let same : e.0 ≡ low = eqb-true e.0 low f in
    let first : at low ≡ Some e.1 = h low (omega arith) m ∙ rw f refl in
    let rest : IsRow lists k (low + 1) to es = subst (λ n. IsRow lists k (n + 1) to es) same r.3 in
    taken lists k low (at low) e.1 (outcomes_from at (suc low) many) (eq-eqb (low % lists) k m) first
    ∙ (ap (λ xs. (low, e.1) ∷ xs) (ih es rest (λ n l q. (
    let other : (e.0 == n) ≡ false = false_from_ne_true (e.0 == n) (λ p. (let z : e.0 ≡ n = eqb-true e.0 n p in absurd (omega arith))) in
    h n (omega arith) q ∙ rw other refl)))
    ∙ subst (λ n. (n, e.1) ∷ es ≡ e ∷ es) same refl)

-- a sorted list of numbers of one rest is what is read off the outcomes that it holds
pub listed : {F : Type 0} (lists k low to many : ℕ) (at : ℕ → Option F) (es : List (ℕ × F)) → to ≡ low + many → IsRow lists k low to es → ((n : ℕ) → low ≤ n → n % lists ≡ k → at n ≡ found n es) → with_rest lists k low (outcomes_from at low many) ≡ es
listed lists k low to zero at [] q r h = refl
listed lists k low to zero at (e ∷ es) q r h = (let a = r.0 in let b = r.1 in absurd (omega arith))
listed lists k low to (suc many) at es q r h =
    first_cases lists k low to many at es r h (λ rest s g. (
    let next : suc low ≡ low + 1 = omega arith in
    let back : low + 1 ≡ suc low = omega arith in
    subst (λ m. with_rest lists k m (outcomes_from at (suc low) many) ≡ rest) next
    (listed lists k (suc low) to many at rest (omega arith) (subst (λ m. IsRow lists k m to rest) back s) (λ n l m. g n (omega arith) m))))
    (cases_eq (low % lists) k) (first_is low es) refl

-- a list of a pipeline
pub list_is : {F : Type 0} (rows : List (Slot F)) (lists low to room k : ℕ) (d : Slot F) → AreRows rows lists low to room → low ≤ to → k < lists → d ≡ slice_index_or rows k d → d.entries ≡ with_rest lists k low (outcomes_from (kept_at rows lists) low (to - low))
list_is rows lists low to room k d a l b e =
    let c = a.count in
    let row : d ≡ slice_index_or rows k empty_held = e ∙ get_or_default rows k d empty_held (omega arith) in
    ap (λ (h : Slot _). h.entries) row
    ∙ sym (listed lists k low to (to - low) (kept_at rows lists) (slice_index_or rows k empty_held).entries (omega arith) (a.each k empty_held b) (λ n g m. ap (λ j. found n (slice_index_or rows j empty_held).entries) m))
