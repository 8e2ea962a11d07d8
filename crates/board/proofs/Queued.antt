-- The members of a run queue, as they change places.
use Rattle.std.proofs.Common.{◌≡◌, ◌≢◌, ℕ, suc, ◌+◌, ◌-◌, ◌<◌, ◌≤◌, Bool, Option, Some, None, true, false, List, [], ◌∷◌, ◌++◌, length, refl, sym, ◌∙◌, ap, subst, arith, inl, inr, ◌⊎◌, get_or, cond, not, is_some, nat_lt}
use Rattle.std.specs.Prelude.{◌||◌, nat_eq, slice_get, swap, swap_remove, slice_set, position, IfSome}
use Rattle.std.specs.List.{list_any, position_or_len}
use Rattle.std.proofs.lemmas.Grind.{common_steps}
use Rattle.std.proofs.lemmas.Bool.{eqb-true, eq-eqb, cases_eq, cases_lt, both_ways}
use Rattle.std.proofs.lemmas.Option.{slice_get_within, slice_get_read, get_or_from_slice_get}
use Rattle.std.proofs.lemmas.List.{length-set, length-take, length-append, get_or-set_same, get_or-set_other, get_or-take, get_or_append_left}
use Rattle.std.proofs.lemmas.List.Edits.{length-swap, swapped_from_swap}
use Rattle.std.proofs.lemmas.List.Quantifiers.{position-Some}
use Rattle.std.proofs.lemmas.Map.Keys.{any_passes_from_place}
use Rattle.std.proofs.Math.Seq.{get_or-append_seam}
use Rattle.indexmap.specs.IndexSet.{insert_key}
use Rattle.board.specs.RunQueue.{KeepsPipe}

-- a place is read in another list of which it is known
read : (xs ys : List ℕ) (k j p : ℕ) → slice_get xs k ≡ Some p → j < length ys → get_or ys j p ≡ get_or xs k p → slice_get ys j ≡ Some p
read xs ys k j p h w e = slice_get_read ys (length ys) j p refl w (sym (e ∙ get_or_from_slice_get xs k p p h))

-- two members hold one number only if they are the same
pub same_number : (o : Option ℕ) (p q : ℕ) → o ≡ Some p → o ≡ Some q → p ≡ q
same_number None p q a b = cc
same_number (Some x) p q a b = cc

before_cases : (k n : ℕ) → (k ≡ n → ⊥) → k ≤ n → (k < n) ⊎ (n ≤ k) → k < n
before_cases k n o l (inl b) = b
before_cases k n o l (inr g) = absurd (o (omega arith))

before : (k n : ℕ) → (k ≡ n → ⊥) → k ≤ n → k < n
before k n o l = before_cases k n o l (cases_lt k n)

module _ (xs : List ℕ) (i j : ℕ) (a : i < length xs) (b : j < length xs) where
  pub swapped_first : (p : ℕ) → slice_get xs j ≡ Some p → slice_get (swap xs i j) i ≡ Some p
  swapped_first p h = (let s = swapped_from_swap xs (swap xs i j) i j p a b refl in let l = length-swap xs i j in read xs (swap xs i j) j i p h (omega arith) s.0)

  pub swapped_second : (p : ℕ) → slice_get xs i ≡ Some p → slice_get (swap xs i j) j ≡ Some p
  swapped_second p h = (let s = swapped_from_swap xs (swap xs i j) i j p a b refl in let l = length-swap xs i j in read xs (swap xs i j) i j p h (omega arith) s.1)

  pub swapped_other : (k p : ℕ) → k ≢ i → k ≢ j → slice_get xs k ≡ Some p → slice_get (swap xs i j) k ≡ Some p
  swapped_other k p m n h =
      let s = swapped_from_swap xs (swap xs i j) i j p a b refl in
      let w = slice_get_within xs k p h in
      let l = length-swap xs i j in
      read xs (swap xs i j) k k p h (omega arith) (s.2 k m n)

  member_cases : (k p : ℕ) → slice_get xs k ≡ Some p → (k ≡ i) ⊎ (k ≡ i → ⊥) → (k ≡ j) ⊎ (k ≡ j → ⊥) → (n : ℕ) × (slice_get (swap xs i j) n ≡ Some p)
  member_cases k p h (inl e) y = (j, swapped_second p (ap (slice_get xs) (sym e) ∙ h))
  member_cases k p h (inr m) (inl e) = (i, swapped_first p (ap (slice_get xs) (sym e) ∙ h))
  member_cases k p h (inr m) (inr n) = (k, swapped_other k p m n h)

  -- who is a member stays one
  pub swapped_member : (p : ℕ) → (k : ℕ) × (slice_get xs k ≡ Some p) → (n : ℕ) × (slice_get (swap xs i j) n ≡ Some p)
  swapped_member p m = member_cases m.0 p m.1 (cases_eq m.0 i) (cases_eq m.0 j)

-- ---- the border between those queued and the others

-- a member from behind the border comes before it
pub added_keeps : (xs : List ℕ) (ready place p : ℕ) → place < length xs → ready ≤ place → KeepsPipe (record { members = xs; ready = ready }) (record { members = swap xs place ready; ready = ready + 1 }) p
added_keeps xs ready place p w b = (
  swapped_member xs place ready w (omega arith) p,
  λ s. (let l = s.1 in (s.0, omega arith, swapped_other xs place ready w (omega arith) s.0 p (λ e. (let f : s.0 ≡ place = e in absurd (omega arith))) (λ e. (let f : s.0 ≡ ready = e in absurd (omega arith))) s.2)),
)

taken_cases : (xs : List ℕ) (ready place k p : ℕ) → place < length xs → place < ready → ready ≤ length xs → (slice_get xs place ≡ Some p → ⊥) → k < ready → slice_get xs k ≡ Some p → (k ≡ ready - 1) ⊎ (k ≡ ready - 1 → ⊥)
    → (n : ℕ) × (n < ready - 1) × (slice_get (swap xs place (ready - 1)) n ≡ Some p)
taken_cases xs ready place k p w b r other l h (inl e) =
    let q : place ≢ k = λ f. other (ap (slice_get xs) f ∙ h) in
    (place, before place (ready - 1) (λ f. q (f ∙ sym e)) (omega arith), swapped_first xs place (ready - 1) w (omega arith) p (ap (slice_get xs) (sym e) ∙ h))
taken_cases xs ready place k p w b r other l h (inr n) =
    (k, before k (ready - 1) n (omega arith), swapped_other xs place (ready - 1) w (omega arith) k p (λ f. other (ap (slice_get xs) (sym f) ∙ h)) n h)

-- and one from before it goes behind
pub taken_keeps : (xs : List ℕ) (ready place p : ℕ) → place < length xs → place < ready → ready ≤ length xs → (slice_get xs place ≡ Some p → ⊥) → KeepsPipe (record { members = xs; ready = ready }) (record { members = swap xs place (ready - 1); ready = ready - 1 }) p
taken_keeps xs ready place p w b r other = (
  swapped_member xs place (ready - 1) w (omega arith) p,
  λ s. taken_cases xs ready place s.0 p w b r other s.1 s.2 (cases_eq s.0 (ready - 1)),
)

-- ---- a member more, or one less

end_cases : (b : Bool) (xs : List ℕ) (q k p : ℕ) → slice_get xs k ≡ Some p → slice_get (cond b xs (xs ++ q ∷ [])) k ≡ Some p
end_cases true xs q k p h = h
end_cases false xs q k p h =
    let w = slice_get_within xs k p h in
    let l = length-append xs (q ∷ []) in
    read xs (xs ++ q ∷ []) k k p h (omega arith) (get_or_append_left xs (q ∷ []) p k w)

pub inserted_place : (xs : List ℕ) (q k p : ℕ) → slice_get xs k ≡ Some p → slice_get (insert_key nat_eq xs q) k ≡ Some p
inserted_place xs q k p h = end_cases (list_any (nat_eq q) xs) xs q k p h

any_or : (b c : Bool) → (b || c) ≡ true → (b ≡ true) ⊎ (c ≡ true)
any_or true c h = inl refl
any_or false c h = inr h

any_step : (x q : ℕ) (xs : List ℕ) → (nat_eq q x ≡ true) ⊎ (list_any (nat_eq q) xs ≡ true) → (list_any (nat_eq q) xs ≡ true → (k : ℕ) × (slice_get xs k ≡ Some q)) → (k : ℕ) × (slice_get (x ∷ xs) k ≡ Some q)
any_step x q xs (inl e) more = (0, ap Some (sym (eqb-true q x e)))
any_step x q xs (inr r) more = (let m = more r in (suc m.0, m.1))

any_place : (xs : List ℕ) (q : ℕ) → list_any (nat_eq q) xs ≡ true → (k : ℕ) × (slice_get xs k ≡ Some q)
any_place [] q h = cc
any_place (x ∷ xs) q h = any_step x q xs (any_or (nat_eq q x) (list_any (nat_eq q) xs) h) (any_place xs q)

joined_cases : (b : Bool) (xs : List ℕ) (q : ℕ) → list_any (nat_eq q) xs ≡ b → (k : ℕ) × (slice_get (cond b xs (xs ++ q ∷ [])) k ≡ Some q)
joined_cases true xs q e = any_place xs q e
joined_cases false xs q e =
    let l = length-append xs (q ∷ []) in
    (length xs, slice_get_read (xs ++ q ∷ []) (length (xs ++ q ∷ [])) (length xs) q refl (omega arith) (sym (get_or-append_seam xs q [] q)))

pub inserted_member : (xs : List ℕ) (q : ℕ) → (k : ℕ) × (slice_get (insert_key nat_eq xs q) k ≡ Some q)
inserted_member xs q = joined_cases (list_any (nat_eq q) xs) xs q refl

-- a search finds a place where something passes
first_step : (b c : Bool) (a n : ℕ) → nat_lt a n ≡ c → nat_lt (cond (not b) (1 + a) 0) (suc n) ≡ (b || c)
first_step true c a n e = grind (arith, common_steps)
first_step false c a n e = grind (arith, common_steps)

first_passes : (test : ℕ → Bool) (xs : List ℕ) → nat_lt (position_or_len test xs) (length xs) ≡ list_any test xs
first_passes test [] = refl
first_passes test (x ∷ xs) = first_step (test x) (list_any test xs) (position_or_len test xs) (length xs) (first_passes test xs)

some_where : (b : Bool) (i : ℕ) → is_some (cond b (Some i) None) ≡ b
some_where true i = refl
some_where false i = refl

searched : (xs : List ℕ) (q : ℕ) → is_some (position (nat_eq q) xs) ≡ list_any (nat_eq q) xs
searched xs q = some_where (nat_lt (position_or_len (nat_eq q) xs) (length xs)) (position_or_len (nat_eq q) xs) ∙ first_passes (nat_eq q) xs

-- the place that a search finds
pub found_place : (xs : List ℕ) (q i : ℕ) → position (nat_eq q) xs ≡ Some i → slice_get xs i ≡ Some q
found_place xs q i e = (let s = position-Some (nat_eq q) xs i q e in slice_get_read xs (length xs) i q refl s.0 (eqb-true q (get_or xs i q) s.1))

first_cases : (xs : List ℕ) (q i k : ℕ) → position (nat_eq q) xs ≡ Some i → slice_get xs k ≡ Some q → (k < i) ⊎ (i ≤ k) → i ≤ k
first_cases xs q i k e h (inl l) = (let s = position-Some (nat_eq q) xs i q e in absurd (both_ways (nat_eq q (get_or xs k q)) (s.2 k l) (eq-eqb q (get_or xs k q) (sym (get_or_from_slice_get xs k q q h)))))
first_cases xs q i k e h (inr g) = g

pub found_first : (xs : List ℕ) (q i k : ℕ) → position (nat_eq q) xs ≡ Some i → slice_get xs k ≡ Some q → i ≤ k
found_first xs q i k e h = first_cases xs q i k e h (cases_lt k i)

pub not_found : (xs : List ℕ) (q k : ℕ) → position (nat_eq q) xs ≡ None → slice_get xs k ≡ Some q → ⊥
not_found xs q k n h = both_ways (list_any (nat_eq q) xs) (sym (searched xs q) ∙ ap is_some n) (any_passes_from_place (nat_eq q) xs k q h (eq-eqb q q refl))

-- ---- the last member in the place of one that leaves

module _ (xs : List ℕ) (i d : ℕ) where
  gone_other : (k p : ℕ) → k ≢ i → k < length xs - 1 → slice_get xs k ≡ Some p → slice_get (swap_remove xs i d) k ≡ Some p
  gone_other k p n w h =
      let l = length-set xs i (get_or xs (length xs - 1) d) in
      let t = length-take (length xs - 1) (slice_set xs i (get_or xs (length xs - 1) d)) in
      read xs (swap_remove xs i d) k k p h (omega arith) (get_or-take (length xs - 1) (slice_set xs i (get_or xs (length xs - 1) d)) k p w ∙ get_or-set_other xs i k (get_or xs (length xs - 1) d) p n)

  gone_last : (p : ℕ) → i < length xs - 1 → slice_get xs (length xs - 1) ≡ Some p → slice_get (swap_remove xs i d) i ≡ Some p
  gone_last p w h =
      let v = get_or xs (length xs - 1) d in
      let l = length-set xs i v in
      let t = length-take (length xs - 1) (slice_set xs i v) in
      slice_get_read (swap_remove xs i d) (length (swap_remove xs i d)) i p refl (omega arith) (sym (get_or-take (length xs - 1) (slice_set xs i v) i p w ∙ (get_or-set_same xs i v p (omega arith) ∙ get_or_from_slice_get xs (length xs - 1) p d h)))

  gone_cases : (q k p : ℕ) → slice_get xs i ≡ Some q → p ≢ q → slice_get xs k ≡ Some p → (k ≡ i) ⊎ (k ≡ i → ⊥) → (k ≡ length xs - 1) ⊎ (k ≡ length xs - 1 → ⊥) → (n : ℕ) × (slice_get (swap_remove xs i d) n ≡ Some p)
  gone_cases q k p here n h (inl e) y = absurd (n (same_number (slice_get xs k) p q h (ap (slice_get xs) e ∙ here)))
  gone_cases q k p here n h (inr m) (inl e) =
      let w = slice_get_within xs i q here in
      let c : i ≢ length xs - 1 = λ f. m (e ∙ sym f) in
      (i, gone_last p (before i (length xs - 1) c (omega arith)) (ap (slice_get xs) (sym e) ∙ h))
  gone_cases q k p here n h (inr m) (inr o) = (let w = slice_get_within xs k p h in (k, gone_other k p m (before k (length xs - 1) o (omega arith)) h))

pub left_keeps : (xs ys : List ℕ) (ready last q : ℕ) (o : Option ℕ) → slice_get xs last ≡ Some q → o ≡ slice_get xs last → IfSome o (λ k. ys ≡ swap_remove xs last k) → ready ≤ last → (p : ℕ) → p ≢ q → KeepsPipe (record { members = xs; ready = ready }) (record { members = ys; ready = ready }) p
left_keeps xs ys ready last q None here o is b p n = cc
left_keeps xs ys ready last q (Some d) here o is b p n = (
  λ m. subst (λ l. (k : ℕ) × (slice_get l k ≡ Some p)) (sym is) (gone_cases xs last d q m.0 p here n m.1 (cases_eq m.0 last) (cases_eq m.0 (length xs - 1))),
  λ s.
      (let w = slice_get_within xs last q here in
      let l = s.1 in
      (s.0, s.1, subst (λ l. slice_get l s.0 ≡ Some p) (sym is) (gone_other xs last d s.0 p (λ e. (let f : s.0 ≡ last = e in absurd (omega arith))) (omega arith) s.2))),
)
