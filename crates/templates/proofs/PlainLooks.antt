-- What a look for plain entries finds, and whose larval it names.
use Rattle.std.proofs.Common.{◌≡◌, ℕ, zero, suc, ◌+◌, Bool, true, false, not, cond, ltb, ◌&&◌, ◌||◌, if◌then◌else◌, List, [], ◌∷◌, length, refl, ap, sym, ◌∙◌, subst, arith, Option, Some, None}
use Rattle.std.specs.Prelude.{slice_get, is_none}
use Rattle.std.specs.List.{position_from}
use Rattle.std.specs.Option.{option_map, option_map_or}
use Rattle.std.specs.Str.{bytes_eq}
use Rattle.std.proofs.lemmas.Slice.Eq.{bytes_eq-Decides}
use Rattle.alg_registry.specs.declared.spec.Wrap.{Wrap}
use Rattle.alg_registry.specs.declared.spec.Wrap.TheVariants as wrap
use Rattle.alg_registry.specs.declared.row.Row.{Row}
use Rattle.alg_registry.specs.declared.row.Larval.{Larval}
use Rattle.alg_registry.specs.declared.entry.Looked.TheVariants.{Found, Pending, Began, Absent}
use Rattle.alg_registry.specs.declared.entry.RegEntry.{RegEntry}
use Rattle.alg_registry.specs.Rows.{texts, rows_of, larvals_of, larval_at}
use Rattle.alg_registry.specs.Answers.{look_answer, found_driver, found_best, not_found, is_pending, is_template, is_plain, may_find, best_from, better, answers_to}
use Rattle.alg_registry.proofs.Stack.{larval_get}
use Rattle.templates.specs.Table.{is_bare}
use Rattle.templates.proofs.Looks.{position_at, pending_driver}
use Rattle.templates.proofs.Makes.{left_true, right_true}

plain_bare : (w : Wrap) → is_plain w ≡ true → is_bare w ≡ true
plain_bare wrap.Plain e = refl
plain_bare _ e = absurd cc

-- the entry of this place is under no wrapper
abbrev pub IsBareAt : List Row → ℕ → Type 0
IsBareAt rows k = (row : Row) × (slice_get rows k ≡ Some row) × (is_bare row.spec.wrap ≡ true)

may_find_bare : (row : Row) → may_find true row ≡ true → is_bare row.spec.wrap ≡ true
may_find_bare row e = plain_bare row.spec.wrap (right_true row.listed (not true || is_plain row.spec.wrap) e)

best_bare : (larvals : List Larval) (text : List ℕ) (first : ℕ) (rows : List Row) (best : ℕ × ℕ) → best_from larvals text true first rows ≡ Some best → (k : ℕ) × (best.0 ≡ first + k) × IsBareAt rows k
best_bare larvals text first [] best h = absurd cc
best_bare larvals text first (row ∷ rows) best h = here (answers_to larvals text true first row) refl (best_from larvals text true (first + 1) rows) refl h (best_bare larvals text (first + 1) rows)
  where
    here : (b : Bool) → answers_to larvals text true first row ≡ b → (o : Option (ℕ × ℕ)) → best_from larvals text true (first + 1) rows ≡ o → cond b (better first row o) o ≡ Some best
        → ((best : ℕ × ℕ) → best_from larvals text true (first + 1) rows ≡ Some best → (k : ℕ) × (best.0 ≡ (first + 1) + k) × IsBareAt rows k)
        → (k : ℕ) × (best.0 ≡ first + k) × IsBareAt (row ∷ rows) k
    here true e None o h rest =
        let same : first ≡ best.0 = ap (λ (x : Option (ℕ × ℕ)). option_map_or (λ p. p.0) x first) h in
        (zero, omega (arith, same), (row, refl, may_find_bare row (left_true (may_find true row) _ e)))
    here true e (Some other) o h rest = choose (ltb other.1 row.spec.priority) h
      where
        choose : (c : Bool) → cond c (Some (first, row.spec.priority)) (Some other) ≡ Some best → (k : ℕ) × (best.0 ≡ first + k) × IsBareAt (row ∷ rows) k
        choose true h =
            let same : first ≡ best.0 = ap (λ (x : Option (ℕ × ℕ)). option_map_or (λ p. p.0) x first) h in
            (zero, omega (arith, same), (row, refl, may_find_bare row (left_true (may_find true row) _ e)))
        choose false h = let r = rest best (o ∙ h) in (suc r.0, omega (arith, r.1), r.2)
    here false e o' o h rest = let r = rest best (o ∙ h) in (suc r.0, omega (arith, r.1), r.2)

-- what a look for plain entries finds is under no wrapper
pub found_bare : (rows : List Row) (larvals : List Larval) (text : List ℕ) (id : ℕ) → look_answer rows larvals text true ≡ Found id → IsBareAt rows id
found_bare rows larvals text id h = driver (position_from (λ row. may_find true row && bytes_eq row.spec.driver text) 0 rows) refl h
  where
    at : (k : ℕ) → id ≡ 0 + k → IsBareAt rows k → IsBareAt rows id
    at k e l = let e' : k ≡ id = omega (arith, e) in subst (IsBareAt rows) e' l

    pending : (o : Option ℕ) → not_found larvals text o ≡ Found id → IsBareAt rows id
    pending (Some n) h = absurd cc
    pending None h = absurd (neither (is_template text) h)
      where
        neither : (b : Bool) → (if b then Began (length larvals) else Absent) ≡ Found id → ⊥
        neither true q = cc
        neither false q = cc

    best : (o : Option (ℕ × ℕ)) → best_from larvals text true 0 rows ≡ o → found_best larvals text o ≡ Found id → IsBareAt rows id
    best (Some b) e h =
        let r = best_bare larvals text 0 rows b e in
        let same : b.0 ≡ id = cc in
        at r.0 (sym same ∙ r.1) r.2
    best None e h = pending (position_from (is_pending text) 0 larvals) h

    driver : (o : Option ℕ) → position_from (λ row. may_find true row && bytes_eq row.spec.driver text) 0 rows ≡ o → found_driver rows larvals text true o ≡ Found id → IsBareAt rows id
    driver (Some k) e h =
        let r = position_at (λ row. may_find true row && bytes_eq row.spec.driver text) 0 k rows e in
        let same : k ≡ id = cc in
        at r.0 (sym same ∙ r.1) (r.2, r.3, may_find_bare r.2 (left_true (may_find true r.2) (bytes_eq r.2.spec.driver text) r.4))
    driver None e h = best (best_from larvals text true 0 rows) refl h

-- a pending larval that a look names has the look's text
pub pending_text : (h : List RegEntry) (text : List ℕ) (plain : Bool) (k : ℕ) → look_answer (rows_of h) (larvals_of h) text plain ≡ Pending k → slice_get (texts h) k ≡ Some text
pending_text h text plain k e =
    let place = pending_driver (rows_of h) (larvals_of h) text plain k (position_from (λ row. may_find plain row && bytes_eq row.spec.driver text) 0 (rows_of h)) e in
    let found = position_at (is_pending text) 0 k (larvals_of h) place in
    let x : Larval = found.2 in
    at_text found.0 x (omega (arith, found.1)) found.3 ((bytes_eq-Decides x.text text).0 (right_true (is_none x.ended) (bytes_eq x.text text) found.4)) (slice_get (texts h) found.0) refl
  where
    at_text : (j : ℕ) (x : Larval) → j ≡ k → slice_get (larvals_of h) j ≡ Some x → x.text ≡ text → (o : Option (List ℕ)) → slice_get (texts h) j ≡ o → slice_get (texts h) k ≡ Some text
    at_text j x j_is at same_text None g =
        absurd (let f : None ≡ Some x = sym (larval_get h 0 j j (texts h) (omega arith) ∙ ap (λ o. option_map (λ t. larval_at h j t) o) g) ∙ at in cc)
    at_text j x j_is at same_text (Some t) g =
        let f : Some (larval_at h j t) ≡ Some x = sym (larval_get h 0 j j (texts h) (omega arith) ∙ ap (λ o. option_map (λ t. larval_at h j t) o) g) ∙ at in
        let l : larval_at h j t ≡ x = cc in
        let s : t ≡ text = ap (λ (y : Larval). y.text) l ∙ same_text in
        subst (λ m. slice_get (texts h) m ≡ Some text) j_is (g ∙ ap (λ (y : List ℕ). Some y) s)
