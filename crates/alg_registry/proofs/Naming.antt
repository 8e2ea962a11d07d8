-- What looks and ends name is there.
use Rattle.std.proofs.Common.{◌≡◌, ℕ, zero, suc, ◌+◌, ◌<◌, Bool, true, false, cond, ◌&&◌, if◌then◌else◌, List, [], ◌∷◌, ◌++◌, length, refl, ap, sym, ◌∙◌, subst, arith, Option, Some, None, append_assoc}
use Rattle.std.specs.Prelude.{slice_get, is_none}
use Rattle.std.specs.List.{position_from}
use Rattle.std.specs.Option.{option_map}
use Rattle.std.specs.Str.{bytes_eq}
use Rattle.std.proofs.lemmas.Slice.Eq.{bytes_eq-Decides}
use Rattle.alg_registry.specs.declared.row.Row.{Row}
use Rattle.alg_registry.specs.declared.row.Larval.{Larval}
use Rattle.alg_registry.specs.declared.entry.Looked.TheVariants.{Found, Pending, Began, Absent}
use Rattle.alg_registry.specs.declared.entry.RegEntry.{RegEntry}
use Rattle.alg_registry.specs.declared.entry.RegEntry.TheVariants.{Look}
use Rattle.alg_registry.specs.Rows.{texts, rows_of, larvals_of, larval_at, registered}
use Rattle.alg_registry.specs.Answers.{look_answer, found_driver, found_best, not_found, is_pending, is_template, may_find, best_from}
use Rattle.alg_registry.specs.Legal.{IsRight}
use Rattle.alg_registry.specs.NamedAnswers.{LooksName, EndsName}
use Rattle.alg_registry.proofs.Existing.{outcome_exists, registered_grow}
use Rattle.alg_registry.proofs.Fresh.{length-rows_of, is_listed-within}
use Rattle.alg_registry.proofs.Histories.{text_more}
use Rattle.alg_registry.proofs.LifetimeLaws.{right_at, handed_listed}
use Rattle.alg_registry.proofs.Looks.{began_new}
use Rattle.alg_registry.proofs.Stack.{texts-push, larval_get}

at_last : (ts : List (List ℕ)) (n : ℕ) (t : List ℕ) → n ≡ length ts → slice_get (ts ++ t ∷ []) n ≡ Some t
at_last [] n t e = ap (λ m. slice_get (t ∷ []) m) e
at_last (u ∷ ts) n t e = ap (λ m. slice_get (u ∷ (ts ++ t ∷ [])) m) e ∙ at_last ts (length ts) t refl

found_exists : (h later : List RegEntry) (caller : ℕ) (text : List ℕ) (plain : Bool) (id : ℕ) → IsRight h (Look caller text plain (Found id)) → id < length (registered (h ++ Look caller text plain (Found id) ∷ later))
found_exists h later caller text plain id right =
    let lt : id < length (rows_of h) = is_listed-within (rows_of h) id (handed_listed h id (Look caller text plain (Found id)) right refl) in
    omega (arith, lt, length-rows_of h, registered_grow h (Look caller text plain (Found id) ∷ later))

-- the pending larval of a text that is found has the text
pending_at : (h : List RegEntry) (text : List ℕ) (from k : ℕ) (ts : List (List ℕ)) (xs : List Larval) → ((j : ℕ) → slice_get xs j ≡ option_map (λ t. larval_at h (from + j) t) (slice_get ts j)) → position_from (is_pending text) from xs ≡ Some k
    → (j : ℕ) × (k ≡ from + j) × (slice_get ts j ≡ Some text)
pending_at h text from k ts [] at e = absurd cc
pending_at h text from k [] (x ∷ xs) at e = absurd (let f : Some x ≡ None = at 0 in cc)
pending_at h text from k (t ∷ ts) (x ∷ xs) at e = here (is_pending text x) refl e (pending_at h text (from + 1) k ts xs (λ j. at (suc j) ∙ ap (λ m. option_map (λ u. larval_at h m u) (slice_get ts j)) (omega arith)))
  where
    second_true : (a b : Bool) → (a && b) ≡ true → b ≡ true
    second_true true b z = z
    second_true false b z = absurd cc

    here : (b : Bool) → is_pending text x ≡ b → cond b (Some from) (position_from (is_pending text) (from + 1) xs) ≡ Some k
        → (position_from (is_pending text) (from + 1) xs ≡ Some k → (j : ℕ) × (k ≡ (from + 1) + j) × (slice_get ts j ≡ Some text))
        → (j : ℕ) × (k ≡ from + j) × (slice_get (t ∷ ts) j ≡ Some text)
    here true q f later =
        let g : from ≡ k = cc in
        let a : Some x ≡ Some (larval_at h (from + 0) t) = at 0 in
        let b : x ≡ larval_at h (from + 0) t = cc in
        let s : x.text ≡ text = (bytes_eq-Decides x.text text).0 (second_true (is_none x.ended) (bytes_eq x.text text) q) in
        (zero, omega (arith, g), ap (λ u. Some u) (sym (ap (λ (y : Larval). y.text) b) ∙ s))
    here false q f later = let r = later f in (suc r.0, omega (arith, r.1), r.2)

pending_found : (larvals : List Larval) (text : List ℕ) (k : ℕ) (o : Option ℕ) → not_found larvals text o ≡ Pending k → o ≡ Some k
pending_found larvals text k (Some n) e = let f : n ≡ k = cc in ap (λ (m : ℕ). Some m) f
pending_found larvals text k None e = absurd (neither (is_template text) e)
  where
    neither : (b : Bool) → (if b then Began (length larvals) else Absent) ≡ Pending k → ⊥
    neither true q = cc
    neither false q = cc

pending_best : (larvals : List Larval) (text : List ℕ) (k : ℕ) (o : Option (ℕ × ℕ)) → found_best larvals text o ≡ Pending k → position_from (is_pending text) 0 larvals ≡ Some k
pending_best larvals text k (Some best) e = absurd cc
pending_best larvals text k None e = pending_found larvals text k (position_from (is_pending text) 0 larvals) e

pending_driver : (rows : List Row) (larvals : List Larval) (text : List ℕ) (plain : Bool) (k : ℕ) (o : Option ℕ) → found_driver rows larvals text plain o ≡ Pending k → position_from (is_pending text) 0 larvals ≡ Some k
pending_driver rows larvals text plain k (Some id) e = absurd cc
pending_driver rows larvals text plain k None e = pending_best larvals text k (best_from larvals text plain 0 rows) e

pending_text : (h : List RegEntry) (text : List ℕ) (plain : Bool) (k : ℕ) → look_answer (rows_of h) (larvals_of h) text plain ≡ Pending k → slice_get (texts h) k ≡ Some text
pending_text h text plain k e =
    let place = pending_driver (rows_of h) (larvals_of h) text plain k (position_from (λ row. may_find plain row && bytes_eq row.spec.driver text) 0 (rows_of h)) e in
    let found = pending_at h text 0 k (texts h) (larvals_of h) (λ j. larval_get h 0 j (0 + j) (texts h) (omega arith)) place in
    let same : found.0 ≡ k = omega (arith, found.1) in
    subst (λ m. slice_get (texts h) m ≡ Some text) same found.2

pub looks_name : LooksName
looks_name before later caller text plain (Found id) legal = found_exists before later caller text plain id (right_at [] before (Look caller text plain (Found id)) later legal)
looks_name before later caller text plain Absent legal = tt
looks_name before later caller text plain (Pending n) legal =
    let right : IsRight before (Look caller text plain (Pending n)) = right_at [] before (Look caller text plain (Pending n)) later legal in
    text_more before (Look caller text plain (Pending n) ∷ later) n text (pending_text before text plain n (sym right.1))
looks_name before later caller text plain (Began n) legal =
    let e : RegEntry = Look caller text plain (Began n) in
    let right : IsRight before e = right_at [] before e later legal in
    let there : slice_get (texts (before ++ e ∷ [])) n ≡ Some text = ap (λ ts. slice_get ts n) (texts-push before e) ∙ at_last (texts before) n text (began_new before text plain n (sym right.1)) in
    ap (λ x. slice_get (texts x) n) (sym (append_assoc before (e ∷ []) later)) ∙ text_more (before ++ e ∷ []) later n text there

pub ends_name : EndsName
ends_name h larval id legal came = outcome_exists h larval id legal came
