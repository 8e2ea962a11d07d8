-- Building by the table is determined, where what its names ask for is lighter.
use Rattle.std.proofs.Common.{◌≡◌, ℕ, true, false, List, [], ◌∷◌, ◌++◌, refl, ap, sym, ◌∙◌, subst, arith, Option, Some, None, Result, Ok, Err, append_assoc}
use Rattle.std.specs.Prelude.{slice_get}
use Rattle.std.specs.List.{list_all}
use Rattle.std.specs.Option.{option_map}
use Rattle.std.proofs.lemmas.List.{append-nil}
use Rattle.kc_base.specs.declared.error_numbers.Errno.{Errno}
use Rattle.alg_registry.specs.declared.row.Row.{Row}
use Rattle.alg_registry.specs.declared.entry.Looked.{Looked}
use Rattle.alg_registry.specs.declared.entry.RegEntry.{RegEntry}
use Rattle.alg_registry.specs.declared.entry.RegEntry.TheVariants.{Look}
use Rattle.alg_registry.specs.Rows.{rows_of}
use Rattle.alg_registry.specs.Legal.{LegalReg, MayFollow, IsRight}
use Rattle.alg_registry.specs.Made.{Templates, Made, MadeAfter, IsMade, outcome}
use Rattle.alg_registry.proofs.Fresh.{spec-rows_of}
use Rattle.templates.specs.LookResults.{Found, NonePending, found_in, found_as, entry_found}
use Rattle.templates.specs.Table.{table}
use Rattle.templates.specs.Resolution.{weight_of}
use Rattle.sequential_model.specs.Registry.{PlainRegistry, LookedUp, look_up, look_found, found_of, found_at}
use Rattle.sequential_model.proofs.Agreeing.{IsRegistryOf, is_building}
use Rattle.sequential_model.proofs.Determined.{determined}
use Rattle.sequential_model.proofs.Phases.{AreLighter}

-- ---- fronts

follow_split : (before xs ys : List RegEntry) → MayFollow before (xs ++ ys) → MayFollow before xs × MayFollow (before ++ xs) ys
follow_split before [] ys legal = (tt, subst (λ x. MayFollow x ys) (sym (append-nil before)) legal)
follow_split before (e ∷ xs) ys legal =
    let r = follow_split (before ++ e ∷ []) xs ys legal.1 in
    ((legal.0, r.0), subst (λ x. MayFollow x ys) (append_assoc before (e ∷ []) xs) r.1)

made_split : (t : Templates) (before xs ys : List RegEntry) → MadeAfter t before (xs ++ ys) → MadeAfter t before xs × MadeAfter t (before ++ xs) ys
made_split t before [] ys made = (tt, subst (λ x. MadeAfter t x ys) (sym (append-nil before)) made)
made_split t before (e ∷ xs) ys made =
    let r = made_split t (before ++ e ∷ []) xs ys made.1 in
    ((made.0, r.0), subst (λ x. MadeAfter t x ys) (append_assoc before (e ∷ []) xs) r.1)

-- a legal history is one with each of its fronts
pub legal_front : (h more : List RegEntry) → LegalReg (h ++ more) → LegalReg h × MayFollow h more
legal_front h more legal = follow_split [] h more legal

pub made_front : (h more : List RegEntry) → Made table (h ++ more) → Made table h × MadeAfter table h more
made_front h more made = made_split table [] h more made

-- what a look came to, as the plain registry says it
found_as_plain : (registry : PlainRegistry) (h : List RegEntry) (r : Result ℕ Errno) (found : Found) → IsRegistryOf registry h → found_as h (Some r) ≡ Some found → found_of registry.rows r ≡ found
found_as_plain registry h (Err errno) found is e = some_same e
  where
    some_same : {x y : Found} → Some x ≡ Some y → x ≡ y
    some_same f = cc
found_as_plain registry h (Ok id) found is e = ap (λ (rows : List Row). found_at id (slice_get rows id)) is.rows ∙ by (slice_get (rows_of h) id) (ap (λ o. entry_found id o) (spec-rows_of h id) ∙ e)
  where
    some_same : {x y : Found} → Some x ≡ Some y → x ≡ y
    some_same f = cc

    by : (o : Option Row) → entry_found id (option_map (λ (row : Row). row.spec) o) ≡ Some found → found_at id o ≡ found
    by None f = absurd cc
    by (Some row) f = some_same f

outcome_there : (h : List RegEntry) (o : Option (Result ℕ Errno)) (found : Found) → found_as h o ≡ Some found → (r : Result ℕ Errno) × (o ≡ Some r)
outcome_there h None found e = absurd cc
outcome_there h (Some r) found e = (r, refl)

-- the same, from the pieces of the history
pub look_as_plain : AreLighter table weight_of → (h work : List RegEntry) (registry : PlainRegistry) (caller : ℕ) (text : List ℕ) (answer : Looked) (found : Found) → LegalReg h → IsRight h (Look caller text false answer) → MayFollow (h ++ Look caller text false answer ∷ []) work
    → IsMade table h (Look caller text false answer) → MadeAfter table (h ++ Look caller text false answer ∷ []) work → NonePending h → IsRegistryOf registry h → list_all is_building work ≡ true
    → found_in ((h ++ Look caller text false answer ∷ []) ++ work) answer ≡ Some found
    → IsRegistryOf (look_up registry text).0 ((h ++ Look caller text false answer ∷ []) ++ work) × NonePending ((h ++ Look caller text false answer ∷ []) ++ work) × (look_found (look_up registry text) ≡ found)
look_as_plain lighter h work registry caller text answer found legal right follows made made_after none is all comes =
    let h1 : List RegEntry = h ++ Look caller text false answer ∷ [] in
    let r = outcome_there (h1 ++ work) (outcome (h1 ++ work) answer) found comes in
    let d = determined table weight_of h work registry caller (weight_of text) text answer r.0 (lighter) (omega arith) legal none is right made follows made_after all r.1 in
    (d.is, d.none, ap (λ q. found_of (let c : LookedUp = look_up registry text in c.0.rows) q) d.result ∙ found_as_plain (look_up registry text).0 (h1 ++ work) r.0 found d.is (ap (λ o. found_as (h1 ++ work) o) (sym r.1) ∙ comes))
