-- What is kept beside the history stays in step with it, entry by entry.
use Rattle.std.proofs.Common.{◌≡◌, ◌≢◌, ℕ, zero, suc, ◌+◌, ◌-◌, ◌<◌, ◌≤◌, Bool, true, false, cond, ◌||◌, ◌&&◌, not, eqb, ltb, List, [], ◌∷◌, ◌++◌, length, map, get_or, set, Option, Some, None, refl, sym, ap, ◌∙◌, subst, arith}
use Rattle.std.specs.Prelude.{count_by, slice_get, is_none}
use Rattle.std.specs.List.{filter_map, list_any, cons_option, position_from}
use Rattle.std.specs.Option.{option_or, option_map, option_map_or, option_and_then}
use Rattle.std.proofs.lemmas.List.{append-nil}
use Rattle.std.proofs.lemmas.List.Elements.{filter_map-append}
use Rattle.std.proofs.lemmas.List.Folds.{list_any-append}
use Rattle.std.proofs.lemmas.Bool.Decides.{nat_tests}
use Rattle.alg_registry.specs.declared.spec.Spec.{Spec}
use Rattle.alg_registry.specs.declared.row.Row.{Row}
use Rattle.alg_registry.specs.declared.row.Larval.{Larval}
use Rattle.alg_registry.specs.declared.entry.Looked.{Looked}
use Rattle.alg_registry.specs.declared.entry.Looked.TheVariants.{Found, Pending, Began, Absent}
use Rattle.alg_registry.specs.declared.entry.RegEntry.{RegEntry}
use Rattle.alg_registry.specs.declared.entry.RegEntry.TheVariants.{Look, Claim, Unlist, Get, Put}
use Rattle.alg_registry.specs.Rows.{noted_at, noted, registered, registered_by, unlists, gets, puts, taken_of, standing, rows_of, first_of, begun_by, claims, ends, larval_at, larvals_from, larvals_of, listed_at}
use Rattle.alg_registry.specs.Answers.{look_answer, driver_place}
use Rattle.alg_registry.specs.Legal.{IsRight, LegalReg, is_worker, HasReference, claimer, ended_as}
use Rattle.alg_registry.specs.Calls.{unlisted_row, taken_row, put_row_of, is_unclaimed, unclaimed_at, claimed_number, claimed_answer, text_at, claimed_larval}
use Rattle.alg_registry.specs.Kept.{IsKept}
use Rattle.alg_registry.proofs.Standing.{bare, bare-rows_of}
use Rattle.alg_registry.proofs.Steps.{LegalReg-push, IsQuiet, rows_of-quiet, rows_of-set, count_by-push, first_of-push, or_none, bit}
use Rattle.alg_registry.proofs.Balance.{puts-le, puts-lt}
use Rattle.alg_registry.proofs.Fresh.{fresh-from_legal, length-rows_of, position_from-within, is_listed-within}

-- the entry does nothing to the larval
pub record LeavesLarval (e : RegEntry) (n : ℕ) : Type 0 where
  pub claims_not : claims n e ≡ None
  pub ends_not : ends n e ≡ None

or_no : {B : Type 0} (o p : Option B) → p ≡ None → option_or o p ≡ o
or_no o p h = rw h (or_none o)

larval_at-left : (h : List RegEntry) (e : RegEntry) (n : ℕ) (text : List ℕ) → LeavesLarval e n → larval_at (h ++ e ∷ []) n text ≡ larval_at h n text
larval_at-left h e n text leaves =
    let a = first_of-push (claims n) h e ∙ or_no (first_of (claims n) h) (claims n e) leaves.claims_not in
    let b = first_of-push (ends n) h e ∙ or_no (first_of (ends n) h) (ends n e) leaves.ends_not in
    λ i. record { text = text; claimed = a i; ended = b i }

larvals_from-left : (h : List RegEntry) (e : RegEntry) → ((n : ℕ) → LeavesLarval e n) → (n : ℕ) (texts : List (List ℕ)) → larvals_from (h ++ e ∷ []) n texts ≡ larvals_from h n texts
larvals_from-left h e leaves n [] = refl
larvals_from-left h e leaves n (text ∷ texts) = λ i. larval_at-left h e n text (leaves n) i ∷ larvals_from-left h e leaves (n + 1) texts i

larvals_from-push : (h : List RegEntry) (n : ℕ) (texts : List (List ℕ)) (text : List ℕ) (last : ℕ) → last ≡ n + length texts → larvals_from h n (texts ++ text ∷ []) ≡ larvals_from h n texts ++ larval_at h last text ∷ []
larvals_from-push h n [] text last e = let e' : n ≡ last = omega arith in ap (λ (k : ℕ). larval_at h k text ∷ []) e'
larvals_from-push h n (t ∷ texts) text last e = ap (λ ls. larval_at h n t ∷ ls) (larvals_from-push h (n + 1) texts text last (omega arith))

begun-push : (h : List RegEntry) (e : RegEntry) → filter_map begun_by (h ++ e ∷ []) ≡ filter_map begun_by h ++ cons_option (begun_by e) []
begun-push h e = filter_map-append begun_by h (e ∷ [])

pub larvals_of-left : (h : List RegEntry) (e : RegEntry) → begun_by e ≡ None → ((n : ℕ) → LeavesLarval e n) → larvals_of (h ++ e ∷ []) ≡ larvals_of h
larvals_of-left h e none leaves =
    ap (λ texts. larvals_from (h ++ e ∷ []) 0 texts) (begun-push h e ∙ (ap (λ o. filter_map begun_by h ++ cons_option o []) none ∙ append-nil (filter_map begun_by h)))
    ∙ larvals_from-left h e leaves 0 (filter_map begun_by h)

-- the larval that begins is the last
larvals_of-begun : (h : List RegEntry) (e : RegEntry) (text : List ℕ) → LegalReg h → begun_by e ≡ Some text → ((n : ℕ) → LeavesLarval e n)
    → larvals_of (h ++ e ∷ []) ≡ larvals_of h ++ record { text = text; claimed = None; ended = None } ∷ []
larvals_of-begun h e text legal some leaves =
    let fresh = fresh-from_legal h legal in
    let last : ℕ = length (filter_map begun_by h) in
    let texts : filter_map begun_by (h ++ e ∷ []) ≡ filter_map begun_by h ++ text ∷ [] = begun-push h e ∙ ap (λ o. filter_map begun_by h ++ cons_option o []) some in
    let new : larval_at h last text ≡ record { text = text; claimed = None; ended = None } = λ i. record { text = text; claimed = fresh.claims_none last (omega arith) i; ended = fresh.ends_none last (omega arith) i } in
    ap (λ ts. larvals_from (h ++ e ∷ []) 0 ts) texts
    ∙ (larvals_from-left h e leaves 0 (filter_map begun_by h ++ text ∷ [])
    ∙ (larvals_from-push h 0 (filter_map begun_by h) text last (omega arith)
    ∙ ap (λ l. larvals_of h ++ l ∷ []) new))

-- the entry changes nothing but the history
pub record IsAside (e : RegEntry) : Type 0 where
  pub registers_none : registered_by e ≡ None
  pub begins_none : begun_by e ≡ None
  pub quiet : (id : ℕ) → IsQuiet e id
  pub leaves : (n : ℕ) → LeavesLarval e n

pub kept-aside : (h : List RegEntry) (rows : List Row) (larvals : List Larval) (e : RegEntry)
    → IsKept h rows larvals → IsRight h e → IsAside e → IsKept (h ++ e ∷ []) rows larvals
kept-aside h rows larvals e kept right aside = record {
  legal = LegalReg-push h e kept.legal right;
  rows_are = kept.rows_are ∙ sym (rows_of-quiet h e aside.registers_none aside.quiet);
  larvals_are = kept.larvals_are ∙ sym (larvals_of-left h e aside.begins_none aside.leaves);
}

look_aside : (caller : ℕ) (text : List ℕ) (plain : Bool) (answer : Looked) → ((n : ℕ) → answer ≢ Began n) → IsAside (Look caller text plain answer)
look_aside caller text plain (Found id) other = record { registers_none = refl; begins_none = refl; quiet = λ id. record { unlists_not = refl; gets_not = refl; puts_not = refl }; leaves = λ n. record { claims_not = refl; ends_not = refl } }
look_aside caller text plain (Pending n) other = record { registers_none = refl; begins_none = refl; quiet = λ id. record { unlists_not = refl; gets_not = refl; puts_not = refl }; leaves = λ n. record { claims_not = refl; ends_not = refl } }
look_aside caller text plain (Began n) other = absurd (other n refl)
look_aside caller text plain Absent other = record { registers_none = refl; begins_none = refl; quiet = λ id. record { unlists_not = refl; gets_not = refl; puts_not = refl }; leaves = λ n. record { claims_not = refl; ends_not = refl } }

-- a look that begins no larval
pub kept-look : (h log : List RegEntry) (rows : List Row) (larvals : List Larval) (caller : ℕ) (text : List ℕ) (plain : Bool) (answer : Looked)
    → IsKept h rows larvals → (plain || not (is_worker caller)) ≡ true → answer ≡ look_answer rows larvals text plain → ((n : ℕ) → answer ≢ Began n)
    → log ≡ h ++ Look caller text plain answer ∷ [] → IsKept log rows larvals
kept-look h log rows larvals caller text plain answer kept may is other grown =
    let right : IsRight h (Look caller text plain answer) = (may, is ∙ look_same kept.rows_are kept.larvals_are) in
    subst (λ (l : List RegEntry). IsKept l rows larvals) (sym grown) (kept-aside h rows larvals (Look caller text plain answer) kept right (look_aside caller text plain answer other))
  where
    look_same : {rows' : List Row} {larvals' : List Larval} → rows ≡ rows' → larvals ≡ larvals' → look_answer rows larvals text plain ≡ look_answer rows' larvals' text plain
    look_same e f = λ i. look_answer (e i) (f i) text plain

-- one that begins a larval
pub kept-began : (h log : List RegEntry) (rows : List Row) (larvals larvals' : List Larval) (caller : ℕ) (text : List ℕ) (plain : Bool) (answer : Looked) (n : ℕ)
    → IsKept h rows larvals → (plain || not (is_worker caller)) ≡ true → answer ≡ look_answer rows larvals text plain → answer ≡ Began n
    → log ≡ h ++ Look caller text plain answer ∷ [] → larvals' ≡ larvals ++ record { text = text; claimed = None; ended = None } ∷ [] → IsKept log rows larvals'
kept-began h log rows larvals larvals' caller text plain answer n kept may is began grown more =
    let e : RegEntry = Look caller text plain answer in
    let right : IsRight h e = (may, is ∙ look_same kept.rows_are kept.larvals_are) in
    let begun : begun_by e ≡ Some text = ap (λ a. begun_by (Look caller text plain a)) began in
    let none : registered_by e ≡ None = refl in
    record {
      legal = subst LegalReg (sym grown) (LegalReg-push h e kept.legal right);
      rows_are = kept.rows_are ∙ (sym (rows_of-quiet h e none (λ id. record { unlists_not = refl; gets_not = refl; puts_not = refl })) ∙ ap rows_of (sym grown));
      larvals_are = more ∙ (ap (λ ls. ls ++ record { text = text; claimed = None; ended = None } ∷ []) kept.larvals_are ∙ (sym (larvals_of-begun h e text kept.legal begun (λ n. record { claims_not = refl; ends_not = refl })) ∙ ap larvals_of (sym grown)));
    }
  where
    look_same : {rows' : List Row} {larvals' : List Larval} → rows ≡ rows' → larvals ≡ larvals' → look_answer rows larvals text plain ≡ look_answer rows' larvals' text plain
    look_same e f = λ i. look_answer (e i) (f i) text plain

pub unequal : (a b : ℕ) → b ≢ a → eqb a b ≡ false
unequal a b differ = grind (arith, nat_tests)

or_last : (a b : Bool) → b ≡ true → (a || (b || false)) ≡ true
or_last true b h = refl
or_last false b h = rw h

-- the place of a driver is an entry's
pub driver-within : (rows : List Row) (driver : List ℕ) (k : ℕ) → driver_place rows driver ≡ Some k → k < length rows
driver-within rows driver k found = let lt : k < 0 + length rows = position_from-within _ 0 k rows found in omega arith

unlist_changes : (h : List RegEntry) (caller k : ℕ) (driver : List ℕ) (row : Row) (spec : Spec) → bare row ≡ noted_at h k spec → bare (unlisted_row row) ≡ noted_at (h ++ Unlist caller driver (Some k) ∷ []) k spec
unlist_changes h caller k driver row spec same =
    let e : RegEntry = Unlist caller driver (Some k) in
    let here : eqb k k ≡ true = grind (arith, nat_tests) in
    let s : row.spec ≡ spec = ap (λ (r : Row). r.spec) same in
    let u : true ≡ list_any (unlists k) (h ++ e ∷ []) = sym (list_any-append (unlists k) h (e ∷ []) ∙ or_last (list_any (unlists k) h) (eqb k k) here) in
    let t : row.taken ≡ taken_of (h ++ e ∷ []) k = ap (λ (r : Row). r.taken) same ∙ omega (arith, count_by-push (gets k) h e, count_by-push (puts k) h e) in
    λ i. record { spec = s i; unlisted = u i; taken = t i; listed = false; references = 0 }

pub kept-unlist : (h log : List RegEntry) (rows rows' : List Row) (larvals : List Larval) (caller k : ℕ) (driver : List ℕ) (d : Row)
    → IsKept h rows larvals → is_worker caller ≡ false → driver_place rows driver ≡ Some k
    → log ≡ h ++ Unlist caller driver (Some k) ∷ [] → rows' ≡ standing (set rows k (unlisted_row (get_or rows k d)))
    → IsKept log rows' larvals
kept-unlist h log rows rows' larvals caller k driver d kept out found grown change =
    let e : RegEntry = Unlist caller driver (Some k) in
    let right : IsRight h e = (out, sym found ∙ ap (λ rs. driver_place rs driver) kept.rows_are) in
    record {
      legal = subst LegalReg (sym grown) (LegalReg-push h e kept.legal right);
      rows_are = change ∙ (rows_of-set h e unlisted_row k rows d kept.rows_are refl (driver-within rows driver k found)
          (λ id differ. record { unlists_not = unequal k id differ; gets_not = refl; puts_not = refl })
          (unlist_changes h caller k driver) ∙ ap rows_of (sym grown));
      larvals_are = kept.larvals_are ∙ (sym (larvals_of-left h e refl (λ n. record { claims_not = refl; ends_not = refl })) ∙ ap larvals_of (sym grown));
    }

pub kept-no_unlist : (h log : List RegEntry) (rows : List Row) (larvals : List Larval) (caller : ℕ) (driver : List ℕ)
    → IsKept h rows larvals → is_worker caller ≡ false → driver_place rows driver ≡ None
    → log ≡ h ++ Unlist caller driver None ∷ []
    → IsKept log rows larvals
kept-no_unlist h log rows larvals caller driver kept out found grown =
    let e : RegEntry = Unlist caller driver None in
    let right : IsRight h e = (out, sym found ∙ ap (λ rs. driver_place rs driver) kept.rows_are) in
    let aside : IsAside e = record { registers_none = refl; begins_none = refl; quiet = λ id. record { unlists_not = refl; gets_not = refl; puts_not = refl }; leaves = λ n. record { claims_not = refl; ends_not = refl } } in
    subst (λ (l : List RegEntry). IsKept l rows larvals) (sym grown) (kept-aside h rows larvals e kept right aside)

-- an entry that is right keeps all in step, where what is kept is what the history says with it
pub kept_step : (h log : List RegEntry) (rows rows' : List Row) (larvals larvals' : List Larval) (e : RegEntry)
    → IsKept h rows larvals → IsRight h e → log ≡ h ++ e ∷ [] → rows' ≡ rows_of (h ++ e ∷ []) → larvals' ≡ larvals_of (h ++ e ∷ [])
    → IsKept log rows' larvals'
kept_step h log rows rows' larvals larvals' e kept right grown r l = record {
  legal = subst LegalReg (sym grown) (LegalReg-push h e kept.legal right);
  rows_are = r ∙ ap rows_of (sym grown);
  larvals_are = l ∙ ap larvals_of (sym grown);
}

get_changes : (h : List RegEntry) (caller k : ℕ) (row : Row) (spec : Spec) → LegalReg h → bare row ≡ noted_at h k spec → bare (taken_row row) ≡ noted_at (h ++ Get caller k true ∷ []) k spec
get_changes h caller k row spec legal same =
    let e : RegEntry = Get caller k true in
    let here : eqb k k ≡ true = grind (arith, nat_tests) in
    let s : row.spec ≡ spec = ap (λ (r : Row). r.spec) same in
    let u : row.unlisted ≡ list_any (unlists k) (h ++ e ∷ []) = ap (λ (r : Row). r.unlisted) same ∙ sym (list_any-append (unlists k) h (e ∷ []) ∙ or_false' (list_any (unlists k) h)) in
    let t0 : row.taken ≡ taken_of h k = ap (λ (r : Row). r.taken) same in
    let t : row.taken + 1 ≡ taken_of (h ++ e ∷ []) k = omega (arith, t0, puts-le h k legal, count_by-push (gets k) h e, count_by-push (puts k) h e, ap bit here) in
    λ i. record { spec = s i; unlisted = u i; taken = t i; listed = false; references = 0 }
  where
    or_false' : (b : Bool) → (b || false) ≡ b
    or_false' true = refl
    or_false' false = refl

put_changes : (h : List RegEntry) (caller k : ℕ) (row : Row) (spec : Spec) → bare row ≡ noted_at h k spec → bare (put_row_of row) ≡ noted_at (h ++ Put caller k ∷ []) k spec
put_changes h caller k row spec same =
    let e : RegEntry = Put caller k in
    let here : eqb k k ≡ true = grind (arith, nat_tests) in
    let s : row.spec ≡ spec = ap (λ (r : Row). r.spec) same in
    let u : row.unlisted ≡ list_any (unlists k) (h ++ e ∷ []) = ap (λ (r : Row). r.unlisted) same ∙ sym (list_any-append (unlists k) h (e ∷ []) ∙ or_false' (list_any (unlists k) h)) in
    let t0 : row.taken ≡ taken_of h k = ap (λ (r : Row). r.taken) same in
    let t : row.taken - 1 ≡ taken_of (h ++ e ∷ []) k = omega (arith, t0, count_by-push (gets k) h e, count_by-push (puts k) h e, ap bit here) in
    λ i. record { spec = s i; unlisted = u i; taken = t i; listed = false; references = 0 }
  where
    or_false' : (b : Bool) → (b || false) ≡ b
    or_false' true = refl
    or_false' false = refl

pub kept-get : (h log : List RegEntry) (rows rows' : List Row) (larvals : List Larval) (caller k : ℕ) (d : Row)
    → IsKept h rows larvals → is_worker caller ≡ false → listed_at rows k ≡ true
    → log ≡ h ++ Get caller k true ∷ [] → rows' ≡ standing (set rows k (taken_row (get_or rows k d)))
    → IsKept log rows' larvals
kept-get h log rows rows' larvals caller k d kept out listed grown change =
    let e : RegEntry = Get caller k true in
    let right : IsRight h e = (out, sym listed ∙ ap (λ rs. listed_at rs k) kept.rows_are) in
    kept_step h log rows rows' larvals larvals e kept right grown
    (change ∙ rows_of-set h e taken_row k rows d kept.rows_are refl (is_listed-within rows k listed)
    (λ id differ. record { unlists_not = refl; gets_not = unequal k id differ; puts_not = refl })
    (λ row spec same. get_changes h caller k row spec kept.legal same))
    (kept.larvals_are ∙ sym (larvals_of-left h e refl (λ n. record { claims_not = refl; ends_not = refl })))

pub kept-no_get : (h log : List RegEntry) (rows : List Row) (larvals : List Larval) (caller k : ℕ)
    → IsKept h rows larvals → is_worker caller ≡ false → listed_at rows k ≡ false
    → log ≡ h ++ Get caller k false ∷ []
    → IsKept log rows larvals
kept-no_get h log rows larvals caller k kept out listed grown =
    let e : RegEntry = Get caller k false in
    let right : IsRight h e = (out, sym listed ∙ ap (λ rs. listed_at rs k) kept.rows_are) in
    let aside : IsAside e = record { registers_none = refl; begins_none = refl; quiet = λ id. record { unlists_not = refl; gets_not = refl; puts_not = refl }; leaves = λ n. record { claims_not = refl; ends_not = refl } } in
    subst (λ (l : List RegEntry). IsKept l rows larvals) (sym grown) (kept-aside h rows larvals e kept right aside)

pub put-within : (h : List RegEntry) (rows : List Row) (caller k : ℕ) → LegalReg h → rows ≡ rows_of h → HasReference h caller k → k < length rows
put-within h rows caller k legal are has = inside (ltb k (length rows)) refl
  where
    inside : (b : Bool) → ltb k (length rows) ≡ b → k < length rows
    inside true is = grind (arith, nat_tests)
    inside false is =
        let past : length rows ≤ k = grind (arith, nat_tests) in
        let none : count_by (gets k) h ≡ 0 = (fresh-from_legal h legal).gets_none k (omega (arith, ap length are, length-rows_of h)) in
        absurd (omega (arith, none, puts-lt h caller k legal has))

taken_noted : (h : List RegEntry) (first k : ℕ) (rows : List Row) (specs : List Spec) (d : Row) → map bare rows ≡ noted h first specs → k < length rows → (let r : Row = get_or rows k d in r.taken) ≡ taken_of h (first + k)
taken_noted h first k [] specs d same lt = absurd (omega (arith, lt))
taken_noted h first k (row ∷ rows) [] d same lt = absurd cc
taken_noted h first zero (row ∷ rows) (spec ∷ specs) d same lt =
    let head : bare row ≡ noted_at h first spec = cc in
    ap (λ (r : Row). r.taken) head ∙ ap (λ (n : ℕ). taken_of h n) (let e : first ≡ first + 0 = omega arith in e)
taken_noted h first (suc k) (row ∷ rows) (spec ∷ specs) d same lt =
    let tail : map bare rows ≡ noted h (first + 1) specs = cc in
    taken_noted h (first + 1) k rows specs d tail (omega (arith, lt)) ∙ ap (λ (n : ℕ). taken_of h n) (let e : (first + 1) + k ≡ first + suc k = omega arith in e)

-- an entry whose reference is given back has one that was taken
pub put-taken : (h : List RegEntry) (rows : List Row) (caller k : ℕ) (d : Row) → LegalReg h → rows ≡ rows_of h → HasReference h caller k → 0 < (let r : Row = get_or rows k d in r.taken)
put-taken h rows caller k d legal are has =
    let z : 0 + k ≡ k = omega arith in
    let same : map bare rows ≡ noted h 0 (registered h) = ap (λ rs. map bare rs) are ∙ bare-rows_of h in
    let taken = taken_noted h 0 k rows (registered h) d same (put-within h rows caller k legal are has) ∙ ap (λ (n : ℕ). taken_of h n) z in
    omega (arith, taken, puts-lt h caller k legal has)

pub kept-put : (h log : List RegEntry) (rows rows' : List Row) (larvals : List Larval) (caller k : ℕ) (d : Row)
    → IsKept h rows larvals → is_worker caller ≡ false → HasReference h caller k
    → log ≡ h ++ Put caller k ∷ [] → rows' ≡ standing (set rows k (put_row_of (get_or rows k d)))
    → IsKept log rows' larvals
kept-put h log rows rows' larvals caller k d kept out has grown change =
    let e : RegEntry = Put caller k in
    let right : IsRight h e = (out, has) in
    kept_step h log rows rows' larvals larvals e kept right grown
    (change ∙ rows_of-set h e put_row_of k rows d kept.rows_are refl (put-within h rows caller k kept.legal kept.rows_are has)
    (λ id differ. record { unlists_not = refl; gets_not = refl; puts_not = unequal k id differ })
    (put_changes h caller k))
    (kept.larvals_are ∙ sym (larvals_of-left h e refl (λ n. record { claims_not = refl; ends_not = refl })))

-- what is done to one larval
larvals_from-set : (h h' : List RegEntry) (change : Larval → Larval) (first k : ℕ) (larvals : List Larval) (texts : List (List ℕ)) (d : Larval)
    → larvals ≡ larvals_from h first texts → k < length larvals
    → ((n : ℕ) (text : List ℕ) → n ≢ first + k → larval_at h' n text ≡ larval_at h n text)
    → ((larval : Larval) (text : List ℕ) → slice_get larvals k ≡ Some larval → larval ≡ larval_at h (first + k) text → change larval ≡ larval_at h' (first + k) text)
    → set larvals k (change (get_or larvals k d)) ≡ larvals_from h' first texts
larvals_from-set h h' change first k [] texts d same within others this = absurd (omega arith)
larvals_from-set h h' change first k (larval ∷ larvals) [] d same within others this = absurd cc
larvals_from-set h h' change first zero (larval ∷ larvals) (text ∷ texts) d same within others this =
    let e : first + 0 ≡ first = omega arith in
    let head : larval ≡ larval_at h first text = cc in
    let tail : larvals ≡ larvals_from h (first + 1) texts = cc in
    let head' : change larval ≡ larval_at h' first text = subst (λ n. change larval ≡ larval_at h' n text) e (this larval text refl (subst (λ n. larval ≡ larval_at h n text) (sym e) head)) in
    let tail' : larvals_from h' (first + 1) texts ≡ larvals_from h (first + 1) texts = later h h' (first + 1) texts (λ n t lt. others n t (λ q. absurd (omega (arith, q)))) in
    λ i. head' i ∷ (tail ∙ sym tail') i
  where
    later : (h h' : List RegEntry) (from : ℕ) (texts : List (List ℕ)) → ((n : ℕ) (text : List ℕ) → from ≤ n → larval_at h' n text ≡ larval_at h n text) → larvals_from h' from texts ≡ larvals_from h from texts
    later h h' from [] same = refl
    later h h' from (text ∷ texts) same = λ i. same from text (omega arith) i ∷ later h h' (from + 1) texts (λ n t le. same n t (omega arith)) i
larvals_from-set h h' change first (suc k) (larval ∷ larvals) (text ∷ texts) d same within others this =
    let e : (first + 1) + k ≡ first + suc k = omega arith in
    let head : larval ≡ larval_at h first text = cc in
    let tail : larvals ≡ larvals_from h (first + 1) texts = cc in
    let head' : larval_at h' first text ≡ larval_at h first text = others first text (λ q. absurd (omega (arith, q))) in
    let rest = larvals_from-set h h' change (first + 1) k larvals texts d tail (omega arith)
    (λ n t differ. others n t (λ q. differ (q ∙ sym e)))
    (λ l t at b. subst (λ n. change l ≡ larval_at h' n t) (sym e) (this l t at (subst (λ n. l ≡ larval_at h n t) e b))) in
    λ i. (head ∙ sym head') i ∷ rest i

pub larvals_of-set : (h : List RegEntry) (e : RegEntry) (change : Larval → Larval) (k : ℕ) (larvals : List Larval) (d : Larval)
    → larvals ≡ larvals_of h → begun_by e ≡ None → k < length larvals
    → ((n : ℕ) → n ≢ k → LeavesLarval e n)
    → ((larval : Larval) (text : List ℕ) → slice_get larvals k ≡ Some larval → larval ≡ larval_at h k text → change larval ≡ larval_at (h ++ e ∷ []) k text)
    → set larvals k (change (get_or larvals k d)) ≡ larvals_of (h ++ e ∷ [])
larvals_of-set h e change k larvals d are none within leaves this =
    let z : 0 + k ≡ k = omega arith in
    let texts : filter_map begun_by (h ++ e ∷ []) ≡ filter_map begun_by h = begun-push h e ∙ (ap (λ o. filter_map begun_by h ++ cons_option o []) none ∙ append-nil (filter_map begun_by h)) in
    larvals_from-set h (h ++ e ∷ []) change 0 k larvals (filter_map begun_by h) d are within
    (λ n t differ. larval_at-left h e n t (leaves n (λ q. differ (q ∙ sym z))))
    (λ l t at b. subst (λ n. change l ≡ larval_at (h ++ e ∷ []) n t) (sym z) (this l t at (subst (λ n. l ≡ larval_at h n t) z b)))
    ∙ ap (λ ts. larvals_from (h ++ e ∷ []) 0 ts) (sym texts)

-- the larval that a claim gets is there, and nobody has claimed it
record IsFree (larvals : List Larval) (n : ℕ) : Type 0 where
  larval : Larval
  at : slice_get larvals n ≡ Some larval
  free : is_unclaimed larval ≡ true

free_from : (from n : ℕ) (larvals : List Larval) → position_from is_unclaimed from larvals ≡ Some n → (k : ℕ) × (n ≡ from + k) × IsFree larvals k
free_from from n [] found = absurd cc
free_from from n (x ∷ xs) found = here (is_unclaimed x) refl found (free_from (from + 1) n xs)
  where
    here : (b : Bool) → is_unclaimed x ≡ b → cond b (Some from) (position_from is_unclaimed (from + 1) xs) ≡ Some n
        → (position_from is_unclaimed (from + 1) xs ≡ Some n → (k : ℕ) × (n ≡ (from + 1) + k) × IsFree xs k) → (k : ℕ) × (n ≡ from + k) × IsFree (x ∷ xs) k
    here true e h rest = let same : from ≡ n = cc in (0, omega arith, record { larval = x; at = refl; free = e })
    here false e h rest = let r = rest h in (suc r.0, omega (arith, r.1), record { larval = r.2.larval; at = r.2.at; free = r.2.free })

free_at : (larvals : List Larval) (number n : ℕ) → unclaimed_at larvals number ≡ Some n → IsFree larvals n
free_at larvals number n found = here (slice_get larvals number) refl found
  where
    here : (o : Option Larval) → slice_get larvals number ≡ o → cond (option_map_or is_unclaimed o false) (Some number) None ≡ Some n → IsFree larvals n
    here None e h = absurd cc
    here (Some larval) e h = test (is_unclaimed larval) refl h
      where
        test : (b : Bool) → is_unclaimed larval ≡ b → cond b (Some number) None ≡ Some n → IsFree larvals n
        test true f h = let same : number ≡ n = cc in subst (λ k. IsFree larvals k) same (record { larval = larval; at = e; free = f })
        test false f h = absurd cc

free_claimed : (larvals : List Larval) (named : Option ℕ) (n : ℕ) → claimed_number larvals named ≡ Some n → IsFree larvals n
free_claimed larvals (Some number) n found = free_at larvals number n found
free_claimed larvals None n found = let r = free_from 0 n larvals found in subst (λ k. IsFree larvals k) (let e : r.0 ≡ n = omega (arith, r.1) in e) r.2

slice_get-inside : (larvals : List Larval) (n : ℕ) (larval : Larval) → slice_get larvals n ≡ Some larval → n < length larvals
slice_get-inside [] n larval at = absurd cc
slice_get-inside (x ∷ xs) zero larval at = omega arith
slice_get-inside (x ∷ xs) (suc n) larval at = let r : n < length xs = slice_get-inside xs n larval at in omega arith

pub claim-within : (larvals : List Larval) (named : Option ℕ) (n : ℕ) → claimed_number larvals named ≡ Some n → n < length larvals
claim-within larvals named n found = let f = free_claimed larvals named n found in slice_get-inside larvals n f.larval f.at

pub claimed_answer-is : (larvals : List Larval) (named : Option ℕ) (n : ℕ) (text : List ℕ) → claimed_number larvals named ≡ Some n → text ≡ text_at larvals n → claimed_answer larvals named ≡ Some (record { larval = n; text = text })
claimed_answer-is larvals named n text found is = ap (λ o. option_map (λ number. record { larval = number; text = text_at larvals number }) o) found ∙ ap (λ (t : List ℕ). Some (record { larval = n; text = t })) (sym is)

no_value : {A : Type 0} (o : Option A) → is_none o ≡ true → o ≡ None
no_value None h = refl
no_value (Some a) h = absurd cc

pub and_left : (a b : Bool) → (a && b) ≡ true → a ≡ true
and_left true b h = refl
and_left false b h = h

and_right : (a b : Bool) → (a && b) ≡ true → b ≡ true
and_right true b h = h
and_right false b h = absurd cc

pub kept-claim : (h log : List RegEntry) (rows : List Row) (larvals larvals' : List Larval) (caller n : ℕ) (named : Option ℕ) (d : Larval)
    → IsKept h rows larvals → claimed_number larvals named ≡ Some n
    → log ≡ h ++ Claim caller n ∷ [] → larvals' ≡ set larvals n (claimed_larval caller (get_or larvals n d))
    → IsKept log rows larvals'
kept-claim h log rows larvals larvals' caller n named d kept found grown change =
    let e : RegEntry = Claim caller n in
    let f = free_claimed larvals named n found in
    let ended : is_none f.larval.ended ≡ true = and_left (is_none f.larval.ended) (is_none f.larval.claimed) f.free in
    let unclaimed : f.larval.claimed ≡ None = no_value f.larval.claimed (and_right (is_none f.larval.ended) (is_none f.larval.claimed) f.free) in
    let at : slice_get (larvals_of h) n ≡ Some f.larval = ap (λ ls. slice_get ls n) (sym kept.larvals_are) ∙ f.at in
    let right : IsRight h e = (
      ap (λ (o : Option Larval). option_map_or (λ larval. is_none larval.ended) o false) at ∙ ended,
      ap (λ (o : Option Larval). option_and_then (λ larval. larval.claimed) o) at ∙ unclaimed,
    ) in
    let here : eqb n n ≡ true = grind (arith, nat_tests) in
    kept_step h log rows rows larvals larvals' e kept right grown
    (kept.rows_are ∙ sym (rows_of-quiet h e refl (λ id. record { unlists_not = refl; gets_not = refl; puts_not = refl })))
    (change ∙ larvals_of-set h e (claimed_larval caller) n larvals d kept.larvals_are refl (slice_get-inside larvals n f.larval f.at)
    (λ m differ. record { claims_not = ap (λ b. cond b (Some caller) None) (unequal n m differ); ends_not = refl })
    (λ larval text at' is.
    let same : larval ≡ f.larval = cc (f.at) in
    let none : first_of (claims n) h ≡ None = sym (ap (λ (l : Larval). l.claimed) is) ∙ (ap (λ (l : Larval). l.claimed) same ∙ unclaimed) in
    let c : Some caller ≡ first_of (claims n) (h ++ e ∷ []) = sym (first_of-push (claims n) h e ∙ rw (none, here)) in
    let e' : larval.ended ≡ first_of (ends n) (h ++ e ∷ []) = ap (λ (l : Larval). l.ended) is ∙ sym (first_of-push (ends n) h e ∙ or_none (first_of (ends n) h)) in
    let t : larval.text ≡ text = ap (λ (l : Larval). l.text) is in
    λ i. record { text = t i; claimed = c i; ended = e' i }))

get_or_at : (larvals : List Larval) (n : ℕ) (d larval : Larval) → slice_get larvals n ≡ Some larval → get_or larvals n d ≡ larval
get_or_at [] n d larval at = absurd cc
get_or_at (x ∷ xs) zero d larval at = cc
get_or_at (x ∷ xs) (suc n) d larval at = get_or_at xs n d larval at

get_set : (larvals : List Larval) (n : ℕ) (larval : Larval) → n < length larvals → slice_get (set larvals n larval) n ≡ Some larval
get_set [] n larval lt = absurd (omega (arith, lt))
get_set (x ∷ xs) zero larval lt = refl
get_set (x ∷ xs) (suc n) larval lt = get_set xs n larval (omega (arith, lt))

-- the larval that was claimed is the caller's to end
pub claimed-to_end : (log : List RegEntry) (rows : List Row) (larvals larvals' : List Larval) (caller n : ℕ) (named : Option ℕ) (d : Larval)
    → IsKept log rows larvals' → claimed_number larvals named ≡ Some n → larvals' ≡ set larvals n (claimed_larval caller (get_or larvals n d))
    → (claimer log n ≡ Some caller) × (ended_as log n ≡ None)
claimed-to_end log rows larvals larvals' caller n named d kept found change =
    let f = free_claimed larvals named n found in
    let it : Larval = claimed_larval caller (get_or larvals n d) in
    let at : slice_get (larvals_of log) n ≡ Some it =
    ap (λ ls. slice_get ls n) (sym kept.larvals_are ∙ change) ∙ get_set larvals n it (slice_get-inside larvals n f.larval f.at) in
    let open' : it.ended ≡ None =
    ap (λ (l : Larval). l.ended) (get_or_at larvals n d f.larval f.at) ∙ no_value f.larval.ended (and_left (is_none f.larval.ended) (is_none f.larval.claimed) f.free) in (
      ap (λ (o : Option Larval). option_and_then (λ larval. larval.claimed) o) at,
      ap (λ (o : Option Larval). option_and_then (λ larval. larval.ended) o) at ∙ open',
    )
