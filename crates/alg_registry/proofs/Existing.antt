-- What a larval ended with exists.
use Rattle.std.proofs.Common.{◌≡◌, ℕ, ◌<◌, ◌≤◌, Bool, true, false, eqb, if◌then◌else◌, List, [], ◌∷◌, ◌++◌, length, refl, ap, sym, ◌∙◌, arith, Option, Some, None, Ok, append_assoc, length-append}
use Rattle.std.specs.Prelude.{slice_get, nat_le}
use Rattle.std.specs.List.{cons_option, list_any, list_all}
use Rattle.std.specs.Option.{option_or, option_and_then}
use Rattle.kc_base.specs.declared.error_numbers.Errno.TheVariants.{EAGAIN, EEXIST, ENFILE}
use Rattle.alg_registry.specs.declared.spec.Spec.{Spec}
use Rattle.alg_registry.specs.declared.row.Row.{Row}
use Rattle.alg_registry.specs.declared.entry.Ended.{Ended}
use Rattle.alg_registry.specs.declared.entry.Ended.TheVariants as ended
use Rattle.alg_registry.specs.declared.entry.EndAnswer.TheVariants.{Built, Joined, Failed, NoMemory}
use Rattle.alg_registry.specs.declared.entry.RegEntry.{RegEntry}
use Rattle.alg_registry.specs.declared.entry.RegEntry.TheVariants.{Enlist, Look, Claim, End, Waited, Unlist, Get, Put, Refs}
use Rattle.alg_registry.specs.declared.entry.RegEntry.TheVariants as entry
use Rattle.alg_registry.specs.Rows.{texts, registered, registered_by, rows_of, first_of, ends, listed_at}
use Rattle.alg_registry.specs.Answers.{built_answer, joined_or_built, driver_place, clashes_with, held_count}
use Rattle.alg_registry.specs.Legal.{LegalReg, IsRight, ended_as}
use Rattle.alg_registry.specs.Made.{outcome_of}
use Rattle.alg_registry.proofs.Steps.{first_of-push, registered-push}
use Rattle.alg_registry.proofs.Fresh.{length-rows_of, is_listed-within}
use Rattle.alg_registry.proofs.Stack.{legal_along, ended-by}
use Rattle.std.proofs.lemmas.List.{append-nil}

pub built_id : (rows : List Row) (spec made : Spec) (id : ℕ) → Built id made ≡ built_answer rows spec → id ≡ length rows
built_id rows spec made id e = by_children (list_all (listed_at rows) spec.below) (driver_place rows spec.driver) e
  where
    by_place : (c d : Bool) → Built id made ≡ (if c then Failed EEXIST else (if d then Failed ENFILE else Built (length rows) spec)) → id ≡ length rows
    by_place true d q = absurd cc
    by_place false true q = absurd cc
    by_place false false q = cc

    by_driver : (o : Option ℕ) → Built id made ≡ joined_or_built rows spec o → id ≡ length rows
    by_driver (Some other) q = absurd cc
    by_driver None q = by_place (list_any (clashes_with spec) rows) (nat_le 4096 (held_count rows)) q

    by_children : (b : Bool) (o : Option ℕ) → Built id made ≡ (if b then joined_or_built rows spec o else Failed EAGAIN) → id ≡ length rows
    by_children true o q = by_driver o q
    by_children false o q = absurd cc

abbrev pub id_of : Ended → Option ℕ
id_of (ended.Built id) = Some id
id_of (ended.Joined id) = Some id
id_of _ = None

abbrev pub EndsExist : List RegEntry → Type 0
EndsExist h = (n id : ℕ) (e : Ended) → first_of (ends n) h ≡ Some e → id_of e ≡ Some id → id < length (registered h)

pub if_some : {B : Type 0} (b : Bool) (x y : B) → (if b then Some x else None) ≡ Some y → x ≡ y
if_some true x y e = cc
if_some false x y e = absurd cc

pub end_exists : (h : List RegEntry) (x : RegEntry) (n id : ℕ) (e : Ended) → IsRight h x → ends n x ≡ Some e → id_of e ≡ Some id → id < length (registered (h ++ x ∷ []))
end_exists h (End caller larval (Built made spec)) n id e right q i =
    let f : ended.Built made ≡ e = if_some (eqb larval n) (ended.Built made) e q in
    let g : Some made ≡ Some id = ap id_of f ∙ i in
    let k : made ≡ id = cc in
    omega (arith, k, built_id (rows_of h) spec spec made right.2, length-rows_of h, ap length (registered-push h (End caller larval (Built made spec))), length-append (registered h) (spec ∷ []))
end_exists h (End caller larval (Joined joined below)) n id e right q i =
    let f : ended.Joined joined ≡ e = if_some (eqb larval n) (ended.Joined joined) e q in
    let g : Some joined ≡ Some id = ap id_of f ∙ i in
    let k : joined ≡ id = cc in
    let lt : joined < length (rows_of h) = is_listed-within (rows_of h) joined right.2.1 in
    omega (arith, k, lt, length-rows_of h, ap length (registered-push h (End caller larval (Joined joined below))), length-append (registered h) [])
end_exists h (End caller larval (Failed errno)) n id e right q i =
    let f : ended.Failed errno ≡ e = if_some (eqb larval n) (ended.Failed errno) e q in
    absurd (let g : None ≡ Some id = ap id_of f ∙ i in cc)
end_exists h (End caller larval NoMemory) n id e right q i =
    let f : ended.NoMemory ≡ e = if_some (eqb larval n) ended.NoMemory e q in
    absurd (let g : None ≡ Some id = ap id_of f ∙ i in cc)
end_exists h (Enlist by spec answer) n id e right q i = absurd cc
end_exists h (Look by text plain answer) n id e right q i = absurd cc
end_exists h (Claim by larval) n id e right q i = absurd cc
end_exists h (Waited by larval) n id e right q i = absurd cc
end_exists h (Unlist by driver answer) n id e right q i = absurd cc
end_exists h (Get by taken ok) n id e right q i = absurd cc
end_exists h (Put by given) n id e right q i = absurd cc
end_exists h (Refs by driver) n id e right q i = absurd cc
end_exists h (entry.List by) n id e right q i = absurd cc

pub exist_step : (h : List RegEntry) (x : RegEntry) → EndsExist h → IsRight h x → EndsExist (h ++ x ∷ [])
exist_step h x exist right n id e q i = by_older (first_of (ends n) h) refl (sym (first_of-push (ends n) h x) ∙ q)
  where
    by_older : (o : Option Ended) → first_of (ends n) h ≡ o → option_or (first_of (ends n) h) (ends n x) ≡ Some e → id < length (registered (h ++ x ∷ []))
    by_older (Some older) f g =
        let k : Some older ≡ Some e = ap (λ o. option_or o (ends n x)) (sym f) ∙ g in
        let m : older ≡ e = cc in
        let lt : id < length (registered h) = exist n id older f (ap id_of m ∙ i) in
        omega (arith, lt, ap length (registered-push h x), length-append (registered h) (cons_option (registered_by x) []))
    by_older None f g = end_exists h x n id e right (ap (λ o. option_or o (ends n x)) (sym f) ∙ g) i

pub ends_exist : (h : List RegEntry) → LegalReg h → EndsExist h
ends_exist h legal = legal_along EndsExist exist_step [] h (λ n id e q i. absurd cc) legal

pub some_within : {A B : Type 0} (o : Option A) (b : Option B) (e : B) → option_and_then (λ _. b) o ≡ Some e → b ≡ Some e
some_within None b e q = absurd cc
some_within (Some a) b e q = q

pub outcome_exists : (h : List RegEntry) (n id : ℕ) → LegalReg h → outcome_of (ended_as h n) ≡ Some (Ok id) → id < length (registered h)
outcome_exists h n id legal q = by_end (ended_as h n) refl q
  where
    exists : (e : Ended) → ended_as h n ≡ Some e → id_of e ≡ Some id → id < length (registered h)
    exists e f i = ends_exist h legal n id e (some_within (slice_get (texts h) n) (first_of (ends n) h) e (sym (ended-by h n) ∙ f)) i

    by_end : (o : Option Ended) → ended_as h n ≡ o → outcome_of o ≡ Some (Ok id) → id < length (registered h)
    by_end None f g = absurd cc
    by_end (Some (ended.Built made)) f g = let k : made ≡ id = cc in exists (ended.Built made) f (ap (λ (m : ℕ). Some m) k)
    by_end (Some (ended.Joined joined)) f g = let k : joined ≡ id = cc in exists (ended.Joined joined) f (ap (λ (m : ℕ). Some m) k)
    by_end (Some (ended.Failed errno)) f g = absurd cc
    by_end (Some ended.NoMemory) f g = absurd cc

pub registered_grow : (h more : List RegEntry) → length (registered h) ≤ length (registered (h ++ more))
registered_grow h [] = omega (arith, ap (λ x. length (registered x)) (append-nil h))
registered_grow h (e ∷ more) =
    omega (arith, registered_grow (h ++ e ∷ []) more, ap (λ x. length (registered x)) (append_assoc h (e ∷ []) more), ap length (registered-push h e), length-append (registered h) (cons_option (registered_by e) []))
