-- An entry has the references that callers took, and one of each held entry that stands on it.
use Rattle.std.proofs.Common.{◌≡◌, ℕ, zero, suc, ◌+◌, ◌<◌, ◌≤◌, Bool, true, false, cond, ◌&&◌, eqb, List, [], ◌∷◌, length, get_or, take, drop, Option, Some, refl, sym, ap, ◌∙◌, subst, arith, zero-add}
use Rattle.std.specs.Prelude.{slice_get}
use Rattle.std.specs.List.{list_any}
use Rattle.std.specs.Option.{option_map_or}
use Rattle.std.proofs.lemmas.Bool.Decides.{nat_tests}
use Rattle.std.proofs.lemmas.List.{length-take-le}
use Rattle.alg_registry.specs.declared.spec.Spec.{Spec}
use Rattle.alg_registry.specs.declared.row.Row.{Row}
use Rattle.alg_registry.specs.Rows.{rows_of, registered, taken_of, is_held, stands_on, holders}
use Rattle.alg_registry.specs.Lifetimes.{ReferencesAre}
use Rattle.alg_registry.proofs.Standing.{bare-rows_of}
use Rattle.alg_registry.proofs.Fresh.{length-rows_of}
use Rattle.alg_registry.proofs.LifetimeLaws.{get_noted}
use Rattle.alg_registry.proofs.Listed.{Older, children-older}
use Rattle.alg_registry.proofs.Restanding.{weight, holders-cons, stands-at}
use Rattle.alg_registry.proofs.Holding.{stands-rows_of, get_there}
use Rattle.alg_registry.proofs.Changing.{a_row}

none_older : (id n : ℕ) (ids : List ℕ) → Older n ids → n ≤ id → list_any (λ child. eqb child id) ids ≡ false
none_older id n [] older le = refl
none_older id n (c ∷ ids) older le =
    let lt : c < n = older.0 in
    let no : eqb c id ≡ false = grind (arith, nat_tests) in
    rw no (none_older id n ids older.1 le)

light : (a b : Bool) → b ≡ false → ◌≡◌ {A = ℕ} (cond (a && b) 1 0) 0
light a true e = absurd cc
light true false e = refl
light false false e = refl

-- the first entries don't stand on it
holders_newer : (id n : ℕ) (rows : List Row) → ((k : ℕ) (row : Row) → k < n → slice_get rows k ≡ Some row → stands_on id row ≡ false) → holders id rows ≡ holders id (drop n rows)
holders_newer id zero rows none = refl
holders_newer id (suc n) [] none = refl
holders_newer id (suc n) (row ∷ rows) none =
    let first : weight id row ≡ 0 = light (is_held row) (stands_on id row) (none 0 row (omega arith) refl) in
    let rest : holders id rows ≡ holders id (drop n rows) = holders_newer id n rows (λ k r lt at. none (suc k) r (omega (arith, lt)) at) in
    omega (arith, holders-cons id row rows, first, rest)

pub references_are : ReferencesAre
references_are h id legal there =
    let rows : List Row = rows_of h in
    let within : id < length rows = omega (arith, there, length-rows_of h) in
    let row : Row = get_or rows id a_row in
    let at : slice_get rows id ≡ Some row = get_there rows id a_row within in
    let stands = stands-at [] rows id a_row within (stands-rows_of h) in
    let place : holders (length (take id rows)) (drop (suc id) rows) ≡ holders id (drop (suc id) rows) = ap (λ (k : ℕ). holders k (drop (suc id) rows)) (length-take-le id rows (omega (arith, within))) in
    let noted = get_noted h 0 id rows (registered h) row (bare-rows_of h) at in
    let taken : row.taken ≡ taken_of h id = ap (λ (r : Row). r.taken) noted.2 ∙ ap (λ (k : ℕ). taken_of h k) (zero-add id) in
    let newer : holders id rows ≡ holders id (drop (suc id) rows) = holders_newer id (suc id) rows (λ k r lt found.
    let n = get_noted h 0 k rows (registered h) r (bare-rows_of h) found in
    let spec : r.spec ≡ n.0 = ap (λ (x : Row). x.spec) n.2 in
    subst (λ (s : Spec). list_any (λ child. eqb child id) s.below ≡ false) (sym spec) (none_older id k n.0.below (children-older h legal k n.0 n.1) (omega (arith, lt)))) in
    let sum : row.references ≡ taken_of h id + holders id rows = omega (arith, stands.1, taken, newer, place) in
    ap (λ (o : Option Row). option_map_or (λ r. r.references) o 0) at ∙ sum
