-- What a look answers is what the plain registry finds.
use Rattle.std.proofs.Common.{◌≡◌, ℕ, ◌+◌, Bool, true, false, cond, ◌&&◌, ◌||◌, List, [], ◌∷◌, length, refl, ap, sym, ◌∙◌, Option, Some, None}
use Rattle.std.specs.List.{list_any, position_from}
use Rattle.std.specs.Option.{option_or, option_map}
use Rattle.std.specs.Str.{bytes_eq}
use Rattle.alg_registry.specs.declared.row.Row.{Row}
use Rattle.alg_registry.specs.declared.row.Larval.{Larval}
use Rattle.alg_registry.specs.declared.entry.Looked.{Looked}
use Rattle.alg_registry.specs.declared.entry.Looked.TheVariants.{Found, Began, Absent}
use Rattle.alg_registry.specs.declared.entry.RegEntry.{RegEntry}
use Rattle.alg_registry.specs.Rows.{rows_of, larvals_of}
use Rattle.alg_registry.specs.Answers.{may_find, better, best_from, ended_with, is_pending, is_template, look_answer, found_driver, found_best, not_found}
use Rattle.alg_registry.specs.Held.{is_plain_driver}
use Rattle.alg_registry.specs.Larvals.{best_by}
use Rattle.sequential_model.specs.Registry.{PlainRegistry, ids_for, found}
use Rattle.sequential_model.proofs.Agreeing.{IsRegistryOf, is_among}

best_same : (ids text : List ℕ) (plain : Bool) (larvals : List Larval) → ((id : ℕ) → is_among id ids ≡ list_any (ended_with text id) larvals) → (n : ℕ) (rows : List Row) → best_by ids text plain n rows ≡ best_from larvals text plain n rows
best_same ids text plain larvals same n [] = refl
best_same ids text plain larvals same n (row ∷ rows) =
    let rest = best_same ids text plain larvals same (n + 1) rows in
    λ i. cond (may_find plain row && (bytes_eq row.spec.name text || same n i)) (better n row (rest i)) (rest i)

-- ---- over any place and any best entry

abbrev pub chosen : Option ℕ → Option (ℕ × ℕ) → Option ℕ
chosen place best = option_or place (option_map (λ b. b.0) best)

abbrev pub answered : List Larval → List ℕ → Option ℕ → Option (ℕ × ℕ) → Looked
answered larvals text (Some id) best = Found id
answered larvals text None best = found_best larvals text best

not_found-found : (larvals : List Larval) (text : List ℕ) (id : ℕ) (o : Option ℕ) → not_found larvals text o ≡ Found id → ⊥
not_found-found larvals text id (Some n) e = cc
not_found-found larvals text id None e = by (is_template text) e
  where
    by : (b : Bool) → cond b (Began (length larvals)) Absent ≡ Found id → ⊥
    by true f = cc
    by false f = cc

found_some : (larvals : List Larval) (text : List ℕ) (id : ℕ) (place : Option ℕ) (best : Option (ℕ × ℕ)) → answered larvals text place best ≡ Found id → chosen place best ≡ Some id
found_some larvals text id (Some k) best e = let f : k ≡ id = cc in ap (λ (n : ℕ). Some n) f
found_some larvals text id None (Some best) e = let f : best.0 ≡ id = cc in ap (λ (n : ℕ). Some n) f
found_some larvals text id None None e = absurd (not_found-found larvals text id (position_from (is_pending text) 0 larvals) e)

-- a look that begins a larval, or finds nothing
none_began : (larvals : List Larval) (text : List ℕ) (n : ℕ) (place : Option ℕ) (best : Option (ℕ × ℕ)) → answered larvals text place best ≡ Began n → (chosen place best ≡ None) × (is_template text ≡ true)
none_began larvals text n (Some k) best e = absurd cc
none_began larvals text n None (Some best) e = absurd cc
none_began larvals text n None None e = (refl, by_place (position_from (is_pending text) 0 larvals) e)
  where
    by : (b : Bool) → cond b (Began (length larvals)) Absent ≡ Began n → b ≡ true
    by true f = refl
    by false f = absurd cc

    by_place : (o : Option ℕ) → not_found larvals text o ≡ Began n → is_template text ≡ true
    by_place (Some m) f = absurd cc
    by_place None f = by (is_template text) f

none_absent : (larvals : List Larval) (text : List ℕ) (place : Option ℕ) (best : Option (ℕ × ℕ)) → answered larvals text place best ≡ Absent → (chosen place best ≡ None) × (is_template text ≡ false)
none_absent larvals text (Some k) best e = absurd cc
none_absent larvals text None (Some best) e = absurd cc
none_absent larvals text None None e = (refl, by_place (position_from (is_pending text) 0 larvals) e)
  where
    by : (b : Bool) → cond b (Began (length larvals)) Absent ≡ Absent → b ≡ false
    by true f = absurd cc
    by false f = refl

    by_place : (o : Option ℕ) → not_found larvals text o ≡ Absent → is_template text ≡ false
    by_place (Some m) f = absurd cc
    by_place None f = by (is_template text) f

-- ---- over a history

as_answered : (rows : List Row) (larvals : List Larval) (text : List ℕ) (plain : Bool) (place : Option ℕ) → found_driver rows larvals text plain place ≡ answered larvals text place (best_from larvals text plain 0 rows)
as_answered rows larvals text plain (Some id) = refl
as_answered rows larvals text plain None = refl

answer_is : (registry : PlainRegistry) (h : List RegEntry) (text : List ℕ) (plain : Bool) → IsRegistryOf registry h
    → look_answer (rows_of h) (larvals_of h) text plain ≡ answered (larvals_of h) text (position_from (is_plain_driver text plain) 0 registry.rows) (best_by (ids_for text registry.built) text plain 0 registry.rows)
answer_is registry h text plain is =
    ap (λ (rows : List Row). look_answer rows (larvals_of h) text plain) (sym is.rows)
    ∙ (as_answered registry.rows (larvals_of h) text plain (position_from (is_plain_driver text plain) 0 registry.rows)
    ∙ ap (λ best. answered (larvals_of h) text (position_from (is_plain_driver text plain) 0 registry.rows) best) (sym (best_same (ids_for text registry.built) text plain (larvals_of h) (is.built text) 0 registry.rows)))

pub found_by : (registry : PlainRegistry) (h : List RegEntry) (text : List ℕ) (plain : Bool) (id : ℕ) → IsRegistryOf registry h → look_answer (rows_of h) (larvals_of h) text plain ≡ Found id → found registry text plain ≡ Some id
found_by registry h text plain id is e =
    found_some (larvals_of h) text id (position_from (is_plain_driver text plain) 0 registry.rows) (best_by (ids_for text registry.built) text plain 0 registry.rows) (sym (answer_is registry h text plain is) ∙ e)

pub began_by : (registry : PlainRegistry) (h : List RegEntry) (text : List ℕ) (plain : Bool) (n : ℕ) → IsRegistryOf registry h → look_answer (rows_of h) (larvals_of h) text plain ≡ Began n → (found registry text plain ≡ None) × (is_template text ≡ true)
began_by registry h text plain n is e =
    none_began (larvals_of h) text n (position_from (is_plain_driver text plain) 0 registry.rows) (best_by (ids_for text registry.built) text plain 0 registry.rows) (sym (answer_is registry h text plain is) ∙ e)

pub absent_by : (registry : PlainRegistry) (h : List RegEntry) (text : List ℕ) (plain : Bool) → IsRegistryOf registry h → look_answer (rows_of h) (larvals_of h) text plain ≡ Absent → (found registry text plain ≡ None) × (is_template text ≡ false)
absent_by registry h text plain is e =
    none_absent (larvals_of h) text (position_from (is_plain_driver text plain) 0 registry.rows) (best_by (ids_for text registry.built) text plain 0 registry.rows) (sym (answer_is registry h text plain is) ∙ e)
