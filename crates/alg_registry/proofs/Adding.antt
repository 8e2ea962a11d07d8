-- A new entry over listed ones gives each of them one reference, and changes nothing else.
use Rattle.std.proofs.Common.{◌≡◌, ℕ, suc, ◌+◌, Bool, true, false, cond, ◌||◌, ◌&&◌, eqb, ltb, List, [], ◌∷◌, ◌++◌, length, map, refl, sym, ap, ◌∙◌, arith, append_assoc, length-append}
use Rattle.std.specs.List.{list_any, list_all}
use Rattle.std.proofs.lemmas.List.{append-nil}
use Rattle.std.proofs.lemmas.List.Sums.{sum_by-append}
use Rattle.std.proofs.lemmas.Bool.Decides.{nat_tests}
use Rattle.std.proofs.lemmas.Bool.{and_parts}
use Rattle.alg_registry.specs.declared.spec.Spec.{Spec}
use Rattle.alg_registry.specs.declared.row.Row.{Row}
use Rattle.alg_registry.specs.Calls.{new_row, listed_row_of}
use Rattle.alg_registry.specs.Rows.{is_held, stands_on, holders, listed_at, stays_listed, standing}
use Rattle.alg_registry.specs.MarkCounts.{referred}
use Rattle.alg_registry.specs.Held.{held_from, listed_from}
use Rattle.alg_registry.proofs.Standing.{bare, map-push}
use Rattle.alg_registry.proofs.Restanding.{Stands, mark, same_stays, same_push, same_length, stands-from, standing-stands, standing-bare, weight, holders-cons, held_listed}
use Rattle.alg_registry.proofs.Tallies.{more, bit}

abbrev pub AreChildrenListed : List ℕ → ℕ → List Row → Type 0
AreChildrenListed below n [] = Unit {0}
AreChildrenListed below n (row ∷ rows) = (list_any (λ child. eqb child n) below ≡ true → row.listed ≡ true) × AreChildrenListed below (n + 1) rows

all_has : (q : ℕ → Bool) (n : ℕ) (ids : List ℕ) → list_all q ids ≡ true → list_any (λ child. eqb child n) ids ≡ true → q n ≡ true
all_has q n [] all any = absurd cc
all_has q n (x ∷ ids) all any =
    let parts = and_parts (q x) (list_all q ids) all in
    here (eqb x n) refl any (all_has q n ids parts.1) parts.0
  where
    here : (b : Bool) → eqb x n ≡ b → (b || list_any (λ child. eqb child n) ids) ≡ true → (list_any (λ child. eqb child n) ids ≡ true → q n ≡ true) → q x ≡ true → q n ≡ true
    here true e any rest first = let same : x ≡ n = grind (arith, nat_tests) in sym (ap q same) ∙ first
    here false e any rest first = rest any

listed_place : (before : List Row) (row : Row) (rows : List Row) → listed_at (before ++ row ∷ rows) (length before) ≡ row.listed
listed_place [] row rows = refl
listed_place (x ∷ before) row rows = listed_place before row rows

children_listed : (below : List ℕ) (before rows : List Row) (n : ℕ) → n ≡ length before → list_all (listed_at (before ++ rows)) below ≡ true → AreChildrenListed below n rows
children_listed below before [] n at all = tt
children_listed below before (row ∷ rows) n at all = (
  λ any. sym (ap (λ (k : ℕ). listed_at (before ++ row ∷ rows) k) at ∙ listed_place before row rows) ∙ all_has (listed_at (before ++ row ∷ rows)) n below all any,
  children_listed below (before ++ row ∷ []) rows (n + 1) (omega (arith, at, length-append before (row ∷ [])))
      (ap (λ (rs : List Row). list_all (listed_at rs) below) (append_assoc before (row ∷ []) rows) ∙ all),
)

pub children-listed : (below : List ℕ) (rows : List Row) → list_all (listed_at rows) below ≡ true → AreChildrenListed below 0 rows
children-listed below rows all = children_listed below [] rows 0 refl all

held_referred : (row : Row) (b : Bool) → (b ≡ true → row.listed ≡ true) → is_held (more (bit b) row) ≡ is_held row
held_referred row true listed = held_listed (more 1 row) (listed refl) ∙ sym (held_listed row (listed refl))
held_referred row false listed = let same : row.references + 0 ≡ row.references = omega arith in λ i. row.listed || ltb 0 (same i)

holders_referred : (below : List ℕ) (n m : ℕ) (rows : List Row) → AreChildrenListed below n rows → holders m (referred n below rows) ≡ holders m rows
holders_referred below n m [] listed = refl
holders_referred below n m (row ∷ rows) listed =
    let b : Bool = list_any (λ child. eqb child n) below in
    let same : weight m (more (bit b) row) ≡ weight m row = λ i. cond (held_referred row b listed.0 i && stands_on m row) 1 0 in
    omega (arith, holders-cons m (more (bit b) row) (referred (n + 1) below rows), holders-cons m row rows, same, holders_referred below (n + 1) m rows listed.1)

holders_push : (m : ℕ) (rows : List Row) (last : Row) → holders m (rows ++ last ∷ []) ≡ holders m rows + weight m last
holders_push m rows last = omega (arith, sum_by-append (weight m) rows (last ∷ []))

add_stands : (older older' rows : List Row) (last : Row) (n : ℕ) → n ≡ length older → map mark older' ≡ map mark older → Stands older rows → AreChildrenListed last.spec.below n rows
    → is_held last ≡ true → last.references ≡ last.taken → last.listed ≡ stays_listed (older ++ rows) last
    → Stands older' (referred n last.spec.below rows ++ last ∷ [])
add_stands older older' [] last n at same stands listed held references stays = (
  stays ∙ (ap (λ (rs : List Row). stays_listed rs last) (append-nil older) ∙ sym (same_stays older older' last same)),
  omega (arith, references),
  tt,
)
add_stands older older' (row ∷ rows) last n at same stands listed held references stays =
    let b : Bool = stands_on n last in
    let first : Row = more (bit b) row in
    let len : length older' ≡ n = omega (arith, same_length older older' same, at) in
    let one : weight n last ≡ bit b = λ i. bit (held i && b) in
    let all : holders n (referred (n + 1) last.spec.below rows ++ last ∷ []) ≡ holders n rows + bit b =
    omega (arith, holders_push n (referred (n + 1) last.spec.below rows) last, holders_referred last.spec.below (n + 1) n rows listed.1, one) in
    let old : row.references ≡ row.taken + holders n rows = stands.1 ∙ ap (λ (k : ℕ). row.taken + holders k rows) (sym at) in
    let new : row.references + bit b ≡ row.taken + holders n (referred (n + 1) last.spec.below rows ++ last ∷ []) = omega (arith, old, all) in (
      stands.0 ∙ sym (same_stays older older' row same),
      new ∙ ap (λ (k : ℕ). row.taken + holders k (referred (n + 1) last.spec.below rows ++ last ∷ [])) (sym len),
      add_stands (older ++ row ∷ []) (older' ++ first ∷ []) rows last (n + 1) (omega (arith, at, length-append older (row ∷ []))) (same_push older older' row first same refl) stands.2 listed.1 held references
          (stays ∙ ap (λ (rs : List Row). stays_listed rs last) (sym (append_assoc older (row ∷ []) rows))),
    )

bare_referred : (n : ℕ) (below : List ℕ) (rows : List Row) → map bare (referred n below rows) ≡ map bare rows
bare_referred n below [] = refl
bare_referred n below (row ∷ rows) = ap (λ rs. bare row ∷ rs) (bare_referred (n + 1) below rows)

pub add-standing : (rows : List Row) (spec : Spec) → standing rows ≡ rows → list_all (listed_at rows) spec.below ≡ true
    → referred 0 spec.below rows ++ listed_row_of spec ∷ [] ≡ standing (rows ++ new_row spec ∷ [])
add-standing rows spec stands all =
    let last : Row = listed_row_of spec in
    let added : List Row = referred 0 spec.below rows ++ last ∷ [] in
    let still : Stands [] added = add_stands [] [] rows last 0 refl refl (stands-from rows stands) (children-listed spec.below rows all) refl refl (sym all) in
    let same : map bare added ≡ map bare (rows ++ new_row spec ∷ []) =
    map-push (referred 0 spec.below rows) last ∙ (ap (λ rs. rs ++ bare last ∷ []) (bare_referred 0 spec.below rows) ∙ sym (map-push rows (new_row spec))) in
    sym (standing-stands added still) ∙ standing-bare added (rows ++ new_row spec ∷ []) same

held_added : (below : List ℕ) (n : ℕ) (rows : List Row) (last : Row) (id : ℕ) → AreChildrenListed below n rows → is_held last ≡ true → id ≡ n + length rows
    → held_from n (referred n below rows ++ last ∷ []) ≡ held_from n rows ++ id ∷ []
held_added below n [] last id listed held at = let e : n ≡ id = omega (arith, at) in λ i. cond (held i) (e i ∷ []) []
held_added below n (row ∷ rows) last id listed held at =
    let b : Bool = list_any (λ child. eqb child n) below in
    let rest = held_added below (n + 1) rows last id listed.1 held (omega (arith, at)) in
    (λ i. cond (held_referred row b listed.0 i) (n ∷ rest i) (rest i)) ∙ here (is_held row)
  where
    here : (c : Bool) → cond c (n ∷ held_from (n + 1) rows ++ id ∷ []) (held_from (n + 1) rows ++ id ∷ []) ≡ cond c (n ∷ held_from (n + 1) rows) (held_from (n + 1) rows) ++ id ∷ []
    here true = refl
    here false = refl

pub held-added : (below : List ℕ) (rows : List Row) (last : Row) (id : ℕ) → list_all (listed_at rows) below ≡ true → is_held last ≡ true → id ≡ length rows
    → held_from 0 (referred 0 below rows ++ last ∷ []) ≡ held_from 0 rows ++ id ∷ []
held-added below rows last id all held at = held_added below 0 rows last id (children-listed below rows all) held (omega (arith, at))

listed_added : (below : List ℕ) (n : ℕ) (rows : List Row) (last : Row) (id : ℕ) → last.listed ≡ true → id ≡ n + length rows → listed_from n (referred n below rows ++ last ∷ []) ≡ listed_from n rows ++ id ∷ []
listed_added below n [] last id listed at = let e : n ≡ id = omega (arith, at) in λ i. cond (listed i) (e i ∷ []) []
listed_added below n (row ∷ rows) last id listed at =
    let rest = listed_added below (n + 1) rows last id listed (omega (arith, at)) in
    (λ i. cond row.listed (n ∷ rest i) (rest i)) ∙ here row.listed
  where
    here : (c : Bool) → cond c (n ∷ listed_from (n + 1) rows ++ id ∷ []) (listed_from (n + 1) rows ++ id ∷ []) ≡ cond c (n ∷ listed_from (n + 1) rows) (listed_from (n + 1) rows) ++ id ∷ []
    here true = refl
    here false = refl

pub listed-added : (below : List ℕ) (rows : List Row) (last : Row) (id : ℕ) → last.listed ≡ true → id ≡ length rows → listed_from 0 (referred 0 below rows ++ last ∷ []) ≡ listed_from 0 rows ++ id ∷ []
listed-added below rows last id listed at = listed_added below 0 rows last id listed (omega (arith, at))

pub length-referred : (n : ℕ) (below : List ℕ) (rows : List Row) → length (referred n below rows) ≡ length rows
length-referred n below [] = refl
length-referred n below (row ∷ rows) = ap suc (length-referred (n + 1) below rows)
