-- What a caller has a reference to is held, and what is listed is what neither it nor anything below it was unlisted.
use Rattle.std.proofs.Common.{◌≡◌, ℕ, zero, suc, ◌+◌, ◌<◌, Bool, true, false, cond, ◌&&◌, ◌||◌, eqb, List, [], ◌∷◌, ◌++◌, length, get_or, Option, Some, refl, ap, ◌∙◌, subst, arith}
use Rattle.std.specs.Prelude.{slice_get, count_by}
use Rattle.std.specs.List.{list_any}
use Rattle.std.specs.Option.{option_map_or}
use Rattle.std.proofs.lemmas.List.Sums.{sum_by-append}
use Rattle.std.proofs.lemmas.Bool.Decides.{nat_tests}
use Rattle.alg_registry.specs.declared.row.Row.{Row}
use Rattle.alg_registry.specs.declared.entry.RegEntry.{RegEntry}
use Rattle.alg_registry.specs.declared.entry.RegEntry.TheVariants.{Enlist, Look, Claim, End, Waited, Unlist, Get, Put, Refs}
use Rattle.alg_registry.specs.declared.entry.RegEntry.TheVariants as entry
use Rattle.alg_registry.specs.Rows.{rows_of, is_held}
use Rattle.alg_registry.specs.Legal.{LegalReg, HasReference, gets_as, puts_as}
use Rattle.alg_registry.specs.Lifetimes.{HeldByCaller, HeldFromGetToPut}
use Rattle.alg_registry.proofs.Steps.{bit}
use Rattle.alg_registry.proofs.Balance.{balanced, gets_where, puts_where, count_same, count_cons}
use Rattle.alg_registry.proofs.Histories.{legal_front}
use Rattle.alg_registry.proofs.Keeping.{put-within, put-taken}
use Rattle.alg_registry.proofs.Restanding.{Stands, stands-at, stands-standing, held_referenced, standing-rows_of}
use Rattle.alg_registry.proofs.Changing.{a_row}

pub get_there : (rows : List Row) (k : ℕ) (d : Row) → k < length rows → slice_get rows k ≡ Some (get_or rows k d)
get_there [] k d lt = absurd (omega (arith, lt))
get_there (row ∷ rows) zero d lt = refl
get_there (row ∷ rows) (suc k) d lt = get_there rows k d (omega (arith, lt))

pub stands-rows_of : (h : List RegEntry) → Stands [] (rows_of h)
stands-rows_of h = subst (λ (rows : List Row). Stands [] rows) (standing-rows_of h (rows_of h) refl) (stands-standing (rows_of h))

pub held_by_caller : HeldByCaller
held_by_caller h caller id legal has =
    let rows : List Row = rows_of h in
    let lt : id < length rows = put-within h rows caller id legal refl has in
    let row : Row = get_or rows id a_row in
    let taken : 0 < row.taken = put-taken h rows caller id a_row legal refl has in
    let stands = stands-at [] rows id a_row lt (stands-rows_of h) in
    let some : 0 < row.references = omega (arith, taken, stands.1) in
    ap (λ (o : Option Row). option_map_or is_held o false) (get_there rows id a_row lt) ∙ held_referenced row some

gets_are : (caller id : ℕ) (e : RegEntry) → gets_as caller id e ≡ gets_where (λ c i. eqb c caller && eqb i id) e
gets_are caller id (Get c i true) = refl
gets_are caller id (Get c i false) = refl
gets_are caller id (Put c given) = refl
gets_are caller id (Enlist c spec answer) = refl
gets_are caller id (Look c text plain answer) = refl
gets_are caller id (Claim c larval) = refl
gets_are caller id (End c larval answer) = refl
gets_are caller id (Waited c larval) = refl
gets_are caller id (Unlist c driver answer) = refl
gets_are caller id (Refs c driver) = refl
gets_are caller id (entry.List c) = refl

puts_are : (caller id : ℕ) (e : RegEntry) → puts_as caller id e ≡ puts_where (λ c i. eqb c caller && eqb i id) e
puts_are caller id (Put c given) = refl
puts_are caller id (Get c i ok) = refl
puts_are caller id (Enlist c spec answer) = refl
puts_are caller id (Look c text plain answer) = refl
puts_are caller id (Claim c larval) = refl
puts_are caller id (End c larval answer) = refl
puts_are caller id (Waited c larval) = refl
puts_are caller id (Unlist c driver answer) = refl
puts_are caller id (Refs c driver) = refl
puts_are caller id (entry.List c) = refl

count_none : (p : RegEntry → Bool) (h : List RegEntry) → list_any p h ≡ false → count_by p h ≡ 0
count_none p [] none = refl
count_none p (e ∷ h) none = count_cons p e h ∙ here (p e) (list_any p h) none (λ rest. count_none p h rest)
  where
    here : (b c : Bool) → (b || c) ≡ false → (c ≡ false → count_by p h ≡ 0) → cond b 1 0 + count_by p h ≡ 0
    here true c q rest = absurd cc
    here false c q rest = omega (arith, rest q)

count_more : (p : RegEntry → Bool) (g h : List RegEntry) → count_by p (g ++ h) ≡ count_by p g + count_by p h
count_more p g h = sum_by-append (λ (e : RegEntry). cond (p e) 1 0) g h

pub held_to_put : HeldFromGetToPut
held_to_put before between caller id legal none =
    let e : RegEntry = Get caller id true in
    let h : List RegEntry = before ++ e ∷ between in
    let back : LegalReg before = legal_front [] before (e ∷ between) legal in
    let same : (eqb caller caller && eqb id id) ≡ true = (let x : eqb caller caller ≡ true = grind (arith, nat_tests) in let y : eqb id id ≡ true = grind (arith, nat_tests) in λ i. x i && y i) in
    let older = balanced before back (λ c i. eqb c caller && eqb i id) in
    let got = count_more (gets_as caller id) before (e ∷ between) in
    let put = count_more (puts_as caller id) before (e ∷ between) in
    let has : HasReference h caller id =
    omega (
      arith,
      got,
      put,
      count_cons (gets_as caller id) e between,
      count_cons (puts_as caller id) e between,
      ap bit same,
      count_none (puts_as caller id) between none,
      count_same (gets_as caller id) (gets_where (λ c i. eqb c caller && eqb i id)) (gets_are caller id) before,
      count_same (puts_as caller id) (puts_where (λ c i. eqb c caller && eqb i id)) (puts_are caller id) before,
      older,
    ) in
    held_by_caller h caller id legal has
