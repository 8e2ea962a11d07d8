-- Where entries that stood change, those that are held alone need their marks and references again.
use Rattle.std.proofs.Common.{◌≡◌, ℕ, zero, suc, ◌+◌, ◌<◌, ◌≤◌, Bool, true, false, cond, not, ◌||◌, ◌&&◌, eqb, ltb, List, [], ◌∷◌, ◌++◌, length, get_or, set, map, refl, sym, ap, ◌∙◌, subst, arith, append_assoc, length-append}
use Rattle.std.specs.List.{All, AllByRecursion, filter, list_any, list_all}
use Rattle.std.proofs.Math.Seq.{take-append_seam, drop-append_seam}
use Rattle.std.proofs.lemmas.List.{append-nil}
use Rattle.std.proofs.lemmas.List.Elements.{recursion_from_All, All-from_recursion}
use Rattle.std.proofs.lemmas.Bool.Decides.{nat_tests}
use Rattle.std.proofs.lemmas.Bool.{and_from, and_parts}
use Rattle.alg_registry.specs.declared.row.Row.{Row}
use Rattle.alg_registry.specs.Rows.{is_held, stands_on, holders, listed_at, stays_listed, counted_first, counted, standing}
use Rattle.alg_registry.specs.MarkCounts.{remarked, remarked_by, remarked_at, remarked_all, gave, gave_all, restood}
use Rattle.alg_registry.specs.Held.{ids_of, held_from, is_row_listed, passes}
use Rattle.alg_registry.proofs.Restanding.{Stands, mark, same_stays, same_push, stands-from, marks, marked-marks, weight, holders-cons, held_listed}
use Rattle.alg_registry.proofs.Tallies.{HasFewer, uncounted, tallied, tallied-none, tally, gave-tally, skip-tally}

-- ---- what a change may do to an entry

pub record IsChanged (old row : Row) : Type 0 where
  pub spec : row.spec ≡ old.spec
  pub unlisted : old.unlisted ≡ true → row.unlisted ≡ true
  pub dead : is_held old ≡ false → row ≡ old

abbrev pub AreChanged : List Row → List Row → Type 0
AreChanged [] [] = Unit {0}
AreChanged [] (row ∷ rows) = ⊥
AreChanged (old ∷ olds) [] = ⊥
AreChanged (old ∷ olds) (row ∷ rows) = IsChanged old row × AreChanged olds rows

pub unchanged : (rows : List Row) → AreChanged rows rows
unchanged [] = tt
unchanged (row ∷ rows) = (record { spec = refl; unlisted = λ e. e; dead = λ e. refl }, unchanged rows)

pub changed-set : (rows : List Row) (p : ℕ) (row d : Row) → p < length rows → IsChanged (get_or rows p d) row → AreChanged rows (set rows p row)
changed-set [] p row d lt change = absurd (omega (arith, lt))
changed-set (x ∷ rows) zero row d lt change = (change, unchanged rows)
changed-set (x ∷ rows) (suc p) row d lt change = (record { spec = refl; unlisted = λ e. e; dead = λ e. refl }, changed-set rows p row d (omega (arith, lt)) change)

-- the marks of these are no more than those of the old ones
abbrev Under : List Row → List Row → Type 0
Under [] [] = Unit {0}
Under [] (row ∷ rows) = ⊥
Under (old ∷ olds) [] = ⊥
Under (old ∷ olds) (row ∷ rows) = (row.listed ≡ true → old.listed ≡ true) × Under olds rows

under_push : (olds rows : List Row) (old row : Row) → Under olds rows → (row.listed ≡ true → old.listed ≡ true) → Under (olds ++ old ∷ []) (rows ++ row ∷ [])
under_push [] [] old row under last = (last, tt)
under_push [] (r ∷ rows) old row under last = absurd under
under_push (o ∷ olds) [] old row under last = absurd under
under_push (o ∷ olds) (r ∷ rows) old row under last = (under.0, under_push olds rows old row under.1 last)

under_listed : (olds rows : List Row) (id : ℕ) → Under olds rows → listed_at rows id ≡ true → listed_at olds id ≡ true
under_listed [] [] id under e = e
under_listed [] (r ∷ rows) id under e = absurd under
under_listed (o ∷ olds) [] id under e = absurd under
under_listed (o ∷ olds) (r ∷ rows) zero under e = under.0 e
under_listed (o ∷ olds) (r ∷ rows) (suc id) under e = under_listed olds rows id under.1 e

all_under : (olds rows : List Row) (ids : List ℕ) → Under olds rows → list_all (listed_at rows) ids ≡ true → list_all (listed_at olds) ids ≡ true
all_under olds rows [] under e = refl
all_under olds rows (id ∷ ids) under e =
    let parts = and_parts (listed_at rows id) (list_all (listed_at rows) ids) e in
    and_from (listed_at olds id) (list_all (listed_at olds) ids) (under_listed olds rows id under parts.0) (all_under olds rows ids under parts.1)

not_unlisted : (a b : Bool) → (a ≡ true → b ≡ true) → not b ≡ true → not a ≡ true
not_unlisted true true h e = absurd cc
not_unlisted true false h e = absurd (cc (h refl))
not_unlisted false b h e = refl

stays_under : (olds rows : List Row) (old row : Row) → Under olds rows → IsChanged old row → stays_listed rows row ≡ true → stays_listed olds old ≡ true
stays_under olds rows old row under change e =
    let parts = and_parts (not row.unlisted) (list_all (listed_at rows) row.spec.below) e in
    let all : list_all (listed_at rows) old.spec.below ≡ true = (λ i. list_all (listed_at rows) (sym change.spec i).below) ∙ parts.1 in
    and_from (not old.unlisted) (list_all (listed_at olds) old.spec.below) (not_unlisted old.unlisted row.unlisted change.unlisted parts.0) (all_under olds rows old.spec.below under all)

only_false : (a b : Bool) → (a ≡ true → b ≡ true) → b ≡ false → a ≡ false
only_false true b h e = absurd (cc (h refl))
only_false false b h e = refl

-- what isn't held is neither listed nor referenced
record IsDead (row : Row) : Type 0 where
  listed : row.listed ≡ false
  references : row.references ≡ 0

dead_parts : (row : Row) → is_held row ≡ false → IsDead row
dead_parts row e = here row.listed refl
  where
    none : (n : ℕ) → ltb 0 n ≡ false → n ≡ 0
    none n f = grind (arith, nat_tests)

    here : (b : Bool) → row.listed ≡ b → IsDead row
    here true f = absurd (cc (held_listed row f))
    here false f = record { listed = f; references = none row.references (sym (ap (λ b. b || ltb 0 row.references) f) ∙ e) }

not_held : (row : Row) → row.listed ≡ false → row.references ≡ 0 → is_held row ≡ false
not_held row e f = (λ i. e i || ltb 0 (f i))

-- ---- the marks

abbrev pub remarks : List Row → List Row → List Row
remarks older [] = []
remarks older (row ∷ rows) = remarked older row ∷ remarks (older ++ remarked older row ∷ []) rows

-- the entries after a change are of the same algorithms, and those that weren't held are as they were
abbrev pub AreKin : List Row → List Row → Type 0
AreKin [] [] = Unit {0}
AreKin [] (row ∷ rows) = ⊥
AreKin (old ∷ olds) [] = ⊥
AreKin (old ∷ olds) (row ∷ rows) = (row.spec ≡ old.spec) × (is_held old ≡ false → row ≡ old) × AreKin olds rows

record IsRemarked (olds old before row : List Row) : Type 0 where
  all : remarked_all (held_from (length before) old) (before ++ row) ≡ before ++ remarks before row
  kin : AreKin old (remarks before row)
  under : Under old (remarks before row)

remarked-seam : (before : List Row) (row : Row) (rows : List Row) → remarked_at (length before) (before ++ row ∷ rows) ≡ before ++ remarked before row ∷ rows
remarked-seam before row rows = λ i. remarked_by (take-append_seam before (row ∷ rows) i) (drop-append_seam before (row ∷ rows) i)

remarks-held : (before olds os rows : List Row) → Stands olds os → Under olds before → AreChanged os rows → IsRemarked olds os before rows
remarks-held before olds [] [] stands under change = record { all = refl; kin = tt; under = tt }
remarks-held before olds [] (row ∷ rows) stands under change = absurd change
remarks-held before olds (old ∷ os) [] stands under change = absurd change
remarks-held before olds (old ∷ os) (row ∷ rows) stands under change =
    let rest = remarks-held (before ++ first ∷ []) (olds ++ old ∷ []) os rows stands.2 (under_push olds before old first under (λ e. stands.0 ∙ stays e)) change.1 in
    record {
      all = step (is_held old) refl ∙ (ap (λ (n : ℕ). remarked_all (held_from n os) ((before ++ first ∷ []) ++ rows)) next ∙ (rest.all ∙ append_assoc before (first ∷ []) (remarks (before ++ first ∷ []) rows)));
      kin = (change.0.spec, λ e. same e ∙ change.0.dead e, rest.kin);
      under = (λ e. stands.0 ∙ stays e, rest.under);
    }
  where
    first : Row
    first = remarked before row

    next : length before + 1 ≡ length (before ++ first ∷ [])
    next = omega (arith, length-append before (first ∷ []))

    stays : first.listed ≡ true → stays_listed olds old ≡ true
    stays e = stays_under olds before old row under change.0 e

    same : is_held old ≡ false → first ≡ row
    same e =
        let is : row ≡ old = change.0.dead e in
        let parts = dead_parts old e in
        let listed : stays_listed before row ≡ row.listed = only_false (stays_listed before row) old.listed (λ f. stands.0 ∙ stays f) parts.listed ∙ sym (ap (λ (r : Row). r.listed) is ∙ parts.listed) in
        let references : row.taken ≡ row.references = omega (arith, ap (λ (r : Row). r.taken) is, ap (λ (r : Row). r.references) is, parts.references, stands.1) in
        λ i. record row { listed = listed i; references = references i }

    step : (b : Bool) → is_held old ≡ b
        → remarked_all (cond b (length before ∷ held_from (length before + 1) os) (held_from (length before + 1) os)) (before ++ row ∷ rows) ≡ remarked_all (held_from (length before + 1) os) ((before ++ first ∷ []) ++ rows)
    step true e = ap (λ rs. remarked_all (held_from (length before + 1) os) rs) (remarked-seam before row rows ∙ sym (append_assoc before (first ∷ []) rows))
    step false e = ap (λ rs. remarked_all (held_from (length before + 1) os) rs) ((λ i. before ++ sym (same e) i ∷ rows) ∙ sym (append_assoc before (first ∷ []) rows))

-- the entries that are marked so are those that standing counts
counted-remarks : (older older' rows : List Row) (id : ℕ) → map mark older' ≡ map mark older → counted id (marks older rows) ≡ counted id (remarks older' rows)
counted-remarks older older' [] id same = refl
counted-remarks older older' (row ∷ rows) id same =
    let first : Row = record row { listed = stays_listed older row; references = 0 } in
    let listed : stays_listed older row ≡ stays_listed older' row = sym (same_stays older older' row same) in
    let rest : counted (id + 1) (marks (older ++ first ∷ []) rows) ≡ counted (id + 1) (remarks (older' ++ remarked older' row ∷ []) rows) =
    counted-remarks (older ++ first ∷ []) (older' ++ remarked older' row ∷ []) rows (id + 1) (same_push older older' first (remarked older' row) same (sym listed)) in
    λ i. counted_first id (record row { listed = listed i; references = 0 }) (rest i)

standing-remarks : (rows : List Row) → standing rows ≡ counted 0 (remarks [] rows)
standing-remarks rows = ap (λ rs. counted 0 rs) (marked-marks [] rows) ∙ counted-remarks [] [] rows 0 refl

uncounted-remarks : (older rows : List Row) → map uncounted (remarks older rows) ≡ remarks older rows
uncounted-remarks older [] = refl
uncounted-remarks older (row ∷ rows) = ap (λ rs. remarked older row ∷ rs) (uncounted-remarks (older ++ remarked older row ∷ []) rows)

-- ---- the references

abbrev bit : Bool → ℕ
bit b = cond b 1 0

first_dead : (n : ℕ) (old row : Row) (newer olds : List Row) → is_held old ≡ false → row ≡ old → holders n newer ≤ holders n olds → old.references ≡ old.taken + holders n olds
    → is_held (record row { references = row.taken + holders n newer }) ≡ false
first_dead n old row newer olds e same le references =
    let parts = dead_parts old e in
    not_held (record row { references = row.taken + holders n newer }) (ap (λ (r : Row). r.listed) same ∙ parts.listed) (omega (arith, ap (λ (r : Row). r.taken) same, parts.references, references, le))

at_length : (n : ℕ) (olds os : List Row) (old : Row) → n ≡ length olds → old.references ≡ old.taken + holders (length olds) os → old.references ≡ old.taken + holders n os
at_length n olds os old at e = e ∙ ap (λ (k : ℕ). old.taken + holders k os) (sym at)

next_length : (n : ℕ) (olds : List Row) (old : Row) → n ≡ length olds → n + 1 ≡ length (olds ++ old ∷ [])
next_length n olds old at = omega (arith, at, length-append olds (old ∷ []))

counted-under : (olds os rows : List Row) (n : ℕ) → n ≡ length olds → Stands olds os → AreKin os rows → (m : ℕ) → holders m (counted n rows) ≤ holders m os
counted-under olds [] [] n at stands kin m = omega arith
counted-under olds [] (row ∷ rows) n at stands kin m = absurd kin
counted-under olds (old ∷ os) [] n at stands kin m = absurd kin
counted-under olds (old ∷ os) (row ∷ rows) n at stands kin m =
    let rest : (k : ℕ) → holders k (counted (n + 1) rows) ≤ holders k os = counted-under (olds ++ old ∷ []) os rows (n + 1) (next_length n olds old at) stands.2 kin.2 in
    let later : holders m (counted (n + 1) rows) ≤ holders m os = rest m in
    omega (arith, holders-cons m first (counted (n + 1) rows), holders-cons m old os, later, here (rest n) (is_held old) refl)
  where
    first : Row
    first = record row { references = row.taken + holders n (counted (n + 1) rows) }

    below : (a b : Bool) → bit (a && b) ≤ bit b
    below true true = omega arith
    below true false = omega arith
    below false true = omega arith
    below false false = omega arith

    here : holders n (counted (n + 1) rows) ≤ holders n os → (b : Bool) → is_held old ≡ b → weight m first ≤ weight m old
    here le true e =
        let w : weight m old ≡ bit (stands_on m old) = λ i. bit (e i && stands_on m old) in
        let s : stands_on m first ≡ stands_on m old = λ i. list_any (λ child. eqb child m) (kin.0 i).below in
        omega (arith, w, ap bit s, below (is_held first) (stands_on m first))
    here le false e =
        let dead : is_held first ≡ false = first_dead n old row (counted (n + 1) rows) os e (kin.1 e) le (at_length n olds os old at stands.1) in
        let w : weight m first ≡ 0 = λ i. bit (dead i && stands_on m first) in
        omega (arith, w)

-- those that are held give all that there is to give
gave-held : (olds os before rows : List Row) (n : ℕ) → n ≡ length before → n ≡ length olds → Stands olds os → AreKin os rows
    → gave_all (held_from n os) (map uncounted (before ++ rows)) ≡ tally n before rows
gave-held olds [] before [] n at at' stands kin =
    ap (λ rs. map uncounted rs) (append-nil before) ∙ (tallied-none 0 before ∙ sym (append-nil (tallied 0 [] before)))
gave-held olds [] before (row ∷ rows) n at at' stands kin = absurd kin
gave-held olds (old ∷ os) before [] n at at' stands kin = absurd kin
gave-held olds (old ∷ os) before (row ∷ rows) n at at' stands kin =
    here (ap (λ rs. gave_all (held_from (n + 1) os) (map uncounted rs)) (sym (append_assoc before (row ∷ []) rows))
    ∙ gave-held (olds ++ old ∷ []) os (before ++ row ∷ []) rows (n + 1) (next_length n before row at) (next_length n olds old at') stands.2 kin.2)
    (is_held old) refl
  where
    here : gave_all (held_from (n + 1) os) (map uncounted (before ++ row ∷ rows)) ≡ tally (n + 1) (before ++ row ∷ []) rows → (b : Bool) → is_held old ≡ b
        → gave_all (cond b (n ∷ held_from (n + 1) os) (held_from (n + 1) os)) (map uncounted (before ++ row ∷ rows)) ≡ tally n before (row ∷ rows)
    here rest true e = ap (λ rs. gave n rs) rest ∙ gave-tally n before row rows at
    here rest false e =
        let under : holders n (counted (n + 1) rows) ≤ holders n os = counted-under (olds ++ old ∷ []) os rows (n + 1) (next_length n olds old at') stands.2 kin.2 n in
        rest ∙ skip-tally n before row rows at (first_dead n old row (counted (n + 1) rows) os e (kin.1 e) under (at_length n olds os old at' stands.1))

-- what wasn't held isn't held again
-- those that didn't pass the test still don't
abbrev pub AreFewer : (Row → Bool) → List Row → List Row → Type 0
AreFewer test [] [] = Unit {0}
AreFewer test [] (row ∷ rows) = ⊥
AreFewer test (old ∷ olds) [] = ⊥
AreFewer test (old ∷ olds) (row ∷ rows) = (test old ≡ false → test row ≡ false) × AreFewer test olds rows

counted-fewer : (olds os rows : List Row) (n : ℕ) → n ≡ length olds → Stands olds os → AreKin os rows → AreFewer is_held os (counted n rows)
counted-fewer olds [] [] n at stands kin = tt
counted-fewer olds [] (row ∷ rows) n at stands kin = absurd kin
counted-fewer olds (old ∷ os) [] n at stands kin = absurd kin
counted-fewer olds (old ∷ os) (row ∷ rows) n at stands kin =
    let under : holders n (counted (n + 1) rows) ≤ holders n os = counted-under (olds ++ old ∷ []) os rows (n + 1) (next_length n olds old at) stands.2 kin.2 n in (
      λ e. first_dead n old row (counted (n + 1) rows) os e (kin.1 e) under (at_length n olds os old at stands.1),
      counted-fewer (olds ++ old ∷ []) os rows (n + 1) (next_length n olds old at) stands.2 kin.2,
    )

-- ---- the whole

pub restands : (old rows : List Row) → standing old ≡ old → AreChanged old rows → restood (held_from 0 old) rows ≡ standing rows
restands old rows stands change =
    let is = remarks-held [] [] old rows (stands-from old stands) tt change in
    ap (λ rs. gave_all (held_from 0 old) rs) (is.all ∙ sym (uncounted-remarks [] rows))
    ∙ (gave-held [] old [] (remarks [] rows) 0 refl refl (stands-from old stands) is.kin ∙ sym (standing-remarks rows))

pub fewer : (old rows : List Row) → standing old ≡ old → AreChanged old rows → AreFewer is_held old (standing rows)
fewer old rows stands change =
    let is = remarks-held [] [] old rows (stands-from old stands) tt change in
    subst (AreFewer is_held old) (sym (standing-remarks rows)) (counted-fewer [] old (remarks [] rows) 0 refl (stands-from old stands) is.kin)

under_fewer : (n : ℕ) (olds rows : List Row) → Under olds rows → AreFewer is_row_listed olds (counted n rows)
under_fewer n [] [] under = tt
under_fewer n [] (row ∷ rows) under = absurd under
under_fewer n (old ∷ olds) [] under = absurd under
under_fewer n (old ∷ olds) (row ∷ rows) under = (λ e. only_false row.listed old.listed under.0 e, under_fewer (n + 1) olds rows under.1)

pub fewer-listed : (old rows : List Row) → standing old ≡ old → AreChanged old rows → AreFewer is_row_listed old (standing rows)
fewer-listed old rows stands change =
    let is = remarks-held [] [] old rows (stands-from old stands) tt change in
    subst (AreFewer is_row_listed old) (sym (standing-remarks rows)) (under_fewer 0 old (remarks [] rows) is.under)

few_remarks : (m : ℕ) (older rows : List Row) → AllByRecursion (λ (row : Row). row.taken < m) rows → AllByRecursion (HasFewer m) (remarks older rows)
few_remarks m older [] all = tt
few_remarks m older (row ∷ rows) all = (all.0, few_remarks m (older ++ remarked older row ∷ []) rows all.1)

pub few-remarked : (m : ℕ) (old rows : List Row) → standing old ≡ old → AreChanged old rows → All (λ (row : Row). row.taken < m) rows → All (HasFewer m) (remarked_all (held_from 0 old) rows)
few-remarked m old rows stands change all =
    let is = remarks-held [] [] old rows (stands-from old stands) tt change in
    subst (λ (rs : List Row). All (HasFewer m) rs) (sym is.all) (All-from_recursion (HasFewer m) (remarks [] rows) (few_remarks m [] rows (recursion_from_All (λ (row : Row). row.taken < m) rows all)))

-- ---- the held ones

at_place : (before : List Row) (row : Row) (rows : List Row) (test : Row → Bool) → passes test (before ++ row ∷ rows) (length before) ≡ test row
at_place [] row rows test = refl
at_place (x ∷ before) row rows test = at_place before row rows test

filter_ids : (test : Row → Bool) (before olds rows : List Row) → AreFewer test olds rows → filter (passes test (before ++ rows)) (ids_of test (length before) olds) ≡ ids_of test (length before) rows
filter_ids test before [] [] few = refl
filter_ids test before [] (row ∷ rows) few = absurd few
filter_ids test before (old ∷ olds) [] few = absurd few
filter_ids test before (old ∷ olds) (row ∷ rows) few =
    here (ap (λ rs. filter (passes test rs) (ids_of test (length before + 1) olds)) (sym (append_assoc before (row ∷ []) rows))
    ∙ (ap (λ (n : ℕ). filter (passes test ((before ++ row ∷ []) ++ rows)) (ids_of test n olds)) (sym next)
    ∙ (filter_ids test (before ++ row ∷ []) olds rows few.1 ∙ ap (λ (n : ℕ). ids_of test n rows) next)))
    (test old) refl (test row) refl
  where
    next : length (before ++ row ∷ []) ≡ length before + 1
    next = omega (arith, length-append before (row ∷ []))

    this : (b : Bool) → test row ≡ b → passes test (before ++ row ∷ rows) (length before) ≡ b
    this b e = at_place before row rows test ∙ e

    here : filter (passes test (before ++ row ∷ rows)) (ids_of test (length before + 1) olds) ≡ ids_of test (length before + 1) rows
        → (a : Bool) → test old ≡ a → (b : Bool) → test row ≡ b
        → filter (passes test (before ++ row ∷ rows)) (cond a (length before ∷ ids_of test (length before + 1) olds) (ids_of test (length before + 1) olds))
        ≡ cond (test row) (length before ∷ ids_of test (length before + 1) rows) (ids_of test (length before + 1) rows)
    here rest true e b f = (λ i. cond (this b f i) (length before ∷ rest i) (rest i)) ∙ (λ i. cond (sym f i) (length before ∷ ids_of test (length before + 1) rows) (ids_of test (length before + 1) rows))
    here rest false e b f = rest ∙ (λ i. cond (sym (few.0 e) i) (length before ∷ ids_of test (length before + 1) rows) (ids_of test (length before + 1) rows))

pub filter-ids : (test : Row → Bool) (olds rows : List Row) → AreFewer test olds rows → filter (passes test rows) (ids_of test 0 olds) ≡ ids_of test 0 rows
filter-ids test olds rows few = filter_ids test [] olds rows few

held_within : (n m : ℕ) (rows : List Row) → n + length rows ≤ m → AllByRecursion (λ (id : ℕ). id < m) (held_from n rows)
held_within n m [] le = tt
held_within n m (row ∷ rows) le = here (is_held row) (held_within (n + 1) m rows (omega (arith, le)))
  where
    here : (b : Bool) → AllByRecursion (λ (id : ℕ). id < m) (held_from (n + 1) rows) → AllByRecursion (λ (id : ℕ). id < m) (cond b (n ∷ held_from (n + 1) rows) (held_from (n + 1) rows))
    here true rest = (omega (arith, le), rest)
    here false rest = rest

pub held-within : (rows : List Row) → All (λ (id : ℕ). id < length rows) (held_from 0 rows)
held-within rows = All-from_recursion (λ (id : ℕ). id < length rows) (held_from 0 rows) (held_within 0 (length rows) rows (omega arith))

-- a change of one entry that passes the test where it did
pub ids-same : (test : Row → Bool) (n : ℕ) (rows : List Row) (p : ℕ) (row d : Row) → test row ≡ test (get_or rows p d) → ids_of test n (set rows p row) ≡ ids_of test n rows
ids-same test n [] p row d same = refl
ids-same test n (x ∷ rows) zero row d same = ap (λ b. cond b (n ∷ ids_of test (n + 1) rows) (ids_of test (n + 1) rows)) same
ids-same test n (x ∷ rows) (suc p) row d same = ap (λ ns. cond (test x) (n ∷ ns) ns) (ids-same test (n + 1) rows p row d same)

listed_counted : (n : ℕ) (rows : List Row) (id : ℕ) → listed_at (counted n rows) id ≡ listed_at rows id
listed_counted n [] id = refl
listed_counted n (row ∷ rows) zero = refl
listed_counted n (row ∷ rows) (suc id) = listed_counted (n + 1) rows id

-- what is listed was
pub was-listed : (old rows : List Row) → standing old ≡ old → AreChanged old rows → (id : ℕ) → listed_at (standing rows) id ≡ true → listed_at old id ≡ true
was-listed old rows stands change id listed =
    let is = remarks-held [] [] old rows (stands-from old stands) tt change in
    under_listed old (remarks [] rows) id is.under (sym (ap (λ (rs : List Row). listed_at rs id) (standing-remarks rows) ∙ listed_counted 0 (remarks [] rows) id) ∙ listed)
