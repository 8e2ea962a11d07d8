-- Entries that stand as they should, and what changes where one of them changes alone.
use Rattle.std.proofs.Common.{◌≡◌, ◌≢◌, ℕ, zero, suc, ◌+◌, ◌-◌, ◌<◌, Bool, true, false, cond, not, ◌||◌, ◌&&◌, eqb, ltb, List, [], ◌∷◌, ◌++◌, length, take, drop, get_or, set, map, refl, sym, ap, ◌∙◌, subst, arith, append_assoc, length-append, length-set}
use Rattle.std.specs.List.{list_any, list_all}
use Rattle.std.proofs.lemmas.Bool.Decides.{nat_tests}
use Rattle.std.proofs.lemmas.List.{append-nil, length-map, map_push, map-set, set-append_left, get_or-set_same, get_or-set_other}
use Rattle.std.proofs.lemmas.List.Sums.{sum_by-append}
use Rattle.std.proofs.lemmas.Bool.{and_parts, or_parts, and_right}
use borrow.Author.Tests.{lt-ltb}
use Rattle.alg_registry.specs.Alone.{stands_on_nothing, unlists_alone, puts_alone}
use Rattle.alg_registry.specs.Calls.{unlisted_row, taken_row, put_row_of}
use Rattle.alg_registry.specs.declared.spec.Spec.{Spec}
use Rattle.alg_registry.specs.declared.row.Row.{Row}
use Rattle.alg_registry.specs.declared.entry.RegEntry.{RegEntry}
use Rattle.alg_registry.specs.Rows.{is_held, stands_on, holders, listed_at, stays_listed, marked, counted_first, counted, standing, rows_of}
use Rattle.alg_registry.proofs.Standing.{bare, marked-bare, standing-from_bare, bare-rows_of}

-- each entry has its mark and its references, where these are the older ones
abbrev pub Stands : List Row → List Row → Type 0
Stands older [] = Unit {0}
Stands older (row ∷ rows) = (row.listed ≡ stays_listed older row) × (row.references ≡ row.taken + holders (length older) rows) × Stands (older ++ row ∷ []) rows

abbrev pub mark : Row → Bool
mark row = row.listed

abbrev unref : Row → Row
unref row = record row { references = 0 }

pub listed_at-mark : (rows : List Row) (id : ℕ) → listed_at rows id ≡ get_or (map mark rows) id false
listed_at-mark [] id = refl
listed_at-mark (row ∷ rows) zero = refl
listed_at-mark (row ∷ rows) (suc id) = listed_at-mark rows id

-- entries with the same marks
pub same_stays : (older older' : List Row) (row : Row) → map mark older' ≡ map mark older → stays_listed older' row ≡ stays_listed older row
same_stays older older' row same =
    let e : (id : ℕ) → listed_at older' id ≡ listed_at older id = λ id. listed_at-mark older' id ∙ (ap (λ (bs : List Bool). get_or bs id false) same ∙ sym (listed_at-mark older id)) in
    λ i. not row.unlisted && list_all (λ id. e id i) row.spec.below

mark_push : (older : List Row) (row : Row) → map mark (older ++ row ∷ []) ≡ map mark older ++ row.listed ∷ []
mark_push older row = map_push mark older row

pub same_push : (older older' : List Row) (row row' : Row) → map mark older' ≡ map mark older → row'.listed ≡ row.listed → map mark (older' ++ row' ∷ []) ≡ map mark (older ++ row ∷ [])
same_push older older' row row' same e = mark_push older' row' ∙ ((λ i. same i ++ e i ∷ []) ∙ sym (mark_push older row))

pub same_length : (older older' : List Row) → map mark older' ≡ map mark older → length older' ≡ length older
same_length older older' same = omega (arith, ap length same, length-map older mark, length-map older' mark)

-- ---- what stands is what standing makes

marked-stands : (older older' rows : List Row) → map mark older' ≡ map mark older → Stands older rows → marked older' rows ≡ older' ++ map unref rows
marked-stands older older' [] same h = sym (append-nil older')
marked-stands older older' (row ∷ rows) same h =
    let e : stays_listed older' row ≡ row.listed = same_stays older older' row same ∙ sym h.0 in
    let first : older' ++ record row { listed = stays_listed older' row; references = 0 } ∷ [] ≡ older' ++ unref row ∷ [] = λ i. older' ++ record row { listed = e i; references = 0 } ∷ [] in
    ap (λ (o : List Row). marked o rows) first
    ∙ (marked-stands (older ++ row ∷ []) (older' ++ unref row ∷ []) rows (same_push older older' row (unref row) same refl) h.2
    ∙ append_assoc older' (unref row ∷ []) (map unref rows))

counted-stands : (older rows : List Row) (n : ℕ) → n ≡ length older → Stands older rows → counted n (map unref rows) ≡ rows
counted-stands older [] n at h = refl
counted-stands older (row ∷ rows) n at h =
    let rest : counted (n + 1) (map unref rows) ≡ rows = counted-stands (older ++ row ∷ []) rows (n + 1) (omega (arith, at, length-append older (row ∷ []))) h.2 in
    let e : row.taken + holders n rows ≡ row.references = ap (λ (k : ℕ). row.taken + holders k rows) at ∙ sym h.1 in
    ap (λ newer. counted_first n (unref row) newer) rest ∙ (λ i. record row { references = e i } ∷ rows)

pub standing-stands : (rows : List Row) → Stands [] rows → standing rows ≡ rows
standing-stands rows h = ap (λ rs. counted 0 rs) (marked-stands [] [] rows refl h) ∙ counted-stands [] rows 0 refl h

-- the marks of the entries
abbrev pub marks : List Row → List Row → List Row
marks older [] = []
marks older (row ∷ rows) = record row { listed = stays_listed older row; references = 0 } ∷ marks (older ++ record row { listed = stays_listed older row; references = 0 } ∷ []) rows

pub marked-marks : (older rows : List Row) → marked older rows ≡ older ++ marks older rows
marked-marks older [] = sym (append-nil older)
marked-marks older (row ∷ rows) =
    let first : Row = record row { listed = stays_listed older row; references = 0 } in
    marked-marks (older ++ first ∷ []) rows ∙ append_assoc older (first ∷ []) (marks (older ++ first ∷ []) rows)

stands-counted : (older older' rows : List Row) (n : ℕ) → n ≡ length older' → map mark older' ≡ map mark older → Stands older' (counted n (marks older rows))
stands-counted older older' [] n at same = tt
stands-counted older older' (row ∷ rows) n at same =
    let first : Row = record row { listed = stays_listed older row; references = 0 } in
    let newer : List Row = counted (n + 1) (marks (older ++ first ∷ []) rows) in
    let head : Row = record first { references = row.taken + holders n newer } in (
      sym (same_stays older older' row same),
      ap (λ (k : ℕ). row.taken + holders k newer) at,
      stands-counted (older ++ first ∷ []) (older' ++ head ∷ []) rows (n + 1) (omega (arith, at, length-append older' (head ∷ []))) (same_push older older' first head same refl),
    )

pub stands-standing : (rows : List Row) → Stands [] (standing rows)
stands-standing rows = subst (λ (rs : List Row). Stands [] (counted 0 rs)) (sym (marked-marks [] rows)) (stands-counted [] [] rows 0 refl refl)

-- what stands stands still
pub standing-twice : (rows : List Row) → standing (standing rows) ≡ standing rows
standing-twice rows = standing-stands (standing rows) (stands-standing rows)

pub standing-rows_of : (h : List RegEntry) (rows : List Row) → rows ≡ rows_of h → standing rows ≡ rows
standing-rows_of h rows is = ap standing is ∙ (standing-from_bare h (rows_of h) (bare-rows_of h) ∙ sym is)

pub stands-from : (rows : List Row) → standing rows ≡ rows → Stands [] rows
stands-from rows e = subst (Stands []) e (stands-standing rows)

pub standing-bare : (xs ys : List Row) → map bare xs ≡ map bare ys → standing xs ≡ standing ys
standing-bare xs ys same = ap (λ rs. counted 0 rs) (sym (marked-bare [] xs) ∙ (ap (λ rs. marked [] rs) same ∙ marked-bare [] ys))

-- ---- one entry changes

-- what the entry adds to the references of the id
abbrev pub weight : ℕ → Row → ℕ
weight id row = cond (is_held row && stands_on id row) 1 0

pub holders-cons : (id : ℕ) (row : Row) (rows : List Row) → holders id (row ∷ rows) ≡ weight id row + holders id rows
holders-cons id row rows = omega (arith, sum_by-append (weight id) (row ∷ []) rows)

holders-set : (id : ℕ) (rows : List Row) (p : ℕ) (row d : Row) → p < length rows → weight id row ≡ weight id (get_or rows p d) → holders id (set rows p row) ≡ holders id rows
holders-set id [] p row d lt same = absurd (omega (arith, lt))
holders-set id (x ∷ rows) zero row d lt same = holders-cons id row rows ∙ (ap (λ (n : ℕ). n + holders id rows) same ∙ sym (holders-cons id x rows))
holders-set id (x ∷ rows) (suc p) row d lt same =
    holders-cons id x (set rows p row)
    ∙ (ap (λ (n : ℕ). weight id x + n) (holders-set id rows p row d (omega (arith, lt)) same) ∙ sym (holders-cons id x rows))

stands-set : (older rows : List Row) (p : ℕ) (row d : Row) → p < length rows → Stands older rows
    → ((id : ℕ) → weight id row ≡ weight id (get_or rows p d))
    → Stands (older ++ take p rows) (row ∷ drop (suc p) rows) → Stands older (set rows p row)
stands-set older [] p row d lt h same here = absurd (omega (arith, lt))
stands-set older (x ∷ rows) zero row d lt h same here = subst (λ (o : List Row). Stands o (row ∷ rows)) (append-nil older) here
stands-set older (x ∷ rows) (suc p) row d lt h same here = (
  h.0,
  h.1 ∙ ap (λ (n : ℕ). x.taken + n) (sym (holders-set (length older) rows p row d (omega (arith, lt)) (same (length older)))),
  stands-set (older ++ x ∷ []) rows p row d (omega (arith, lt)) h.2 same
      (subst (λ (o : List Row). Stands o (row ∷ drop (suc p) rows)) (sym (append_assoc older (x ∷ []) (take p rows))) here),
)

pub stands-at : (older rows : List Row) (p : ℕ) (d : Row) → p < length rows → Stands older rows → Stands (older ++ take p rows) (get_or rows p d ∷ drop (suc p) rows)
stands-at older [] p d lt h = absurd (omega (arith, lt))
stands-at older (x ∷ rows) zero d lt h = subst (λ (o : List Row). Stands o (x ∷ rows)) (sym (append-nil older)) h
stands-at older (x ∷ rows) (suc p) d lt h =
    subst (λ (o : List Row). Stands o (get_or rows p d ∷ drop (suc p) rows)) (append_assoc older (x ∷ []) (take p rows)) (stands-at (older ++ x ∷ []) rows p d (omega (arith, lt)) h.2)

stands-marks : (older older' rows : List Row) → map mark older' ≡ map mark older → Stands older rows → Stands older' rows
stands-marks older older' [] same h = tt
stands-marks older older' (row ∷ rows) same h = (
  h.0 ∙ sym (same_stays older older' row same),
  h.1 ∙ ap (λ (k : ℕ). row.taken + holders k rows) (sym (same_length older older' same)),
  stands-marks (older ++ row ∷ []) (older' ++ row ∷ []) rows (same_push older older' row row same refl) h.2,
)

-- an entry's references alone change, and with them what callers have taken
record IsCounted (r row : Row) : Type 0 where
  listed : row.listed ≡ r.listed
  unlisted : row.unlisted ≡ r.unlisted
  spec : row.spec ≡ r.spec
  weighs : (id : ℕ) → weight id row ≡ weight id r
  counts : row.references + r.taken ≡ r.references + row.taken

counted-set : (rows : List Row) (p : ℕ) (row d : Row) → p < length rows → Stands [] rows → IsCounted (get_or rows p d) row → Stands [] (set rows p row)
counted-set rows p row d lt h change =
    let older : List Row = [] ++ take p rows in
    let r : Row = get_or rows p d in
    let newer : List Row = drop (suc p) rows in
    let at : Stands older (r ∷ newer) = stands-at [] rows p d lt h in
    let stays : stays_listed older r ≡ stays_listed older row = sym (λ i. not (change.unlisted i) && list_all (listed_at older) (change.spec i).below) in
    let references : r.references ≡ r.taken + holders (length older) newer = at.1 in
    stands-set [] rows p row d lt h change.weighs (
      change.listed ∙ (at.0 ∙ stays),
      omega (arith, change.counts, references),
      stands-marks (older ++ r ∷ []) (older ++ row ∷ []) newer (same_push older older r row refl change.listed) at.2,
    )

-- ---- one entry is listed no more

off : (n : ℕ) (older older' : List Row) → map mark older' ≡ set (map mark older) n false → (id : ℕ) → id ≢ n → listed_at older' id ≡ listed_at older id
off n older older' e id ne =
    listed_at-mark older' id
    ∙ (ap (λ (bs : List Bool). get_or bs id false) e ∙ (get_or-set_other (map mark older) n id false false ne ∙ sym (listed_at-mark older id)))

gone : (n : ℕ) (older older' : List Row) → n < length older → map mark older' ≡ set (map mark older) n false → listed_at older' n ≡ false
gone n older older' lt e =
    listed_at-mark older' n ∙ (ap (λ (bs : List Bool). get_or bs n false) e ∙ get_or-set_same (map mark older) n false false (omega (arith, lt, length-map older mark)))

unequal : (a b : ℕ) → eqb a b ≡ false → a ≢ b
unequal a b e same = grind (arith, nat_tests)

equal : (a b : ℕ) → eqb a b ≡ true → a ≡ b
equal a b e = grind (arith, nat_tests)

all_but : (p q : ℕ → Bool) (n : ℕ) → ((id : ℕ) → id ≢ n → q id ≡ p id) → (ids : List ℕ) → list_any (λ child. eqb child n) ids ≡ false → list_all q ids ≡ list_all p ids
all_but p q n same [] none = refl
all_but p q n same (x ∷ ids) none =
    let parts = or_parts (eqb x n) (list_any (λ child. eqb child n) ids) none in
    let rest = all_but p q n same ids parts.1 in
    let first = same x (unequal x n parts.0) in
    λ i. first i && rest i

all_false : (q : ℕ → Bool) (n : ℕ) → q n ≡ false → (ids : List ℕ) → list_any (λ child. eqb child n) ids ≡ true → list_all q ids ≡ false
all_false q n fails [] any = absurd cc
all_false q n fails (x ∷ ids) any = here (eqb x n) refl any (all_false q n fails ids)
  where
    here : (b : Bool) → eqb x n ≡ b → (b || list_any (λ child. eqb child n) ids) ≡ true → (list_any (λ child. eqb child n) ids ≡ true → list_all q ids ≡ false) → (q x && list_all q ids) ≡ false
    here true e any rest = let fx : q x ≡ false = ap q (equal x n e) ∙ fails in λ i. fx i && list_all q ids
    here false e any rest = and_right (q x) (list_all q ids) (rest any)

no_weight : (a b : Bool) → b ≡ true → (let n : ℕ = cond (a && b) 1 0 in n) ≡ 0 → a ≡ false
no_weight true true e none = absurd (omega (arith, none))
no_weight true false e none = absurd cc
no_weight false b e none = refl

not_listed : (row : Row) → is_held row ≡ false → row.listed ≡ false
not_listed row e = (or_parts row.listed (ltb 0 row.references) e).0

lowered : (n : ℕ) (older older' newer : List Row) → n < length older → map mark older' ≡ set (map mark older) n false → holders n newer ≡ 0 → Stands older newer → Stands older' newer
lowered n older older' [] lt e none h = tt
lowered n older older' (q ∷ newer) lt e none h = (
  mark_of (stands_on n q) refl,
  h.1 ∙ ap (λ (k : ℕ). q.taken + holders k newer) (sym len),
  lowered n (older ++ q ∷ []) (older' ++ q ∷ []) newer (omega (arith, lt, length-append older (q ∷ []))) pushed (omega (arith, none, holders-cons n q newer)) h.2,
)
  where
    len : length older' ≡ length older
    len = omega (arith, ap length e, length-map older mark, length-map older' mark, length-set (map mark older) n false)

    pushed : map mark (older' ++ q ∷ []) ≡ set (map mark (older ++ q ∷ [])) n false
    pushed =
        mark_push older' q
        ∙ (ap (λ (bs : List Bool). bs ++ q.listed ∷ []) e
        ∙ (sym (set-append_left (map mark older) (q.listed ∷ []) n false (omega (arith, lt, length-map older mark)))
        ∙ ap (λ (bs : List Bool). set bs n false) (sym (mark_push older q))))

    mark_of : (stood : Bool) → stands_on n q ≡ stood → q.listed ≡ stays_listed older' q
    mark_of true stood =
        let weighs : weight n q ≡ 0 = omega (arith, none, holders-cons n q newer) in
        let listed : q.listed ≡ false = not_listed q (no_weight (is_held q) (stands_on n q) stood weighs) in
        let all : list_all (listed_at older') q.spec.below ≡ false = all_false (listed_at older') n (gone n older older' lt e) q.spec.below stood in
        listed ∙ sym (and_right (not q.unlisted) (list_all (listed_at older') q.spec.below) all)
    mark_of false stood =
        let all : list_all (listed_at older') q.spec.below ≡ list_all (listed_at older) q.spec.below = all_but (listed_at older) (listed_at older') n (off n older older' e) q.spec.below stood in
        h.0 ∙ (λ i. not q.unlisted && sym all i)

unlisted-set : (rows : List Row) (p : ℕ) (d : Row) → p < length rows → Stands [] rows → (let r : Row = get_or rows p d in r.references ≡ r.taken)
    → ((id : ℕ) → weight id (let r : Row = get_or rows p d in record r { unlisted = true; listed = false }) ≡ weight id (get_or rows p d))
    → Stands [] (set rows p (let r : Row = get_or rows p d in record r { unlisted = true; listed = false }))
unlisted-set rows p d lt h alone same =
    let older : List Row = [] ++ take p rows in
    let r : Row = get_or rows p d in
    let row : Row = record r { unlisted = true; listed = false } in
    let newer : List Row = drop (suc p) rows in
    let at : Stands older (r ∷ newer) = stands-at [] rows p d lt h in
    let none : holders (length older) newer ≡ 0 = omega (arith, at.1, alone) in
    let within : length older < length (older ++ r ∷ []) = omega (arith, length-append older (r ∷ [])) in
    let marks_are : map mark (older ++ row ∷ []) ≡ set (map mark (older ++ r ∷ [])) (length older) false = lower_last older r row refl in
    stands-set [] rows p row d lt h same (
      refl,
      at.1,
      lowered (length older) (older ++ r ∷ []) (older ++ row ∷ []) newer within marks_are none at.2,
    )
  where
    lower_last : (older : List Row) (r row : Row) → row.listed ≡ false → map mark (older ++ row ∷ []) ≡ set (map mark (older ++ r ∷ [])) (length older) false
    lower_last [] r row e = λ i. e i ∷ []
    lower_last (x ∷ older) r row e = ap (λ (bs : List Bool). x.listed ∷ bs) (lower_last older r row e)

-- ---- by the tests that the calls make

less : (a b : ℕ) → ltb a b ≡ true → a < b
less a b e = grind (arith, nat_tests)

empty : (ids : List ℕ) → eqb (length ids) 0 ≡ true → ids ≡ []
empty [] e = refl
empty (x ∷ ids) e = absurd (omega (arith, equal (length (x ∷ ids)) 0 e))

held_weight : (id : ℕ) (row r : Row) → row.spec ≡ r.spec → is_held row ≡ is_held r → weight id row ≡ weight id r
held_weight id row r spec held = λ i. cond (held i && list_any (λ child. eqb child id) (spec i).below) 1 0

no_account : (held : Bool) (id : ℕ) (ids : List ℕ) → ids ≡ [] → (let n : ℕ = cond (held && list_any (λ child. eqb child id) ids) 1 0 in n) ≡ 0
no_account held id ids none = ap (λ (xs : List ℕ). cond (held && list_any (λ child. eqb child id) xs) 1 0) none ∙ nothing held
  where
    nothing : (a : Bool) → (let n : ℕ = cond (a && false) 1 0 in n) ≡ 0
    nothing true = refl
    nothing false = refl

alone_weight : (id : ℕ) (row r : Row) → row.spec ≡ r.spec → r.spec.below ≡ [] → weight id row ≡ weight id r
alone_weight id row r spec none = no_account (is_held row) id row.spec.below (ap (λ (s : Spec). s.below) spec ∙ none) ∙ sym (no_account (is_held r) id r.spec.below none)

pub held_referenced : (row : Row) → 0 < row.references → is_held row ≡ true
held_referenced row some = here row.listed
  where
    here : (b : Bool) → (b || ltb 0 row.references) ≡ true
    here true = refl
    here false = lt-ltb 0 row.references some

pub held_listed : (row : Row) → row.listed ≡ true → is_held row ≡ true
held_listed row e = ap (λ b. b || ltb 0 row.references) e

-- it stays held, or stands on nothing
weighs_same : (row r : Row) (c : Bool) → row.spec ≡ r.spec → (c ≡ true → is_held row ≡ is_held r) → (c || stands_on_nothing r) ≡ true → (id : ℕ) → weight id row ≡ weight id r
weighs_same row r true spec held e id = held_weight id row r spec (held refl)
weighs_same row r false spec held e id = alone_weight id row r spec (empty r.spec.below e)

changed-bare : (rows : List Row) (p : ℕ) (row row' : Row) → bare row ≡ bare row' → standing (set rows p row) ≡ standing (set rows p row')
changed-bare rows p row row' same =
    standing-bare (set rows p row) (set rows p row') (map-set bare rows p row ∙ (ap (λ r. set (map bare rows) p r) same ∙ sym (map-set bare rows p row')))

pub unlist-alone : (rows : List Row) (p : ℕ) (d : Row) → p < length rows → standing rows ≡ rows → unlists_alone (get_or rows p d) ≡ true
    → set rows p (let r : Row = get_or rows p d in record r { unlisted = true; listed = false }) ≡ standing (set rows p (unlisted_row (get_or rows p d)))
unlist-alone rows p d lt stands test =
    let r : Row = get_or rows p d in
    let row : Row = record r { unlisted = true; listed = false } in
    let parts = and_parts (eqb r.references r.taken) (ltb 0 r.references || stands_on_nothing r) test in
    let same = weighs_same row r (ltb 0 r.references) refl (λ e. held_referenced row (less 0 r.references e) ∙ sym (held_referenced r (less 0 r.references e))) parts.1 in
    sym (standing-stands (set rows p row) (unlisted-set rows p d lt (stands-from rows stands) (equal r.references r.taken parts.0) same)) ∙ changed-bare rows p row (unlisted_row r) refl

pub take-alone : (rows : List Row) (p : ℕ) (d : Row) → p < length rows → standing rows ≡ rows → (let r : Row = get_or rows p d in r.listed ≡ true)
    → set rows p (let r : Row = get_or rows p d in record r { taken = r.taken + 1; references = r.references + 1 }) ≡ standing (set rows p (taken_row (get_or rows p d)))
take-alone rows p d lt stands listed =
    let r : Row = get_or rows p d in
    let row : Row = record r { taken = r.taken + 1; references = r.references + 1 } in
    let change : IsCounted r row = record {
      listed = refl;
      unlisted = refl;
      spec = refl;
      weighs = λ id. held_weight id row r refl (held_listed row listed ∙ sym (held_listed r listed));
      counts = omega arith;
    } in
    sym (standing-stands (set rows p row) (counted-set rows p row d lt (stands-from rows stands) change)) ∙ changed-bare rows p row (taken_row r) refl

stays_held : (row r : Row) (a b : Bool) → row.listed ≡ r.listed → a ≡ r.listed → b ≡ ltb 1 r.references → row.references ≡ r.references - 1 → (a || b) ≡ true → is_held row ≡ is_held r
stays_held row r true b listed ea eb e any = held_listed row (listed ∙ sym ea) ∙ sym (held_listed r (sym ea))
stays_held row r false true listed ea eb e any =
    let two : 1 < r.references = less 1 r.references (sym eb) in
    held_referenced row (omega (arith, e, two)) ∙ sym (held_referenced r (omega (arith, two)))
stays_held row r false false listed ea eb e any = absurd cc

pub put-alone : (rows : List Row) (p : ℕ) (d : Row) → p < length rows → standing rows ≡ rows → puts_alone (get_or rows p d) ≡ true
    → set rows p (let r : Row = get_or rows p d in record r { taken = r.taken - 1; references = r.references - 1 }) ≡ standing (set rows p (put_row_of (get_or rows p d)))
put-alone rows p d lt stands test =
    let r : Row = get_or rows p d in
    let row : Row = record r { taken = r.taken - 1; references = r.references - 1 } in
    let stays : Bool = r.listed || ltb 1 r.references in
    let parts = and_parts (ltb 0 r.taken && ltb 0 r.references) (stays || stands_on_nothing r) test in
    let some = and_parts (ltb 0 r.taken) (ltb 0 r.references) parts.0 in
    let taken : 0 < r.taken = less 0 r.taken some.0 in
    let references : 0 < r.references = less 0 r.references some.1 in
    let change : IsCounted r row = record {
      listed = refl;
      unlisted = refl;
      spec = refl;
      weighs = weighs_same row r stays refl (stays_held row r r.listed (ltb 1 r.references) refl refl refl refl) parts.1;
      counts = omega (arith, taken, references);
    } in
    sym (standing-stands (set rows p row) (counted-set rows p row d lt (stands-from rows stands) change)) ∙ changed-bare rows p row (put_row_of r) refl

pub listed_at-get : (rows : List Row) (p : ℕ) (d : Row) → p < length rows → listed_at rows p ≡ (let r : Row = get_or rows p d in r.listed)
listed_at-get [] p d lt = absurd (omega (arith, lt))
listed_at-get (row ∷ rows) zero d lt = refl
listed_at-get (row ∷ rows) (suc p) d lt = listed_at-get rows p d (omega (arith, lt))

pub any_default : (rows : List Row) (p : ℕ) (x d : Row) → p < length rows → get_or rows p x ≡ get_or rows p d
any_default [] p x d lt = absurd (omega (arith, lt))
any_default (row ∷ rows) zero x d lt = refl
any_default (row ∷ rows) (suc p) x d lt = any_default rows p x d (omega (arith, lt))
