-- References that are given on from the newest entry to the oldest are the references that entries have.
use Rattle.std.proofs.Common.{◌≡◌, ◌≢◌, ℕ, zero, suc, ◌+◌, ◌<◌, ◌≤◌, Bool, true, false, cond, ◌||◌, ◌&&◌, eqb, List, [], ◌∷◌, ◌++◌, length, take, drop, get_or, set, map, refl, sym, ap, ◌∙◌, subst, arith, append_assoc}
use Rattle.std.specs.List.{All, AllByRecursion, list_any}
use Rattle.std.proofs.Math.Seq.{take-append_seam, drop-append_seam}
use Rattle.std.proofs.lemmas.List.{take_more}
use Rattle.std.proofs.lemmas.List.Elements.{recursion_from_All, All-from_recursion}
use Rattle.std.proofs.lemmas.List.Folds.{list_any-append}
use Rattle.std.proofs.lemmas.Bool.Decides.{nat_tests}
use Rattle.std.proofs.lemmas.Bool.{or_from}
use Rattle.alg_registry.specs.declared.row.Row.{Row}
use Rattle.alg_registry.specs.Rows.{is_held, stands_on, holders, counted}
use Rattle.alg_registry.specs.MarkCounts.{referred, referred_by, gave, gave_all}
use Rattle.alg_registry.proofs.Restanding.{weight, holders-cons}

abbrev pub bit : Bool → ℕ
bit b = cond b 1 0

differ : (a b : ℕ) → a ≢ b → eqb a b ≡ false
differ a b ne = grind (arith, nat_tests)

equal : (a : ℕ) → eqb a a ≡ true
equal a = grind (arith, nat_tests)

-- the entry with so many more references
abbrev pub more : ℕ → Row → Row
more n row = record row { references = row.references + n }

no_more : (row : Row) (b : Bool) → b ≡ false → more (bit b) row ≡ row
no_more row b e = let same : row.references + bit b ≡ row.references = omega (arith, ap bit e) in λ i. record row { references = same i }

one_more : (row : Row) (b : Bool) → b ≡ true → record row { references = row.references + 1 } ≡ more (bit b) row
one_more row b e = let same : row.references + 1 ≡ row.references + bit b = omega (arith, ap bit e) in λ i. record row { references = same i }

-- ---- one child

referred-past : (n c : ℕ) (rows : List Row) → c < n → referred n (c ∷ []) rows ≡ rows
referred-past n c [] lt = refl
referred-past n c (row ∷ rows) lt =
    λ i. no_more row (eqb c n || false) (or_from (eqb c n) false (differ c n (λ e. absurd (omega (arith, lt, e)))) refl) i ∷ referred-past (n + 1) c rows (omega (arith, lt)) i

referred_beyond : (n c : ℕ) (rows : List Row) → n + length rows ≤ c → referred n (c ∷ []) rows ≡ rows
referred_beyond n c [] le = refl
referred_beyond n c (row ∷ rows) le =
    λ i. no_more row (eqb c n || false) (or_from (eqb c n) false (differ c n (λ e. absurd (omega (arith, le, e)))) refl) i ∷ referred_beyond (n + 1) c rows (omega (arith, le)) i

pub referred-beyond : (c : ℕ) (rows : List Row) → length rows ≤ c → rows ≡ referred 0 (c ∷ []) rows
referred-beyond c rows le = sym (referred_beyond 0 c rows (omega (arith, le)))

referred_at : (n c k : ℕ) (rows : List Row) (d : Row) → c ≡ n + k → k < length rows → set rows k (let r : Row = get_or rows k d in record r { references = r.references + 1 }) ≡ referred n (c ∷ []) rows
referred_at n c k [] d at lt = absurd (omega (arith, lt))
referred_at n c zero (row ∷ rows) d at lt =
    let here : eqb c n ≡ true = subst (λ (m : ℕ). eqb c m ≡ true) (let e : c ≡ n = omega (arith, at) in e) (equal c) in
    λ i. one_more row (eqb c n || false) (ap (λ b. b || false) here) i ∷ sym (referred-past (n + 1) c rows (omega (arith, at))) i
referred_at n c (suc k) (row ∷ rows) d at lt =
    λ i. sym (no_more row (eqb c n || false) (or_from (eqb c n) false (differ c n (λ e. absurd (omega (arith, at, e)))) refl)) i ∷ referred_at (n + 1) c k rows d (omega (arith, at)) (omega (arith, lt)) i

pub referred-at : (c : ℕ) (rows : List Row) (d : Row) → c < length rows → set rows c (let r : Row = get_or rows c d in record r { references = r.references + 1 }) ≡ referred 0 (c ∷ []) rows
referred-at c rows d lt = referred_at 0 c c rows d (omega arith) lt

-- ---- one child more

pub referred-none : (n : ℕ) (rows : List Row) → referred n [] rows ≡ rows
referred-none n [] = refl
referred-none n (row ∷ rows) = λ i. no_more row false refl i ∷ referred-none (n + 1) rows i

list_has : (ids : List ℕ) (c n : ℕ) → eqb c n ≡ true → list_any (λ child. eqb child c) ids ≡ list_any (λ child. eqb child n) ids
list_has ids c n e = let same : c ≡ n = grind (arith, nat_tests) in ap (λ (m : ℕ). list_any (λ child. eqb child m) ids) same

-- that was there before
referred_again : (n : ℕ) (ids : List ℕ) (c : ℕ) (rows : List Row) → list_any (λ child. eqb child c) ids ≡ true → referred n (ids ++ c ∷ []) rows ≡ referred n ids rows
referred_again n ids c [] has = refl
referred_again n ids c (row ∷ rows) has =
    let same : list_any (λ child. eqb child n) (ids ++ c ∷ []) ≡ list_any (λ child. eqb child n) ids = list_any-append (λ child. eqb child n) ids (c ∷ []) ∙ here (eqb c n) refl in
    λ i. more (bit (same i)) row ∷ referred_again (n + 1) ids c rows has i
  where
    absorbed : (a b : Bool) → (b ≡ true → a ≡ true) → (a || (b || false)) ≡ a
    absorbed true b h = refl
    absorbed false true h = absurd (cc (h refl))
    absorbed false false h = refl

    here : (b : Bool) → eqb c n ≡ b → (list_any (λ child. eqb child n) ids || (eqb c n || false)) ≡ list_any (λ child. eqb child n) ids
    here b e = absorbed (list_any (λ child. eqb child n) ids) (eqb c n) (λ h. sym (list_has ids c n h) ∙ has)

-- that is new
referred_new : (n : ℕ) (ids : List ℕ) (c : ℕ) (rows : List Row) → list_any (λ child. eqb child c) ids ≡ false → referred n (ids ++ c ∷ []) rows ≡ referred n (c ∷ []) (referred n ids rows)
referred_new n ids c [] none = refl
referred_new n ids c (row ∷ rows) none =
    let sum : bit (list_any (λ child. eqb child n) (ids ++ c ∷ [])) ≡ bit (list_any (λ child. eqb child n) ids) + bit (eqb c n || false) =
    ap bit (list_any-append (λ child. eqb child n) ids (c ∷ [])) ∙ apart (list_any (λ child. eqb child n) ids) (eqb c n) (λ h. sym (list_has ids c n h) ∙ none) in
    let references : row.references + bit (list_any (λ child. eqb child n) (ids ++ c ∷ [])) ≡ (row.references + bit (list_any (λ child. eqb child n) ids)) + bit (eqb c n || false) = omega (arith, sum) in
    λ i. record row { references = references i } ∷ referred_new (n + 1) ids c rows none i
  where
    apart : (a b : Bool) → (b ≡ true → a ≡ false) → bit (a || (b || false)) ≡ bit a + bit (b || false)
    apart true true h = absurd (cc (h refl))
    apart true false h = refl
    apart false true h = refl
    apart false false h = refl

pub referred-again : (ids : List ℕ) (i d : ℕ) (rows : List Row) → i < length ids → list_any (λ child. eqb child (get_or ids i d)) (take i ids) ≡ true
    → referred 0 (take i ids) rows ≡ referred 0 (take (i + 1) ids) rows
referred-again ids i d rows lt has = sym (ap (λ (js : List ℕ). referred 0 js rows) (take_more ids i d lt) ∙ referred_again 0 (take i ids) (get_or ids i d) rows has)

pub referred-new : (ids : List ℕ) (i d : ℕ) (rows : List Row) → i < length ids → list_any (λ child. eqb child (get_or ids i d)) (take i ids) ≡ false
    → referred 0 (get_or ids i d ∷ []) (referred 0 (take i ids) rows) ≡ referred 0 (take (i + 1) ids) rows
referred-new ids i d rows lt none = sym (ap (λ (js : List ℕ). referred 0 js rows) (take_more ids i d lt) ∙ referred_new 0 (take i ids) (get_or ids i d) rows none)

abbrev pub HasFewer : ℕ → Row → Type 0
HasFewer n row = row.references < n

bit-le : (b : Bool) → bit b ≤ 1
bit-le true = omega arith
bit-le false = omega arith

few_referred : (n m k : ℕ) (ids : List ℕ) (rows : List Row) → m < k → AllByRecursion (HasFewer m) rows → AllByRecursion (HasFewer k) (referred n ids rows)
few_referred n m k ids [] lt all = tt
few_referred n m k ids (row ∷ rows) lt all = (omega (arith, all.0, bit-le (list_any (λ child. eqb child n) ids), lt), few_referred (n + 1) m k ids rows lt all.1)

pub few-referred : (m k : ℕ) (ids : List ℕ) (rows : List Row) → m < k → All (HasFewer m) rows → All (HasFewer k) (referred 0 ids rows)
few-referred m k ids rows lt all = All-from_recursion (HasFewer k) (referred 0 ids rows) (few_referred 0 m k ids rows lt (recursion_from_All (HasFewer m) rows all))

-- an entry with the references of callers alone
abbrev pub uncounted : Row → Row
uncounted row = record row { references = row.taken }

-- ---- the entries from this id on, with the references that these newer ones give

abbrev pub tallied : ℕ → List Row → List Row → List Row
tallied id newer [] = []
tallied id newer (row ∷ rows) = record row { references = row.taken + holders id newer } ∷ tallied (id + 1) newer rows

pub tallied-none : (id : ℕ) (rows : List Row) → map uncounted rows ≡ tallied id [] rows
tallied-none id [] = refl
tallied-none id (row ∷ rows) = let e : row.taken ≡ row.taken + 0 = omega arith in λ i. record row { references = e i } ∷ tallied-none (id + 1) rows i

pub length-tallied : (id : ℕ) (newer rows : List Row) → length (tallied id newer rows) ≡ length rows
length-tallied id newer [] = refl
length-tallied id newer (row ∷ rows) = ap suc (length-tallied (id + 1) newer rows)

tallied-push : (id last : ℕ) (newer before : List Row) (row : Row) → last ≡ id + length before → tallied id newer (before ++ row ∷ []) ≡ tallied id newer before ++ record row { references = row.taken + holders last newer } ∷ []
tallied-push id last newer [] row at = let e : id ≡ last = omega (arith, at) in λ i. record row { references = row.taken + holders (e i) newer } ∷ []
tallied-push id last newer (x ∷ before) row at = ap (λ rs. record x { references = x.taken + holders id newer } ∷ rs) (tallied-push (id + 1) last newer before row (omega (arith, at)))

-- one that is held gives one to each below it
tallied_held : (id : ℕ) (row : Row) (newer rows : List Row) → is_held row ≡ true → referred id row.spec.below (tallied id newer rows) ≡ tallied id (row ∷ newer) rows
tallied_held id row newer [] held = refl
tallied_held id row newer (x ∷ rows) held =
    let one : weight id row ≡ bit (stands_on id row) = λ i. bit (held i && stands_on id row) in
    let references : (x.taken + holders id newer) + bit (stands_on id row) ≡ x.taken + holders id (row ∷ newer) = omega (arith, one, holders-cons id row newer) in
    λ i. record x { references = references i } ∷ tallied_held (id + 1) row newer rows held i

tallied_unheld : (id : ℕ) (row : Row) (newer rows : List Row) → is_held row ≡ false → tallied id newer rows ≡ tallied id (row ∷ newer) rows
tallied_unheld id row newer [] held = refl
tallied_unheld id row newer (x ∷ rows) held =
    let none : weight id row ≡ 0 = λ i. bit (held i && stands_on id row) in
    let references : x.taken + holders id newer ≡ x.taken + holders id (row ∷ newer) = omega (arith, none, holders-cons id row newer) in
    λ i. record x { references = references i } ∷ tallied_unheld (id + 1) row newer rows held i

tallied-gives : (row : Row) (newer rows : List Row) → referred_by (tallied 0 newer rows) (row ∷ newer) ≡ tallied 0 (row ∷ newer) rows ++ row ∷ newer
tallied-gives row newer rows = ap (λ rs. rs ++ row ∷ newer) (here (is_held row) refl)
  where
    here : (b : Bool) → is_held row ≡ b → cond b (referred 0 row.spec.below (tallied 0 newer rows)) (tallied 0 newer rows) ≡ tallied 0 (row ∷ newer) rows
    here true e = tallied_held 0 row newer rows e
    here false e = tallied_unheld 0 row newer rows e

gave-seam : (n : ℕ) (xs ys : List Row) → n ≡ length xs → gave n (xs ++ ys) ≡ referred_by xs ys
gave-seam n xs ys at = ap (λ (m : ℕ). gave m (xs ++ ys)) at ∙ (λ i. referred_by (take-append_seam xs ys i) (drop-append_seam xs ys i))

-- the entries, where those from the place on have their references, and the older ones those that these give
abbrev pub tally : ℕ → List Row → List Row → List Row
tally place before rest = tallied 0 (counted place rest) before ++ counted place rest

pub gave-tally : (place : ℕ) (before : List Row) (row : Row) (rest : List Row) → place ≡ length before
    → gave place (tally (place + 1) (before ++ row ∷ []) rest) ≡ tally place before (row ∷ rest)
gave-tally place before row rest at =
    let newer : List Row = counted (place + 1) rest in
    let first : Row = record row { references = row.taken + holders place newer } in
    let split : tallied 0 newer (before ++ row ∷ []) ++ newer ≡ tallied 0 newer before ++ first ∷ newer =
    ap (λ rs. rs ++ newer) (tallied-push 0 place newer before row (omega (arith, at))) ∙ append_assoc (tallied 0 newer before) (first ∷ []) newer in
    ap (λ rs. gave place rs) split
    ∙ (gave-seam place (tallied 0 newer before) (first ∷ newer) (omega (arith, at, length-tallied 0 newer before)) ∙ tallied-gives first newer before)

all_taken : (P : Row → Type 0) (n : ℕ) (rows : List Row) → AllByRecursion P rows → AllByRecursion P (take n rows)
all_taken P zero rows all = tt
all_taken P (suc n) [] all = tt
all_taken P (suc n) (row ∷ rows) all = (all.0, all_taken P n rows all.1)

-- one that isn't held gives nothing
pub skip-tally : (place : ℕ) (before : List Row) (row : Row) (rest : List Row) → place ≡ length before
    → is_held (record row { references = row.taken + holders place (counted (place + 1) rest) }) ≡ false → tally (place + 1) (before ++ row ∷ []) rest ≡ tally place before (row ∷ rest)
skip-tally place before row rest at dead =
    let newer : List Row = counted (place + 1) rest in
    let first : Row = record row { references = row.taken + holders place newer } in
    ap (λ rs. rs ++ newer) (tallied-push 0 place newer before row (omega (arith, at)))
    ∙ (append_assoc (tallied 0 newer before) (first ∷ []) newer ∙ ap (λ rs. rs ++ first ∷ newer) (tallied_unheld 0 first newer before dead))

-- ---- no entry has more references than as many as give

few_more : (m k : ℕ) (rows : List Row) → m ≤ k → AllByRecursion (HasFewer m) rows → AllByRecursion (HasFewer k) rows
few_more m k [] le all = tt
few_more m k (row ∷ rows) le all = (omega (arith, all.0, le), few_more m k rows le all.1)

all_both : (P : Row → Type 0) (xs ys : List Row) → AllByRecursion P xs → AllByRecursion P ys → AllByRecursion P (xs ++ ys)
all_both P [] ys a b = b
all_both P (x ∷ xs) ys a b = (a.0, all_both P xs ys a.1 b)

all_dropped : (P : Row → Type 0) (n : ℕ) (rows : List Row) → AllByRecursion P rows → AllByRecursion P (drop n rows)
all_dropped P zero rows all = all
all_dropped P (suc n) [] all = tt
all_dropped P (suc n) (row ∷ rows) all = all_dropped P n rows all.1

few_gave_by : (m : ℕ) (older newer : List Row) → AllByRecursion (HasFewer m) older → AllByRecursion (HasFewer m) newer → AllByRecursion (HasFewer (m + 1)) (referred_by older newer)
few_gave_by m older [] a b = few_more m (m + 1) older (omega arith) a
few_gave_by m older (row ∷ newer) a b = all_both (HasFewer (m + 1)) _ (row ∷ newer) (here (is_held row)) (few_more m (m + 1) (row ∷ newer) (omega arith) b)
  where
    here : (held : Bool) → AllByRecursion (HasFewer (m + 1)) (cond held (referred 0 row.spec.below older) older)
    here true = few_referred 0 m (m + 1) row.spec.below older (omega arith) a
    here false = few_more m (m + 1) older (omega arith) a

few_gave_all : (m k : ℕ) (ids : List ℕ) (rows : List Row) → m + length ids ≤ k → AllByRecursion (HasFewer m) rows → AllByRecursion (HasFewer k) (gave_all ids rows)
few_gave_all m k [] rows le all = few_more m k rows (omega (arith, le)) all
few_gave_all m k (id ∷ ids) rows le all =
    let rest = few_gave_all m (m + length ids) ids rows (omega arith) all in
    few_more ((m + length ids) + 1) k (gave id (gave_all ids rows)) (omega (arith, le))
    (few_gave_by (m + length ids) (take id (gave_all ids rows)) (drop id (gave_all ids rows)) (all_taken (HasFewer (m + length ids)) id (gave_all ids rows) rest) (all_dropped (HasFewer (m + length ids)) id (gave_all ids rows) rest))

pub few-gave_all : (m k : ℕ) (ids : List ℕ) (rows : List Row) → m + length ids ≤ k → All (HasFewer m) rows → All (HasFewer k) (gave_all ids rows)
few-gave_all m k ids rows le all = All-from_recursion (HasFewer k) (gave_all ids rows) (few_gave_all m k ids rows le (recursion_from_All (HasFewer m) rows all))
