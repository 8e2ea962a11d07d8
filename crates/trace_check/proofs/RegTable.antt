-- A light table of a registry: its entries with their marks, and without their references.
use Rattle.std.proofs.Common.{◌≡◌, ℕ, zero, suc, ◌+◌, Bool, false, not, cond, ◌&&◌, ◌||◌, List, [], ◌∷◌, ◌++◌, length, map, Option, Some, None, get_or, refl, sym, ◌∙◌, ap, append-nil, append_assoc}
use Rattle.std.specs.Prelude.{slice_get, slice_set}
use Rattle.std.specs.List.{list_any, list_all, position_from}
use Rattle.std.specs.Option.{option_map, option_map_or}
use Rattle.std.specs.Str.{bytes_eq}
use Rattle.std.proofs.lemmas.List.{map-set, map-append, length-map}
use Rattle.std.proofs.lemmas.Option.{slice_get-map}
use Rattle.alg_registry.specs.declared.spec.Spec.{Spec}
use Rattle.alg_registry.specs.declared.row.Row.{Row}
use Rattle.alg_registry.specs.declared.row.Larval.{Larval}
use Rattle.alg_registry.specs.declared.entry.RegEntry.{RegEntry}
use Rattle.alg_registry.specs.Rows.{stays_listed, marked, counted, standing, listed_at, rows_of}
use Rattle.alg_registry.specs.Answers.{may_find, answers_to, better, best_from, found_best, found_driver, look_answer, clashes_with, driver_place, held_count}
use Rattle.alg_registry.specs.Calls.{new_row, unlisted_row}
use Rattle.trace_check.specs.Registers.{unreferred}
use Rattle.alg_registry.proofs.Standing.{bare, marked-bare}
use Rattle.alg_registry.proofs.Restanding.{Stands, mark, same_stays, same_push, stands-from, standing-rows_of}

-- the marks of the entries, by what was done to each
abbrev pub marks_of : List Row → List Row
marks_of rows = marked [] rows

unreferred-counted : (id : ℕ) (rows : List Row) → map unreferred (counted id rows) ≡ map unreferred rows
unreferred-counted id [] = refl
unreferred-counted id (row ∷ rows) = ap (λ rs. unreferred row ∷ rs) (unreferred-counted (id + 1) rows)

marks_same : (rows : List Row) → map mark (map unreferred rows) ≡ map mark rows
marks_same [] = refl
marks_same (row ∷ rows) = ap (λ ms. mark row ∷ ms) (marks_same rows)

unreferred-marked : (older rows : List Row) → map unreferred (marked older rows) ≡ marked (map unreferred older) rows
unreferred-marked older [] = refl
unreferred-marked older (row ∷ rows) =
    let first : Row = record row { listed = stays_listed older row; references = 0 } in
    let same : stays_listed (map unreferred older) row ≡ stays_listed older row = same_stays older (map unreferred older) row (marks_same older) in
    unreferred-marked (older ++ first ∷ []) rows
    ∙ (ap (λ rs. marked rs rows) (map-append unreferred older (first ∷ []))
    ∙ ap (λ l. marked (map unreferred older ++ (let r : Row = record row { listed = l; references = 0 } in r) ∷ []) rows) (sym same))

-- entries that stand as they should have just these marks
pub unreferred-standing : (rows : List Row) → map unreferred (standing rows) ≡ marks_of rows
unreferred-standing rows = unreferred-counted 0 (marked [] rows) ∙ unreferred-marked [] rows

bare-unreferred : (rows : List Row) → map bare (map unreferred rows) ≡ map bare rows
bare-unreferred [] = refl
bare-unreferred (row ∷ rows) = ap (λ rs. bare row ∷ rs) (bare-unreferred rows)

-- marks depend on what was done to each entry alone
pub same_marks : (xs ys : List Row) → map bare xs ≡ map bare ys → marks_of xs ≡ marks_of ys
same_marks xs ys e = sym (marked-bare [] xs) ∙ (ap (λ rs. marked [] rs) e ∙ marked-bare [] ys)

-- one entry of the table is changed, and all are marked again
pub table_set : (rows table : List Row) (change : Row → Row) (p : ℕ) (d : Row) → ((row : Row) → bare (change (unreferred row)) ≡ bare (change row)) → table ≡ map unreferred rows
    → marks_of (slice_set table p (change (unreferred (get_or rows p d)))) ≡ map unreferred (standing (slice_set rows p (change (get_or rows p d))))
table_set rows table change p d alike marks =
    same_marks (slice_set table p (change (unreferred (get_or rows p d)))) (slice_set rows p (change (get_or rows p d)))
    (map-set bare table p (change (unreferred (get_or rows p d)))
    ∙ (ap (λ rs. slice_set (map bare rs) p (bare (change (unreferred (get_or rows p d))))) marks
    ∙ (ap (λ rs. slice_set rs p (bare (change (unreferred (get_or rows p d))))) (bare-unreferred rows)
    ∙ (ap (λ r. slice_set (map bare rows) p r) (alike (get_or rows p d))
    ∙ sym (map-set bare rows p (change (get_or rows p d)))))))
    ∙ sym (unreferred-standing (slice_set rows p (change (get_or rows p d))))

pub table_unlisted : (rows table : List Row) (p : ℕ) (d : Row) → table ≡ map unreferred rows → marks_of (slice_set table p (unlisted_row (unreferred (get_or rows p d)))) ≡ map unreferred (standing (slice_set rows p (unlisted_row (get_or rows p d))))
table_unlisted rows table p d marks = table_set rows table unlisted_row p d (λ row. refl) marks

-- A mark depends on what stands on what, and on what was unlisted: where references of an entry are taken or given
-- back, marks stay.
abbrev key : Row → Bool × Bool × List ℕ
key row = (row.listed, row.unlisted, row.spec.below)

abbrev IsMarked : List Row → List Row → Type 0
IsMarked older [] = Unit {0}
IsMarked older (row ∷ rows) = (row.listed ≡ stays_listed older row) × IsMarked (older ++ row ∷ []) rows

marked-from : (older rows : List Row) → Stands older rows → IsMarked older rows
marked-from older [] s = tt
marked-from older (row ∷ rows) s = (s.0, marked-from (older ++ row ∷ []) rows s.2)

marked-is : (older older' rows : List Row) → map mark older' ≡ map mark older → IsMarked older rows → marked older' rows ≡ older' ++ map unreferred rows
marked-is older older' [] same m = sym (append-nil older')
marked-is older older' (row ∷ rows) same m =
    let e : stays_listed older' row ≡ row.listed = same_stays older older' row same ∙ sym m.0 in
    let first : older' ++ record row { listed = stays_listed older' row; references = 0 } ∷ [] ≡ older' ++ unreferred row ∷ [] = λ i. older' ++ record row { listed = e i; references = 0 } ∷ [] in
    ap (λ (o : List Row). marked o rows) first
    ∙ (marked-is (older ++ row ∷ []) (older' ++ unreferred row ∷ []) rows (same_push older older' row (unreferred row) same refl) m.1
    ∙ append_assoc older' (unreferred row ∷ []) (map unreferred rows))

marked-alike : (older older' rows rows' : List Row) → map mark older' ≡ map mark older → map key rows' ≡ map key rows → IsMarked older rows → IsMarked older' rows'
marked-alike older older' rows [] same keys m = tt
marked-alike older older' [] (q ∷ qs) same keys m = cc
marked-alike older older' (r ∷ rs) (q ∷ qs) same keys m =
    let head : key q ≡ key r = cc in
    let rest : map key qs ≡ map key rs = cc in
    let listed : q.listed ≡ r.listed = ap (λ (k : Bool × Bool × List ℕ). k.0) head in (
      listed ∙ (m.0 ∙ (sym (same_stays older older' r same) ∙ ap (λ (k : Bool × Bool × List ℕ). not k.1 && list_all (listed_at older') k.2) (sym head))),
      marked-alike (older ++ r ∷ []) (older' ++ q ∷ []) rs qs (same_push older older' r q same listed) rest m.1,
    )

keys-set : (rows : List Row) (p : ℕ) (d x : Row) → key x ≡ key (get_or rows p d) → map key (slice_set rows p x) ≡ map key rows
keys-set [] p d x e = refl
keys-set (row ∷ rows) zero d x e = ap (λ k. k ∷ map key rows) e
keys-set (row ∷ rows) (suc p) d x e = ap (λ ks. key row ∷ ks) (keys-set rows p d x e)

pub table_counted : (h : List RegEntry) (change : Row → Row) (p : ℕ) (d : Row) → ((row : Row) → key (change row) ≡ key row) → ((row : Row) → unreferred (change row) ≡ change (unreferred row))
    → slice_set (map unreferred (rows_of h)) p (change (unreferred (get_or (rows_of h) p d))) ≡ map unreferred (standing (slice_set (rows_of h) p (change (get_or (rows_of h) p d))))
table_counted h change p d alike bare =
    let rows = rows_of h in
    let new = change (get_or rows p d) in
    let stood : IsMarked [] rows = marked-from [] rows (stands-from rows (standing-rows_of h rows refl)) in
    let stand : IsMarked [] (slice_set rows p new) = marked-alike [] [] rows (slice_set rows p new) refl (keys-set rows p d new (alike (get_or rows p d))) stood in
    ap (λ r. slice_set (map unreferred rows) p r) (sym (bare (get_or rows p d)))
    ∙ (sym (map-set unreferred rows p new) ∙ (sym (marked-is [] [] (slice_set rows p new) refl stand) ∙ sym (unreferred-standing (slice_set rows p new))))

-- and so where one is added
pub table_added : (rows table : List Row) (spec : Spec) → table ≡ map unreferred rows → marks_of (table ++ new_row spec ∷ []) ≡ map unreferred (standing (rows ++ new_row spec ∷ []))
table_added rows table spec marks =
    same_marks (table ++ new_row spec ∷ []) (rows ++ new_row spec ∷ [])
    (map-append bare table (new_row spec ∷ [])
    ∙ (ap (λ rs. map bare rs ++ bare (new_row spec) ∷ []) marks
    ∙ (ap (λ rs. rs ++ bare (new_row spec) ∷ []) (bare-unreferred rows) ∙ sym (map-append bare rows (new_row spec ∷ [])))))
    ∙ sym (unreferred-standing (rows ++ new_row spec ∷ []))

-- What calls read off the table is what they read off the entries.
position-unreferred : (t : Row → Bool) → ((row : Row) → t (unreferred row) ≡ t row) → (i : ℕ) (rows : List Row) → position_from t i (map unreferred rows) ≡ position_from t i rows
position-unreferred t alike i [] = refl
position-unreferred t alike i (row ∷ rows) =
    ap (λ b. cond b (Some i) (position_from t (i + 1) (map unreferred rows))) (alike row) ∙ ap (λ o. cond (t row) (Some i) o) (position-unreferred t alike (i + 1) rows)

any-unreferred : (t : Row → Bool) → ((row : Row) → t (unreferred row) ≡ t row) → (rows : List Row) → list_any t (map unreferred rows) ≡ list_any t rows
any-unreferred t alike [] = refl
any-unreferred t alike (row ∷ rows) = ap (λ b. b || list_any t (map unreferred rows)) (alike row) ∙ ap (λ b. t row || b) (any-unreferred t alike rows)

best-unreferred : (larvals : List Larval) (text : List ℕ) (plain : Bool) (id : ℕ) (rows : List Row) → best_from larvals text plain id (map unreferred rows) ≡ best_from larvals text plain id rows
best-unreferred larvals text plain id [] = refl
best-unreferred larvals text plain id (row ∷ rows) =
    ap (λ o. cond (answers_to larvals text plain id row) (better id row o) o) (best-unreferred larvals text plain (id + 1) rows)

pub look-table : (rows table : List Row) (larvals : List Larval) (text : List ℕ) (plain : Bool) → table ≡ map unreferred rows → look_answer table larvals text plain ≡ look_answer rows larvals text plain
look-table rows table larvals text plain marks =
    let t : Row → Bool = λ row. may_find plain row && bytes_eq row.spec.driver text in
    ap (λ rs. look_answer rs larvals text plain) marks
    ∙ (ap (λ o. found_driver (map unreferred rows) larvals text plain o) (position-unreferred t (λ row. refl) 0 rows)
    ∙ found_same (position_from t 0 rows))
  where
    found_same : (o : Option ℕ) → found_driver (map unreferred rows) larvals text plain o ≡ found_driver rows larvals text plain o
    found_same (Some id) = refl
    found_same None = ap (λ o. found_best larvals text o) (best-unreferred larvals text plain 0 rows)

pub clash-table : (rows table : List Row) (spec : Spec) → table ≡ map unreferred rows → list_any (clashes_with spec) table ≡ list_any (clashes_with spec) rows
clash-table rows table spec marks = ap (list_any (clashes_with spec)) marks ∙ any-unreferred (clashes_with spec) (λ row. refl) rows

pub driver-table : (rows table : List Row) (driver : List ℕ) → table ≡ map unreferred rows → driver_place table driver ≡ driver_place rows driver
driver-table rows table driver marks = ap (λ rs. driver_place rs driver) marks ∙ position-unreferred (λ row. row.listed && bytes_eq row.spec.driver driver) (λ row. refl) 0 rows

pub listed-table : (rows table : List Row) (id : ℕ) → table ≡ map unreferred rows → listed_at table id ≡ listed_at rows id
listed-table rows table id marks =
    ap (λ rs. listed_at rs id) marks ∙ (ap (λ o. option_map_or (λ row. row.listed) o false) (slice_get-map unreferred rows id) ∙ mapped (slice_get rows id))
  where
    mapped : (o : Option Row) → option_map_or (λ row. row.listed) (option_map unreferred o) false ≡ option_map_or (λ row. row.listed) o false
    mapped None = refl
    mapped (Some row) = refl

pub length-table : (rows table : List Row) → table ≡ map unreferred rows → length table ≡ length rows
length-table rows table marks = ap length marks ∙ length-map rows unreferred

-- how many are held is counted afresh, from the newest to the oldest, where so many are there that it matters
pub held-table : (h : List RegEntry) (rows table : List Row) → rows ≡ rows_of h → table ≡ map unreferred rows → held_count (counted 0 table) ≡ held_count rows
held-table h rows table are marks =
    let stands : standing rows ≡ rows = standing-rows_of h rows are in
    let same : table ≡ marked [] rows = marks ∙ (ap (map unreferred) (sym stands) ∙ unreferred-standing rows) in
    ap (λ rs. held_count (counted 0 rs)) same ∙ ap held_count stands
