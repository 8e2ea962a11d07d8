-- What each call changes in the table of entries.
use Rattle.std.proofs.Common.{◌≡◌, ℕ, zero, suc, ◌+◌, ◌-◌, ◌<◌, ◌≤◌, Bool, true, false, ◌&&◌, List, [], ◌∷◌, ◌++◌, length, take, drop, get_or, set, refl, sym, ap, ◌∙◌, subst, arith, length-append}
use Rattle.std.specs.List.{All, AllByRecursion, filter}
use Rattle.std.proofs.lemmas.List.Elements.{recursion_from_All, All-from_recursion}
use Rattle.std.proofs.Math.Seq.{take-append_seam}
use Rattle.std.proofs.lemmas.List.Sums.{count_by-le-length}
use Rattle.alg_registry.specs.declared.row.Row.{Row}
use Rattle.alg_registry.specs.declared.spec.Kind.TheVariants.{Cipher}
use Rattle.alg_registry.specs.declared.spec.Wrap.TheVariants.{Plain}
use Rattle.alg_registry.specs.Rows.{is_held, stands_on, listed_at, stays_listed, marked, counted, standing}
use Rattle.alg_registry.specs.Alone.{unlists_alone, puts_alone}
use Rattle.alg_registry.specs.Calls.{unlisted_row, taken_row, put_row_of}
use Rattle.alg_registry.specs.MarkCounts.{remarked_all, restood}
use Rattle.alg_registry.specs.Held.{held_from, listed_from, is_row_listed, passes, IsRowTable}
use Rattle.alg_registry.proofs.Fresh.{is_listed-within}
use Rattle.alg_registry.proofs.Restanding.{Stands, standing-twice, any_default, listed_at-get, unlist-alone, take-alone, put-alone, stands-from, stands-at, held_listed, held_referenced}
use Rattle.alg_registry.proofs.Restood.{AreChanged, changed-set, restands, few-remarked, AreFewer, fewer, fewer-listed, filter-ids, ids-same}
use Rattle.alg_registry.proofs.Seen.{length-filter}
use Rattle.alg_registry.proofs.Tallies.{HasFewer}

-- ---- an entry is unlisted

pub unlist-lone : (rows : List Row) (p : ℕ) (t x d : Row) → listed_at rows p ≡ true → standing rows ≡ rows → unlists_alone (get_or rows p t) ≡ true
    → set rows p (let r : Row = get_or rows p x in record r { unlisted = true; listed = false }) ≡ standing (set rows p (unlisted_row (get_or rows p d)))
unlist-lone rows p t x d listed stands test =
    let lt : p < length rows = is_listed-within rows p listed in
    unlist-alone rows p x lt stands (ap unlists_alone (any_default rows p x t lt) ∙ test) ∙ ap (λ r. standing (set rows p (unlisted_row r))) (any_default rows p x d lt)

never : (b : Bool) → b ≡ true → b ≡ false → ⊥
never true e f = cc
never false e f = cc

pub unlist-changes : (rows : List Row) (p : ℕ) (d : Row) → listed_at rows p ≡ true → AreChanged rows (set rows p (unlisted_row (get_or rows p d)))
unlist-changes rows p d listed =
    let lt : p < length rows = is_listed-within rows p listed in
    let r : Row = get_or rows p d in
    let held : is_held r ≡ true = held_listed r (sym (listed_at-get rows p d lt) ∙ listed) in
    changed-set rows p (unlisted_row r) d lt (record { spec = refl; unlisted = λ e. refl; dead = λ e. absurd (never (is_held r) held e) })

few_set : (m p : ℕ) (rows : List Row) (row d : Row) → p < length rows → row.taken ≤ (let r : Row = get_or rows p d in r.taken) → AllByRecursion (λ (r : Row). r.taken < m) rows → AllByRecursion (λ (r : Row). r.taken < m) (set rows p row)
few_set m p [] row d lt le all = tt
few_set m zero (x ∷ rows) row d lt le all = (omega (arith, all.0, le), all.1)
few_set m (suc p) (x ∷ rows) row d lt le all = (all.0, few_set m p rows row d (omega (arith, lt)) le all.1)

few-set : (m p : ℕ) (rows : List Row) (row d : Row) → p < length rows → row.taken ≤ (let r : Row = get_or rows p d in r.taken) → All (λ (r : Row). r.taken < m) rows → All (λ (r : Row). r.taken < m) (set rows p row)
few-set m p rows row d lt le all = All-from_recursion (λ (r : Row). r.taken < m) (set rows p row) (few_set m p rows row d lt le (recursion_from_All (λ (r : Row). r.taken < m) rows all))

-- the entries of these ids get their marks and references again, where entries changed
pub record IsRestood (old rows : List Row) (m : ℕ) : Type 0 where
  pub few : All (HasFewer m) (remarked_all (held_from 0 old) rows)
  pub is : restood (held_from 0 old) rows ≡ standing rows

pub unlist-restands : (rows : List Row) (m p : ℕ) (d : Row) → listed_at rows p ≡ true → standing rows ≡ rows → All (λ (r : Row). r.taken < m) rows → IsRestood rows (set rows p (unlisted_row (get_or rows p d))) m
unlist-restands rows m p d listed stands few =
    let change = unlist-changes rows p d listed in
    let lt : p < length rows = is_listed-within rows p listed in
    record {
      few = few-remarked m rows (set rows p (unlisted_row (get_or rows p d))) stands change (few-set m p rows (unlisted_row (get_or rows p d)) d lt (omega arith) few);
      is = restands rows (set rows p (unlisted_row (get_or rows p d))) stands change;
    }

-- ---- a reference is given back

pub put-lone : (rows : List Row) (p : ℕ) (t x d : Row) → p < length rows → standing rows ≡ rows → puts_alone (get_or rows p t) ≡ true
    → set rows p (let r : Row = get_or rows p x in record r { taken = r.taken - 1; references = r.references - 1 }) ≡ standing (set rows p (put_row_of (get_or rows p d)))
put-lone rows p t x d lt stands test =
    put-alone rows p x lt stands (ap puts_alone (any_default rows p x t lt) ∙ test) ∙ ap (λ r. standing (set rows p (put_row_of r))) (any_default rows p x d lt)

referenced : (rows : List Row) (p : ℕ) (d : Row) → p < length rows → standing rows ≡ rows → 0 < (let r : Row = get_or rows p d in r.taken) → is_held (get_or rows p d) ≡ true
referenced rows p d lt stands some =
    let at = stands-at [] rows p d lt (stands-from rows stands) in
    held_referenced (get_or rows p d) (omega (arith, at.1, some))

pub put-changes : (rows : List Row) (p : ℕ) (d : Row) → p < length rows → standing rows ≡ rows → 0 < (let r : Row = get_or rows p d in r.taken) → AreChanged rows (set rows p (put_row_of (get_or rows p d)))
put-changes rows p d lt stands some =
    let r : Row = get_or rows p d in
    changed-set rows p (put_row_of r) d lt (record { spec = refl; unlisted = λ e. e; dead = λ e. absurd (never (is_held r) (referenced rows p d lt stands some) e) })

pub put-restands : (rows : List Row) (m p : ℕ) (d : Row) → p < length rows → standing rows ≡ rows → 0 < (let r : Row = get_or rows p d in r.taken) → All (λ (r : Row). r.taken < m) rows
    → IsRestood rows (set rows p (put_row_of (get_or rows p d))) m
put-restands rows m p d lt stands some few =
    let change = put-changes rows p d lt stands some in
    record {
      few = few-remarked m rows (set rows p (put_row_of (get_or rows p d))) stands change (few-set m p rows (put_row_of (get_or rows p d)) d lt (omega arith) few);
      is = restands rows (set rows p (put_row_of (get_or rows p d))) stands change;
    }

-- ---- what the table keeps

pub a_row : Row
a_row = record { spec = record { name = []; driver = []; kind = Cipher; wrap = Plain; priority = 0; below = [] }; unlisted = false; taken = 0; listed = false; references = 0 }

length-counted' : (n : ℕ) (rows : List Row) → length (counted n rows) ≡ length rows
length-counted' n [] = refl
length-counted' n (row ∷ rows) = ap suc (length-counted' (n + 1) rows)

length-marked : (older rows : List Row) → length (marked older rows) ≡ length older + length rows
length-marked older [] = omega arith
length-marked older (row ∷ rows) =
    let first : Row = record row { listed = stays_listed older row; references = 0 } in
    omega (arith, length-marked (older ++ first ∷ []) rows, length-append older (first ∷ []))

pub length-standing : (rows : List Row) → length (standing rows) ≡ length rows
length-standing rows = omega (arith, length-counted' 0 (marked [] rows), length-marked [] rows)

-- after a change, those are let go that are held, or listed, no more
pub kept-fewer : (old changed new : List Row) (held held' listed listed' : List ℕ) (spare room held_room listed_room : ℕ) (spare' room' held_room' listed_room' : ℕ)
    → IsRowTable old held listed spare room held_room listed_room → AreChanged old changed → new ≡ standing changed → length changed ≡ length old
    → held' ≡ filter (passes is_held new) held → listed' ≡ filter (passes is_row_listed new) listed
    → spare' ≡ spare → room ≤ room' → held_room ≤ held_room' → listed_room ≤ listed_room'
    → IsRowTable new held' listed' spare' room' held_room' listed_room'
kept-fewer old changed new held held' listed listed' spare room held_room listed_room spare' room' held_room' listed_room' table change is len letgo struck se re he le =
    let rest : filter (passes is_held new) (held_from 0 old) ≡ held_from 0 new = filter-ids is_held old new (subst (AreFewer is_held old) (sym is) (fewer old changed table.stands change)) in
    let left : filter (passes is_row_listed new) (listed_from 0 old) ≡ listed_from 0 new = filter-ids is_row_listed old new (subst (AreFewer is_row_listed old) (sym is) (fewer-listed old changed table.stands change)) in
    record {
      stands = ap standing is ∙ (standing-twice changed ∙ sym is);
      held_are = letgo ∙ (ap (λ (ids : List ℕ). filter (passes is_held new) ids) table.held_are ∙ rest);
      listed_are = struck ∙ (ap (λ (ids : List ℕ). filter (passes is_row_listed new) ids) table.listed_are ∙ left);
      fits = omega (arith, table.fits, se, re, ap length is, length-standing changed, len);
      held_fits = omega (arith, table.held_fits, se, he, ap length letgo, length-filter (passes is_held new) held);
      listed_fits = omega (arith, table.listed_fits, se, le, ap length struck, length-filter (passes is_row_listed new) listed);
    }

-- after a change that lets none go
pub kept-same : (old changed new : List Row) (held listed : List ℕ) (spare room held_room listed_room : ℕ)
    → IsRowTable old held listed spare room held_room listed_room → new ≡ standing changed → length changed ≡ length old
    → (held_from 0 new ≡ held_from 0 old) × (listed_from 0 new ≡ listed_from 0 old)
    → IsRowTable new held listed spare room held_room listed_room
kept-same old changed new held listed spare room held_room listed_room table is len same = record {
  stands = ap standing is ∙ (standing-twice changed ∙ sym is);
  held_are = table.held_are ∙ sym same.0;
  listed_are = table.listed_are ∙ sym same.1;
  fits = omega (arith, table.fits, ap length is, length-standing changed, len);
  held_fits = table.held_fits;
  listed_fits = table.listed_fits;
}

-- an entry that stays held when a reference to it is given back
pub put-same : (rows : List Row) (p : ℕ) (x : Row) → p < length rows → standing rows ≡ rows → 0 < (let r : Row = get_or rows p x in r.taken)
    → is_held (let r : Row = get_or rows p x in record r { taken = r.taken - 1; references = r.references - 1 }) ≡ true
    → (held_from 0 (set rows p (let r : Row = get_or rows p x in record r { taken = r.taken - 1; references = r.references - 1 })) ≡ held_from 0 rows)
    × (listed_from 0 (set rows p (let r : Row = get_or rows p x in record r { taken = r.taken - 1; references = r.references - 1 })) ≡ listed_from 0 rows)
put-same rows p x lt stands some held =
    let r : Row = get_or rows p x in
    let put : Row = record r { taken = r.taken - 1; references = r.references - 1 } in
    (ids-same is_held 0 rows p put x (held ∙ sym (referenced rows p x lt stands some)), ids-same is_row_listed 0 rows p put x refl)

-- ---- a reference is taken

few_stands : (m k : ℕ) (older rows : List Row) → Stands older rows → m + length rows ≤ k → AllByRecursion (λ (r : Row). r.taken < m) rows → AllByRecursion (HasFewer k) rows
few_stands m k older [] stands le all = tt
few_stands m k older (row ∷ rows) stands le all =
    (omega (arith, all.0, le, stands.1, count_by-le-length (λ r. is_held r && stands_on (length older) r) rows), few_stands m k (older ++ row ∷ []) rows stands.2 (omega (arith, le)) all.1)

-- there are no more references than are taken and entries are there
pub few-standing : (m k : ℕ) (rows : List Row) → standing rows ≡ rows → m + length rows ≤ k → All (λ (r : Row). r.taken < m) rows → All (HasFewer k) rows
few-standing m k rows stands le all = All-from_recursion (HasFewer k) rows (few_stands m k [] rows (stands-from rows stands) le (recursion_from_All (λ (r : Row). r.taken < m) rows all))

pub take-lone : (rows : List Row) (p : ℕ) (x d : Row) → listed_at rows p ≡ true → standing rows ≡ rows
    → set rows p (let r : Row = get_or rows p x in record r { taken = r.taken + 1; references = r.references + 1 }) ≡ standing (set rows p (taken_row (get_or rows p d)))
take-lone rows p x d listed stands =
    let lt : p < length rows = is_listed-within rows p listed in
    take-alone rows p x lt stands (sym (listed_at-get rows p x lt) ∙ listed) ∙ ap (λ r. standing (set rows p (taken_row r))) (any_default rows p x d lt)

pub take-held : (rows : List Row) (p : ℕ) (x : Row) → listed_at rows p ≡ true
    → held_from 0 (set rows p (let r : Row = get_or rows p x in record r { taken = r.taken + 1; references = r.references + 1 })) ≡ held_from 0 rows
take-held rows p x listed =
    let lt : p < length rows = is_listed-within rows p listed in
    let r : Row = get_or rows p x in
    let is : r.listed ≡ true = sym (listed_at-get rows p x lt) ∙ listed in
    ids-same is_held 0 rows p (record r { taken = r.taken + 1; references = r.references + 1 }) x (held_listed (record r { taken = r.taken + 1; references = r.references + 1 }) is ∙ sym (held_listed r is))

pub take-listed : (rows : List Row) (p : ℕ) (x : Row)
    → listed_from 0 (set rows p (let r : Row = get_or rows p x in record r { taken = r.taken + 1; references = r.references + 1 })) ≡ listed_from 0 rows
take-listed rows p x = let r : Row = get_or rows p x in ids-same is_row_listed 0 rows p (record r { taken = r.taken + 1; references = r.references + 1 }) x refl

-- what a call leaves in a slice of the whole is the whole
pub whole : (n : ℕ) (new items : List Row) → length new ≡ n → take n (new ++ drop (length new) items) ≡ new
whole n new items len = ap (λ (k : ℕ). take k (new ++ drop (length new) items)) (sym len) ∙ take-append_seam new (drop (length new) items)
