-- What the listed, or the held, entries show is what all entries show.
use Rattle.std.proofs.Common.{◌≡◌, ℕ, suc, ◌+◌, ◌<◌, take, drop, Bool, true, false, cond, ◌&&◌, ◌||◌, List, [], ◌∷◌, ◌++◌, length, Option, Some, None, refl, sym, ap, ◌∙◌, arith, append_assoc, length-append}
use Rattle.std.proofs.Math.ListN.{get_or}
use Rattle.std.proofs.Math.Seq.{drop-cons}
use Rattle.std.proofs.lemmas.List.{take-append-drop}
use Rattle.std.specs.Prelude.{slice_get, count_by, is_some}
use Rattle.std.specs.List.{list_any, find, filter_map, cons_option, position_from}
use Rattle.std.specs.Option.{option_map_or, option_and_then, option_or}
use Rattle.std.specs.Str.{bytes_eq}
use Rattle.std.proofs.lemmas.List.Sums.{sum_by-append}
use Rattle.alg_registry.specs.declared.entry.RefAnswer.{RefAnswer}
use Rattle.alg_registry.specs.declared.spec.Spec.{Spec}
use Rattle.alg_registry.specs.declared.row.Row.{Row}
use Rattle.alg_registry.specs.Rows.{is_held}
use Rattle.alg_registry.specs.Answers.{clashes_with, held_count, driver_place, may_find, better}
use Rattle.alg_registry.specs.Calls.{own_refs, refs_answer, shown, listing}
use Rattle.alg_registry.specs.Larvals.{best_by}
use Rattle.alg_registry.specs.Held.{ids_of, held_from, listed_from, is_row_listed, passes, decided, better_by, best_among, refs_by, refs_among, made_at, is_plain_driver, is_listed_driver}
use Rattle.alg_registry.proofs.Steps.{or_none}

-- what all entries decide, one after the other from the last
abbrev folded : {B : Type 0} → (ℕ → Row → B → B) → B → ℕ → List Row → B
folded f start n [] = start
folded f start n (row ∷ rows) = f n row (folded f start (n + 1) rows)

at_place : (before : List Row) (row : Row) (rows : List Row) → slice_get (before ++ row ∷ rows) (length before) ≡ Some row
at_place [] row rows = refl
at_place (x ∷ before) row rows = at_place before row rows

decided_ids : {B : Type 0} (test : Row → Bool) (f : ℕ → Row → B → B) (start : B) → ((n : ℕ) (row : Row) (b : B) → test row ≡ false → f n row b ≡ b) → (before rows : List Row) (n : ℕ) → n ≡ length before
    → decided f start (before ++ rows) (ids_of test n rows) ≡ folded f start n rows
decided_ids test f start dead before [] n at = refl
decided_ids {B} test f start dead before (row ∷ rows) n at =
    here (test row) refl
    (ap (λ (w : List Row). decided f start w (ids_of test (n + 1) rows)) (sym (append_assoc before (row ∷ []) rows))
    ∙ decided_ids test f start dead (before ++ row ∷ []) rows (n + 1) (omega (arith, at, length-append before (row ∷ []))))
  where
    this : slice_get (before ++ row ∷ rows) n ≡ Some row
    this = ap (λ (k : ℕ). slice_get (before ++ row ∷ rows) k) at ∙ at_place before row rows

    here : (b : Bool) → test row ≡ b → decided f start (before ++ row ∷ rows) (ids_of test (n + 1) rows) ≡ folded f start (n + 1) rows
        → decided f start (before ++ row ∷ rows) (cond b (n ∷ ids_of test (n + 1) rows) (ids_of test (n + 1) rows)) ≡ f n row (folded f start (n + 1) rows)
    here true e rest = (λ i. option_map_or (λ r. f n r (rest i)) (this i) (rest i))
    here false e rest = rest ∙ sym (dead n row (folded f start (n + 1) rows) e)

decided-ids : {B : Type 0} (test : Row → Bool) (f : ℕ → Row → B → B) (start : B) → ((n : ℕ) (row : Row) (b : B) → test row ≡ false → f n row b ≡ b) → (rows : List Row) → decided f start rows (ids_of test 0 rows) ≡ folded f start 0 rows
decided-ids test f start dead rows = decided_ids test f start dead [] rows 0 refl

-- ---- whether one passes a test

any_at : (test : Row → Bool) (o : Option Row) (b : Bool) → (option_map_or test o false || b) ≡ option_map_or (λ row. test row || b) o b
any_at test None b = refl
any_at test (Some row) b = refl

any_decided : (test : Row → Bool) (rows : List Row) (ids : List ℕ) → list_any (passes test rows) ids ≡ decided (λ n row b. test row || b) false rows ids
any_decided test rows [] = refl
any_decided test rows (id ∷ ids) =
    ap (λ b. option_map_or test (slice_get rows id) false || b) (any_decided test rows ids) ∙ any_at test (slice_get rows id) (decided (λ n row b. test row || b) false rows ids)

any_folded : (test : Row → Bool) (n : ℕ) (rows : List Row) → folded (λ n row b. test row || b) false n rows ≡ list_any test rows
any_folded test n [] = refl
any_folded test n (row ∷ rows) = ap (λ b. test row || b) (any_folded test (n + 1) rows)

any-listed : (test : Row → Bool) → ((row : Row) → row.listed ≡ false → test row ≡ false) → (rows : List Row) → list_any (passes test rows) (listed_from 0 rows) ≡ list_any test rows
any-listed test dead rows =
    any_decided test rows (listed_from 0 rows)
    ∙ (decided-ids is_row_listed (λ n row b. test row || b) false (λ n row b e. ap (λ a. a || b) (dead row e)) rows ∙ any_folded test 0 rows)

pub clashes-listed : (spec : Spec) (rows : List Row) → list_any (passes (clashes_with spec) rows) (listed_from 0 rows) ≡ list_any (clashes_with spec) rows
clashes-listed spec rows =
    any-listed (clashes_with spec) (λ row e. ap (λ a. a && (bytes_eq row.spec.name spec.driver || bytes_eq row.spec.driver spec.driver || bytes_eq row.spec.driver spec.name)) e) rows

-- ---- the first that passes a test

find_at : (test : Row → Bool) (id : ℕ) (o : Option Row) (rest : Option ℕ) → cond (option_map_or test o false) (Some id) rest ≡ option_map_or (λ row. cond (test row) (Some id) rest) o rest
find_at test id None rest = refl
find_at test id (Some row) rest = refl

abbrev first : (Row → Bool) → ℕ → Row → Option ℕ → Option ℕ
first test id row rest = cond (test row) (Some id) rest

find_decided : (test : Row → Bool) (rows : List Row) (ids : List ℕ) → find (passes test rows) ids ≡ decided (first test) None rows ids
find_decided test rows [] = refl
find_decided test rows (id ∷ ids) =
    ap (λ o. cond (option_map_or test (slice_get rows id) false) (Some id) o) (find_decided test rows ids) ∙ find_at test id (slice_get rows id) (decided (first test) None rows ids)

find_folded : (test : Row → Bool) (n : ℕ) (rows : List Row) → folded (first test) None n rows ≡ position_from test n rows
find_folded test n [] = refl
find_folded test n (row ∷ rows) = ap (λ o. cond (test row) (Some n) o) (find_folded test (n + 1) rows)

find-listed : (test : Row → Bool) → ((row : Row) → row.listed ≡ false → test row ≡ false) → (rows : List Row) → find (passes test rows) (listed_from 0 rows) ≡ position_from test 0 rows
find-listed test dead rows =
    find_decided test rows (listed_from 0 rows)
    ∙ (decided-ids is_row_listed (first test) None (λ n row b e. ap (λ a. cond a (Some n) b) (dead row e)) rows ∙ find_folded test 0 rows)

pub driver-listed : (driver : List ℕ) (rows : List Row) → find (passes (is_listed_driver driver) rows) (listed_from 0 rows) ≡ driver_place rows driver
driver-listed driver rows = find-listed (is_listed_driver driver) (λ row e. ap (λ a. a && bytes_eq row.spec.driver driver) e) rows

unfound : (plain : Bool) (row : Row) → row.listed ≡ false → may_find plain row ≡ false
unfound plain row e = cc

pub plain_driver-listed : (text : List ℕ) (plain : Bool) (rows : List Row) → find (passes (is_plain_driver text plain) rows) (listed_from 0 rows) ≡ position_from (λ row. may_find plain row && bytes_eq row.spec.driver text) 0 rows
plain_driver-listed text plain rows = find-listed (is_plain_driver text plain) (λ row e. ap (λ a. a && bytes_eq row.spec.driver text) (unfound plain row e)) rows

-- ---- how many are held

pub count-held : (n : ℕ) (rows : List Row) → length (held_from n rows) ≡ held_count rows
count-held n [] = refl
count-held n (row ∷ rows) = here (is_held row) refl (count-held (n + 1) rows)
  where
    all : count_by is_held (row ∷ rows) ≡ cond (is_held row) 1 0 + count_by is_held rows
    all = omega (arith, sum_by-append (λ (r : Row). cond (is_held r) 1 0) (row ∷ []) rows)

    here : (b : Bool) → is_held row ≡ b → length (held_from (n + 1) rows) ≡ count_by is_held rows → length (cond b (n ∷ held_from (n + 1) rows) (held_from (n + 1) rows)) ≡ count_by is_held (row ∷ rows)
    here true e rest = let one : count_by is_held (row ∷ rows) ≡ 1 + count_by is_held rows = all ∙ (λ i. cond (e i) 1 0 + count_by is_held rows) in omega (arith, one, rest)
    here false e rest = let none : count_by is_held (row ∷ rows) ≡ 0 + count_by is_held rows = all ∙ (λ i. cond (e i) 1 0 + count_by is_held rows) in omega (arith, none, rest)

-- ---- the best, the newest, and those that are shown

best_folded : (joined text : List ℕ) (plain : Bool) (n : ℕ) (rows : List Row) → folded (better_by joined text plain) None n rows ≡ best_by joined text plain n rows
best_folded joined text plain n [] = refl
best_folded joined text plain n (row ∷ rows) = ap (λ best. better_by joined text plain n row best) (best_folded joined text plain (n + 1) rows)

pub best-listed : (joined text : List ℕ) (plain : Bool) (rows : List Row) → best_among joined text plain rows (listed_from 0 rows) ≡ best_by joined text plain 0 rows
best-listed joined text plain rows =
    decided-ids is_row_listed (better_by joined text plain) None
    (λ n row b e. ap (λ a. cond (a && (bytes_eq row.spec.name text || list_any (λ other. Rattle.std.specs.Bool.◌==◌ other n) joined)) (better n row b) b) (unfound plain row e)) rows
    ∙ best_folded joined text plain 0 rows

refs_folded : (driver : List ℕ) (n : ℕ) (rows : List Row) → folded (refs_by driver) None n rows ≡ refs_answer rows driver
refs_folded driver n [] = refl
refs_folded driver n (row ∷ rows) = ap (λ found. refs_by driver n row found) (refs_folded driver (n + 1) rows)

pub refs-held : (driver : List ℕ) (rows : List Row) → refs_among driver rows (held_from 0 rows) ≡ refs_answer rows driver
refs-held driver rows =
    decided-ids is_held (refs_by driver) None
    (λ n row found e. ap (λ b. option_or found (cond (b && bytes_eq row.spec.driver driver) (Some (record { count = row.references; listed = row.listed })) None)) e ∙ or_none found) rows
    ∙ refs_folded driver 0 rows

-- where newer ones decide nothing, the next does
pub refs-next : (driver : List ℕ) (rows : List Row) (id : ℕ) (newer : List ℕ) → refs_among driver rows newer ≡ None → refs_among driver rows (id ∷ newer) ≡ made_at (own_refs driver) rows id
refs-next driver rows id newer none = (λ i. option_map_or (λ row. refs_by driver id row (none i)) (slice_get rows id) (none i)) ∙ own (slice_get rows id)
  where
    own : (o : Option Row) → option_map_or (λ row. refs_by driver id row None) o None ≡ option_and_then (own_refs driver) o
    own None = refl
    own (Some row) = refl

-- what newer ones decide, older ones leave
pub refs-newest : (driver : List ℕ) (rows : List Row) (older newer : List ℕ) (answer : RefAnswer) → refs_among driver rows newer ≡ Some answer → refs_among driver rows (older ++ newer) ≡ Some answer
refs-newest driver rows [] newer answer found = found
refs-newest driver rows (id ∷ older) newer answer found = kept (refs-newest driver rows older newer answer found)
  where
    left : (o : Option Row) → option_map_or (λ row. refs_by driver id row (Some answer)) o (Some answer) ≡ Some answer
    left None = refl
    left (Some row) = refl

    kept : refs_among driver rows (older ++ newer) ≡ Some answer → refs_among driver rows (id ∷ older ++ newer) ≡ Some answer
    kept rest = (λ i. option_map_or (λ row. refs_by driver id row (rest i)) (slice_get rows id) (rest i)) ∙ left (slice_get rows id)

-- who goes from the last entry on stops at the first that decides
pub refs-stop : (driver : List ℕ) (rows : List Row) (held : List ℕ) (i n d : ℕ) (found : Option RefAnswer) → n < length held → suc n ≡ i → None ≡ refs_among driver rows (drop i held) → found ≡ made_at (own_refs driver) rows (get_or held n d) → is_some found ≡ true → found ≡ refs_among driver rows held
refs-stop driver rows held i n d None within next none own some = absurd cc
refs-stop driver rows held i n d (Some answer) within next none own some =
    sym ((λ j. refs_among driver rows (sym (take-append-drop n held) j)) ∙ refs-newest driver rows (take n held) (drop n held) answer at)
  where
    empty : refs_among driver rows (drop (suc n) held) ≡ None
    empty = ap (λ k. refs_among driver rows (drop k held)) next ∙ sym none

    at : refs_among driver rows (drop n held) ≡ Some answer
    at = (λ j. refs_among driver rows (drop-cons held n d within j)) ∙ (refs-next driver rows (get_or held n d) (drop (suc n) held) empty ∙ sym own)

map_at : {B : Type 0} (make : Row → Option B) (o : Option Row) (rest : List B) → cons_option (option_and_then make o) rest ≡ option_map_or (λ row. cons_option (make row) rest) o rest
map_at make None rest = refl
map_at make (Some row) rest = refl

abbrev shows : {B : Type 0} → (Row → Option B) → ℕ → Row → List B → List B
shows make n row rest = cons_option (make row) rest

map_decided : {B : Type 0} (make : Row → Option B) (rows : List Row) (ids : List ℕ) → filter_map (made_at make rows) ids ≡ decided (shows make) [] rows ids
map_decided make rows [] = refl
map_decided make rows (id ∷ ids) =
    ap (λ rest. cons_option (option_and_then make (slice_get rows id)) rest) (map_decided make rows ids) ∙ map_at make (slice_get rows id) (decided (shows make) [] rows ids)

map_folded : {B : Type 0} (make : Row → Option B) (n : ℕ) (rows : List Row) → folded (shows make) [] n rows ≡ filter_map make rows
map_folded make n [] = refl
map_folded make n (row ∷ rows) = ap (λ rest. cons_option (make row) rest) (map_folded make (n + 1) rows)

pub shown-listed : (rows : List Row) → filter_map (made_at shown rows) (listed_from 0 rows) ≡ listing rows
shown-listed rows =
    map_decided shown rows (listed_from 0 rows)
    ∙ (decided-ids is_row_listed (shows shown) []
    (λ n row rest e. ap (λ b. cons_option (cond b (Some (record { name = row.spec.name; driver = row.spec.driver; priority = row.spec.priority; refs = row.references })) None) rest) e) rows
    ∙ map_folded shown 0 rows)
