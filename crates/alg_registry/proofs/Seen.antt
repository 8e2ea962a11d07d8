-- What the larvals that a look goes over show is what all larvals show.
use Rattle.std.proofs.Common.{◌≡◌, ◌≢◌, ℕ, zero, suc, ◌+◌, ◌<◌, ◌≤◌, Bool, true, false, cond, not, ◌&&◌, ◌||◌, eqb, List, [], ◌∷◌, ◌++◌, length, get_or, set, Option, Some, None, refl, sym, ap, ◌∙◌, subst, arith, append_assoc, length-append}
use Rattle.std.specs.Prelude.{slice_get, is_none}
use Rattle.std.specs.List.{filter, filter_map, find, list_any, cons_option, position_from}
use Rattle.std.specs.Option.{option_and_then, option_map_or}
use Rattle.std.specs.Str.{bytes_eq}
use Rattle.std.proofs.lemmas.Bool.Decides.{nat_tests}
use Rattle.alg_registry.specs.declared.entry.Ended.{Ended}
use Rattle.alg_registry.specs.declared.entry.Ended.TheVariants.{Built, Joined, Failed, NoMemory}
use Rattle.alg_registry.specs.declared.row.Row.{Row}
use Rattle.alg_registry.specs.declared.row.Larval.{Larval}
use Rattle.alg_registry.specs.Rows.{listed_at}
use Rattle.alg_registry.specs.Answers.{is_pending, is_plain, is_end_at, ended_with, may_find, better, best_from}
use Rattle.alg_registry.specs.Calls.{is_unclaimed}
use Rattle.alg_registry.specs.Larvals.{entry_of, is_seen_end, is_seen, numbers_of, seen_from, joined_as, joined_at, passes_at, best_by}

at_place : (before : List Larval) (larval : Larval) (larvals : List Larval) → slice_get (before ++ larval ∷ larvals) (length before) ≡ Some larval
at_place [] larval larvals = refl
at_place (x ∷ before) larval larvals = at_place before larval larvals

-- what is made of those that a look has to see
through : {B : Type 0} (rows : List Row) (f : Larval → Option B) (before larvals : List Larval) (k : ℕ) → k ≡ length before
    → filter_map (λ n. option_and_then f (slice_get (before ++ larvals) n)) (seen_from rows k larvals) ≡ filter_map (λ larval. cond (is_seen rows larval) (f larval) None) larvals
through rows f before [] k at = refl
through {B} rows f before (larval ∷ larvals) k at =
    here (is_seen rows larval)
    (ap (λ (w : List Larval). filter_map (λ n. option_and_then f (slice_get w n)) (seen_from rows (k + 1) larvals)) (sym (append_assoc before (larval ∷ []) larvals))
    ∙ through rows f (before ++ larval ∷ []) larvals (k + 1) (omega (arith, at, length-append before (larval ∷ []))))
  where
    this : option_and_then f (slice_get (before ++ larval ∷ larvals) k) ≡ f larval
    this = ap (λ (n : ℕ). option_and_then f (slice_get (before ++ larval ∷ larvals) n)) at ∙ ap (λ (o : Option Larval). option_and_then f o) (at_place before larval larvals)

    here : (b : Bool) → filter_map (λ n. option_and_then f (slice_get (before ++ larval ∷ larvals) n)) (seen_from rows (k + 1) larvals) ≡ filter_map (λ l. cond (is_seen rows l) (f l) None) larvals
        → filter_map (λ n. option_and_then f (slice_get (before ++ larval ∷ larvals) n)) (cond b (k ∷ seen_from rows (k + 1) larvals) (seen_from rows (k + 1) larvals)) ≡ cons_option (cond b (f larval) None) (filter_map (λ l. cond (is_seen rows l) (f l) None) larvals)
    here true rest = λ i. cons_option (this i) (rest i)
    here false rest = rest

-- the first of them that passes a test which no other passes is the first that passes it
first : (rows : List Row) (test : Larval → Bool) → ((larval : Larval) → is_seen rows larval ≡ false → test larval ≡ false) → (before larvals : List Larval) (k : ℕ) → k ≡ length before
    → find (passes_at test (before ++ larvals)) (seen_from rows k larvals) ≡ position_from test k larvals
first rows test dead before [] k at = refl
first rows test dead before (larval ∷ larvals) k at =
    here (is_seen rows larval) refl
    (ap (λ (w : List Larval). find (passes_at test w) (seen_from rows (k + 1) larvals)) (sym (append_assoc before (larval ∷ []) larvals))
    ∙ first rows test dead (before ++ larval ∷ []) larvals (k + 1) (omega (arith, at, length-append before (larval ∷ []))))
  where
    this : passes_at test (before ++ larval ∷ larvals) k ≡ test larval
    this = ap (λ (n : ℕ). passes_at test (before ++ larval ∷ larvals) n) at ∙ ap (λ (o : Option Larval). option_map_or test o false) (at_place before larval larvals)

    here : (b : Bool) → is_seen rows larval ≡ b → find (passes_at test (before ++ larval ∷ larvals)) (seen_from rows (k + 1) larvals) ≡ position_from test (k + 1) larvals
        → find (passes_at test (before ++ larval ∷ larvals)) (cond b (k ∷ seen_from rows (k + 1) larvals) (seen_from rows (k + 1) larvals)) ≡ cond (test larval) (Some k) (position_from test (k + 1) larvals)
    here true e rest = λ i. cond (this i) (Some k) (rest i)
    here false e rest = rest ∙ sym (ap (λ (b : Bool). cond b (Some k) (position_from test (k + 1) larvals)) (dead larval e))

dead_pending : (rows : List Row) (ended : Option Ended) → is_seen_end rows ended ≡ false → is_none ended ≡ false
dead_pending rows None e = absurd cc
dead_pending rows (Some end) e = refl

pub pending-seen : (rows : List Row) (text : List ℕ) (larvals : List Larval) → find (passes_at (is_pending text) larvals) (seen_from rows 0 larvals) ≡ position_from (is_pending text) 0 larvals
pending-seen rows text larvals = first rows (is_pending text) (λ larval e. ap (λ b. b && bytes_eq larval.text text) (dead_pending rows larval.ended e)) [] larvals 0 refl

-- the first of the numbers is the place of the first that passes
pub first-number : (test : Larval → Bool) (k : ℕ) (larvals : List Larval) → slice_get (numbers_of test k larvals) 0 ≡ position_from test k larvals
first-number test k [] = refl
first-number test k (x ∷ larvals) = here (test x) (first-number test (k + 1) larvals)
  where
    here : (b : Bool) → slice_get (numbers_of test (k + 1) larvals) 0 ≡ position_from test (k + 1) larvals
        → slice_get (cond b (k ∷ numbers_of test (k + 1) larvals) (numbers_of test (k + 1) larvals)) 0 ≡ cond b (Some k) (position_from test (k + 1) larvals)
    here true e = refl
    here false e = e

-- a larval that is claimed is no more among those that nobody has claimed
pub claimed-not : (larval : Larval) (caller : ℕ) → is_unclaimed (record larval { claimed = Some caller }) ≡ false
claimed-not larval caller = by_end (is_none larval.ended)
  where
    by_end : (b : Bool) → (b && false) ≡ false
    by_end true = refl
    by_end false = refl

-- a larval that begins and passes is the last
pub numbers-begun : (test : Larval → Bool) (k : ℕ) (larvals : List Larval) (larval : Larval) (last : ℕ) → test larval ≡ true → last ≡ k + length larvals → numbers_of test k (larvals ++ larval ∷ []) ≡ numbers_of test k larvals ++ last ∷ []
numbers-begun test k [] larval last live at =
    let e : k ≡ last = omega (arith, at) in
    ap (λ b. cond b (k ∷ []) []) live ∙ ap (λ (n : ℕ). n ∷ []) e
numbers-begun test k (x ∷ larvals) larval last live at = here (test x) (numbers-begun test (k + 1) larvals larval last live (omega (arith, at)))
  where
    here : (b : Bool) → numbers_of test (k + 1) (larvals ++ larval ∷ []) ≡ numbers_of test (k + 1) larvals ++ last ∷ []
        → cond b (k ∷ numbers_of test (k + 1) (larvals ++ larval ∷ [])) (numbers_of test (k + 1) (larvals ++ larval ∷ [])) ≡ cond b (k ∷ numbers_of test (k + 1) larvals) (numbers_of test (k + 1) larvals) ++ last ∷ []
    here true e = ap (λ ns. k ∷ ns) e
    here false e = e

-- a change of one larval that passes as it did
pub numbers-same : (test : Larval → Bool) (k : ℕ) (larvals : List Larval) (j : ℕ) (larval d : Larval) → test larval ≡ test (get_or larvals j d) → numbers_of test k (set larvals j larval) ≡ numbers_of test k larvals
numbers-same test k [] j larval d same = refl
numbers-same test k (x ∷ larvals) zero larval d same = ap (λ b. cond b (k ∷ numbers_of test (k + 1) larvals) (numbers_of test (k + 1) larvals)) same
numbers-same test k (x ∷ larvals) (suc j) larval d same = ap (λ ns. cond (test x) (k ∷ ns) ns) (numbers-same test (k + 1) larvals j larval d same)

-- whether the larval of a number passes
pub passes-there : (test : Larval → Bool) (larvals : List Larval) (j : ℕ) (d : Larval) → j < length larvals → passes_at test larvals j ≡ test (get_or larvals j d)
passes-there test [] j d lt = absurd (omega (arith, lt))
passes-there test (x ∷ larvals) zero d lt = refl
passes-there test (x ∷ larvals) (suc j) d lt = passes-there test larvals j d (omega (arith, lt))

-- a larval with no end is seen
pub pending-is_seen : (rows : List Row) (larvals : List Larval) (j : ℕ) (d : Larval) → j < length larvals → option_and_then (λ (larval : Larval). larval.ended) (slice_get larvals j) ≡ None → is_seen rows (get_or larvals j d) ≡ true
pending-is_seen rows [] j d lt none = absurd (omega (arith, lt))
pending-is_seen rows (x ∷ larvals) zero d lt none = ap (λ (o : Option Ended). is_seen_end rows o) none
pending-is_seen rows (x ∷ larvals) (suc j) d lt none = pending-is_seen rows larvals j d (omega (arith, lt)) none

differ : (a b : ℕ) → a ≢ b → eqb a b ≡ false
differ a b ne = grind (arith, nat_tests)

equal : (a : ℕ) → eqb a a ≡ true
equal a = grind (arith, nat_tests)

but_none : (test : Larval → Bool) (n k : ℕ) (larvals : List Larval) → n < k → filter (λ m. not (eqb m n)) (numbers_of test k larvals) ≡ numbers_of test k larvals
but_none test n k [] lt = refl
but_none test n k (x ∷ larvals) lt = here (test x) (but_none test n (k + 1) larvals (omega (arith, lt)))
  where
    other : eqb k n ≡ false
    other = differ k n (λ e. absurd (omega (arith, lt, e)))

    here : (b : Bool) → filter (λ m. not (eqb m n)) (numbers_of test (k + 1) larvals) ≡ numbers_of test (k + 1) larvals
        → filter (λ m. not (eqb m n)) (cond b (k ∷ numbers_of test (k + 1) larvals) (numbers_of test (k + 1) larvals)) ≡ cond b (k ∷ numbers_of test (k + 1) larvals) (numbers_of test (k + 1) larvals)
    here true e = λ i. cond (not (other i)) (k ∷ e i) (e i)
    here false e = e

-- a larval that passes no more goes off the list
pub numbers-less : (test : Larval → Bool) (n k : ℕ) (larvals : List Larval) (j : ℕ) (larval : Larval) → test larval ≡ false → j < length larvals → n ≡ k + j → filter (λ m. not (eqb m n)) (numbers_of test k larvals) ≡ numbers_of test k (set larvals j larval)
numbers-less test n k [] j larval dead lt at = absurd (omega (arith, lt))
numbers-less test n k (x ∷ larvals) zero larval dead lt at = here (test x)
  where
    same : k ≡ n
    same = omega (arith, at)

    this : eqb k n ≡ true
    this = subst (λ (m : ℕ). eqb k m ≡ true) same (equal k)

    rest : filter (λ m. not (eqb m n)) (numbers_of test (k + 1) larvals) ≡ numbers_of test (k + 1) larvals
    rest = but_none test n (k + 1) larvals (omega (arith, at))

    gone : numbers_of test (k + 1) larvals ≡ cond (test larval) (k ∷ numbers_of test (k + 1) larvals) (numbers_of test (k + 1) larvals)
    gone = ap (λ b. cond b (k ∷ numbers_of test (k + 1) larvals) (numbers_of test (k + 1) larvals)) (sym dead)

    here : (b : Bool) → filter (λ m. not (eqb m n)) (cond b (k ∷ numbers_of test (k + 1) larvals) (numbers_of test (k + 1) larvals)) ≡ cond (test larval) (k ∷ numbers_of test (k + 1) larvals) (numbers_of test (k + 1) larvals)
    here true = (λ i. cond (not (this i)) (k ∷ rest i) (rest i)) ∙ gone
    here false = rest ∙ gone
numbers-less test n k (x ∷ larvals) (suc j) larval dead lt at = here (test x) (numbers-less test n (k + 1) larvals j larval dead (omega (arith, lt)) (omega (arith, at)))
  where
    other : eqb k n ≡ false
    other = differ k n (λ e. absurd (omega (arith, at, e)))

    here : (b : Bool) → filter (λ m. not (eqb m n)) (numbers_of test (k + 1) larvals) ≡ numbers_of test (k + 1) (set larvals j larval)
        → filter (λ m. not (eqb m n)) (cond b (k ∷ numbers_of test (k + 1) larvals) (numbers_of test (k + 1) larvals)) ≡ cond b (k ∷ numbers_of test (k + 1) (set larvals j larval)) (numbers_of test (k + 1) (set larvals j larval))
    here true e = λ i. cond (not (other i)) (k ∷ e i) (e i)
    here false e = e

never : (b : Bool) → b ≡ true → b ≡ false → ⊥
never true e f = cc
never false e f = cc

-- the larval ended with the listed entry exactly where it is among those that a look has to see, and ended so
one_joined : (rows : List Row) (id : ℕ) (same : Bool) (ended : Option Ended) (rest : List ℕ) → listed_at rows id ≡ true
    → list_any (λ other. eqb other id) (cons_option (cond (is_seen_end rows ended) (cond same (entry_of ended) None) None) rest) ≡ ((same && is_end_at id ended) || list_any (λ other. eqb other id) rest)
one_joined rows id false ended rest listed = here (is_seen_end rows ended)
  where
    here : (b : Bool) → list_any (λ other. eqb other id) (cons_option (cond b None None) rest) ≡ list_any (λ other. eqb other id) rest
    here true = refl
    here false = refl
one_joined rows id true None rest listed = refl
one_joined rows id true (Some (Failed errno)) rest listed = refl
one_joined rows id true (Some NoMemory) rest listed = refl
one_joined rows id true (Some (Built built)) rest listed = here (listed_at rows built) refl
  where
    here : (b : Bool) → listed_at rows built ≡ b → list_any (λ other. eqb other id) (cons_option (cond b (Some built) None) rest) ≡ (eqb built id || list_any (λ other. eqb other id) rest)
    here true e = refl
    here false e = ap (λ b. b || list_any (λ other. eqb other id) rest) (sym (differ built id (λ same. absurd (never (listed_at rows id) listed (sym (ap (λ (n : ℕ). listed_at rows n) same) ∙ e)))))
one_joined rows id true (Some (Joined joined)) rest listed = here (listed_at rows joined) refl
  where
    here : (b : Bool) → listed_at rows joined ≡ b → list_any (λ other. eqb other id) (cons_option (cond b (Some joined) None) rest) ≡ (eqb joined id || list_any (λ other. eqb other id) rest)
    here true e = refl
    here false e = ap (λ b. b || list_any (λ other. eqb other id) rest) (sym (differ joined id (λ same. absurd (never (listed_at rows id) listed (sym (ap (λ (n : ℕ). listed_at rows n) same) ∙ e)))))

any_joined : (rows : List Row) (text : List ℕ) (id : ℕ) (larvals : List Larval) → listed_at rows id ≡ true
    → list_any (λ other. eqb other id) (filter_map (λ larval. cond (is_seen rows larval) (joined_as text larval) None) larvals) ≡ list_any (ended_with text id) larvals
any_joined rows text id [] listed = refl
any_joined rows text id (larval ∷ larvals) listed =
    one_joined rows id (bytes_eq larval.text text) larval.ended (filter_map (λ l. cond (is_seen rows l) (joined_as text l) None) larvals) listed
    ∙ ap (λ b. (bytes_eq larval.text text && is_end_at id larval.ended) || b) (any_joined rows text id larvals listed)

listed_place : (before : List Row) (row : Row) (rows : List Row) → listed_at (before ++ row ∷ rows) (length before) ≡ row.listed
listed_place [] row rows = refl
listed_place (x ∷ before) row rows = listed_place before row rows

best_seen : (ids text : List ℕ) (plain : Bool) (larvals : List Larval) (before rows : List Row) (n : ℕ) → n ≡ length before
    → ((id : ℕ) → listed_at (before ++ rows) id ≡ true → list_any (λ other. eqb other id) ids ≡ list_any (ended_with text id) larvals)
    → best_by ids text plain n rows ≡ best_from larvals text plain n rows
best_seen ids text plain larvals before [] n at same = refl
best_seen ids text plain larvals before (row ∷ rows) n at same =
    let rest = best_seen ids text plain larvals (before ++ row ∷ []) rows (n + 1) (omega (arith, at, length-append before (row ∷ [])))
    (λ id e. same id (ap (λ (rs : List Row). listed_at rs id) (sym (append_assoc before (row ∷ []) rows)) ∙ e)) in
    here row.listed refl rest
  where
    there : row.listed ≡ listed_at (before ++ row ∷ rows) n
    there = sym (listed_place before row rows) ∙ ap (λ (k : ℕ). listed_at (before ++ row ∷ rows) k) (sym at)

    here : (b : Bool) → row.listed ≡ b → best_by ids text plain (n + 1) rows ≡ best_from larvals text plain (n + 1) rows → best_by ids text plain n (row ∷ rows) ≡ best_from larvals text plain n (row ∷ rows)
    here true e rest =
        let any : list_any (λ other. eqb other n) ids ≡ list_any (ended_with text n) larvals = same n (sym there ∙ e) in
        λ i. cond (may_find plain row && (bytes_eq row.spec.name text || any i)) (better n row (rest i)) (rest i)
    here false e rest = nothing (list_any (λ other. eqb other n) ids) ∙ (rest ∙ sym (nothing' (list_any (ended_with text n) larvals)))
      where
        nothing : (a : Bool) → cond (may_find plain row && (bytes_eq row.spec.name text || a)) (better n row (best_by ids text plain (n + 1) rows)) (best_by ids text plain (n + 1) rows) ≡ best_by ids text plain (n + 1) rows
        nothing a = ap (λ l. cond ((l && (not plain || is_plain row.spec.wrap)) && (bytes_eq row.spec.name text || a)) (better n row (best_by ids text plain (n + 1) rows)) (best_by ids text plain (n + 1) rows)) e

        nothing' : (a : Bool) → cond (may_find plain row && (bytes_eq row.spec.name text || a)) (better n row (best_from larvals text plain (n + 1) rows)) (best_from larvals text plain (n + 1) rows) ≡ best_from larvals text plain (n + 1) rows
        nothing' a = ap (λ l. cond ((l && (not plain || is_plain row.spec.wrap)) && (bytes_eq row.spec.name text || a)) (better n row (best_from larvals text plain (n + 1) rows)) (best_from larvals text plain (n + 1) rows)) e

-- so the best by them is the best
pub best-seen : (rows : List Row) (larvals : List Larval) (text : List ℕ) (plain : Bool)
    → best_by (filter_map (joined_at text larvals) (seen_from rows 0 larvals)) text plain 0 rows ≡ best_from larvals text plain 0 rows
best-seen rows larvals text plain =
    best_seen (filter_map (joined_at text larvals) (seen_from rows 0 larvals)) text plain larvals [] rows 0 refl
    (λ id listed. ap (λ (ids : List ℕ). list_any (λ other. eqb other id) ids) (through rows (joined_as text) [] larvals 0 refl) ∙ any_joined rows text id larvals listed)

pub length-set : (larvals : List Larval) (j : ℕ) (larval : Larval) → length (set larvals j larval) ≡ length larvals
length-set [] j larval = refl
length-set (x ∷ larvals) zero larval = refl
length-set (x ∷ larvals) (suc j) larval = ap suc (length-set larvals j larval)

length_kept : (p : ℕ → Bool) (ns : List ℕ) → length (filter p ns) ≤ length ns
length_kept p [] = omega arith
length_kept p (n ∷ ns) = here (p n) (length_kept p ns)
  where
    here : (b : Bool) → length (filter p ns) ≤ length ns → length (cond b (n ∷ filter p ns) (filter p ns)) ≤ suc (length ns)
    here true le = omega (arith, le)
    here false le = omega (arith, le)

pub length-filter : (p : ℕ → Bool) (ns : List ℕ) → length (filter p ns) ≤ length ns
length-filter p ns = length_kept p ns

-- ---- where entries change

pub seen-marks : (rows rows' : List Row) → ((id : ℕ) → listed_at rows' id ≡ listed_at rows id) → (k : ℕ) (larvals : List Larval) → seen_from rows' k larvals ≡ seen_from rows k larvals
seen-marks rows rows' same k [] = refl
seen-marks rows rows' same k (larval ∷ larvals) =
    let rest = seen-marks rows rows' same (k + 1) larvals in
    λ i. cond (end larval.ended i) (k ∷ rest i) (rest i)
  where
    end : (ended : Option Ended) → is_seen_end rows' ended ≡ is_seen_end rows ended
    end None = refl
    end (Some (Built id)) = same id
    end (Some (Joined id)) = same id
    end (Some (Failed errno)) = refl
    end (Some NoMemory) = refl

-- the entries with which larvals ended are there
abbrev pub DoEndWithin : ℕ → List Larval → Type 0
DoEndWithin m [] = Unit {0}
DoEndWithin m (larval ∷ larvals) = ((id : ℕ) → entry_of larval.ended ≡ Some id → id < m) × DoEndWithin m larvals

pub seen-grown : (rows rows' : List Row) → ((id : ℕ) → id < length rows → listed_at rows' id ≡ listed_at rows id) → (k : ℕ) (larvals : List Larval) → DoEndWithin (length rows) larvals → seen_from rows' k larvals ≡ seen_from rows k larvals
seen-grown rows rows' same k [] within = refl
seen-grown rows rows' same k (larval ∷ larvals) within =
    let rest = seen-grown rows rows' same (k + 1) larvals within.1 in
    λ i. cond (end larval.ended within.0 i) (k ∷ rest i) (rest i)
  where
    end : (ended : Option Ended) → ((id : ℕ) → entry_of ended ≡ Some id → id < length rows) → is_seen_end rows' ended ≡ is_seen_end rows ended
    end None lt = refl
    end (Some (Built id)) lt = same id (lt id refl)
    end (Some (Joined id)) lt = same id (lt id refl)
    end (Some (Failed errno)) lt = refl
    end (Some NoMemory) lt = refl

seen_fewer : (rows rows' : List Row) → ((id : ℕ) → listed_at rows' id ≡ true → listed_at rows id ≡ true) → (before larvals : List Larval) (k : ℕ) → k ≡ length before
    → filter (passes_at (is_seen rows') (before ++ larvals)) (seen_from rows k larvals) ≡ seen_from rows' k larvals
seen_fewer rows rows' less before [] k at = refl
seen_fewer rows rows' less before (larval ∷ larvals) k at =
    here (is_seen rows larval) refl
    (ap (λ (w : List Larval). filter (passes_at (is_seen rows') w) (seen_from rows (k + 1) larvals)) (sym (append_assoc before (larval ∷ []) larvals))
    ∙ seen_fewer rows rows' less (before ++ larval ∷ []) larvals (k + 1) (omega (arith, at, length-append before (larval ∷ []))))
  where
    this : passes_at (is_seen rows') (before ++ larval ∷ larvals) k ≡ is_seen rows' larval
    this = ap (λ (n : ℕ). passes_at (is_seen rows') (before ++ larval ∷ larvals) n) at ∙ ap (λ (o : Option Larval). option_map_or (is_seen rows') o false) (at_place before larval larvals)

    only : (a b : Bool) → (a ≡ true → b ≡ true) → b ≡ false → a ≡ false
    only true b h e = absurd (never b (h refl) e)
    only false b h e = refl

    gone : (ended : Option Ended) → is_seen_end rows ended ≡ false → is_seen_end rows' ended ≡ false
    gone None e = e
    gone (Some (Built id)) e = only (listed_at rows' id) (listed_at rows id) (less id) e
    gone (Some (Joined id)) e = only (listed_at rows' id) (listed_at rows id) (less id) e
    gone (Some (Failed errno)) e = refl
    gone (Some NoMemory) e = refl

    here : (b : Bool) → is_seen rows larval ≡ b → filter (passes_at (is_seen rows') (before ++ larval ∷ larvals)) (seen_from rows (k + 1) larvals) ≡ seen_from rows' (k + 1) larvals
        → filter (passes_at (is_seen rows') (before ++ larval ∷ larvals)) (cond b (k ∷ seen_from rows (k + 1) larvals) (seen_from rows (k + 1) larvals)) ≡ cond (is_seen rows' larval) (k ∷ seen_from rows' (k + 1) larvals) (seen_from rows' (k + 1) larvals)
    here true e rest = λ i. cond (this i) (k ∷ rest i) (rest i)
    here false e rest = rest ∙ sym (ap (λ b. cond b (k ∷ seen_from rows' (k + 1) larvals) (seen_from rows' (k + 1) larvals)) (gone larval.ended e))

pub seen-fewer : (rows rows' : List Row) (larvals : List Larval) → ((id : ℕ) → listed_at rows' id ≡ true → listed_at rows id ≡ true)
    → filter (passes_at (is_seen rows') larvals) (seen_from rows 0 larvals) ≡ seen_from rows' 0 larvals
seen-fewer rows rows' larvals less = seen_fewer rows rows' less [] larvals 0 refl
