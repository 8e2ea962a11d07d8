-- Which larvals a look has to see, after each change of the entries.
use Rattle.std.proofs.Common.{◌≡◌, ℕ, zero, suc, ◌+◌, ◌<◌, Bool, true, false, cond, not, ◌&&◌, eqb, List, [], ◌∷◌, ◌++◌, length, map, get_or, set, Option, Some, None, refl, sym, ap, ◌∙◌, subst, arith}
use Rattle.std.specs.Prelude.{slice_get}
use Rattle.std.specs.List.{filter, list_all}
use Rattle.std.specs.Option.{option_and_then}
use Rattle.std.proofs.lemmas.List.{length-map, map_push}
use Rattle.alg_registry.specs.declared.spec.Spec.{Spec}
use Rattle.alg_registry.specs.declared.entry.Ended.{Ended}
use Rattle.alg_registry.specs.declared.entry.Ended.TheVariants.{Built, Joined, Failed, NoMemory}
use Rattle.alg_registry.specs.declared.entry.EndAnswer.{EndAnswer}
use Rattle.alg_registry.specs.declared.entry.EndAnswer.TheVariants as answers
use Rattle.alg_registry.specs.declared.entry.RegEntry.{RegEntry}
use Rattle.alg_registry.specs.declared.entry.RegEntry.TheVariants.{End}
use Rattle.alg_registry.specs.declared.row.Row.{Row}
use Rattle.alg_registry.specs.declared.row.Larval.{Larval}
use Rattle.alg_registry.specs.Calls.{unlisted_row, taken_row, put_row_of, new_row, listed_row_of, claimed_larval, ended_larval}
use Rattle.alg_registry.specs.Rows.{registered_by, listed_at, stays_listed, marked, counted, standing, rows_of, registered, first_of, ends, end_of, larvals_from, texts}
use Rattle.kc_base.specs.declared.error_numbers.Errno.TheVariants.{EAGAIN}
use Rattle.alg_registry.specs.Answers.{built_answer, joined_or_built, driver_place}
use Rattle.alg_registry.specs.Legal.{MayEnd}
use Rattle.alg_registry.specs.Kept.{IsKept}
use Rattle.alg_registry.specs.MarkCounts.{referred}
use Rattle.alg_registry.specs.Larvals.{entry_of, ends_with_entry, is_seen_end, is_seen, seen_from, seen_after, passes_at}
use Rattle.alg_registry.proofs.Fresh.{length-rows_of}
use Rattle.alg_registry.proofs.Existing.{id_of, ends_exist}
use Rattle.alg_registry.proofs.Restanding.{mark, listed_at-mark, same_stays, same_push}
use Rattle.alg_registry.proofs.Restood.{was-listed}
use Rattle.alg_registry.proofs.Changing.{unlist-changes}
use Rattle.alg_registry.proofs.Adding.{add-standing}
use Rattle.alg_registry.proofs.Seen.{numbers-begun, numbers-same, pending-is_seen, numbers-less, seen-marks, seen-grown, seen-fewer, DoEndWithin}

-- ---- marks

same_listed : (xs ys : List Row) → map mark xs ≡ map mark ys → (id : ℕ) → listed_at xs id ≡ listed_at ys id
same_listed xs ys same id = listed_at-mark xs id ∙ (ap (λ (bs : List Bool). get_or bs id false) same ∙ sym (listed_at-mark ys id))

mark_counted : (n : ℕ) (rows : List Row) → map mark (counted n rows) ≡ map mark rows
mark_counted n [] = refl
mark_counted n (row ∷ rows) = ap (λ bs. row.listed ∷ bs) (mark_counted (n + 1) rows)

-- entries of the same algorithms, unlisted or not as the others
abbrev AreAlike : List Row → List Row → Type 0
AreAlike [] [] = Unit {0}
AreAlike [] (y ∷ ys) = ⊥
AreAlike (x ∷ xs) [] = ⊥
AreAlike (x ∷ xs) (y ∷ ys) = (x.spec ≡ y.spec) × (x.unlisted ≡ y.unlisted) × AreAlike xs ys

alike : (rows : List Row) → AreAlike rows rows
alike [] = tt
alike (row ∷ rows) = (refl, refl, alike rows)

alike_set : (rows : List Row) (p : ℕ) (row d : Row) → p < length rows → row.spec ≡ (let r : Row = get_or rows p d in r.spec) → row.unlisted ≡ (let r : Row = get_or rows p d in r.unlisted) → AreAlike (set rows p row) rows
alike_set [] p row d lt spec unlisted = absurd (omega (arith, lt))
alike_set (x ∷ rows) zero row d lt spec unlisted = (spec, unlisted, alike rows)
alike_set (x ∷ rows) (suc p) row d lt spec unlisted = (refl, refl, alike_set rows p row d (omega (arith, lt)) spec unlisted)

marked_alike : (older older' xs ys : List Row) → map mark older ≡ map mark older' → AreAlike xs ys → map mark (marked older xs) ≡ map mark (marked older' ys)
marked_alike older older' [] [] same like = same
marked_alike older older' [] (y ∷ ys) same like = absurd like
marked_alike older older' (x ∷ xs) [] same like = absurd like
marked_alike older older' (x ∷ xs) (y ∷ ys) same like =
    let stays : stays_listed older x ≡ stays_listed older' y = same_stays older' older x same ∙ (λ i. not (like.1 i) && list_all (listed_at older') (like.0 i).below) in
    marked_alike (older ++ record x { listed = stays_listed older x; references = 0 } ∷ []) (older' ++ record y { listed = stays_listed older' y; references = 0 } ∷ []) xs ys
    (same_push older' older (record y { listed = stays_listed older' y; references = 0 }) (record x { listed = stays_listed older x; references = 0 }) same stays) like.2

standing_alike : (xs ys : List Row) → AreAlike xs ys → map mark (standing xs) ≡ map mark (standing ys)
standing_alike xs ys like = mark_counted 0 (marked [] xs) ∙ (marked_alike [] [] xs ys refl like ∙ sym (mark_counted 0 (marked [] ys)))

-- a change that unlists nothing leaves the marks
pub listed-same : (rows new : List Row) (p : ℕ) (row d : Row) → p < length rows → standing rows ≡ rows → row.spec ≡ (let r : Row = get_or rows p d in r.spec) → row.unlisted ≡ (let r : Row = get_or rows p d in r.unlisted)
    → new ≡ standing (set rows p row) → (id : ℕ) → listed_at new id ≡ listed_at rows id
listed-same rows new p row d lt stands spec unlisted is id =
    ap (λ (rs : List Row). listed_at rs id) is
    ∙ same_listed (standing (set rows p row)) rows (standing_alike (set rows p row) rows (alike_set rows p row d lt spec unlisted) ∙ ap (λ (rs : List Row). map mark rs) stands) id

-- ---- a new entry

mark_referred : (n : ℕ) (below : List ℕ) (rows : List Row) → map mark (referred n below rows) ≡ map mark rows
mark_referred n below [] = refl
mark_referred n below (row ∷ rows) = ap (λ bs. row.listed ∷ bs) (mark_referred (n + 1) below rows)

get_front : (bs : List Bool) (b : Bool) (k : ℕ) → k < length bs → get_or (bs ++ b ∷ []) k false ≡ get_or bs k false
get_front [] b k lt = absurd (omega (arith, lt))
get_front (x ∷ bs) b zero lt = refl
get_front (x ∷ bs) b (suc k) lt = get_front bs b k (omega (arith, lt))

get_last : (bs : List Bool) (b : Bool) (k : ℕ) → k ≡ length bs → get_or (bs ++ b ∷ []) k false ≡ b
get_last [] b k at = ap (λ (n : ℕ). get_or (b ∷ []) n false) at
get_last (x ∷ bs) b k at = ap (λ (n : ℕ). get_or (x ∷ bs ++ b ∷ []) n false) at ∙ get_last bs b (length bs) refl

grown_marks : (rows new : List Row) (spec : Spec) → standing rows ≡ rows → list_all (listed_at rows) spec.below ≡ true → new ≡ standing (rows ++ new_row spec ∷ []) → map mark new ≡ map mark rows ++ true ∷ []
grown_marks rows new spec stands all is =
    ap (λ (rs : List Row). map mark rs) (is ∙ sym (add-standing rows spec stands all))
    ∙ (map_push mark (referred 0 spec.below rows) (listed_row_of spec) ∙ ap (λ (bs : List Bool). bs ++ true ∷ []) (mark_referred 0 spec.below rows))

pub listed-front : (rows new : List Row) (spec : Spec) → standing rows ≡ rows → list_all (listed_at rows) spec.below ≡ true → new ≡ standing (rows ++ new_row spec ∷ [])
    → (id : ℕ) → id < length rows → listed_at new id ≡ listed_at rows id
listed-front rows new spec stands all is id lt =
    listed_at-mark new id
    ∙ (ap (λ (bs : List Bool). get_or bs id false) (grown_marks rows new spec stands all is)
    ∙ (get_front (map mark rows) true id (omega (arith, lt, length-map rows mark)) ∙ sym (listed_at-mark rows id)))

pub listed-last : (rows new : List Row) (spec : Spec) (id : ℕ) → standing rows ≡ rows → list_all (listed_at rows) spec.below ≡ true → new ≡ standing (rows ++ new_row spec ∷ []) → id ≡ length rows → listed_at new id ≡ true
listed-last rows new spec id stands all is at =
    listed_at-mark new id
    ∙ (ap (λ (bs : List Bool). get_or bs id false) (grown_marks rows new spec stands all is) ∙ get_last (map mark rows) true id (omega (arith, at, length-map rows mark)))

-- ---- what larvals ended with is there

end_within : (h : List RegEntry) (m n : ℕ) (ts : List (List ℕ)) → ((k id : ℕ) (e : Ended) → first_of (ends k) h ≡ Some e → id_of e ≡ Some id → id < m) → DoEndWithin m (larvals_from h n ts)
end_within h m n [] exist = tt
end_within h m n (t ∷ ts) exist = (λ id. here id (first_of (ends n) h) refl, end_within h m (n + 1) ts exist)
  where
    here : (id : ℕ) (o : Option Ended) → first_of (ends n) h ≡ o → entry_of o ≡ Some id → id < m
    here id None e q = absurd cc
    here id (Some (Built built)) e q = exist n id (Built built) e q
    here id (Some (Joined joined)) e q = exist n id (Joined joined) e q
    here id (Some (Failed errno)) e q = absurd cc
    here id (Some NoMemory) e q = absurd cc

pub ends-within : (h : List RegEntry) (rows : List Row) (larvals : List Larval) → IsKept h rows larvals → DoEndWithin (length rows) larvals
ends-within h rows larvals kept =
    let len : length (registered h) ≡ length rows = omega (arith, ap length kept.rows_are, length-rows_of h) in
    subst (DoEndWithin (length rows)) (sym kept.larvals_are) (end_within h (length rows) 0 (texts h) (λ k id e f g. subst (λ (m : ℕ). id < m) len (ends_exist h kept.legal k id e f g)))

-- ---- the calls

pub seen-unlisted : (rows rows' : List Row) (larvals : List Larval) (seen seen' : List ℕ) (p : ℕ) (d : Row) → standing rows ≡ rows → listed_at rows p ≡ true → rows' ≡ standing (set rows p (unlisted_row (get_or rows p d)))
    → seen ≡ seen_from rows 0 larvals → seen' ≡ filter (passes_at (is_seen rows') larvals) seen → seen' ≡ seen_from rows' 0 larvals
seen-unlisted rows rows' larvals seen seen' p d stands listed is are left =
    left
    ∙ (ap (λ (ns : List ℕ). filter (passes_at (is_seen rows') larvals) ns) are
    ∙ seen-fewer rows rows' larvals (λ id e. was-listed rows (set rows p (unlisted_row (get_or rows p d))) stands (unlist-changes rows p d listed) id (ap (λ (rs : List Row). listed_at rs id) (sym is) ∙ e)))

pub seen-taken : (rows rows' : List Row) (larvals : List Larval) (seen : List ℕ) (p : ℕ) (d : Row) → standing rows ≡ rows → p < length rows → rows' ≡ standing (set rows p (taken_row (get_or rows p d)))
    → seen ≡ seen_from rows 0 larvals → seen ≡ seen_from rows' 0 larvals
seen-taken rows rows' larvals seen p d stands lt is are = are ∙ sym (seen-marks rows rows' (listed-same rows rows' p (taken_row (get_or rows p d)) d lt stands refl refl is) 0 larvals)

pub seen-put : (rows rows' : List Row) (larvals : List Larval) (seen : List ℕ) (p : ℕ) (d : Row) → standing rows ≡ rows → p < length rows → rows' ≡ standing (set rows p (put_row_of (get_or rows p d)))
    → seen ≡ seen_from rows 0 larvals → seen ≡ seen_from rows' 0 larvals
seen-put rows rows' larvals seen p d stands lt is are = are ∙ sym (seen-marks rows rows' (listed-same rows rows' p (put_row_of (get_or rows p d)) d lt stands refl refl is) 0 larvals)

pub seen-added : (h : List RegEntry) (rows rows' : List Row) (larvals : List Larval) (seen : List ℕ) (spec : Spec) → IsKept h rows larvals → standing rows ≡ rows → list_all (listed_at rows) spec.below ≡ true
    → rows' ≡ standing (rows ++ new_row spec ∷ []) → seen ≡ seen_from rows 0 larvals → seen ≡ seen_from rows' 0 larvals
seen-added h rows rows' larvals seen spec kept stands all is are = are ∙ sym (seen-grown rows rows' (listed-front rows rows' spec stands all is) 0 larvals (ends-within h rows larvals kept))

pub seen-more : (rows : List Row) (larvals larvals' : List Larval) (seen seen' : List ℕ) (text : List ℕ) → larvals' ≡ larvals ++ record { text = text; claimed = None; ended = None } ∷ [] → seen' ≡ seen ++ length larvals ∷ []
    → seen ≡ seen_from rows 0 larvals → seen' ≡ seen_from rows 0 larvals'
seen-more rows larvals larvals' seen seen' text more push are =
    push
    ∙ (ap (λ (ns : List ℕ). ns ++ length larvals ∷ []) are
    ∙ (sym (numbers-begun (is_seen rows) 0 larvals (record { text = text; claimed = None; ended = None }) (length larvals) refl (omega arith)) ∙ ap (λ (ls : List Larval). seen_from rows 0 ls) (sym more)))

pub seen-claimed : (rows : List Row) (larvals larvals' : List Larval) (seen seen' : List ℕ) (n caller : ℕ) (d : Larval) → larvals' ≡ set larvals n (claimed_larval caller (get_or larvals n d)) → seen' ≡ seen
    → seen ≡ seen_from rows 0 larvals → seen' ≡ seen_from rows 0 larvals'
seen-claimed rows larvals larvals' seen seen' n caller d is same are =
    same ∙ (are ∙ (sym (numbers-same (is_seen rows) 0 larvals n (claimed_larval caller (get_or larvals n d)) d refl) ∙ ap (λ (ls : List Larval). seen_from rows 0 ls) (sym is)))

-- the larval ends with an entry that is listed, or with none
pub seen-end : (rows : List Row) (larvals larvals' : List Larval) (seen seen' : List ℕ) (n : ℕ) (e : Ended) (d : Larval) → n < length larvals → option_and_then (λ (larval : Larval). larval.ended) (slice_get larvals n) ≡ None
    → (ends_with_entry e ≡ true → is_seen_end rows (Some e) ≡ true)
    → larvals' ≡ set larvals n (ended_larval e (get_or larvals n d)) → seen' ≡ seen_after e n seen → seen ≡ seen_from rows 0 larvals → seen' ≡ seen_from rows 0 larvals'
seen-end rows larvals larvals' seen seen' n e d lt pending listed is after are =
    after ∙ (ap (λ (ns : List ℕ). seen_after e n ns) are ∙ (here e listed ∙ ap (λ (ls : List Larval). seen_from rows 0 ls) (sym is)))
  where
    stays : (e : Ended) → is_seen_end rows (Some e) ≡ true → seen_from rows 0 larvals ≡ seen_from rows 0 (set larvals n (ended_larval e (get_or larvals n d)))
    stays e f = sym (numbers-same (is_seen rows) 0 larvals n (ended_larval e (get_or larvals n d)) d (f ∙ sym (pending-is_seen rows larvals n d lt pending)))

    goes : (e : Ended) → is_seen_end rows (Some e) ≡ false → filter (λ m. not (eqb m n)) (seen_from rows 0 larvals) ≡ seen_from rows 0 (set larvals n (ended_larval e (get_or larvals n d)))
    goes e f = numbers-less (is_seen rows) n 0 larvals n (ended_larval e (get_or larvals n d)) f lt (omega arith)

    here : (e : Ended) → (ends_with_entry e ≡ true → is_seen_end rows (Some e) ≡ true) → seen_after e n (seen_from rows 0 larvals) ≡ seen_from rows 0 (set larvals n (ended_larval e (get_or larvals n d)))
    here (Built id) f = stays (Built id) (f refl)
    here (Joined id) f = stays (Joined id) (f refl)
    here (Failed errno) f = goes (Failed errno) refl
    here NoMemory f = goes NoMemory refl

-- an end that registers nothing is with a listed entry, or with none
pub may-listed : (h : List RegEntry) (rows : List Row) (caller n : ℕ) (answer : EndAnswer) → rows ≡ rows_of h → MayEnd h answer → registered_by (End caller n answer) ≡ None
    → ends_with_entry (end_of answer) ≡ true → is_seen_end rows (Some (end_of answer)) ≡ true
may-listed h rows caller n (answers.Built id spec) are may none e = absurd cc
may-listed h rows caller n (answers.Joined id below) are may none e = ap (λ (rs : List Row). listed_at rs id) are ∙ may.1
may-listed h rows caller n (answers.Failed errno) are may none e = absurd cc
may-listed h rows caller n answers.NoMemory are may none e = absurd cc

-- an instance is built over listed entries alone
pub built-listed : (rows : List Row) (spec : Spec) (id : ℕ) → built_answer rows spec ≡ answers.Built id spec → list_all (listed_at rows) spec.below ≡ true
built-listed rows spec id is = here (list_all (listed_at rows) spec.below) is
  where
    here : (b : Bool) → cond b (joined_or_built rows spec (driver_place rows spec.driver)) (answers.Failed EAGAIN) ≡ answers.Built id spec → b ≡ true
    here true e = refl
    here false e = absurd cc

pub seen-built : (h : List RegEntry) (rows rows' : List Row) (larvals larvals' : List Larval) (seen seen' : List ℕ) (n id : ℕ) (spec : Spec) (d : Larval) → IsKept h rows larvals → standing rows ≡ rows → list_all (listed_at rows) spec.below ≡ true
    → rows' ≡ standing (rows ++ new_row spec ∷ []) → id ≡ length rows → n < length larvals → option_and_then (λ (larval : Larval). larval.ended) (slice_get larvals n) ≡ None
    → larvals' ≡ set larvals n (ended_larval (Built id) (get_or larvals n d)) → seen' ≡ seen_after (Built id) n seen → seen ≡ seen_from rows 0 larvals → seen' ≡ seen_from rows' 0 larvals'
seen-built h rows rows' larvals larvals' seen seen' n id spec d kept stands all is at lt pending change after are =
    seen-end rows' larvals larvals' seen seen' n (Built id) d lt pending (λ e. listed-last rows rows' spec id stands all is at) change after (seen-added h rows rows' larvals seen spec kept stands all is are)
