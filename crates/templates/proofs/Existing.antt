-- What a look comes to exists.
use Rattle.std.proofs.Common.{◌≡◌, ℕ, zero, suc, ◌<◌, ◌≤◌, ◌⊎◌, inl, inr, Bool, true, false, cond, List, [], ◌∷◌, ◌++◌, length, refl, ap, sym, ◌∙◌, subst, arith, Option, Some, None, Result, Ok, Err, IsSome}
use Rattle.std.specs.Prelude.{slice_get, filter}
use Rattle.std.specs.List.{list_all}
use Rattle.alg_registry.specs.declared.spec.Spec.{Spec}
use Rattle.alg_registry.specs.declared.entry.Ended.{Ended}
use Rattle.alg_registry.specs.declared.entry.Looked.{Looked}
use Rattle.alg_registry.specs.declared.entry.Looked.TheVariants.{Found, Pending, Began, Absent}
use Rattle.alg_registry.specs.declared.entry.RegEntry.{RegEntry}
use Rattle.alg_registry.specs.declared.entry.RegEntry.TheVariants.{Enlist, Look, Claim, End, Waited, Unlist, Get, Put, Refs}
use Rattle.alg_registry.specs.declared.entry.RegEntry.TheVariants as entry
use Rattle.alg_registry.specs.Rows.{texts, registered, rows_of, is_listed}
use Rattle.alg_registry.specs.Legal.{LegalReg, IsRight, ended_as}
use Rattle.alg_registry.specs.Made.{outcome}
use Rattle.alg_registry.proofs.Existing.{outcome_exists, registered_grow}
use Rattle.alg_registry.proofs.Fresh.{length-rows_of, is_listed-within}
use Rattle.alg_registry.proofs.LifetimeLaws.{right_at, handed_listed}
use Rattle.templates.specs.declared.build_errors.BuildErr.{BuildErr}
use Rattle.templates.specs.declared.build_errors.BuildErr.TheVariants as build
use Rattle.templates.specs.Resolution.{AreAbove, AllEnded, Grows, CameTo, Resolves, is_work}
use Rattle.templates.specs.LookResults.{entry_found, found_as, is_asked, Resolved, UnlessMemory, NonePending}
use Rattle.templates.proofs.Growth.{split, first_true, second_true}
use Rattle.templates.proofs.ChildLooks.{get_within}

pub came_exists : (caller id : ℕ) (text : List ℕ) (plain : Bool) (h h' : List RegEntry) → LegalReg h' → CameTo caller text plain (Ok id) h h' → id < length (registered h')
came_exists caller id text plain h h' legal came = by_answer came.answer refl came.comes
  where
    by_answer : (a : Looked) → came.answer ≡ a → outcome h' a ≡ Some (Ok id) → id < length (registered h')
    by_answer (Found found) e q =
        let k : found ≡ id = cc in
        let grown : h' ≡ h ++ Look caller text plain (Found found) ∷ came.work = came.history ∙ ap (λ b. h ++ Look caller text plain b ∷ came.work) e in
        let right : IsRight h (Look caller text plain (Found found)) = right_at [] h (Look caller text plain (Found found)) came.work (subst (λ x. LegalReg x) grown legal) in
        let listed : is_listed h found ≡ true = handed_listed h found (Look caller text plain (Found found)) right refl in
        let lt : found < length (rows_of h) = is_listed-within (rows_of h) found listed in
        omega (arith, k, lt, length-rows_of h, registered_grow h (Look caller text plain (Found found) ∷ came.work), ap (λ x. length (registered x)) grown)
    by_answer Absent e q = absurd cc
    by_answer (Pending n) e q = outcome_exists h' n id legal q
    by_answer (Began n) e q = outcome_exists h' n id legal q

get_some : (xs : List Spec) (n : ℕ) → n < length xs → (x : Spec) × (slice_get xs n ≡ Some x)
get_some [] n lt = absurd (omega (arith, lt))
get_some (x ∷ xs) zero lt = (x, refl)
get_some (x ∷ xs) (suc n) lt = get_some xs n (omega (arith, lt))

work_not_asked : (caller : ℕ) (e : RegEntry) → is_work caller e ≡ true → is_asked caller e ≡ false
work_not_asked caller (Look by text true answer) w = refl
work_not_asked caller (Look by text false answer) w = absurd cc
work_not_asked caller (Claim by larval) w = refl
work_not_asked caller (End by larval answer) w = refl
work_not_asked caller (Enlist by spec answer) w = absurd cc
work_not_asked caller (Waited by larval) w = absurd cc
work_not_asked caller (Unlist by driver answer) w = absurd cc
work_not_asked caller (Get by id ok) w = absurd cc
work_not_asked caller (Put by id) w = absurd cc
work_not_asked caller (Refs by driver) w = absurd cc
work_not_asked caller (entry.List by) w = absurd cc

none_asked : (caller : ℕ) (es : List RegEntry) → list_all (is_work caller) es ≡ true → filter (is_asked caller) es ≡ []
none_asked caller [] w = refl
none_asked caller (e ∷ es) w =
    ap (λ b. cond b (e ∷ filter (is_asked caller) es) (filter (is_asked caller) es)) (work_not_asked caller e (first_true (is_work caller e) (list_all (is_work caller) es) w))
    ∙ none_asked caller es (second_true (is_work caller e) (list_all (is_work caller) es) w)

pub looks_for_it : (caller : ℕ) (text : List ℕ) (plain : Bool) (h h' : List RegEntry) (r : Result ℕ BuildErr) → LegalReg h' → Resolves caller text plain h h' r → Resolved h h' caller text plain r
looks_for_it caller text plain h h' (Ok id) legal came =
    let s = get_some (registered h') id (came_exists caller id text plain h h' legal came) in
    (s.0, record { answer = came.answer; work = came.work; history = came.history; all_work = none_asked caller came.work came.all_work; found_is = ap (λ o. found_as h' o) came.comes ∙ ap (λ o. entry_found id o) s.1 })
looks_for_it caller text plain h h' (Err (build.Fault errno)) legal came =
    record { answer = came.answer; work = came.work; history = came.history; all_work = none_asked caller came.work came.all_work; found_is = ap (λ o. found_as h' o) came.comes }
looks_for_it caller text plain h h' (Err build.Memory) legal g = tt

pub grows_of : (caller : ℕ) (text : List ℕ) (plain : Bool) (h h' : List RegEntry) (r : Result ℕ BuildErr) → Resolves caller text plain h h' r → Grows caller h h'
grows_of caller text plain h h' (Ok id) came = came.grows
grows_of caller text plain h h' (Err (build.Fault errno)) came = came.grows
grows_of caller text plain h h' (Err build.Memory) g = g

pub ended_of : (caller : ℕ) (text : List ℕ) (plain : Bool) (h h' : List RegEntry) (r : Result ℕ BuildErr) → Resolves caller text plain h h' r → UnlessMemory r (AllEnded h h')
ended_of caller text plain h h' (Ok id) came = came.all_ended
ended_of caller text plain h h' (Err (build.Fault errno)) came = came.all_ended
ended_of caller text plain h h' (Err build.Memory) g = tt

pub none_above : (h : List RegEntry) (w : ℕ) → NonePending h → AreAbove h w
none_above h w none n text at pending =
    absurd (let s : IsSome (ended_as h n) = none n (get_within (texts h) n text at) in let t : IsSome {T = Ended} None = subst (λ (o : Option Ended). IsSome o) pending s in cc)

still_none : (caller : ℕ) (h h' : List RegEntry) → NonePending h → Grows caller h h' → AllEnded h h' → NonePending h'
still_none caller h h' none g ended n lt = by_side (split n (length (texts h)))
  where
    ended_on : (o : Option Ended) → ended_as h n ≡ o → IsSome o → IsSome (ended_as h' n)
    ended_on None q s = absurd cc
    ended_on (Some e) q s = subst (λ (o : Option Ended). IsSome o) (sym (g.ends_stay n e q)) refl

    by_side : (n < length (texts h)) ⊎ (length (texts h) ≤ n) → IsSome (ended_as h' n)
    by_side (inl early) = ended_on (ended_as h n) refl (none n early)
    by_side (inr late) = ended n late lt

pub none_left : (caller : ℕ) (h h' : List RegEntry) (r : Result ℕ BuildErr) → NonePending h → Grows caller h h' → UnlessMemory r (AllEnded h h') → UnlessMemory r (NonePending h')
none_left caller h h' (Ok id) none g ended = still_none caller h h' none g ended
none_left caller h h' (Err (build.Fault errno)) none g ended = still_none caller h h' none g ended
none_left caller h h' (Err build.Memory) none g ended = tt
