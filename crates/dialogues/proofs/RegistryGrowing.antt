-- The calls of a caller on the registry stay as its history grows.
use Rattle.std.proofs.Common.{◌≡◌, ℕ, Bool, true, false, List, [], ◌∷◌, ◌++◌, Option, Some, None, Result, Ok, Err, refl, sym, ap, ◌∙◌, append_assoc, append-nil}
use Rattle.std.specs.Prelude.{◌==◌, if◌then◌else◌, filter, slice_get}
use Rattle.kc_base.specs.declared.error_numbers.Errno.{Errno}
use Rattle.alg_registry.specs.declared.spec.Spec.{Spec}
use Rattle.alg_registry.specs.declared.entry.Ended.{Ended}
use Rattle.alg_registry.specs.declared.entry.Looked.{Looked}
use Rattle.alg_registry.specs.declared.entry.Looked.TheVariants as look
use Rattle.alg_registry.specs.declared.entry.RegEntry.{RegEntry}
use Rattle.alg_registry.specs.declared.entry.RegEntry.TheVariants as entry
use Rattle.alg_registry.specs.Rows.{registered}
use Rattle.alg_registry.specs.Legal.{ended_as}
use Rattle.alg_registry.specs.Made.{outcome_of}
use Rattle.alg_registry.proofs.Histories.{ended_more, origin_more}
use Rattle.templates.specs.LookResults.{Found, found_in, found_as, entry_found}
use Rattle.templates.specs.LookResults.{is_asked}
use Rattle.dialogues.specs.RegistryCalls.{RegCall, Looks, reg_calls, reg_calls_from, reg_call_of, prepend, AllSettled}

-- so what a look came to stays
entry-stays : (h more : List RegEntry) (id : ℕ) (o : Option Spec) (x : Found) → slice_get (registered h) id ≡ o → entry_found id o ≡ Some x
    → entry_found id (slice_get (registered (h ++ more)) id) ≡ Some x
entry-stays h more id None x at e = absurd cc
entry-stays h more id (Some spec) x at e = ap (entry_found id) (origin_more h more id spec at) ∙ e

outcome-stays : (h more : List RegEntry) (o : Option (Result ℕ Errno)) (x : Found) → found_as h o ≡ Some x → found_as (h ++ more) o ≡ Some x
outcome-stays h more None x e = absurd cc
outcome-stays h more (Some (Err errno)) x e = e
outcome-stays h more (Some (Ok id)) x e = entry-stays h more id (slice_get (registered h) id) x refl e

larval-stays : (h more : List RegEntry) (n : ℕ) (o : Option Ended) (x : Found) → ended_as h n ≡ o → found_as h (outcome_of o) ≡ Some x
    → found_as (h ++ more) (outcome_of (ended_as (h ++ more) n)) ≡ Some x
larval-stays h more n None x at e = absurd cc
larval-stays h more n (Some end) x at e =
    ap (λ o. found_as (h ++ more) (outcome_of o)) (ended_more h more n end at) ∙ outcome-stays h more (outcome_of (Some end)) x e

pub found_in-stays : (h more : List RegEntry) (answer : Looked) (x : Found) → found_in h answer ≡ Some x → found_in (h ++ more) answer ≡ Some x
found_in-stays h more (look.Found id) x e = outcome-stays h more (Some (Ok id)) x e
found_in-stays h more look.Absent x e = e
found_in-stays h more (look.Pending n) x e = larval-stays h more n (ended_as h n) x refl e
found_in-stays h more (look.Began n) x e = larval-stays h more n (ended_as h n) x refl e

looks-stay : (own : Bool) (text : List ℕ) (a b : Option Found) (calls : List RegCall) → ((x : Found) → a ≡ Some x → b ≡ Some x)
    → AllSettled (prepend (if own then Some (Looks text a) else None) calls) → (if own then Some (Looks text b) else None) ≡ (if own then Some (Looks text a) else None)
looks-stay false text a b calls stays settled = refl
looks-stay true text None b calls stays settled = absurd (let e = settled.0 in cc)
looks-stay true text (Some x) b calls stays settled = ap (λ found. Some (Looks text found)) (stays x refl)

call-stays : (h more : List RegEntry) (caller : ℕ) (before : List RegEntry) (next : RegEntry) (calls : List RegCall)
    → AllSettled (prepend (reg_call_of h caller before next) calls) → reg_call_of (h ++ more) caller before next ≡ reg_call_of h caller before next
call-stays h more caller before (entry.Enlist by spec answer) calls settled = refl
call-stays h more caller before (entry.Look by text true answer) calls settled = refl
call-stays h more caller before (entry.Look by text false answer) calls settled =
    looks-stay (by == caller) text (found_in h answer) (found_in (h ++ more) answer) calls (found_in-stays h more answer) settled
call-stays h more caller before (entry.Unlist by driver answer) calls settled = refl
call-stays h more caller before (entry.Get by id ok) calls settled = refl
call-stays h more caller before (entry.Put by id) calls settled = refl
call-stays h more caller before (entry.Refs by driver) calls settled = refl
call-stays h more caller before (entry.List by) calls settled = refl
call-stays h more caller before (entry.Claim by larval) calls settled = refl
call-stays h more caller before (entry.End by larval answer) calls settled = refl
call-stays h more caller before (entry.Waited by larval) calls settled = refl

settled-later : (call : Option RegCall) (calls : List RegCall) → AllSettled (prepend call calls) → AllSettled calls
settled-later None calls settled = settled
settled-later (Some call) calls settled = settled.1

calls-stay : (h more : List RegEntry) (caller : ℕ) (before entries : List RegEntry)
    → AllSettled (reg_calls_from h caller before entries) → reg_calls_from (h ++ more) caller before entries ≡ reg_calls_from h caller before entries
calls-stay h more caller before [] settled = refl
calls-stay h more caller before (next ∷ later) settled =
    let calls = reg_calls_from h caller (before ++ next ∷ []) later in
    ap (λ call. prepend call (reg_calls_from (h ++ more) caller (before ++ next ∷ []) later)) (call-stays h more caller before next calls settled)
    ∙ ap (λ cs. prepend (reg_call_of h caller before next) cs) (calls-stay h more caller (before ++ next ∷ []) later (settled-later (reg_call_of h caller before next) calls settled))

prepend-append : (call : Option RegCall) (a b : List RegCall) → prepend call (a ++ b) ≡ prepend call a ++ b
prepend-append None a b = refl
prepend-append (Some call) a b = refl

pub reg_calls_from-append : (h : List RegEntry) (caller : ℕ) (before a b : List RegEntry)
    → reg_calls_from h caller before (a ++ b) ≡ reg_calls_from h caller before a ++ reg_calls_from h caller (before ++ a) b
reg_calls_from-append h caller before [] b = ap (λ front. reg_calls_from h caller front b) (sym (append-nil before))
reg_calls_from-append h caller before (next ∷ a) b =
    ap (prepend (reg_call_of h caller before next)) (reg_calls_from-append h caller (before ++ next ∷ []) a b
    ∙ ap (λ front. reg_calls_from h caller (before ++ next ∷ []) a ++ reg_calls_from h caller front b) (append_assoc before (next ∷ []) a))
    ∙ prepend-append (reg_call_of h caller before next) _ _

-- a history that goes on has the script's calls of before, and those of what was appended
pub reg_calls-append : (caller : ℕ) (h more : List RegEntry) → AllSettled (reg_calls caller h)
    → reg_calls caller (h ++ more) ≡ reg_calls caller h ++ reg_calls_from (h ++ more) caller h more
unfolding reg_calls
reg_calls-append caller h more settled =
    reg_calls_from-append (h ++ more) caller [] h more
    ∙ ap (λ calls. calls ++ reg_calls_from (h ++ more) caller h more) (calls-stay h more caller [] h settled)

-- ---- where the caller asked nothing

if-other : (b : Bool) (call : RegCall) → b ≡ false → (if b then Some call else None) ≡ None
if-other true call e = absurd cc
if-other false call e = refl

no-call : (h : List RegEntry) (n : ℕ) (before : List RegEntry) (e : RegEntry) → is_asked n e ≡ false → reg_call_of h n before e ≡ None
no-call h n before (entry.Enlist by spec answer) e = if-other _ _ e
no-call h n before (entry.Look by text true answer) e = refl
no-call h n before (entry.Look by text false answer) e = if-other _ _ e
no-call h n before (entry.Unlist by driver answer) e = if-other _ _ e
no-call h n before (entry.Get by id ok) e = if-other _ _ e
no-call h n before (entry.Put by id) e = if-other _ _ e
no-call h n before (entry.Refs by driver) e = if-other _ _ e
no-call h n before (entry.List by) e = if-other _ _ e
no-call h n before (entry.Claim by larval) e = refl
no-call h n before (entry.End by larval answer) e = refl
no-call h n before (entry.Waited by larval) e = refl

none-pass : {E : Type 0} → (b : Bool) (x : E) (xs : List E) → (if b then x ∷ xs else xs) ≡ [] → (b ≡ false) × (xs ≡ [])
none-pass true x xs e = absurd cc
none-pass false x xs e = (refl, e)

pub none-asked : (h : List RegEntry) (n : ℕ) (before more : List RegEntry) → filter (is_asked n) more ≡ [] → reg_calls_from h n before more ≡ []
none-asked h n before [] none = refl
none-asked h n before (next ∷ later) none =
    let rest = none-pass (is_asked n next) next (filter (is_asked n) later) none in
    ap (λ call. prepend call (reg_calls_from h n (before ++ next ∷ []) later)) (no-call h n before next rest.0) ∙ none-asked h n (before ++ next ∷ []) later rest.1
