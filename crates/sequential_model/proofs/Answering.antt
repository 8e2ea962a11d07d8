-- Each call of a script comes to what the plain registry answers.
use Rattle.std.proofs.Common.{◌≡◌, ℕ, zero, suc, ◌<◌, ◌≤◌, Bool, true, false, cond, eqb, List, [], ◌∷◌, ◌++◌, length, get_or, set, refl, ap, sym, ◌∙◌, subst, arith, Option, Some, None, Err, IsSome, append_assoc}
use Rattle.std.specs.Prelude.{slice_get}
use Rattle.std.specs.List.{list_all}
use Rattle.kc_base.specs.declared.error_numbers.Errno.TheVariants.{ENOENT}
use Rattle.alg_registry.specs.declared.spec.Spec.{Spec}
use Rattle.alg_registry.specs.declared.row.Row.{Row}
use Rattle.alg_registry.specs.declared.entry.Ended.{Ended}
use Rattle.alg_registry.specs.declared.entry.Enlisted.{Enlisted}
use Rattle.alg_registry.specs.declared.entry.Enlisted.TheVariants.{Made as MadeAs, Exist, NFile}
use Rattle.alg_registry.specs.declared.entry.Looked.TheVariants.{Absent}
use Rattle.alg_registry.specs.declared.entry.RegEntry.{RegEntry}
use Rattle.alg_registry.specs.declared.entry.RegEntry.TheVariants.{Enlist, Look, Claim, End, Waited, Unlist, Get, Put, Refs}
use Rattle.alg_registry.specs.declared.entry.RegEntry.TheVariants as entry
use Rattle.alg_registry.specs.Rows.{texts, begun_by, registered_by, ends, larvals_of, rows_of, standing, listed_at, caller_of}
use Rattle.alg_registry.specs.Answers.{driver_place, enlist_answer}
use Rattle.alg_registry.specs.Calls.{unlisted_row, taken_row, put_row_of, new_row, refs_answer, listing}
use Rattle.alg_registry.specs.Kept.{IsKept}
use Rattle.alg_registry.specs.Legal.{ended_as, LegalReg, IsRight, MayFollow, HasReference, is_worker}
use Rattle.alg_registry.specs.Made.{Made, MadeAfter, IsMade}
use Rattle.alg_registry.proofs.Fresh.{is_listed-within}
use Rattle.alg_registry.proofs.Keeping.{driver-within, kept-unlist, kept-get, kept-put, put-within}
use Rattle.alg_registry.proofs.Registering.{rows_of-registered}
use Rattle.alg_registry.proofs.Steps.{IsQuiet, LegalReg-push}
use Rattle.templates.specs.LookResults.{Found, NonePending, found_in}
use Rattle.templates.specs.Table.{table}
use Rattle.templates.specs.Resolution.{weight_of}
use Rattle.dialogues.specs.RegistryCalls.{RegCall, Enlists, Looks, Unlists, Gets, Puts, Counts, Lists, reg_call_of, is_settled}
use Rattle.sequential_model.specs.Registry.{PlainRegistry, first_registry, registry_after, with_rows, changed, changed_by}
use Rattle.sequential_model.proofs.Agreeing.{IsRegistryOf, is_building}
use Rattle.sequential_model.specs.Laws.{IsAnsweredBy, AnswersArePlain}
use Rattle.sequential_model.proofs.Asking.{Asks, AsksInTurn, AnswersAsPlain}
use Rattle.std.proofs.lemmas.List.Elements.{recursion_from_All}
use Rattle.sequential_model.proofs.Crew.{crew_builds}
use Rattle.sequential_model.proofs.Determined.{phase_run, phase_ends}
use Rattle.sequential_model.proofs.Going.{no_end, no_more}
use Rattle.sequential_model.proofs.Knowing.{known_quiet, built_stays}
use Rattle.sequential_model.proofs.Lightness.{look_as_plain, legal_front, made_front}
use Rattle.sequential_model.proofs.Phases.{AreLighter, Ends}

-- ---- where nothing is pending

none_left : (h : List RegEntry) → NonePending h → (n : ℕ) → n < length (texts h) → ended_as h n ≡ None → ⊥
none_left h none n lt undone = absurd (let s : IsSome {T = Ended} None = subst (λ (o : Option Ended). IsSome o) undone (none n lt) in cc)

-- building does nothing where nothing is pending
pub rests : AreLighter table weight_of → (h more : List RegEntry) (registry : PlainRegistry) → LegalReg h → NonePending h → IsRegistryOf registry h → MayFollow h more → MadeAfter table h more → list_all is_building more ≡ true → IsRegistryOf registry (h ++ more) × NonePending (h ++ more)
rests lighter h more registry legal none is follows made all =
    let d = phase_ends table weight_of (h ++ more) registry Absent (registry, Err ENOENT) (Err ENOENT) refl
    (phase_run table weight_of h more Absent (registry, Err ENOENT) lighter legal follows made all
    (Ends (record { registry = registry; is = is; result = Err ENOENT; same = refl; comes = refl; none = none_left h none }))) in
    (d.is, d.none)

some_ended : (o : Option Ended) → (o ≡ None → ⊥) → IsSome o
some_ended None f = absurd (f refl)
some_ended (Some e) f = refl

none_pending : (h : List RegEntry) (e : RegEntry) → begun_by e ≡ None → NonePending h → NonePending (h ++ e ∷ [])
none_pending h e unbegun none n lt = some_ended (ended_as (h ++ e ∷ []) n) (λ undone. none_left h none n (no_more h e n unbegun lt) (no_end h e n undone))

-- ---- what each call leaves

there : (rows : List Row) (k : ℕ) → k < length rows → (row : Row) × (slice_get rows k ≡ Some row) × (get_or rows k row ≡ row)
there [] k lt = absurd (omega (arith, lt))
there (row ∷ rows) zero lt = (row, refl, refl)
there (row ∷ rows) (suc k) lt = there rows k (omega (arith, lt))

change_is : (rows : List Row) (change : Row → Row) (k : ℕ) (row : Row) → slice_get rows k ≡ Some row → get_or rows k row ≡ row → standing (changed_by change k rows (slice_get rows k)) ≡ standing (set rows k (change (get_or rows k row)))
change_is rows change k row at same = ap (λ o. standing (changed_by change k rows o)) at ∙ ap (λ (r : Row). standing (set rows k (change r))) (sym same)

kept_of : (registry : PlainRegistry) (h : List RegEntry) → LegalReg h → IsRegistryOf registry h → IsKept h registry.rows (larvals_of h)
kept_of registry h legal is = record { legal = legal; rows_are = is.rows; larvals_are = refl }

known_unlisted : (registry : PlainRegistry) (h : List RegEntry) (caller k : ℕ) (driver : List ℕ) → LegalReg h → IsRegistryOf registry h → is_worker caller ≡ false → driver_place registry.rows driver ≡ Some k → IsRegistryOf (changed registry unlisted_row k) (h ++ Unlist caller driver (Some k) ∷ [])
known_unlisted registry h caller k driver legal is out found =
    let e : RegEntry = Unlist caller driver (Some k) in
    let row = there registry.rows k (driver-within registry.rows driver k found) in
    let kept = kept-unlist h (h ++ e ∷ []) registry.rows (standing (set registry.rows k (unlisted_row (get_or registry.rows k row.0)))) (larvals_of h) caller k driver row.0 (kept_of registry h legal is) out found refl refl in
    record { rows = change_is registry.rows unlisted_row k row.0 row.1 row.2 ∙ kept.rows_are; built = built_stays registry h e is legal (λ n. refl) }

known_taken : (registry : PlainRegistry) (h : List RegEntry) (caller k : ℕ) → LegalReg h → IsRegistryOf registry h → is_worker caller ≡ false → listed_at registry.rows k ≡ true → IsRegistryOf (changed registry taken_row k) (h ++ Get caller k true ∷ [])
known_taken registry h caller k legal is out listed =
    let e : RegEntry = Get caller k true in
    let row = there registry.rows k (is_listed-within registry.rows k listed) in
    let kept = kept-get h (h ++ e ∷ []) registry.rows (standing (set registry.rows k (taken_row (get_or registry.rows k row.0)))) (larvals_of h) caller k row.0 (kept_of registry h legal is) out listed refl refl in
    record { rows = change_is registry.rows taken_row k row.0 row.1 row.2 ∙ kept.rows_are; built = built_stays registry h e is legal (λ n. refl) }

known_put : (registry : PlainRegistry) (h : List RegEntry) (caller k : ℕ) → LegalReg h → IsRegistryOf registry h → is_worker caller ≡ false → HasReference h caller k → IsRegistryOf (changed registry put_row_of k) (h ++ Put caller k ∷ [])
known_put registry h caller k legal is out has =
    let e : RegEntry = Put caller k in
    let row = there registry.rows k (put-within h registry.rows caller k legal is.rows has) in
    let kept = kept-put h (h ++ e ∷ []) registry.rows (standing (set registry.rows k (put_row_of (get_or registry.rows k row.0)))) (larvals_of h) caller k row.0 (kept_of registry h legal is) out has refl refl in
    record { rows = change_is registry.rows put_row_of k row.0 row.1 row.2 ∙ kept.rows_are; built = built_stays registry h e is legal (λ n. refl) }

known_enlisted : (registry : PlainRegistry) (h : List RegEntry) (caller id : ℕ) (spec : Spec) → LegalReg h → IsRegistryOf registry h → IsRegistryOf (with_rows registry (registry.rows ++ new_row spec ∷ [])) (h ++ Enlist caller spec (MadeAs id) ∷ [])
known_enlisted registry h caller id spec legal is =
    let e : RegEntry = Enlist caller spec (MadeAs id) in
    record { rows = rows_of-registered h e registry.rows spec legal is.rows refl (λ k. record { unlists_not = refl; gets_not = refl; puts_not = refl }); built = built_stays registry h e is legal (λ n. refl) }

quietly : (registry : PlainRegistry) (h : List RegEntry) (e : RegEntry) → LegalReg h → IsRegistryOf registry h → registered_by e ≡ None → ((id : ℕ) → IsQuiet e id) → ((n : ℕ) → ends n e ≡ None) → IsRegistryOf registry (h ++ e ∷ [])
quietly registry h e legal is none quiet unended = known_quiet registry h e is legal none quiet unended

-- ---- one call

-- it leaves this, and came to this
record Leaves (registry : PlainRegistry) (call : RegCall) (r' : List RegEntry) : Type 0 where
  is : IsRegistryOf (registry_after registry call) r'
  none : NonePending r'
  answered : IsAnsweredBy registry call

own : (b : Bool) (c call : RegCall) → cond b (Some c) None ≡ Some call → c ≡ call
own true c call e = cc
own false c call e = absurd cc

found_there : (o : Option Found) (text : List ℕ) → is_settled (Looks text o) ≡ true → (f : Found) × (o ≡ Some f)
found_there None text e = absurd cc
found_there (Some f) text e = (f, refl)

-- the call's entry, and building after it
one_call : AreLighter table weight_of → (h work : List RegEntry) (registry : PlainRegistry) (e : RegEntry) (call : RegCall) → LegalReg h → IsRight h e → MayFollow (h ++ e ∷ []) work → IsMade table h e → MadeAfter table (h ++ e ∷ []) work → Made table h → NonePending h → IsRegistryOf registry h
    → list_all is_building work ≡ true → reg_call_of ((h ++ e ∷ []) ++ work) 0 h e ≡ Some call → is_settled call ≡ true → Leaves registry call ((h ++ e ∷ []) ++ work)
one_call lighter h work registry e call legal right follows made made_after whole none is all call_is settled = by_entry e right made follows made_after call_is settled
  where
    -- an entry by which no larval begins
    after_entry : (x : RegEntry) (c : RegCall) → IsRight h x → MayFollow (h ++ x ∷ []) work → MadeAfter table (h ++ x ∷ []) work → begun_by x ≡ None → IsRegistryOf (registry_after registry c) (h ++ x ∷ []) → IsAnsweredBy registry c → Leaves registry c ((h ++ x ∷ []) ++ work)
    after_entry x c right' follows' made' unbegun now answered =
        let r = rests lighter (h ++ x ∷ []) work (registry_after registry c) (LegalReg-push h x legal right') (none_pending h x unbegun none) now follows' made' all in
        record { is = r.0; none = r.1; answered = answered }

    became : (x : RegEntry) (c : RegCall) → c ≡ call → Leaves registry c ((h ++ x ∷ []) ++ work) → Leaves registry call ((h ++ x ∷ []) ++ work)
    became x c q l = subst (λ k. Leaves registry k ((h ++ x ∷ []) ++ work)) q l

    enlists : (by : ℕ) (spec : Spec) (a : Enlisted) → IsRight h (Enlist by spec a) → IsRegistryOf (registry_after registry (Enlists spec a)) (h ++ Enlist by spec a ∷ [])
    enlists by spec (MadeAs id) r = known_enlisted registry h by id spec legal is
    enlists by spec Exist r = quietly registry h (Enlist by spec Exist) legal is refl (λ id. record { unlists_not = refl; gets_not = refl; puts_not = refl }) (λ n. refl)
    enlists by spec NFile r = quietly registry h (Enlist by spec NFile) legal is refl (λ id. record { unlists_not = refl; gets_not = refl; puts_not = refl }) (λ n. refl)

    unlists' : (by : ℕ) (driver : List ℕ) (a : Option ℕ) → IsRight h (Unlist by driver a) → IsRegistryOf (registry_after registry (Unlists driver a)) (h ++ Unlist by driver a ∷ [])
    unlists' by driver None r = quietly registry h (Unlist by driver None) legal is refl (λ id. record { unlists_not = refl; gets_not = refl; puts_not = refl }) (λ n. refl)
    unlists' by driver (Some id) r = known_unlisted registry h by id driver legal is r.0 (ap (λ (rows : List Row). driver_place rows driver) is.rows ∙ sym r.1)

    gets' : (by id : ℕ) (ok : Bool) → IsRight h (Get by id ok) → IsRegistryOf (registry_after registry (Gets id ok)) (h ++ Get by id ok ∷ [])
    gets' by id true r = known_taken registry h by id legal is r.0 (ap (λ (rows : List Row). listed_at rows id) is.rows ∙ sym r.1)
    gets' by id false r = quietly registry h (Get by id false) legal is refl (λ id'. record { unlists_not = refl; gets_not = refl; puts_not = refl }) (λ n. refl)

    by_entry : (x : RegEntry) → IsRight h x → IsMade table h x → MayFollow (h ++ x ∷ []) work → MadeAfter table (h ++ x ∷ []) work → reg_call_of ((h ++ x ∷ []) ++ work) 0 h x ≡ Some call → is_settled call ≡ true → Leaves registry call ((h ++ x ∷ []) ++ work)
    by_entry (Enlist by spec a) r m f n q s =
        let k = own (eqb by 0) (Enlists spec a) call q in
        became (Enlist by spec a) (Enlists spec a) k (after_entry (Enlist by spec a) (Enlists spec a) r f n refl (enlists by spec a r) (r.3 ∙ ap (λ (rows : List Row). enlist_answer rows spec) (sym is.rows)))
    by_entry (Look by text true a) r m f n q s = absurd cc
    by_entry (Look by text false a) r m f n q s =
        let k = own (eqb by 0) (Looks text (found_in ((h ++ Look by text false a ∷ []) ++ work) a)) call q in
        let there' = found_there (found_in ((h ++ Look by text false a ∷ []) ++ work) a) text (ap is_settled k ∙ s) in
        let p = look_as_plain lighter h work registry by text a there'.0 legal r f m n none is all there'.1 in
        became (Look by text false a) (Looks text (found_in ((h ++ Look by text false a ∷ []) ++ work) a)) k (record { is = p.0; none = p.1; answered = there'.1 ∙ ap (λ (x : Found). Some x) (sym p.2) })
    by_entry (Unlist by driver a) r m f n q s =
        let k = own (eqb by 0) (Unlists driver a) call q in
        became (Unlist by driver a) (Unlists driver a) k (after_entry (Unlist by driver a) (Unlists driver a) r f n refl (unlists' by driver a r) (r.1 ∙ ap (λ (rows : List Row). driver_place rows driver) (sym is.rows)))
    by_entry (Get by id ok) r m f n q s =
        let k = own (eqb by 0) (Gets id ok) call q in
        became (Get by id ok) (Gets id ok) k (after_entry (Get by id ok) (Gets id ok) r f n refl (gets' by id ok r) (r.1 ∙ ap (λ (rows : List Row). listed_at rows id) (sym is.rows)))
    by_entry (Put by id) r m f n q s =
        let k = own (eqb by 0) (Puts id) call q in
        became (Put by id) (Puts id) k (after_entry (Put by id) (Puts id) r f n refl (known_put registry h by id legal is r.0 r.1) tt)
    by_entry (Refs by driver) r m f n q s =
        let k = own (eqb by 0) (Counts driver (refs_answer (rows_of h) driver)) call q in
        became (Refs by driver) (Counts driver (refs_answer (rows_of h) driver)) k (after_entry (Refs by driver) (Counts driver (refs_answer (rows_of h) driver)) r f n refl (quietly registry h (Refs by driver) legal is refl (λ id. record { unlists_not = refl; gets_not = refl; puts_not = refl }) (λ n'. refl)) (ap (λ (rows : List Row). refs_answer rows driver) (sym is.rows)))
    by_entry (entry.List by) r m f n q s =
        let k = own (eqb by 0) (Lists (listing (rows_of h))) call q in
        became (entry.List by) (Lists (listing (rows_of h))) k (after_entry (entry.List by) (Lists (listing (rows_of h))) r f n refl (quietly registry h (entry.List by) legal is refl (λ id. record { unlists_not = refl; gets_not = refl; puts_not = refl }) (λ n'. refl)) (ap (λ (rows : List Row). listing rows) (sym is.rows)))
    by_entry (Claim by larval) r m f n q s = absurd cc
    by_entry (End by larval a) r m f n q s = absurd cc
    by_entry (Waited by larval) r m f n q s = absurd cc

-- ---- calls in turn

asks_call : AreLighter table weight_of → (call : RegCall) (r r' : List RegEntry) (registry : PlainRegistry) → LegalReg r' → Made table r' → NonePending r → IsRegistryOf registry r → Asks call r r' → Leaves registry call r'
asks_call lighter call r r' registry legal' made' none is asks =
    let h : List RegEntry = r ++ asks.before in
    let h1 : List RegEntry = h ++ asks.entry ∷ [] in
    let legal : LegalReg (h1 ++ asks.after) = subst LegalReg asks.history legal' in
    let made : Made table (h1 ++ asks.after) = subst (λ x. Made table x) asks.history made' in
    let outer = legal_front h1 asks.after legal in
    let inner = legal_front h (asks.entry ∷ []) outer.0 in
    let first = legal_front r asks.before inner.0 in
    let outer_made = made_front h1 asks.after made in
    let inner_made = made_front h (asks.entry ∷ []) outer_made.0 in
    let first_made = made_front r asks.before inner_made.0 in
    let ready = rests lighter r asks.before registry first.0 none is first.1 first_made.1 asks.builds_before in
    subst (λ x. Leaves registry call x) (sym asks.history)
    (one_call lighter h asks.after registry asks.entry call inner.0 inner.1.0 outer.1 inner_made.1.0 outer_made.1 inner_made.0 ready.1 ready.0 asks.builds_after (ap (λ x. reg_call_of x 0 h asks.entry) (sym asks.history) ∙ asks.call_is) asks.settled)

-- the history goes on through calls in turn
goes_on : (calls : List RegCall) (r r' : List RegEntry) → AsksInTurn calls r r' → (more : List RegEntry) × (r' ≡ r ++ more)
goes_on [] r r' turn = (turn.0, turn.1)
goes_on (call ∷ calls) r r' turn =
    let a = turn.1 in
    let later = goes_on calls turn.0 r' turn.2 in (
      (a.before ++ a.entry ∷ []) ++ (a.after ++ later.0),
      later.1
          ∙ (ap (λ x. x ++ later.0) a.history
          ∙ (append_assoc ((r ++ a.before) ++ a.entry ∷ []) a.after later.0
          ∙ (ap (λ x. x ++ (a.after ++ later.0)) (append_assoc r a.before (a.entry ∷ [])) ∙ append_assoc r (a.before ++ a.entry ∷ []) (a.after ++ later.0)))),
    )

pub answers_as_plain : AreLighter table weight_of → AnswersAsPlain
answers_as_plain lighter [] r r' registry legal made none is turn =
    let l = legal_front r turn.0 (subst LegalReg turn.1 legal) in
    let m = made_front r turn.0 (subst (λ x. Made table x) turn.1 made) in
    let p = rests lighter r turn.0 registry l.0 none is l.1 m.1 turn.2 in
    (subst (λ x. IsRegistryOf registry x) (sym turn.1) p.0, subst (λ x. NonePending x) (sym turn.1) p.1, tt)
answers_as_plain lighter (call ∷ calls) r r' registry legal made none is turn =
    let on = goes_on calls turn.0 r' turn.2 in
    let l = legal_front turn.0 on.0 (subst LegalReg on.1 legal) in
    let m = made_front turn.0 on.0 (subst (λ x. Made table x) on.1 made) in
    let p = asks_call lighter call r turn.0 registry l.0 m.0 none is turn.1 in
    let q = answers_as_plain lighter calls turn.0 r' (registry_after registry call) legal made p.none p.is turn.2 in
    (q.0, q.1, (p.answered, q.2))

-- ---- from the start

first_known : IsRegistryOf first_registry []
first_known = record { rows = refl; built = λ text id. refl }

first_none : NonePending []
first_none n lt = absurd (omega (arith, lt))

pub answers_are_plain : AreLighter table weight_of → AnswersArePlain
answers_are_plain lighter calls r legal made crew turn =
    (answers_as_plain lighter calls [] r first_registry legal made first_none first_known (crew_builds calls [] r legal (recursion_from_All (λ (e : RegEntry). caller_of e ≤ 16) r crew) turn)).2
