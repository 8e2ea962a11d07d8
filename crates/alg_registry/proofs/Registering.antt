-- Entries of the history that register, and those that end a larval.
use Rattle.std.proofs.Common.{◌≡◌, ◌≢◌, ℕ, suc, ◌+◌, ◌-◌, ◌<◌, Bool, true, false, cond, ◌&&◌, eqb, leb, List, [], ◌∷◌, ◌++◌, length, map, get_or, set, Option, Some, None, refl, sym, ap, ◌∙◌, subst, arith}
use Rattle.std.specs.Prelude.{count_by, slice_get, is_some, is_none}
use Rattle.std.specs.List.{list_any, list_all, cons_option, position_from}
use Rattle.std.specs.Option.{option_and_then, option_map_or}
use Rattle.std.specs.Str.{bytes_eq}
use Rattle.std.proofs.lemmas.Bool.Decides.{nat_tests}
use Rattle.kc_base.specs.declared.error_numbers.Errno.TheVariants.{EAGAIN, EEXIST, ENFILE}
use Rattle.alg_registry.specs.declared.spec.Spec.{Spec}
use Rattle.alg_registry.specs.declared.spec.Wrap.TheVariants.{Plain}
use Rattle.alg_registry.specs.declared.row.Row.{Row}
use Rattle.alg_registry.specs.declared.row.Larval.{Larval}
use Rattle.alg_registry.specs.declared.entry.Ended.{Ended}
use Rattle.alg_registry.specs.declared.entry.Enlisted.{Enlisted}
use Rattle.alg_registry.specs.declared.entry.Enlisted.TheVariants as enlisted
use Rattle.alg_registry.specs.declared.entry.EndAnswer.{EndAnswer}
use Rattle.alg_registry.specs.declared.entry.EndAnswer.TheVariants.{Built, Joined, Failed}
use Rattle.alg_registry.specs.declared.entry.RegEntry.{RegEntry}
use Rattle.alg_registry.specs.declared.entry.RegEntry.TheVariants.{Enlist, End, Waited, Refs}
use Rattle.alg_registry.specs.declared.entry.RegEntry.TheVariants as entry
use Rattle.alg_registry.specs.Rows.{noted_at, noted, registered_by, registered, unlists, gets, puts, standing, rows_of, first_of, claims, ends, end_of, larvals_of, listed_at}
use Rattle.alg_registry.specs.Answers.{driver_place, enlist_answer, clashes_with, held_count, built_answer, joined_or_built}
use Rattle.alg_registry.specs.Legal.{IsRight, LegalReg, is_worker, claimer, ended_as, MayEnd}
use Rattle.alg_registry.specs.Calls.{ended_larval, new_row, is_unclaimed}
use Rattle.alg_registry.specs.Larvals.{passes_at}
use Rattle.alg_registry.specs.Room.{owed}
use Rattle.alg_registry.specs.Kept.{IsKept}
use Rattle.alg_registry.proofs.Standing.{bare, bare-rows_of, standing-from_bare, map-push}
use Rattle.alg_registry.proofs.Steps.{IsQuiet, rows_of-quiet, registered-push, noted-quiet, first_of-push, or_none}
use Rattle.alg_registry.proofs.Balance.{owed-end}
use Rattle.alg_registry.proofs.Fresh.{fresh-from_legal, larval-within}
use Rattle.alg_registry.proofs.Keeping.{IsAside, kept-aside, kept_step, larvals_of-left, larvals_of-set, unequal, and_left}

noted-push : (h : List RegEntry) (first : ℕ) (specs : List Spec) (spec : Spec) (last : ℕ) → last ≡ first + length specs → noted h first (specs ++ spec ∷ []) ≡ noted h first specs ++ noted_at h last spec ∷ []
noted-push h first [] spec last e = let e' : first ≡ last = omega arith in ap (λ (k : ℕ). noted_at h k spec ∷ []) e'
noted-push h first (s ∷ specs) spec last e = ap (λ rs. noted_at h first s ∷ rs) (noted-push h (first + 1) specs spec last (omega arith))

-- the entry that is registered is the last
pub rows_of-registered : (h : List RegEntry) (e : RegEntry) (rows : List Row) (spec : Spec) → LegalReg h → rows ≡ rows_of h → registered_by e ≡ Some spec → ((id : ℕ) → IsQuiet e id)
    → standing (rows ++ new_row spec ∷ []) ≡ rows_of (h ++ e ∷ [])
rows_of-registered h e rows spec legal are some quiet =
    let h' : List RegEntry = h ++ e ∷ [] in
    let fresh = fresh-from_legal h legal in
    let last : ℕ = length (registered h) in
    let specs : registered h' ≡ registered h ++ spec ∷ [] = registered-push h e ∙ ap (λ o. registered h ++ cons_option o []) some in
    let now : map bare rows ≡ noted h 0 (registered h) = ap (λ rs. map bare rs) are ∙ bare-rows_of h in
    let u : false ≡ list_any (unlists last) h = sym (fresh.unlists_none last (omega arith)) in
    let t : 0 ≡ count_by (gets last) h - count_by (puts last) h = omega (arith, fresh.gets_none last (omega arith)) in
    let new : new_row spec ≡ noted_at h last spec = λ i. record { spec = spec; unlisted = u i; taken = t i; listed = false; references = 0 } in
    let then : map bare (rows ++ new_row spec ∷ []) ≡ noted h 0 (registered h ++ spec ∷ []) =
    map-push rows (new_row spec) ∙ ((λ i. now i ++ new i ∷ []) ∙ sym (noted-push h 0 (registered h) spec last (omega arith))) in
    standing-from_bare h' (rows ++ new_row spec ∷ []) (then ∙ (sym (noted-quiet h e quiet 0 (registered h ++ spec ∷ [])) ∙ ap (λ ss. noted h' 0 ss) (sym specs)))

pub kept-made : (h log : List RegEntry) (rows rows' : List Row) (larvals : List Larval) (caller id : ℕ) (spec : Spec)
    → IsKept h rows larvals → is_worker caller ≡ false → spec.below ≡ [] → spec.wrap ≡ Plain → enlist_answer rows spec ≡ enlisted.Made id
    → log ≡ h ++ Enlist caller spec (enlisted.Made id) ∷ [] → rows' ≡ standing (rows ++ new_row spec ∷ [])
    → IsKept log rows' larvals
kept-made h log rows rows' larvals caller id spec kept out below plain is grown change =
    let e : RegEntry = Enlist caller spec (enlisted.Made id) in
    let right : IsRight h e = (out, below, plain, sym is ∙ ap (λ rs. enlist_answer rs spec) kept.rows_are) in
    kept_step h log rows rows' larvals larvals e kept right grown
    (change ∙ rows_of-registered h e rows spec kept.legal kept.rows_are refl (λ id. record { unlists_not = refl; gets_not = refl; puts_not = refl }))
    (kept.larvals_are ∙ sym (larvals_of-left h e refl (λ n. record { claims_not = refl; ends_not = refl })))

refused_aside : (caller : ℕ) (spec : Spec) (answer : Enlisted) → ((id : ℕ) → answer ≢ enlisted.Made id) → IsAside (Enlist caller spec answer)
refused_aside caller spec (enlisted.Made id) other = absurd (other id refl)
refused_aside caller spec enlisted.Exist other = record { registers_none = refl; begins_none = refl; quiet = λ id. record { unlists_not = refl; gets_not = refl; puts_not = refl }; leaves = λ n. record { claims_not = refl; ends_not = refl } }
refused_aside caller spec enlisted.NFile other = record { registers_none = refl; begins_none = refl; quiet = λ id. record { unlists_not = refl; gets_not = refl; puts_not = refl }; leaves = λ n. record { claims_not = refl; ends_not = refl } }

pub kept-refused : (h log : List RegEntry) (rows : List Row) (larvals : List Larval) (caller : ℕ) (spec : Spec) (answer : Enlisted)
    → IsKept h rows larvals → is_worker caller ≡ false → spec.below ≡ [] → spec.wrap ≡ Plain → enlist_answer rows spec ≡ answer → ((id : ℕ) → answer ≢ enlisted.Made id)
    → log ≡ h ++ Enlist caller spec answer ∷ []
    → IsKept log rows larvals
kept-refused h log rows larvals caller spec answer kept out below plain is other grown =
    let e : RegEntry = Enlist caller spec answer in
    let right : IsRight h e = (out, below, plain, sym is ∙ ap (λ rs. enlist_answer rs spec) kept.rows_are) in
    subst (λ (l : List RegEntry). IsKept l rows larvals) (sym grown) (kept-aside h rows larvals e kept right (refused_aside caller spec answer other))

pub claimer-within : (h : List RegEntry) (larvals : List Larval) (caller n : ℕ) → larvals ≡ larvals_of h → claimer h n ≡ Some caller → n < length larvals
claimer-within h larvals caller n are claimed = larval-within larvals n (λ larval. larval.claimed) caller (ap (λ ls. option_and_then (λ (l : Larval). l.claimed) (slice_get ls n)) are ∙ claimed)

-- what somebody has claimed isn't unclaimed
taken-at : (larvals : List Larval) (n caller : ℕ) → option_and_then (λ (l : Larval). l.claimed) (slice_get larvals n) ≡ Some caller → passes_at is_unclaimed larvals n ≡ false
taken-at larvals n caller claimed = here (slice_get larvals n) claimed
  where
    by_end : (b : Bool) → (b && false) ≡ false
    by_end true = refl
    by_end false = refl

    here : (o : Option Larval) → option_and_then (λ (l : Larval). l.claimed) o ≡ Some caller → option_map_or is_unclaimed o false ≡ false
    here None claimed = refl
    here (Some larval) claimed = ap (λ (c : Option ℕ). is_none larval.ended && is_none c) claimed ∙ by_end (is_none larval.ended)

-- the caller may end the larval: room was kept, the larval is there, and it is pending
pub record IsToEnd (h : List RegEntry) (larvals : List Larval) (caller n : ℕ) : Type 0 where
  pub claimed : claimer h n ≡ Some caller
  pub unended : ended_as h n ≡ None
  pub room : 0 < owed h
  pub within : n < length larvals
  pub taken : passes_at is_unclaimed larvals n ≡ false
  pub pending : option_and_then (λ (larval : Larval). larval.ended) (slice_get larvals n) ≡ None

pub to_end : (h h' : List RegEntry) (rows : List Row) (larvals : List Larval) (caller n : ℕ) → IsKept h rows larvals → h ≡ h' → claimer h' n ≡ Some caller → ended_as h' n ≡ None → IsToEnd h larvals caller n
to_end h h' rows larvals caller n kept same claimed' unended' =
    let claimed : claimer h n ≡ Some caller = subst (λ (l : List RegEntry). claimer l n ≡ Some caller) (sym same) claimed' in
    let unended : ended_as h n ≡ None = subst (λ (l : List RegEntry). ended_as l n ≡ None) (sym same) unended' in
    record {
      claimed = claimed;
      unended = unended;
      room = owed-end h caller n kept.legal claimed unended;
      within = claimer-within h larvals caller n kept.larvals_are claimed;
      taken = taken-at larvals n caller (ap (λ ls. option_and_then (λ (l : Larval). l.claimed) (slice_get ls n)) kept.larvals_are ∙ claimed);
      pending = ap (λ (ls : List Larval). option_and_then (λ (larval : Larval). larval.ended) (slice_get ls n)) kept.larvals_are ∙ unended;
    }

-- the larval has its end
larvals_of-ended : (h : List RegEntry) (caller n : ℕ) (answer : EndAnswer) (larvals : List Larval) (d : Larval) → larvals ≡ larvals_of h → claimer h n ≡ Some caller → ended_as h n ≡ None
    → set larvals n (ended_larval (end_of answer) (get_or larvals n d)) ≡ larvals_of (h ++ End caller n answer ∷ [])
larvals_of-ended h caller n answer larvals d are claimed unended =
    let e : RegEntry = End caller n answer in
    let here : eqb n n ≡ true = grind (arith, nat_tests) in
    larvals_of-set h e (ended_larval (end_of answer)) n larvals d are refl (claimer-within h larvals caller n are claimed)
    (λ m differ. record { claims_not = refl; ends_not = ap (λ b. cond b (Some (end_of answer)) None) (unequal n m differ) })
    (λ larval text at is.
    let open' : larval.ended ≡ None = sym (ap (λ (o : Option Larval). option_and_then (λ (l : Larval). l.ended) o) at) ∙ (ap (λ ls. option_and_then (λ (l : Larval). l.ended) (slice_get ls n)) are ∙ unended) in
    let none : first_of (ends n) h ≡ None = sym (ap (λ (l : Larval). l.ended) is) ∙ open' in
    let c : larval.claimed ≡ first_of (claims n) (h ++ e ∷ []) = ap (λ (l : Larval). l.claimed) is ∙ sym (first_of-push (claims n) h e ∙ or_none (first_of (claims n) h)) in
    let f : Some (end_of answer) ≡ first_of (ends n) (h ++ e ∷ []) = sym (first_of-push (ends n) h e ∙ rw (none, here)) in
    let t : larval.text ≡ text = ap (λ (l : Larval). l.text) is in
    λ i. record { text = t i; claimed = c i; ended = f i })

-- an end that registers nothing
pub kept-end : (h log : List RegEntry) (rows : List Row) (larvals larvals' : List Larval) (caller n : ℕ) (answer : EndAnswer) (d : Larval)
    → IsKept h rows larvals → claimer h n ≡ Some caller → ended_as h n ≡ None → MayEnd h answer → registered_by (End caller n answer) ≡ None
    → log ≡ h ++ End caller n answer ∷ [] → larvals' ≡ set larvals n (ended_larval (end_of answer) (get_or larvals n d))
    → IsKept log rows larvals'
kept-end h log rows larvals larvals' caller n answer d kept claimed unended may none grown change =
    let e : RegEntry = End caller n answer in
    kept_step h log rows rows larvals larvals' e kept (claimed, unended, may) grown
    (kept.rows_are ∙ sym (rows_of-quiet h e none (λ id. record { unlists_not = refl; gets_not = refl; puts_not = refl })))
    (change ∙ larvals_of-ended h caller n answer larvals d kept.larvals_are claimed unended)

-- an end that registers the instance
pub kept-built : (h log : List RegEntry) (rows rows' : List Row) (larvals larvals' : List Larval) (caller n id : ℕ) (spec : Spec) (d : Larval)
    → IsKept h rows larvals → claimer h n ≡ Some caller → ended_as h n ≡ None → built_answer (rows_of h) spec ≡ Built (length (rows_of h)) spec → id ≡ length rows
    → log ≡ h ++ End caller n (Built id spec) ∷ [] → rows' ≡ standing (rows ++ new_row spec ∷ []) → larvals' ≡ set larvals n (ended_larval (end_of (Built id spec)) (get_or larvals n d))
    → IsKept log rows' larvals'
kept-built h log rows rows' larvals larvals' caller n id spec d kept claimed unended is last grown more change =
    let e : RegEntry = End caller n (Built id spec) in
    let number : id ≡ length (rows_of h) = last ∙ ap length kept.rows_are in
    let may : Built id spec ≡ built_answer (rows_of h) spec = ap (λ (k : ℕ). Built k spec) number ∙ sym is in
    kept_step h log rows rows' larvals larvals' e kept (claimed, unended, may) grown
    (more ∙ rows_of-registered h e rows spec kept.legal kept.rows_are refl (λ id. record { unlists_not = refl; gets_not = refl; puts_not = refl }))
    (change ∙ larvals_of-ended h caller n (Built id spec) larvals d kept.larvals_are claimed unended)

driver_listed : (driver : List ℕ) (first id : ℕ) (rows : List Row) → position_from (λ row. row.listed && bytes_eq row.spec.driver driver) first rows ≡ Some id → (k : ℕ) × (id ≡ first + k) × (listed_at rows k ≡ true)
driver_listed driver first id [] h = absurd cc
driver_listed driver first id (row ∷ rows) h = here (row.listed && bytes_eq row.spec.driver driver) refl h (driver_listed driver (first + 1) id rows)
  where
    here : (b : Bool) → (row.listed && bytes_eq row.spec.driver driver) ≡ b → cond b (Some first) (position_from (λ r. r.listed && bytes_eq r.spec.driver driver) (first + 1) rows) ≡ Some id
        → (position_from (λ r. r.listed && bytes_eq r.spec.driver driver) (first + 1) rows ≡ Some id → (k : ℕ) × (id ≡ (first + 1) + k) × (listed_at rows k ≡ true))
        → (k : ℕ) × (id ≡ first + k) × (listed_at (row ∷ rows) k ≡ true)
    here true e h rest = let same : first ≡ id = cc in (0, omega arith, and_left row.listed _ e)
    here false e h rest = let r = rest h in (suc r.0, omega (arith, r.1), r.2)

-- the entry of a driver is listed
pub driver_listed-at : (rows : List Row) (driver : List ℕ) (id : ℕ) → driver_place rows driver ≡ Some id → listed_at rows id ≡ true
driver_listed-at rows driver id found =
    let l = driver_listed driver 0 id rows found in
    let at : l.0 ≡ id = omega (arith, l.1) in
    subst (λ n. listed_at rows n ≡ true) at l.2

joined_listed : (rows : List Row) (spec : Spec) (id : ℕ) (below : List ℕ) (o : Option ℕ) → driver_place rows spec.driver ≡ o → joined_or_built rows spec o ≡ Joined id below → listed_at rows id ≡ true
joined_listed rows spec id below (Some k) e h =
    let l = driver_listed spec.driver 0 k rows e in
    let same : k ≡ id = cc in
    let at : l.0 ≡ id = omega (arith, l.1) in
    subst (λ n. listed_at rows n ≡ true) at l.2
joined_listed rows spec id below None e h = clash (list_any (clashes_with spec) rows) (leb 4096 (held_count rows)) h
  where
    clash : (b c : Bool) → cond b (Failed EEXIST) (cond c (Failed ENFILE) (Built (length rows) spec)) ≡ Joined id below → listed_at rows id ≡ true
    clash true c h = absurd cc
    clash false true h = absurd cc
    clash false false h = absurd cc

-- an end that joins is one that may come
pub may_join : (h : List RegEntry) (spec : Spec) (id : ℕ) → built_answer (rows_of h) spec ≡ Joined id spec.below → MayEnd h (Joined id spec.below)
may_join h spec id is = here (list_all (listed_at (rows_of h)) spec.below) refl is
  where
    here : (b : Bool) → list_all (listed_at (rows_of h)) spec.below ≡ b → cond b (joined_or_built (rows_of h) spec (driver_place (rows_of h) spec.driver)) (Failed EAGAIN) ≡ Joined id spec.below → MayEnd h (Joined id spec.below)
    here true e is = (e, joined_listed (rows_of h) spec id spec.below (driver_place (rows_of h) spec.driver) refl is)
    here false e is = absurd cc

-- an entry that tells what is so already
aside_step : (h log : List RegEntry) (rows : List Row) (larvals : List Larval) (e : RegEntry) → IsKept h rows larvals → IsRight h e → IsAside e → log ≡ h ++ e ∷ [] → IsKept log rows larvals
aside_step h log rows larvals e kept right aside grown =
    subst (λ (l : List RegEntry). IsKept l rows larvals) (sym grown) (kept-aside h rows larvals e kept right aside)

pub kept-waited : (h log : List RegEntry) (rows : List Row) (larvals : List Larval) (caller n : ℕ) (e : Ended)
    → IsKept h rows larvals → option_and_then (λ (l : Larval). l.ended) (slice_get larvals n) ≡ Some e → log ≡ h ++ Waited caller n ∷ [] → IsKept log rows larvals
kept-waited h log rows larvals caller n e kept ended grown =
    let is : ended_as h n ≡ Some e = ap (λ ls. option_and_then (λ (l : Larval). l.ended) (slice_get ls n)) (sym kept.larvals_are) ∙ ended in
    aside_step h log rows larvals (Waited caller n) kept (ap (λ (o : Option Ended). is_some o) is)
    (record { registers_none = refl; begins_none = refl; quiet = λ id. record { unlists_not = refl; gets_not = refl; puts_not = refl }; leaves = λ n. record { claims_not = refl; ends_not = refl } })
    grown

pub kept-refs : (h log : List RegEntry) (rows : List Row) (larvals : List Larval) (caller : ℕ) (driver : List ℕ)
    → IsKept h rows larvals → is_worker caller ≡ false → log ≡ h ++ Refs caller driver ∷ [] → IsKept log rows larvals
kept-refs h log rows larvals caller driver kept out grown =
    aside_step h log rows larvals (Refs caller driver) kept out
    (record { registers_none = refl; begins_none = refl; quiet = λ id. record { unlists_not = refl; gets_not = refl; puts_not = refl }; leaves = λ n. record { claims_not = refl; ends_not = refl } })
    grown

pub kept-list : (h log : List RegEntry) (rows : List Row) (larvals : List Larval) (caller : ℕ)
    → IsKept h rows larvals → is_worker caller ≡ false → log ≡ h ++ entry.List caller ∷ [] → IsKept log rows larvals
kept-list h log rows larvals caller kept out grown =
    aside_step h log rows larvals (entry.List caller) kept out
    (record { registers_none = refl; begins_none = refl; quiet = λ id. record { unlists_not = refl; gets_not = refl; puts_not = refl }; leaves = λ n. record { claims_not = refl; ends_not = refl } })
    grown
