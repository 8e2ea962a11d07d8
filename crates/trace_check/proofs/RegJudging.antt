-- The tests on the checker's table of a registry decide the four parts.
use Rattle.std.proofs.Common.{◌≡◌, ℕ, ◌+◌, ◌<◌, Bool, true, false, not, cond, ◌&&◌, ◌||◌, List, [], ◌∷◌, length, map, Option, Some, None, is_some, is_none, refl, sym, ◌∙◌, ap, subst, arith}
use Rattle.std.specs.Prelude.{◌==◌, nat_le, slice_get, count_by, IsTrue, IsSome}
use Rattle.std.specs.Bool.{Decides}
use Rattle.std.specs.List.{list_any, list_all}
use Rattle.std.specs.Option.{option_map_or, option_and_then}
use Rattle.std.proofs.lemmas.Bool.{eq-eqb, or_right}
use Rattle.std.proofs.lemmas.Bool.Decides.{Decides-eqb, Decides-and, Decides-like}
use Rattle.alg_registry.specs.declared.spec.Spec.{Spec}
use Rattle.alg_registry.specs.declared.row.Row.{Row}
use Rattle.alg_registry.specs.declared.row.Larval.{Larval}
use Rattle.alg_registry.specs.declared.entry.Ended.{Ended}
use Rattle.alg_registry.specs.declared.entry.Looked.{Looked}
use Rattle.alg_registry.specs.declared.entry.Looked.TheVariants.{Found, Pending, Began, Absent}
use Rattle.alg_registry.specs.declared.entry.Enlisted.{Enlisted}
use Rattle.alg_registry.specs.declared.entry.Enlisted.TheVariants.{Made, Exist, NFile}
use Rattle.alg_registry.specs.declared.entry.EndAnswer.{EndAnswer}
use Rattle.alg_registry.specs.declared.entry.EndAnswer.TheVariants.{Built, Joined, Failed, NoMemory}
use Rattle.alg_registry.specs.declared.entry.RegEntry.{RegEntry}
use Rattle.alg_registry.specs.declared.entry.RegEntry.TheVariants.{Enlist, Look, Claim, End, Waited, Unlist, Get, Put, Refs}
use Rattle.alg_registry.specs.declared.entry.RegEntry.TheVariants as reg
use Rattle.alg_registry.specs.Rows.{rows_of, larvals_of, listed_at}
use Rattle.alg_registry.specs.Answers.{look_answer, enlist_answer, built_answer, joined_or_built, driver_place, clashes_with, held_count}
use Rattle.alg_registry.specs.Legal as legal
use Rattle.alg_registry.specs.Legal.{is_worker, IsPending, claimer, ended_as, gets_as, puts_as, HasReference}
use Rattle.trace_check.specs.declared.reason.Reason.{Reason}
use Rattle.trace_check.specs.declared.register.Reference.{Reference}
use Rattle.trace_check.specs.RegReasons.{IsReferenced, HasState, HasCaller, SameFound, SameMade, SameUnlisted, IsEndNumbered, HasNumber, made_word, found_word, builds, IsEndAnswered, HasAnswer, IsWrong}
use Rattle.trace_check.specs.Pipes.{same_number}
use Rattle.trace_check.specs.Registers.{unreferred, is_free, is_being_built, has_ended, is_claimed_by, passes, is_to, is_of, is_full, enlisted_by, builds_by, same_made, alike_made, same_found, alike_found, same_place, alike_place, same_flag, has_state, has_caller, end_numbered, has_number, end_answered, has_answer, judged}
use Rattle.trace_check.proofs.Deciding.{decides_true, decides_false}
use Rattle.trace_check.proofs.RegTable.{look-table, clash-table, driver-table, listed-table, length-table, held-table}
use Rattle.kc_base.specs.declared.error_numbers.Errno.TheVariants.{EAGAIN, EEXIST, ENFILE}
use Rattle.trace_check.proofs.Judging.{first_missing, none_missing}
use Rattle.trace_check.proofs.RegParts.{apart_at}

-- Larvals.
dec_free_at : (o : Option Larval) → Decides (option_map_or is_free o false) (IsTrue (option_map_or (λ larval. is_none larval.ended) o false) × (option_and_then (λ larval. larval.claimed) o ≡ None))
dec_free_at None = decides_false (λ h. (let a = h.0 in cc))
dec_free_at (Some larval) = dec_free_of larval.ended larval.claimed
  where
    dec_free_of : (ended : Option Ended) (claimed : Option ℕ) → Decides (is_none ended && is_none claimed) (IsTrue (is_none ended) × (claimed ≡ None))
    dec_free_of (Some e) c = decides_false (λ h. (let a = h.0 in cc))
    dec_free_of None (Some c) = decides_false (λ h. (let a = h.1 in cc))
    dec_free_of None None = decides_true (refl, refl)

dec_built_at : (o : Option Larval) → Decides (option_map_or is_being_built o false) (IsSome (option_and_then (λ larval. larval.claimed) o) × (option_and_then (λ larval. larval.ended) o ≡ None))
dec_built_at None = decides_false (λ h. (let a = h.0 in cc))
dec_built_at (Some larval) = dec_built_of larval.claimed larval.ended
  where
    dec_built_of : (claimed : Option ℕ) (ended : Option Ended) → Decides (is_some claimed && is_none ended) (IsSome claimed × (ended ≡ None))
    dec_built_of None e = decides_false (λ h. (let a = h.0 in cc))
    dec_built_of (Some c) (Some e) = decides_false (λ h. (let a = h.1 in cc))
    dec_built_of (Some c) None = decides_true (refl, refl)

dec_ended_at : (o : Option Larval) → Decides (option_map_or has_ended o false) (IsSome (option_and_then (λ larval. larval.ended) o))
dec_ended_at None = decides_false (λ h. cc)
dec_ended_at (Some larval) = (λ h. h, λ h. h)

dec_same_number : (a : Option ℕ) (n : ℕ) → Decides (same_number a (Some n)) (a ≡ Some n)
dec_same_number None n = decides_false (λ h. cc)
dec_same_number (Some m) n = Decides-like (m == n) (λ h. ap Some h) (λ h. cc) (Decides-eqb m n)

dec_claimed_at : (caller : ℕ) (o : Option Larval) → Decides (option_map_or (is_claimed_by caller) o false) (option_and_then (λ larval. larval.claimed) o ≡ Some caller)
dec_claimed_at caller None = decides_false (λ h. cc)
dec_claimed_at caller (Some larval) = dec_same_number larval.claimed caller

-- References: as many of a caller's as are taken and not given back.
abbrev pub times : {X : Type 0} → (X → Bool) → List X → ℕ
times p [] = 0
times p (x ∷ xs) = cond (p x) 1 0 + times p xs

pub record AreReferences (references : List Reference) (h : List RegEntry) : Type 0 where
  pub each : (caller id : ℕ) → times (is_of caller id) references + count_by (puts_as caller id) h ≡ count_by (gets_as caller id) h

times_first : (b : Bool) (rest : Bool) (n : ℕ) → Decides rest (0 < n) → Decides (b || rest) (0 < cond b 1 0 + n)
times_first true rest n d = decides_true (omega arith)
times_first false rest n d = Decides-like rest (λ h. omega arith) (λ h. omega arith) d

dec_times : {X : Type 0} (p : X → Bool) (xs : List X) → Decides (list_any p xs) (0 < times p xs)
dec_times p [] = decides_false (λ h. omega arith)
dec_times p (x ∷ xs) = times_first (p x) (list_any p xs) (times p xs) (dec_times p xs)

dec_has : (references : List Reference) (h : List RegEntry) (caller id : ℕ) → AreReferences references h → Decides (list_any (is_of caller id) references) (HasReference h caller id)
dec_has references h caller id k =
    let e = k.each caller id in
    Decides-like (list_any (is_of caller id) references) (λ l. omega arith) (λ l. omega arith) (dec_times (is_of caller id) references)

-- somebody's reference of the entry
any_of : (id : ℕ) (xs : List Reference) (caller : ℕ) → list_any (is_of caller id) xs ≡ true → list_any (is_to id) xs ≡ true
any_of id [] caller h = cc
any_of id (x ∷ xs) caller h = any_first (x.caller == caller) (x.id == id) (list_any (is_of caller id) xs) (list_any (is_to id) xs) (any_of id xs caller) h
  where
    any_first : (a b c d : Bool) → (c ≡ true → d ≡ true) → ((a && b) || c) ≡ true → (b || d) ≡ true
    any_first a true c d f h = refl
    any_first true false c d f h = f h
    any_first false false c d f h = f h

pub record SomeCaller (id : ℕ) (xs : List Reference) : Type 0 where
  pub caller : ℕ
  pub has : list_any (is_of caller id) xs ≡ true

first_or : (id : ℕ) (x : Reference) (xs : List Reference) (b : Bool) → (list_any (is_to id) xs ≡ true → SomeCaller id xs) → (x.id == id) ≡ b → (b || list_any (is_to id) xs) ≡ true → SomeCaller id (x ∷ xs)
first_or id x xs true f e t = record { caller = x.caller; has = ap (λ a. (a && (x.id == id)) || list_any (is_of x.caller id) xs) (eq-eqb x.caller x.caller refl) ∙ ap (λ a. a || list_any (is_of x.caller id) xs) e }
first_or id x xs false f e t = (let s = f t in record { caller = s.caller; has = or_right (x.caller == s.caller && (x.id == id)) (list_any (is_of s.caller id) xs) s.has })

of_any : (id : ℕ) (xs : List Reference) → list_any (is_to id) xs ≡ true → SomeCaller id xs
of_any id [] h = cc
of_any id (x ∷ xs) h = first_or id x xs (x.id == id) (of_any id xs) refl h

dec_referenced : (references : List Reference) (h : List RegEntry) (id : ℕ) → AreReferences references h → Decides (list_any (is_to id) references) (IsReferenced h id)
dec_referenced references h id k = (
  λ t. (let s = of_any id references t in (s.caller, (dec_has references h s.caller id k).0 s.has)),
  λ r. any_of id references r.0 ((dec_has references h r.0 id k).1 r.1),
)

-- Callers.
dec_unset : (b : Bool) → Decides (not b) (b ≡ false)
dec_unset true = (λ h. cc, λ h. cc)
dec_unset false = decides_true refl

-- Answers.
dec_same_made : (a b : Enlisted) → Decides (same_made a b) (SameMade a b)
dec_same_made (Made id) (Made right) = Decides-eqb id right
dec_same_made (Made id) Exist = decides_true tt
dec_same_made (Made id) NFile = decides_true tt
dec_same_made Exist b = decides_true tt
dec_same_made NFile b = decides_true tt

dec_alike_made : (a b : Enlisted) → Decides (alike_made a b) (made_word a ≡ made_word b)
dec_alike_made (Made id) (Made right) = decides_true refl
dec_alike_made (Made id) Exist = decides_false (λ w. apart_at _ _ w refl)
dec_alike_made (Made id) NFile = decides_false (λ w. apart_at _ _ w refl)
dec_alike_made Exist (Made right) = decides_false (λ w. apart_at _ _ w refl)
dec_alike_made Exist Exist = decides_true refl
dec_alike_made Exist NFile = decides_false (λ w. apart_at _ _ w refl)
dec_alike_made NFile (Made right) = decides_false (λ w. apart_at _ _ w refl)
dec_alike_made NFile Exist = decides_false (λ w. apart_at _ _ w refl)
dec_alike_made NFile NFile = decides_true refl

dec_same_found : (a b : Looked) → Decides (same_found a b) (SameFound a b)
dec_same_found (Found id) (Found right) = Decides-eqb id right
dec_same_found (Found id) (Pending right) = decides_true tt
dec_same_found (Found id) (Began right) = decides_true tt
dec_same_found (Found id) Absent = decides_true tt
dec_same_found (Pending larval) (Found right) = decides_true tt
dec_same_found (Pending larval) (Pending right) = Decides-eqb larval right
dec_same_found (Pending larval) (Began right) = decides_true tt
dec_same_found (Pending larval) Absent = decides_true tt
dec_same_found (Began larval) (Found right) = decides_true tt
dec_same_found (Began larval) (Pending right) = decides_true tt
dec_same_found (Began larval) (Began right) = Decides-eqb larval right
dec_same_found (Began larval) Absent = decides_true tt
dec_same_found Absent (Found right) = decides_true tt
dec_same_found Absent (Pending right) = decides_true tt
dec_same_found Absent (Began right) = decides_true tt
dec_same_found Absent Absent = decides_true tt

dec_alike_found : (a b : Looked) → Decides (alike_found a b) (found_word a ≡ found_word b)
dec_alike_found (Found id) (Found right) = decides_true refl
dec_alike_found (Found id) (Pending right) = decides_false (λ w. apart_at _ _ w refl)
dec_alike_found (Found id) (Began right) = decides_false (λ w. apart_at _ _ w refl)
dec_alike_found (Found id) Absent = decides_false (λ w. apart_at _ _ w refl)
dec_alike_found (Pending larval) (Found right) = decides_false (λ w. apart_at _ _ w refl)
dec_alike_found (Pending larval) (Pending right) = decides_true refl
dec_alike_found (Pending larval) (Began right) = decides_false (λ w. apart_at _ _ w refl)
dec_alike_found (Pending larval) Absent = decides_false (λ w. apart_at _ _ w refl)
dec_alike_found (Began larval) (Found right) = decides_false (λ w. apart_at _ _ w refl)
dec_alike_found (Began larval) (Pending right) = decides_false (λ w. apart_at _ _ w refl)
dec_alike_found (Began larval) (Began right) = decides_true refl
dec_alike_found (Began larval) Absent = decides_false (λ w. apart_at _ _ w refl)
dec_alike_found Absent (Found right) = decides_false (λ w. apart_at _ _ w refl)
dec_alike_found Absent (Pending right) = decides_false (λ w. apart_at _ _ w refl)
dec_alike_found Absent (Began right) = decides_false (λ w. apart_at _ _ w refl)
dec_alike_found Absent Absent = decides_true refl

dec_same_place : (a b : Option ℕ) → Decides (same_place a b) (SameUnlisted a b)
dec_same_place (Some id) (Some right) = Decides-eqb id right
dec_same_place (Some id) None = decides_true tt
dec_same_place None b = decides_true tt

dec_alike_place : (a b : Option ℕ) → Decides (alike_place a b) (is_some a ≡ is_some b)
dec_alike_place (Some id) (Some right) = decides_true refl
dec_alike_place (Some id) None = decides_false (λ h. cc)
dec_alike_place None (Some right) = decides_false (λ h. cc)
dec_alike_place None None = decides_true refl

dec_same_flag : (a b : Bool) → Decides (same_flag a b) (a ≡ b)
dec_same_flag true true = decides_true refl
dec_same_flag true false = decides_false (λ h. cc)
dec_same_flag false true = decides_false (λ h. cc)
dec_same_flag false false = decides_true refl

-- What is read off the table.
enlisted_is : (h : List RegEntry) (table : List Row) (spec : Spec) → table ≡ map unreferred (rows_of h) → enlisted_by table spec ≡ enlist_answer (rows_of h) spec
enlisted_is h table spec m =
    ap (λ b. cond b Exist (cond (is_full table) NFile (Made (length table)))) (clash-table (rows_of h) table spec m)
    ∙ (ap (λ n. cond (list_any (clashes_with spec) (rows_of h)) Exist (cond (nat_le 4096 n) NFile (Made (length table)))) (held-table h (rows_of h) table refl m)
    ∙ ap (λ n. cond (list_any (clashes_with spec) (rows_of h)) Exist (cond (nat_le 4096 (held_count (rows_of h))) NFile (Made n))) (length-table (rows_of h) table m))

builds_place : (rows : List Row) (spec : Spec) (c f : Bool) → builds (cond c (Failed EEXIST) (cond f (Failed ENFILE) (Built (length rows) spec))) ≡ (not c && not f)
builds_place rows spec true f = refl
builds_place rows spec false true = refl
builds_place rows spec false false = refl

builds_driver : (rows : List Row) (spec : Spec) (o : Option ℕ) → builds (joined_or_built rows spec o) ≡ (is_none o && (not (list_any (clashes_with spec) rows) && not (nat_le 4096 (held_count rows))))
builds_driver rows spec (Some id) = refl
builds_driver rows spec None = builds_place rows spec (list_any (clashes_with spec) rows) (nat_le 4096 (held_count rows))

builds_children : (rows : List Row) (spec : Spec) (b : Bool) (o : Option ℕ) → builds (cond b (joined_or_built rows spec o) (Failed EAGAIN)) ≡ (b && (is_none o && (not (list_any (clashes_with spec) rows) && not (nat_le 4096 (held_count rows)))))
builds_children rows spec true o = builds_driver rows spec o
builds_children rows spec false o = refl

all-table : (rows table : List Row) (ids : List ℕ) → table ≡ map unreferred rows → list_all (listed_at table) ids ≡ list_all (listed_at rows) ids
all-table rows table [] m = refl
all-table rows table (id ∷ ids) m = ap (λ b. b && list_all (listed_at table) ids) (listed-table rows table id m) ∙ ap (λ b. listed_at rows id && b) (all-table rows table ids m)

builds_is : (h : List RegEntry) (table : List Row) (spec : Spec) → table ≡ map unreferred (rows_of h) → builds_by table spec ≡ builds (built_answer (rows_of h) spec)
builds_is h table spec m =
    ap (λ b. b && (is_none (driver_place table spec.driver) && (not (list_any (clashes_with spec) table) && not (is_full table)))) (all-table (rows_of h) table spec.below m)
    ∙ (ap (λ o. list_all (listed_at (rows_of h)) spec.below && (is_none o && (not (list_any (clashes_with spec) table) && not (is_full table)))) (driver-table (rows_of h) table spec.driver m)
    ∙ (ap (λ c. list_all (listed_at (rows_of h)) spec.below && (is_none (driver_place (rows_of h) spec.driver) && (not c && not (is_full table)))) (clash-table (rows_of h) table spec m)
    ∙ (ap (λ n. list_all (listed_at (rows_of h)) spec.below && (is_none (driver_place (rows_of h) spec.driver) && (not (list_any (clashes_with spec) (rows_of h)) && not (nat_le 4096 n)))) (held-table h (rows_of h) table refl m)
    ∙ sym (builds_children (rows_of h) spec (list_all (listed_at (rows_of h)) spec.below) (driver_place (rows_of h) spec.driver)))))

dec_at : {P : Type 0} (b c : Bool) → b ≡ c → Decides c P → Decides b P
dec_at {P} b c e d = subst (λ x. Decides x P) (sym e) d

dec_set : (b : Bool) → Decides b (b ≡ true)
dec_set b = (λ h. h, λ h. h)

-- The four parts.
pub record IsRegister (h : List RegEntry) (table : List Row) (larvals : List Larval) (references : List Reference) : Type 0 where
  pub legal : legal.LegalReg h
  pub marks : table ≡ map unreferred (rows_of h)
  pub larvals_are : larvals ≡ larvals_of h
  pub owed : AreReferences references h

pub dec_state : (h : List RegEntry) (table : List Row) (larvals : List Larval) (references : List Reference) (e : RegEntry) → IsRegister h table larvals references → Decides (has_state larvals references e) (HasState h e)
dec_state h table larvals references (Enlist caller spec answer) k = decides_true tt
dec_state h table larvals references (Look caller text plain answer) k = decides_true tt
dec_state h table larvals references (Claim caller larval) k =
    subst (λ ls. Decides (passes is_free ls larval) (IsPending h larval × (claimer h larval ≡ None))) (sym k.larvals_are) (dec_free_at (slice_get (larvals_of h) larval))
dec_state h table larvals references (End caller larval answer) k =
    subst (λ ls. Decides (passes is_being_built ls larval) (IsSome (claimer h larval) × (ended_as h larval ≡ None))) (sym k.larvals_are) (dec_built_at (slice_get (larvals_of h) larval))
dec_state h table larvals references (Waited caller larval) k =
    subst (λ ls. Decides (passes has_ended ls larval) (IsSome (ended_as h larval))) (sym k.larvals_are) (dec_ended_at (slice_get (larvals_of h) larval))
dec_state h table larvals references (Unlist caller driver answer) k = decides_true tt
dec_state h table larvals references (Get caller id ok) k = decides_true tt
dec_state h table larvals references (Put caller id) k = dec_referenced references h id k.owed
dec_state h table larvals references (Refs caller driver) k = decides_true tt
dec_state h table larvals references (reg.List caller) k = decides_true tt

pub dec_caller : (h : List RegEntry) (table : List Row) (larvals : List Larval) (references : List Reference) (e : RegEntry) → IsRegister h table larvals references → Decides (has_caller larvals references e) (HasCaller h e)
dec_caller h table larvals references (Enlist caller spec answer) k = dec_unset (is_worker caller)
dec_caller h table larvals references (Look caller text plain answer) k = dec_set (plain || not (is_worker caller))
dec_caller h table larvals references (Claim caller larval) k = decides_true tt
dec_caller h table larvals references (End caller larval answer) k =
    subst (λ ls. Decides (passes (is_claimed_by caller) ls larval) (claimer h larval ≡ Some caller)) (sym k.larvals_are) (dec_claimed_at caller (slice_get (larvals_of h) larval))
dec_caller h table larvals references (Waited caller larval) k = decides_true tt
dec_caller h table larvals references (Unlist caller driver answer) k = dec_unset (is_worker caller)
dec_caller h table larvals references (Get caller id ok) k = dec_unset (is_worker caller)
dec_caller h table larvals references (Put caller id) k = Decides-and _ _ (dec_unset (is_worker caller)) (dec_has references h caller id k.owed)
dec_caller h table larvals references (Refs caller driver) k = dec_unset (is_worker caller)
dec_caller h table larvals references (reg.List caller) k = dec_unset (is_worker caller)

dec_end_numbered : (h : List RegEntry) (table : List Row) (answer : EndAnswer) → table ≡ map unreferred (rows_of h) → Decides (end_numbered table answer) (IsEndNumbered h answer)
dec_end_numbered h table (Built id spec) m = Decides-like (id == length table) (λ e. e ∙ length-table (rows_of h) table m) (λ e. e ∙ sym (length-table (rows_of h) table m)) (Decides-eqb id (length table))
dec_end_numbered h table (Joined id below) m = dec_at (listed_at table id) (listed_at (rows_of h) id) (listed-table (rows_of h) table id m) (dec_set (listed_at (rows_of h) id))
dec_end_numbered h table (Failed errno) m = decides_true tt
dec_end_numbered h table NoMemory m = decides_true tt

look_is : (h : List RegEntry) (table : List Row) (larvals : List Larval) (text : List ℕ) (plain : Bool) → table ≡ map unreferred (rows_of h) → larvals ≡ larvals_of h → look_answer table larvals text plain ≡ look_answer (rows_of h) (larvals_of h) text plain
look_is h table larvals text plain m l = look-table (rows_of h) table larvals text plain m ∙ ap (λ ls. look_answer (rows_of h) ls text plain) l

pub dec_number : (h : List RegEntry) (table : List Row) (larvals : List Larval) (references : List Reference) (e : RegEntry) → IsRegister h table larvals references → Decides (has_number table larvals e) (HasNumber h e)
dec_number h table larvals references (Enlist caller spec answer) k = subst (λ b. Decides (same_made answer (enlisted_by table spec)) (SameMade answer b)) (enlisted_is h table spec k.marks) (dec_same_made answer (enlisted_by table spec))
dec_number h table larvals references (Look caller text plain answer) k = subst (λ b. Decides (same_found answer (look_answer table larvals text plain)) (SameFound answer b)) (look_is h table larvals text plain k.marks k.larvals_are) (dec_same_found answer (look_answer table larvals text plain))
dec_number h table larvals references (Claim caller larval) k = decides_true tt
dec_number h table larvals references (End caller larval answer) k = dec_end_numbered h table answer k.marks
dec_number h table larvals references (Waited caller larval) k = decides_true tt
dec_number h table larvals references (Unlist caller driver answer) k = subst (λ b. Decides (same_place answer (driver_place table driver)) (SameUnlisted answer b)) (driver-table (rows_of h) table driver k.marks) (dec_same_place answer (driver_place table driver))
dec_number h table larvals references (Get caller id ok) k = decides_true tt
dec_number h table larvals references (Put caller id) k = decides_true tt
dec_number h table larvals references (Refs caller driver) k = decides_true tt
dec_number h table larvals references (reg.List caller) k = decides_true tt

dec_end_answered : (h : List RegEntry) (table : List Row) (answer : EndAnswer) → table ≡ map unreferred (rows_of h) → Decides (end_answered table answer) (IsEndAnswered h answer)
dec_end_answered h table (Built id spec) m = dec_at (builds_by table spec) (builds (built_answer (rows_of h) spec)) (builds_is h table spec m) (dec_set (builds (built_answer (rows_of h) spec)))
dec_end_answered h table (Joined id below) m = dec_at (list_all (listed_at table) below) (list_all (listed_at (rows_of h)) below) (all-table (rows_of h) table below m) (dec_set (list_all (listed_at (rows_of h)) below))
dec_end_answered h table (Failed errno) m = decides_true tt
dec_end_answered h table NoMemory m = decides_true tt

pub dec_answer : (h : List RegEntry) (table : List Row) (larvals : List Larval) (references : List Reference) (e : RegEntry) → IsRegister h table larvals references → Decides (has_answer table larvals e) (HasAnswer h e)
dec_answer h table larvals references (Enlist caller spec answer) k = subst (λ b. Decides (alike_made answer (enlisted_by table spec)) (made_word answer ≡ made_word b)) (enlisted_is h table spec k.marks) (dec_alike_made answer (enlisted_by table spec))
dec_answer h table larvals references (Look caller text plain answer) k = subst (λ b. Decides (alike_found answer (look_answer table larvals text plain)) (found_word answer ≡ found_word b)) (look_is h table larvals text plain k.marks k.larvals_are) (dec_alike_found answer (look_answer table larvals text plain))
dec_answer h table larvals references (Claim caller larval) k = decides_true tt
dec_answer h table larvals references (End caller larval answer) k = dec_end_answered h table answer k.marks
dec_answer h table larvals references (Waited caller larval) k = decides_true tt
dec_answer h table larvals references (Unlist caller driver answer) k = subst (λ b. Decides (alike_place answer (driver_place table driver)) (is_some answer ≡ is_some b)) (driver-table (rows_of h) table driver k.marks) (dec_alike_place answer (driver_place table driver))
dec_answer h table larvals references (Get caller id ok) k = subst (λ b. Decides (same_flag ok (listed_at table id)) (ok ≡ b)) (listed-table (rows_of h) table id k.marks) (dec_same_flag ok (listed_at table id))
dec_answer h table larvals references (Put caller id) k = decides_true tt
dec_answer h table larvals references (Refs caller driver) k = decides_true tt
dec_answer h table larvals references (reg.List caller) k = decides_true tt

-- The verdict.
abbrev pub IsJudged : List RegEntry → RegEntry → Option Reason → Type 0
IsJudged h e None = HasState h e × HasCaller h e × HasNumber h e × HasAnswer h e
IsJudged h e (Some reason) = IsWrong h e reason

pub judged_is : (h : List RegEntry) (table : List Row) (larvals : List Larval) (references : List Reference) (e : RegEntry) (o : Option Reason) → IsRegister h table larvals references → judged table larvals references e ≡ o → IsJudged h e o
judged_is h table larvals references e None k j =
    none_missing (has_state larvals references e) (has_caller larvals references e) (has_number table larvals e) (has_answer table larvals e) (dec_state h table larvals references e k) (λ t. dec_caller h table larvals references e k) (dec_number h table larvals references e k) (dec_answer h table larvals references e k) j
judged_is h table larvals references e (Some r) k j =
    first_missing (has_state larvals references e) (has_caller larvals references e) (has_number table larvals e) (has_answer table larvals e) r (dec_state h table larvals references e k) (λ t. dec_caller h table larvals references e k) (dec_number h table larvals references e k) (dec_answer h table larvals references e k) j
