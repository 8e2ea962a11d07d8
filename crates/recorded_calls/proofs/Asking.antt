-- A caller's turns on the registry are its calls.
use Rattle.std.proofs.Common.{◌≡◌, ℕ, Bool, true, false, List, [], ◌∷◌, ◌++◌, Option, Some, None, Result, Ok, Err, refl, sym, ap, subst, ◌∙◌, append_assoc, append-nil, eq-eqb, inl, inr, ◌⊎◌}
use Rattle.std.specs.Prelude.{◌==◌, if◌then◌else◌, filter, is_some, slice_get, MatchResult, MatchOption, IfOk, IfErr, IsSome, IsFalse}
use Rattle.std.specs.List.{list_all}
use Rattle.std.specs.Result.{IsErr}
use Rattle.std.proofs.lemmas.Bool.{and_parts}
use Rattle.kc_base.specs.declared.error_numbers.Errno.{Errno}
use Rattle.alg_registry.specs.declared.entry.Enlisted.{Enlisted}
use Rattle.alg_registry.specs.declared.entry.Enlisted.TheVariants as enlisted
use Rattle.alg_registry.specs.declared.entry.RefAnswer.{RefAnswer}
use Rattle.alg_registry.specs.declared.listing.ListRow.{ListRow}
use Rattle.alg_registry.specs.declared.spec.Spec.{Spec}
use Rattle.alg_registry.specs.Answers.{enlist_answer, driver_place}
use Rattle.alg_registry.specs.declared.entry.RegEntry.{RegEntry}
use Rattle.alg_registry.specs.declared.entry.RegEntry.TheVariants as entry
use Rattle.alg_registry.specs.declared.entry.RegErr.{RegErr}
use Rattle.alg_registry.specs.declared.entry.RegErr.TheVariants.{Exist, NoEnt, Again, NFile, Memory}
use Rattle.alg_registry.specs.Calls.{UnlessMemory, OnMemory, enlist_result, unlist_result, get_result, refs_answer, refs_result, listing}
use Rattle.alg_registry.specs.Rows.{rows_of, registered, is_listed, caller_of}
use Rattle.alg_registry.specs.Made.{outcome}
use Rattle.alg_registry.specs.Legal.{is_worker}
use Rattle.alg_registry.specs.declared.entry.Looked.{Looked}
use Rattle.atomic_table.specs.Seated.{TableId}
use Rattle.templates.specs.declared.build_errors.BuildErr.{BuildErr}
use Rattle.templates.specs.declared.build_errors.BuildErr.TheVariants as build
use Rattle.templates.specs.LookResults.{Found, Entry, Fault, found_in, found_as, entry_found, is_asked}
use Rattle.turn_lock.specs.PassLaws.{Meets, AtTurn, GoesOn, Enters, Leaves, IsOwn}
use Rattle.turn_lock.specs.Passes.{knows}
use Rattle.turn_lock.specs.Turns.{Known, of}
use Rattle.turn_lock.specs.TurnLaws.{own_entered, own_left, own_goes}
use Rattle.shared_registry.specs.Builds.{LooksFor, Looks as LooksUp, Works, Resolved, is_building}
use Rattle.shared_registry.specs.Faithful.{IsFaithful}
use Rattle.dialogues.specs.First.{AreFurther}
use Rattle.dialogues.specs.GoingOn.{RegisteredStays, RegistryCallsGoOn}
use Rattle.dialogues.specs.InTurn.{AreInTurn}
use Rattle.dialogues.specs.RegistryCalls.{RegCall, Enlists, Looks, Unlists, Gets, Puts, Counts, Lists, reg_call_of, reg_calls, reg_calls_from, prepend, is_settled, if_own, AllSettled}
use Rattle.recorded_calls.specs.Passes.{RegPass, known, lock_of}
use Rattle.recorded_calls.specs.RegistryCalls.{CallLaws, IsCaller, Asked, Asks, Finds, SeesCalls, SeesLook, IsResolved, enlisted_as, unlisted_as, got_as, counted_as, listed_as}

-- ---- entries of others are no calls

not-asked : (n : ℕ) (e : RegEntry) → (caller_of e == n) ≡ false → is_asked n e ≡ false
not-asked n (entry.Enlist by spec answer) e = e
not-asked n (entry.Look by text true answer) e = refl
not-asked n (entry.Look by text false answer) e = e
not-asked n (entry.Unlist by driver answer) e = e
not-asked n (entry.Get by id ok) e = e
not-asked n (entry.Put by id) e = e
not-asked n (entry.Refs by driver) e = e
not-asked n (entry.List by) e = e
not-asked n (entry.Claim by larval) e = refl
not-asked n (entry.End by larval answer) e = refl
not-asked n (entry.Waited by larval) e = refl

none-pass : {E : Type 0} → (b : Bool) (x : E) (xs : List E) → (if b then x ∷ xs else xs) ≡ [] → (b ≡ false) × (xs ≡ [])
none-pass true x xs e = absurd cc
none-pass false x xs e = (refl, e)

pub unasked : (n : ℕ) (xs : List RegEntry) → of caller_of n xs ≡ [] → filter (is_asked n) xs ≡ []
unasked n [] none = refl
unasked n (x ∷ xs) none =
    let rest = none-pass (caller_of x == n) x (of caller_of n xs) none in
    ap (λ b. if b then x ∷ filter (is_asked n) xs else filter (is_asked n) xs) (not-asked n x rest.0) ∙ unasked n xs rest.1

-- ---- one turn

abbrev pub Met : Known RegEntry → List RegEntry → Type 0
Met k h = Meets caller_of IsFaithful k h

-- what its calls are
asked-by : CallLaws → (k l : Known RegEntry) (calls : List RegCall) → IsCaller k → l.number ≡ k.number → l.next ≡ k.next → IsOwn caller_of l → AreInTurn k.number calls k.seen l.seen → Asked k l calls
asked-by law k l calls caller same same_next is_own turns =
    let are = law.are k.number calls k.seen l.seen caller.settled turns in
    record {
      number = same;
      next = same_next;
      in_turn = law.any 1 k.number calls k.seen l.seen turns;
      are = are;
      caller = record {
        outsider = subst (λ n. IsFalse (is_worker n)) (sym same) caller.outsider;
        own = is_own;
        settled = subst (λ n. AllSettled (reg_calls n l.seen)) (sym same) are.all_settled;
      };
    }

-- it added nothing
pub no-call : CallLaws → (k l : Known RegEntry) (h : List RegEntry) → IsCaller k → Met k h → Leaves k h l → Asked k l []
no-call law k l h caller met leaves =
    asked-by law k l [] caller (ap (λ (x : Known RegEntry). x.number) leaves) (ap (λ (x : Known RegEntry). x.next) leaves) (own_left caller_of IsFaithful k l (h, met, leaves))
    (met.others, ap (λ (x : Known RegEntry). x.seen) leaves ∙ met.goes_on, unasked k.number met.others met.apart)

-- it added an entry of the caller's that is this call
pub one-call : CallLaws → (k l : Known RegEntry) (h : List RegEntry) (e : RegEntry) (call : RegCall) → IsCaller k → Met k h → Enters IsFaithful k h e l → caller_of e ≡ k.number
    → reg_call_of (h ++ e ∷ []) k.number h e ≡ Some call → is_settled call ≡ true → Asked k l (call ∷ [])
one-call law k l h e call caller met enters mine called settles =
    let now : l.seen ≡ h ++ e ∷ [] = ap (λ (x : Known RegEntry). x.seen) enters.0 in
    asked-by law k l (call ∷ []) caller (ap (λ (x : Known RegEntry). x.number) enters.0) (ap (λ (x : Known RegEntry). x.next) enters.0) (own_entered caller_of IsFaithful k l (λ x. e) (h, met, enters) mine) (
      l.seen,
      record {
        before = met.others;
        entry = e;
        after = [];
        history = now ∙ (ap (λ x. x ++ e ∷ []) met.goes_on ∙ sym (append-nil ((k.seen ++ met.others) ++ e ∷ [])));
        call_is = (λ i. reg_call_of (now i) k.number ((sym met.goes_on) i) e) ∙ called;
        settled = settles;
        none_before = unasked k.number met.others met.apart;
        none_after = refl;
      },
      ([], sym (append-nil l.seen), refl),
    )

-- an entry of one's own is a call
pub own : {C : Type 0} (n : ℕ) (call : C) → if_own n n call ≡ Some call
own {C} n call = ap (λ b. if b then Some call else None) (eq-eqb n n refl)

-- ---- calls whose answers but for want of memory are recorded

pub recorded : {X A B : Type 0} → CallLaws → (k l : Known RegEntry) (r : Result X RegErr) (seen_as : Result X RegErr → Option A) (make : B → Result X RegErr) (view : B → A) (answer : List RegEntry → B) (e : List RegEntry → RegEntry) (call : B → RegCall)
    → IsCaller k → ((b : B) → seen_as (make b) ≡ Some (view b)) → seen_as (Err Memory) ≡ None
    → ((h : List RegEntry) → caller_of (e h) ≡ k.number) → ((h : List RegEntry) → reg_call_of (h ++ e h ∷ []) k.number h (e h) ≡ Some (call (answer h))) → ((b : B) → is_settled (call b) ≡ true)
    → AtTurn caller_of IsFaithful k (λ h. UnlessMemory r ((r ≡ make (answer h)) × Enters IsFaithful k h (e h) l) × OnMemory r (Leaves k h l))
    → MatchOption (seen_as r) (Asked k l []) (λ a. (b : B) × (view b ≡ a) × Asked k l (call b ∷ []))
recorded {X} {A} {B} law k l r seen_as make view answer e call caller made none mine called settles turn = by_answer r turn.2
  where
    h : List RegEntry
    h = turn.0

    S : Option A → Type 0
    S o = MatchOption o (Asked k l []) (λ a. (b : B) × (view b ≡ a) × Asked k l (call b ∷ []))

    was : (r : Result X RegErr) → (r ≡ make (answer h)) × Enters IsFaithful k h (e h) l → S (seen_as r)
    was r is =
        subst S (sym (ap seen_as is.0 ∙ made (answer h)))
        (answer h, refl, one-call law k l h (e h) (call (answer h)) caller turn.1 is.1 (mine h) (called h) (settles (answer h)))

    by_answer : (r : Result X RegErr) → UnlessMemory r ((r ≡ make (answer h)) × Enters IsFaithful k h (e h) l) × OnMemory r (Leaves k h l) → S (seen_as r)
    by_answer (Ok x) is = was (Ok x) is.0
    by_answer (Err Exist) is = was (Err Exist) is.0
    by_answer (Err NoEnt) is = was (Err NoEnt) is.0
    by_answer (Err Again) is = was (Err Again) is.0
    by_answer (Err NFile) is = was (Err NFile) is.0
    by_answer (Err Memory) is = subst S (sym none) (no-call law k l h caller turn.1 is.1)

-- ---- passes at hand

-- the calls of a pass that was taken and put back are its caller's
pub asks-at : (before : Option RegPass) (pass pass' : RegPass) (lock : TableId) (calls : List RegCall) → before ≡ Some pass → lock_of before ≡ Some lock → pass'.badge.table_id ≡ lock
    → Asked (knows pass) (knows pass') calls → Asks before (Some pass') calls
asks-at before pass pass' lock calls at_hand was is asked =
    record { lock = ap (λ t. Some t) is ∙ sym was; asked = subst (λ o. Asked (known o) (knows pass') calls) (sym at_hand) asked }

-- an answer that is recorded is a call, and one that isn't is none
pub asks-if : {A B S : Type 0} (result : Result A S) (is : Option A) (before : Option RegPass) (pass pass' : RegPass) (lock : TableId) (view : B → A) (call : B → RegCall)
    → before ≡ Some pass → lock_of before ≡ Some lock → pass'.badge.table_id ≡ lock
    → MatchOption is (Asked (knows pass) (knows pass') []) (λ a. (b : B) × (view b ≡ a) × Asked (knows pass) (knows pass') (call b ∷ []))
    → MatchResult result (λ a. is ≡ Some a) (λ _. is ≡ None)
    → MatchResult result (λ a. (b : B) × (view b ≡ a) × Asks before (Some pass') (call b ∷ [])) (λ _. Asks before (Some pass') [])
asks-if {A} {B} (Ok a) is before pass pass' lock view call at_hand was now asked e =
    let K = knows pass in
    let L = knows pass' in
    let did : (b : B) × (view b ≡ a) × Asked K L (call b ∷ []) = subst (λ o. MatchOption o (Asked K L []) (λ x. (b : B) × (view b ≡ x) × Asked K L (call b ∷ []))) e asked in
    (did.0, did.1, asks-at before pass pass' lock (call did.0 ∷ []) at_hand was now did.2)
asks-if {A} {B} (Err s) is before pass pass' lock view call at_hand was now asked e =
    let K = knows pass in
    let L = knows pass' in
    asks-at before pass pass' lock [] at_hand was now (subst (λ o. MatchOption o (Asked K L []) (λ x. (b : B) × (view b ≡ x) × Asked K L (call b ∷ []))) e asked)

-- where the answer itself is in the call
pub asks-just : {A S : Type 0} (result : Result A S) (before after : Option RegPass) (call : A → RegCall)
    → MatchResult result (λ a. (b : A) × (b ≡ a) × Asks before after (call b ∷ [])) (λ _. Asks before after [])
    → MatchResult result (λ a. Asks before after (call a ∷ [])) (λ _. Asks before after [])
asks-just (Ok a) before after call did = subst (λ x. Asks before after (call x ∷ [])) did.1 did.2
asks-just (Err s) before after call did = did

-- ---- the calls

enlisted-made : (how : Enlisted) → enlisted_as (enlist_result how) ≡ Some how
enlisted-made (enlisted.Made id) = refl
enlisted-made enlisted.Exist = refl
enlisted-made enlisted.NFile = refl

pub enlist-asked : CallLaws → (k l : Known RegEntry) (spec : Spec) (r : Result ℕ RegErr)
    → IsCaller k → AtTurn caller_of IsFaithful k (λ h. UnlessMemory r ((r ≡ enlist_result (enlist_answer (rows_of h) spec)) × Enters IsFaithful k h (entry.Enlist k.number spec (enlist_answer (rows_of h) spec)) l) × OnMemory r (Leaves k h l))
    → MatchOption (enlisted_as r) (Asked k l []) (λ a. (b : Enlisted) × (b ≡ a) × Asked k l (Enlists spec b ∷ []))
enlist-asked law k l spec r caller turn =
    recorded law k l r enlisted_as enlist_result (λ how. how) (λ h. enlist_answer (rows_of h) spec) (λ h. entry.Enlist k.number spec (enlist_answer (rows_of h) spec)) (Enlists spec)
    caller enlisted-made refl (λ h. refl) (λ h. own k.number (Enlists spec (enlist_answer (rows_of h) spec))) (λ b. refl) turn

unlisted-made : (id : Option ℕ) → unlisted_as (unlist_result id) ≡ Some (is_some id)
unlisted-made (Some id) = refl
unlisted-made None = refl

pub unlist-asked : CallLaws → (k l : Known RegEntry) (driver : List ℕ) (r : Result (Unit {0}) RegErr)
    → IsCaller k → AtTurn caller_of IsFaithful k (λ h. UnlessMemory r ((r ≡ unlist_result (driver_place (rows_of h) driver)) × Enters IsFaithful k h (entry.Unlist k.number driver (driver_place (rows_of h) driver)) l) × OnMemory r (Leaves k h l))
    → MatchOption (unlisted_as r) (Asked k l []) (λ a. (b : Option ℕ) × (is_some b ≡ a) × Asked k l (Unlists driver b ∷ []))
unlist-asked law k l driver r caller turn =
    recorded law k l r unlisted_as unlist_result (λ id. is_some id) (λ h. driver_place (rows_of h) driver) (λ h. entry.Unlist k.number driver (driver_place (rows_of h) driver)) (Unlists driver)
    caller unlisted-made refl (λ h. refl) (λ h. own k.number (Unlists driver (driver_place (rows_of h) driver))) (λ b. refl) turn

got-made : (ok : Bool) → got_as (get_result ok) ≡ Some ok
got-made true = refl
got-made false = refl

pub get-asked : CallLaws → (k l : Known RegEntry) (id : ℕ) (r : Result (Unit {0}) RegErr)
    → IsCaller k → AtTurn caller_of IsFaithful k (λ h. UnlessMemory r ((r ≡ get_result (is_listed h id)) × Enters IsFaithful k h (entry.Get k.number id (is_listed h id)) l) × OnMemory r (Leaves k h l))
    → MatchOption (got_as r) (Asked k l []) (λ a. (b : Bool) × (b ≡ a) × Asked k l (Gets id b ∷ []))
get-asked law k l id r caller turn =
    recorded law k l r got_as get_result (λ ok. ok) (λ h. is_listed h id) (λ h. entry.Get k.number id (is_listed h id)) (Gets id)
    caller got-made refl (λ h. refl) (λ h. own k.number (Gets id (is_listed h id))) (λ b. refl) turn

counted-made : (answer : Option RefAnswer) → counted_as (refs_result answer) ≡ Some answer
counted-made (Some answer) = refl
counted-made None = refl

pub refs-asked : CallLaws → (k l : Known RegEntry) (driver : List ℕ) (r : Result RefAnswer RegErr)
    → IsCaller k → AtTurn caller_of IsFaithful k (λ h. UnlessMemory r ((r ≡ refs_result (refs_answer (rows_of h) driver)) × Enters IsFaithful k h (entry.Refs k.number driver) l) × OnMemory r (Leaves k h l))
    → MatchOption (counted_as r) (Asked k l []) (λ a. (b : Option RefAnswer) × (b ≡ a) × Asked k l (Counts driver b ∷ []))
refs-asked law k l driver r caller turn =
    recorded law k l r counted_as refs_result (λ answer. answer) (λ h. refs_answer (rows_of h) driver) (λ h. entry.Refs k.number driver) (Counts driver)
    caller counted-made refl (λ h. refl) (λ h. own k.number (Counts driver (refs_answer (rows_of h) driver))) (λ b. refl) turn

pub put-asked : CallLaws → (k l : Known RegEntry) (id : ℕ) → IsCaller k → AtTurn caller_of IsFaithful k (λ h. Enters IsFaithful k h (entry.Put k.number id) l) → Asked k l (Puts id ∷ [])
put-asked law k l id caller turn = one-call law k l turn.0 (entry.Put k.number id) (Puts id) caller turn.1 turn.2 refl (own k.number (Puts id)) refl

pub list-asked : CallLaws → (k l : Known RegEntry) (r : Result (List ListRow) RegErr)
    → IsCaller k → AtTurn caller_of IsFaithful k (λ h. IfOk r (λ rows. (rows ≡ listing (rows_of h)) × Enters IsFaithful k h (entry.List k.number) l) × IfErr r (λ e. (e ≡ Memory) × Leaves k h l))
    → MatchOption (listed_as r) (Asked k l []) (λ a. (b : List ListRow) × (b ≡ a) × Asked k l (Lists b ∷ []))
list-asked law k l (Ok rows) caller turn =
    let h = turn.0 in
    let there = listing (rows_of h) in
    (there, sym turn.2.0.0, one-call law k l h (entry.List k.number) (Lists there) caller turn.1 turn.2.0.1 refl (own k.number (Lists there)) refl)
list-asked law k l (Err e) caller turn = no-call law k l turn.0 caller turn.1 turn.2.1.1

-- ---- a look, and building and waiting for it

-- the first entry of the caller's, and what stands on either side of it
split-first : (n : ℕ) (xs : List RegEntry) (e : RegEntry) (es : List RegEntry) → of caller_of n xs ≡ e ∷ es
    → (a : List RegEntry) × (b : List RegEntry) × (xs ≡ a ++ e ∷ b) × (of caller_of n a ≡ []) × (of caller_of n b ≡ es)
split-first n [] e es is = absurd cc
split-first n (x ∷ xs) e es is = by_test (caller_of x == n) refl is (split-first n xs e es)
  where
    Splits : List RegEntry → Type 0
    Splits ys = (a : List RegEntry) × (b : List RegEntry) × (ys ≡ a ++ e ∷ b) × (of caller_of n a ≡ []) × (of caller_of n b ≡ es)

    by_test : (t : Bool) → (caller_of x == n) ≡ t → (if t then x ∷ of caller_of n xs else of caller_of n xs) ≡ e ∷ es → (of caller_of n xs ≡ e ∷ es → Splits xs) → Splits (x ∷ xs)
    by_test true t q rest =
        let same : x ≡ e = cc in
        let later : of caller_of n xs ≡ es = cc in
        ([], xs, ap (λ y. y ∷ xs) same, refl, later)
    by_test false t q rest =
        let s = rest q in
        (x ∷ s.0, s.1, ap (λ ys. x ∷ ys) s.2, ap (λ b. if b then x ∷ of caller_of n s.0 else of caller_of n s.0) t ∙ s.3, s.4)

building-unasked : (n : ℕ) (e : RegEntry) → is_building e ≡ true → is_asked n e ≡ false
building-unasked n (entry.Look by text true answer) e = refl
building-unasked n (entry.Look by text false answer) e = absurd cc
building-unasked n (entry.Claim by larval) e = refl
building-unasked n (entry.End by larval answer) e = refl
building-unasked n (entry.Waited by larval) e = refl
building-unasked n (entry.Enlist by spec answer) e = absurd cc
building-unasked n (entry.Unlist by driver answer) e = absurd cc
building-unasked n (entry.Get by id ok) e = absurd cc
building-unasked n (entry.Put by id) e = absurd cc
building-unasked n (entry.Refs by driver) e = absurd cc
building-unasked n (entry.List by) e = absurd cc

-- where a caller's own entries all build, it asked nothing
pub work-unasked : (n : ℕ) (xs : List RegEntry) → list_all is_building (of caller_of n xs) ≡ true → filter (is_asked n) xs ≡ []
work-unasked n [] all = refl
work-unasked n (x ∷ xs) all = by_test (caller_of x == n) refl all (work-unasked n xs)
  where
    by_test : (t : Bool) → (caller_of x == n) ≡ t → list_all is_building (if t then x ∷ of caller_of n xs else of caller_of n xs) ≡ true
        → (list_all is_building (of caller_of n xs) ≡ true → filter (is_asked n) xs ≡ []) → filter (is_asked n) (x ∷ xs) ≡ []
    by_test true t q rest =
        let both = and_parts (is_building x) (list_all is_building (of caller_of n xs)) q in
        ap (λ b. if b then x ∷ filter (is_asked n) xs else filter (is_asked n) xs) (building-unasked n x both.0) ∙ rest both.1
    by_test false t q rest = ap (λ b. if b then x ∷ filter (is_asked n) xs else filter (is_asked n) xs) (not-asked n x t) ∙ rest q

pub look-asked : CallLaws → (k l : Known RegEntry) (text : List ℕ) (found : Found) → IsCaller k → LooksFor k l text false found → Asked k l (Looks text (Some found) ∷ [])
look-asked law k l text found caller look =
    let n = k.number in
    let goes = look.goes in
    let e : RegEntry = entry.Look n text false look.answer in
    let s = split-first n goes.between e look.work goes.mine in
    asked-by law k l (Looks text (Some found) ∷ []) caller goes.number goes.next (own_goes caller_of IsFaithful k l (e ∷ look.work) caller.own goes) (
      l.seen,
      record {
        before = s.0;
        entry = e;
        after = s.1;
        history = goes.seen ∙ (ap (λ x. k.seen ++ x) s.2 ∙ (sym (append_assoc k.seen s.0 (e ∷ s.1)) ∙ sym (append_assoc (k.seen ++ s.0) (e ∷ []) s.1)));
        call_is = own n (Looks text (found_in l.seen look.answer)) ∙ ap (λ f. Some (Looks text f)) look.found_is;
        settled = refl;
        none_before = unasked n s.0 s.3;
        none_after = work-unasked n s.1 (ap (list_all is_building) s.4 ∙ look.all_work);
      },
      ([], sym (append-nil l.seen), refl),
    )

entry-is : (id id' : ℕ) (o : Option Spec) (spec : Spec) → entry_found id' o ≡ Some (Entry id spec) → (id' ≡ id) × (o ≡ Some spec)
entry-is id id' (Some s) spec e = let a : id' ≡ id = cc in let b : s ≡ spec = cc in (a, ap (λ x. Some x) b)
entry-is id id' None spec e = absurd cc

-- the entry that a look came to is the registered one
pub found-registered : (h : List RegEntry) (o : Option (Result ℕ Errno)) (id : ℕ) (spec : Spec) → found_as h o ≡ Some (Entry id spec) → slice_get (registered h) id ≡ Some spec
found-registered h None id spec e = absurd cc
found-registered h (Some (Err errno)) id spec e = absurd cc
found-registered h (Some (Ok n)) id spec e =
    let is = entry-is id n (slice_get (registered h) n) spec e in
    subst (λ m. slice_get (registered h) m ≡ Some spec) is.0 is.1

-- ---- where memory was wanting

-- what was added are the caller's further calls
pub further-by : RegistryCallsGoOn → (k l : Known RegEntry) (between : List RegEntry) (calls : List RegCall) → IsCaller k → l.seen ≡ k.seen ++ between
    → reg_calls_from l.seen k.number k.seen between ≡ calls → AreFurther k.number calls k.seen l.seen
further-by goes_on k l between calls caller seen are = record {
  more = between;
  goes_on = seen;
  calls_are =
      ap (reg_calls k.number) seen
      ∙ (goes_on k.number k.seen between caller.settled
      ∙ (ap (λ h. reg_calls k.number k.seen ++ reg_calls_from h k.number k.seen between) (sym seen)
      ∙ ap (λ calls. reg_calls k.number k.seen ++ calls) are));
}

work-further : CallLaws → (k l : Known RegEntry) → IsCaller k → Works k l → AreFurther k.number [] k.seen l.seen
work-further law k l caller works =
    let goes = works.goes in
    further-by law.goes_on k l goes.between [] caller goes.seen
    (law.unasked l.seen k.number k.seen goes.between (work-unasked k.number goes.between (ap (list_all is_building) goes.mine ∙ works.all_work)))

look-further : CallLaws → (k l : Known RegEntry) (text : List ℕ) (answer : Looked) → IsCaller k → LooksUp k l text false answer
    → AreFurther k.number (Looks text (found_in l.seen answer) ∷ []) k.seen l.seen
look-further law k l text answer caller look =
    let n = k.number in
    let h = l.seen in
    let goes = look.goes in
    let e : RegEntry = entry.Look n text false answer in
    let s = split-first n goes.between e look.work goes.mine in
    let front = k.seen ++ s.0 in
    let rest : reg_calls_from h n (front ++ e ∷ []) s.1 ≡ [] =
    law.unasked h n (front ++ e ∷ []) s.1 (work-unasked n s.1 (ap (list_all is_building) s.4 ∙ look.all_work)) in
    further-by law.goes_on k l goes.between (Looks text (found_in h answer) ∷ []) caller goes.seen
    (ap (reg_calls_from h n k.seen) s.2
    ∙ (law.joins h n k.seen s.0 (e ∷ s.1)
    ∙ (ap (λ calls. calls ++ reg_calls_from h n front (e ∷ s.1)) (law.unasked h n k.seen s.0 (unasked n s.0 s.3))
    ∙ (ap (λ call. prepend call (reg_calls_from h n (front ++ e ∷ []) s.1)) (own n (Looks text (found_in h answer)))
    ∙ ap (λ calls. Looks text (found_in h answer) ∷ calls) rest))))

-- a pass that was taken and put back has called this
calls-at : (before : Option RegPass) (pass pass' : RegPass) (lock : TableId) (own : List RegEntry) (calls : List RegCall) → before ≡ Some pass → lock_of before ≡ Some lock
    → pass'.badge.table_id ≡ lock → IsCaller (known before) → GoesOn caller_of IsFaithful (knows pass) (knows pass') own
    → AreFurther (knows pass).number calls (knows pass).seen (knows pass').seen → SeesCalls before (Some pass') calls
calls-at before pass pass' lock own calls at_hand was now caller goes further =
    subst (λ o. IsCaller (known o) → lock_of o ≡ Some lock → SeesCalls o (Some pass') calls) (sym at_hand)
    (λ caller0 was0. record {
      more = record { lock = ap (λ t. Some t) now ∙ sym was0; number = goes.number; next = goes.next; seen = (goes.between, goes.seen) };
      further = further;
      own = own_goes caller_of IsFaithful (knows pass) (knows pass') own caller0.own goes;
    }) caller was

-- it had looked, or not yet
memory-sees : CallLaws → (before : Option RegPass) (pass pass' : RegPass) (lock : TableId) (text : List ℕ) → before ≡ Some pass → lock_of before ≡ Some lock
    → pass'.badge.table_id ≡ lock → IsCaller (known before) → Works (knows pass) (knows pass') ⊎ ((answer : Looked) × LooksUp (knows pass) (knows pass') text false answer)
    → SeesLook before (Some pass') text
memory-sees law before pass pass' lock text at_hand was now caller (inl works) =
    inl (calls-at before pass pass' lock works.work [] at_hand was now caller works.goes
    (work-further law (knows pass) (knows pass') (subst (λ o. IsCaller (known o)) at_hand caller) works))
memory-sees law before pass pass' lock text at_hand was now caller (inr looks) =
    let k = knows pass in
    let l = knows pass' in
    inr (
      found_in l.seen looks.0,
      calls-at before pass pass' lock (entry.Look k.number text false looks.0 ∷ looks.1.work) (Looks text (found_in l.seen looks.0) ∷ []) at_hand was now caller looks.1.goes
          (look-further law k l text looks.0 (subst (λ o. IsCaller (known o)) at_hand caller) looks.1),
    )

pub resolved : {S : Type 0} → CallLaws → (before : Option RegPass) (pass pass' : RegPass) (lock : TableId) (text : List ℕ) (r : Result ℕ BuildErr) (result : Result (Result ℕ Errno) S)
    → before ≡ Some pass → lock_of before ≡ Some lock → pass'.badge.table_id ≡ lock → IsCaller (known before) → Resolved (knows pass) (knows pass') text false r → IsResolved r result
    → MatchResult result (λ found. Finds before (Some pass') text found) (λ _. SeesLook before (Some pass') text)
resolved law before pass pass' lock text (Ok id) (Ok (Ok n)) at_hand was now caller did is =
    let k = knows pass in
    let l = knows pass' in
    let look = did.1 in
    subst (λ m. Finds before (Some pass') text (Ok m)) is (
      did.0,
      asks-at before pass pass' lock (Looks text (Some (Entry id did.0)) ∷ []) at_hand was now (look-asked law k l text (Entry id did.0) (subst (λ o. IsCaller (known o)) at_hand caller) look),
      found-registered l.seen (outcome l.seen look.answer) id did.0 look.found_is,
    )
resolved law before pass pass' lock text (Err (build.Fault errno)) (Ok (Err number)) at_hand was now caller did is =
    subst (λ e. Finds before (Some pass') text (Err e)) is
    (asks-at before pass pass' lock (Looks text (Some (Fault errno)) ∷ []) at_hand was now (look-asked law (knows pass) (knows pass') text (Fault errno) (subst (λ o. IsCaller (known o)) at_hand caller) did))
resolved law before pass pass' lock text (Err build.Memory) (Err s) at_hand was now caller did is = memory-sees law before pass pass' lock text at_hand was now caller did
resolved law before pass pass' lock text (Ok id) (Ok (Err number)) at_hand was now caller did is = absurd is
resolved law before pass pass' lock text (Ok id) (Err s) at_hand was now caller did is = absurd is
resolved law before pass pass' lock text (Err (build.Fault errno)) (Ok (Ok n)) at_hand was now caller did is = absurd is
resolved law before pass pass' lock text (Err (build.Fault errno)) (Err s) at_hand was now caller did is = absurd is
resolved law before pass pass' lock text (Err build.Memory) (Ok found) at_hand was now caller did is = absurd is

-- ---- a copy of an entry

pub origin-some : (k l : Known RegEntry) (id : ℕ) (r : Result (Option Spec) RegErr) → RegisteredStays → IsSome (slice_get (registered k.seen) id)
    → AtTurn caller_of IsFaithful k (λ h. IfOk r (λ o. o ≡ slice_get (registered h) id) × IfErr r (λ e. e ≡ Memory) × Leaves k h l)
    → IfOk r (λ o. o ≡ slice_get (registered k.seen) id)
origin-some k l id (Err e) stays some turn = tt
origin-some k l id (Ok o) stays some turn = by_spec (slice_get (registered k.seen) id) refl some
  where
    by_spec : (s : Option Spec) → slice_get (registered k.seen) id ≡ s → IsSome s → o ≡ s
    by_spec None is there = absurd (let e = there in cc)
    by_spec (Some spec) is there =
        turn.2.0 ∙ (ap (λ h. slice_get (registered h) id) turn.1.goes_on ∙ stays k.seen turn.1.others id spec is)

pub origin-there : (r : Result (Option Spec) RegErr) (o : Option Spec) → IfOk r (λ x. x ≡ o) → IsSome o → IfOk r (λ x. IsSome x)
origin-there (Ok x) o is some = subst (λ y. IsSome y) (sym is) some
origin-there (Err e) o is some = tt

pub origin-got : {S : Type 0} (result : Result Spec S) (r : Result (Option Spec) RegErr) (o : Option Spec) (A : Type 0) → IfOk r (λ x. x ≡ o) → A
    → MatchResult result (λ spec. r ≡ Ok (Some spec)) (λ _. IsErr r) → MatchResult result (λ spec. A × (o ≡ Some spec)) (λ _. A)
origin-got (Ok spec) r o A is a e = (a, sym (subst (λ x. IfOk x (λ y. y ≡ o)) e is))
origin-got (Err s) r o A is a e = a
