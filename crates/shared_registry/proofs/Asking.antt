-- What a pass knows of what it builds holds in the history that its turn meets.
use Rattle.std.proofs.Common.{◌≡◌, ℕ, zero, suc, ◌<◌, Bool, true, false, eqb, if◌then◌else◌, List, [], ◌∷◌, ◌++◌, length, refl, ap, sym, ◌∙◌, subst, arith, Option, Some, None, Result, Ok, Err, append_assoc}
use Rattle.std.specs.Prelude.{slice_get, IsTrue, IfErr, ◌||◌, not}
use Rattle.std.proofs.Common.{length-append}
use Rattle.std.proofs.lemmas.List.Elements.{filter_map-append}
use Rattle.std.specs.List.{filter_map, list_any, cons_option, AllByRecursion}
use Rattle.std.specs.Option.{option_and_then}
use Rattle.kc_base.specs.declared.error_numbers.Errno.{Errno}
use Rattle.alg_registry.specs.declared.spec.Spec.{Spec}
use Rattle.alg_registry.specs.declared.entry.Ended.{Ended}
use Rattle.alg_registry.specs.declared.entry.Looked.{Looked}
use Rattle.alg_registry.specs.declared.entry.Looked.TheVariants.{Found, Pending, Began, Absent}
use Rattle.alg_registry.specs.declared.entry.Ended.TheVariants as ended
use Rattle.alg_registry.specs.declared.entry.EndAnswer.{EndAnswer}
use Rattle.alg_registry.specs.declared.entry.EndAnswer.TheVariants as answer
use Rattle.alg_registry.specs.Answers.{built_answer}
use Rattle.alg_registry.specs.Calls.{end_given, IsFailure}
use Rattle.alg_registry.specs.declared.entry.RegEntry.{RegEntry}
use Rattle.alg_registry.specs.declared.entry.RegEntry.TheVariants.{Enlist, Look, Claim, End, Waited, Unlist, Get, Put, Refs}
use Rattle.alg_registry.specs.declared.entry.RegEntry.TheVariants as entry
use Rattle.alg_registry.specs.Rows.{caller_of, texts, registered, rows_of, larvals_of, begun_by}
use Rattle.alg_registry.specs.Legal.{LegalReg, is_worker, ended_as, claimer}
use Rattle.alg_registry.specs.Made.{building, last_of, looks_for, look_for, if_of, outcome, outcomes, all_outcomes, next_of, next_child, with_spec, by_spec, by_children, by_outcomes, made_answer, IsMade}
use Rattle.alg_registry.proofs.Histories.{text_more, registered_more, legal_front}
use Rattle.alg_registry.proofs.Fresh.{length-larvals_of}
use Rattle.alg_registry.proofs.OwnCalls.{last_any}
use Rattle.templates.specs.Table.{table}
use Rattle.turn_lock.specs.Turns.{Known, Shows}
use Rattle.shared_registry.specs.Own.{open_of, IsOpen, own_looks, next_asked, handed_over, handed_by, handed, MayHand, MayLook}
use Rattle.shared_registry.specs.Learned.{RegistryLaws}

next_is : (h : List RegEntry) (looks : List Looked) (children : List (List ℕ)) (ids : List ℕ) → outcomes h looks ≡ Some (Ok ids) → next_of h looks (Ok children) ≡ slice_get children (length ids)
next_is h looks children ids e = rw e

next_none : (h : List RegEntry) (looks : List Looked) (children : List (List ℕ)) → outcomes h looks ≡ None → next_of h looks (Ok children) ≡ None
next_none h looks children e = rw e

next_err : (h : List RegEntry) (looks : List Looked) (children : List (List ℕ)) (errno : Errno) → outcomes h looks ≡ Some (Err errno) → next_of h looks (Ok children) ≡ None
next_err h looks children errno e = rw e

-- the entry that a look found exists
abbrev pub FoundExists : List RegEntry → Looked → Type 0
FoundExists h answer = (id : ℕ) → answer ≡ Found id → id < length (registered h)

if_some : (n : ℕ) (found : ℕ × Looked) (a : Looked) → if_of n (Some found) ≡ Some a → found.1 ≡ a
if_some n found a e = by_test (eqb found.0 n) e
  where
    by_test : (b : Bool) → (if b then Some found.1 else None) ≡ Some a → found.1 ≡ a
    by_test true q = cc
    by_test false q = absurd cc

abbrev pub Exist : List RegEntry → List ℕ → Type 0
Exist h ids = AllByRecursion (λ id. id < length (registered h)) ids

get_there : (specs more : List Spec) (id : ℕ) → id < length specs → slice_get (specs ++ more) id ≡ slice_get specs id
get_there [] more id lt = absurd (omega (arith, lt))
get_there (x ∷ specs) more zero lt = refl
get_there (x ∷ specs) more (suc id) lt = get_there specs more id (omega (arith, lt))

pub specs_more : (h more : List RegEntry) (ids : List ℕ) → Exist h ids → filter_map (with_spec (registered (h ++ more))) ids ≡ filter_map (with_spec (registered h)) ids
specs_more h more [] exist = refl
specs_more h more (id ∷ ids) exist =
    let s : slice_get (registered (h ++ more)) id ≡ slice_get (registered h) id = ap (λ ss. slice_get ss id) (registered_more h more) ∙ get_there (registered h) _ id exist.0 in
    ap (λ o. cons_option (option_and_then (λ spec. Some (id, spec)) o) (filter_map (with_spec (registered (h ++ more))) ids)) s
    ∙ ap (λ ss. cons_option (with_spec (registered h) id) ss) (specs_more h more ids exist.1)

handed_made : (h : List RegEntry) (text : List ℕ) (looks : List Looked) (children : Result (List (List ℕ)) Errno) (r : Result Spec Errno) → handed_by h text looks children ≡ Some r → by_children table h text looks children ≡ Some (by_spec h r)
handed_made h text looks (Err errno) r e = let s : Err errno ≡ r = cc in ap (λ (x : Result Spec Errno). Some (by_spec h x)) s
handed_made h text looks (Ok children) r e = by_outcomes' (outcomes h looks) e
  where
    by_length : (b : Bool) (d : Result Spec Errno) → (if b then Some d else None) ≡ Some r → (if b then Some (by_spec h d) else None) ≡ Some (by_spec h r)
    by_length true d z = let s : d ≡ r = cc in ap (λ (x : Result Spec Errno). Some (by_spec h x)) s
    by_length false d z = absurd cc

    by_outcomes' : (o : Option (Result (List ℕ) Errno)) → handed_over h text children o ≡ Some r → by_outcomes table h text children o ≡ Some (by_spec h r)
    by_outcomes' None z = absurd cc
    by_outcomes' (Some (Err errno)) z = let s : Err errno ≡ r = cc in ap (λ (x : Result Spec Errno). Some (by_spec h x)) s
    by_outcomes' (Some (Ok ids)) z = by_length (eqb (length ids) (length children)) (table.derived text (filter_map (with_spec (registered h)) ids)) z

pub look_caller : (k : Known RegEntry) (n : ℕ) (text : List ℕ) (plain : Bool) → n ≡ k.number → MayLook k text plain → IsTrue (plain || not (is_worker n))
look_caller k n text true own may = refl
look_caller k n text false own may = ap (λ c. not (is_worker c)) own ∙ ap not may.1

pub is_failure : (k : Known RegEntry) (larval : ℕ) (built : Result Spec Ended) → MayHand k larval built → IfErr built (λ failure. IsFailure failure)
is_failure k larval (Ok spec) may = tt
is_failure k larval (Err (ended.Failed errno)) may = tt
is_failure k larval (Err ended.NoMemory) may = tt
is_failure k larval (Err (ended.Built id)) may = absurd may
is_failure k larval (Err (ended.Joined id)) may = absurd may

-- a larval that the pass has seen begin is there
pub began_at : (k : Known RegEntry) (h : List RegEntry) (larval : ℕ) → Shows caller_of k h → larval < length (texts k.seen) → larval < length (larvals_of h)
began_at k h larval shows lt =
    omega (arith, lt, length-larvals_of h, ap (λ x. length (texts x)) shows.seen.1, ap length (filter_map-append begun_by k.seen shows.seen.0), length-append (texts k.seen) (texts shows.seen.0))

module _ (laws : RegistryLaws) where
  next_more : (h more : List RegEntry) (looks : List Looked) (r : Result (List (List ℕ)) Errno) (text : List ℕ) → next_of h looks r ≡ Some text → next_of (h ++ more) looks r ≡ Some text
  next_more h more looks (Err errno) text e = absurd cc
  next_more h more looks (Ok children) text e = by_outcomes (outcomes h looks) refl
    where
      by_outcomes : (o : Option (Result (List ℕ) Errno)) → outcomes h looks ≡ o → next_of (h ++ more) looks (Ok children) ≡ Some text
      by_outcomes None q = absurd (let f : None ≡ Some text = sym (next_none h looks children q) ∙ e in cc)
      by_outcomes (Some (Err errno)) q = absurd (let f : None ≡ Some text = sym (next_err h looks children errno q) ∙ e in cc)
      by_outcomes (Some (Ok ids)) q = next_is (h ++ more) looks children ids ((laws.stays h more).looks looks (Ok ids) q) ∙ (sym (next_is h looks children ids q) ∙ e)

  pub found_there : (before later whole : List RegEntry) (by : ℕ) (text : List ℕ) (plain : Bool) (answer : Looked) → whole ≡ before ++ Look by text plain answer ∷ later → LegalReg whole → FoundExists whole answer
  found_there before later whole by text plain answer is legal id e =
      let grown : whole ≡ before ++ Look by text plain (Found id) ∷ later = is ∙ ap (λ a. before ++ Look by text plain a ∷ later) e in
      subst (λ x. id < length (registered x)) (sym grown) (laws.named before later by text plain (Found id) (subst (λ x. LegalReg x) grown legal))

  look_exists : (n : ℕ) (before later whole : List RegEntry) (e : RegEntry) (a : Looked) → whole ≡ before ++ e ∷ later → LegalReg whole → if_of n (look_for before e) ≡ Some a → FoundExists whole a
  look_exists n before later whole (Look by text true answer) a is legal q = by_last (last_of (building before by)) q
    where
      by_last : (o : Option ℕ) → if_of n (option_and_then (λ larval. Some (larval, answer)) o) ≡ Some a → FoundExists whole a
      by_last None z = absurd cc
      by_last (Some m) z = subst (FoundExists whole) (if_some n (m, answer) a z) (found_there before later whole by text true answer is legal)
  look_exists n before later whole (Look by text false answer) a is legal q = absurd cc
  look_exists n before later whole (Claim by larval) a is legal q = absurd cc
  look_exists n before later whole (End by larval answer) a is legal q = absurd cc
  look_exists n before later whole (Enlist by spec answer) a is legal q = absurd cc
  look_exists n before later whole (Waited by larval) a is legal q = absurd cc
  look_exists n before later whole (Unlist by driver answer) a is legal q = absurd cc
  look_exists n before later whole (Get by id ok) a is legal q = absurd cc
  look_exists n before later whole (Put by id) a is legal q = absurd cc
  look_exists n before later whole (Refs by driver) a is legal q = absurd cc
  look_exists n before later whole (entry.List by) a is legal q = absurd cc

  pub all_exist : (n : ℕ) (before later whole : List RegEntry) → whole ≡ before ++ later → LegalReg whole → AllByRecursion (FoundExists whole) (looks_for n before later)
  all_exist n before [] whole is legal = tt
  all_exist n before (e ∷ later) whole is legal = by_look (if_of n (look_for before e)) refl (all_exist n (before ++ e ∷ []) later whole (is ∙ sym (append_assoc before (e ∷ []) later)) legal)
    where
      by_look : (o : Option Looked) → if_of n (look_for before e) ≡ o → AllByRecursion (FoundExists whole) (looks_for n (before ++ e ∷ []) later) → AllByRecursion (FoundExists whole) (cons_option o (looks_for n (before ++ e ∷ []) later))
      by_look None q rest = rest
      by_look (Some a) q rest = (look_exists n before later whole e a is legal q, rest)

  -- what a look came to exists
  pub outcome_there : (h : List RegEntry) (answer : Looked) (id : ℕ) → LegalReg h → FoundExists h answer → outcome h answer ≡ Some (Ok id) → id < length (registered h)
  outcome_there h (Found found) id legal exists e = let s : found ≡ id = cc in exists id (ap (λ (m : ℕ). Found m) s)
  outcome_there h Absent id legal exists e = absurd cc
  outcome_there h (Pending n) id legal exists e = laws.ended h n id legal e
  outcome_there h (Began n) id legal exists e = laws.ended h n id legal e

  pub outcomes_there : (h : List RegEntry) (looks : List Looked) (ids : List ℕ) → LegalReg h → AllByRecursion (FoundExists h) looks → outcomes h looks ≡ Some (Ok ids) → Exist h ids
  outcomes_there h [] ids legal exist e = let s : [] ≡ ids = cc in subst (Exist h) s tt
  outcomes_there h (look ∷ looks) ids legal exist e = here (outcome h look) (outcomes h looks) refl refl e (λ rest q. outcomes_there h looks rest legal exist.1 q)
    where
      here : (o : Option (Result ℕ Errno)) (p : Option (Result (List ℕ) Errno)) → outcome h look ≡ o → outcomes h looks ≡ p → all_outcomes o p ≡ Some (Ok ids) → ((rest : List ℕ) → outcomes h looks ≡ Some (Ok rest) → Exist h rest) → Exist h ids
      here None p x y z more = absurd cc
      here (Some (Err errno)) p x y z more = absurd cc
      here (Some (Ok id)) None x y z more = absurd cc
      here (Some (Ok id)) (Some (Err errno)) x y z more = absurd cc
      here (Some (Ok id)) (Some (Ok rest)) x y z more = let s : id ∷ rest ≡ ids = cc in subst (Exist h) s (outcome_there h look id legal exist.0 x, more rest y)

  -- the same with the entries that others added
  handed_more : (h more : List RegEntry) (text : List ℕ) (looks : List Looked) (children : Result (List (List ℕ)) Errno) (r : Result Spec Errno) → LegalReg h → AllByRecursion (FoundExists h) looks → handed_by h text looks children ≡ Some r → handed_by (h ++ more) text looks children ≡ Some r
  handed_more h more text looks (Err errno) r legal exist e = e
  handed_more h more text looks (Ok children) r legal exist e = by_outcomes (outcomes h looks) refl e
    where
      by_outcomes : (o : Option (Result (List ℕ) Errno)) → outcomes h looks ≡ o → handed_over h text children o ≡ Some r → handed_over (h ++ more) text children (outcomes (h ++ more) looks) ≡ Some r
      by_outcomes None q z = absurd cc
      by_outcomes (Some (Err errno)) q z = ap (λ o. handed_over (h ++ more) text children o) ((laws.stays h more).looks looks (Err errno) q) ∙ z
      by_outcomes (Some (Ok ids)) q z =
          ap (λ o. handed_over (h ++ more) text children o) ((laws.stays h more).looks looks (Ok ids) q)
          ∙ (ap (λ below. if eqb (length ids) (length children) then Some (table.derived text below) else None) (specs_more h more ids (outcomes_there h looks ids legal exist q)) ∙ z)

  module _ (k : Known RegEntry) (h : List RegEntry) (shows : Shows caller_of k h) (legal : LegalReg h) where
    same_open : open_of k ≡ building h k.number
    same_open = sym (laws.building h k.number ∙ ap (λ es. building es k.number) shows.made)

    -- what it builds it claimed, and hasn't ended
    pub open_at : (n : ℕ) → IsOpen k n → (claimer h n ≡ Some k.number) × (ended_as h n ≡ None)
    open_at n is = laws.claimed h legal k.number n (ap (λ ns. list_any (λ m. eqb m n) ns) (sym same_open) ∙ is)

    pub looks_at : (n : ℕ) → IsOpen k n → looks_for n [] h ≡ own_looks k n
    looks_at n is = laws.looks h k.number n legal (open_at n is).0 ∙ ap (λ es. looks_for n [] es) shows.made

    pub text_at : (n : ℕ) (text : List ℕ) → slice_get (texts k.seen) n ≡ Some text → slice_get (texts h) n ≡ Some text
    text_at n text e = ap (λ x. slice_get (texts x) n) shows.seen.1 ∙ text_more k.seen shows.seen.0 n text e

    next_at_last : (m : ℕ) (o : Option (List ℕ)) (text : List ℕ) → last_of (open_of k) ≡ Some m → slice_get (texts k.seen) m ≡ o → option_and_then (λ t. next_of k.seen (own_looks k m) (table.children t)) o ≡ Some text
        → option_and_then (λ t. next_of h (looks_for m [] h) (table.children t)) (slice_get (texts h) m) ≡ Some text
    next_at_last m None text last at e = absurd cc
    next_at_last m (Some t) text last at e =
        ap (λ o. option_and_then (λ t. next_of h (looks_for m [] h) (table.children t)) o) (text_at m t at)
        ∙ (ap (λ ls. next_of h ls (table.children t)) (looks_at m (last_any (open_of k) m last))
        ∙ (ap (λ x. next_of x (own_looks k m) (table.children t)) shows.seen.1 ∙ next_more k.seen shows.seen.0 (own_looks k m) (table.children t) text e))

    -- the next child is the next child there
    pub next_at : (text : List ℕ) → next_asked k ≡ Some text → next_child table h k.number ≡ Some text
    next_at text e = by_last (last_of (open_of k)) refl e
      where
        by_last : (o : Option ℕ) → last_of (open_of k) ≡ o
            → option_and_then (λ m. option_and_then (λ t. next_of k.seen (own_looks k m) (table.children t)) (slice_get (texts k.seen) m)) o ≡ Some text
            → next_child table h k.number ≡ Some text
        by_last None q z = absurd cc
        by_last (Some m) q z =
            ap (λ o. option_and_then (λ larval. option_and_then (λ t. next_of h (looks_for larval [] h) (table.children t)) (slice_get (texts h) larval)) o) (ap last_of (sym same_open) ∙ q)
            ∙ next_at_last m (slice_get (texts k.seen) m) text q refl z

    -- what the templates make of it they make of it there
    pub handed_at : (n : ℕ) (r : Result Spec Errno) → IsOpen k n → handed k n ≡ Some r → made_answer table h n ≡ Some (by_spec h r)
    handed_at n r is e = by_text (slice_get (texts k.seen) n) refl e
      where
        front : LegalReg k.seen
        front = legal_front [] k.seen shows.seen.0 (subst LegalReg shows.seen.1 legal)

        exist : AllByRecursion (FoundExists k.seen) (own_looks k n)
        exist =
            let own : claimer k.seen n ≡ Some k.number = (laws.claimed k.seen front k.number n (ap (λ ns. list_any (λ m. eqb m n) ns) (laws.building k.seen k.number ∙ ap (λ es. building es k.number) shows.own) ∙ is)).0 in
            subst (AllByRecursion (FoundExists k.seen)) (laws.looks k.seen k.number n front own ∙ ap (λ es. looks_for n [] es) shows.own) (all_exist n [] k.seen k.seen refl front)

        by_text : (o : Option (List ℕ)) → slice_get (texts k.seen) n ≡ o → option_and_then (λ text. handed_by k.seen text (own_looks k n) (table.children text)) o ≡ Some r → made_answer table h n ≡ Some (by_spec h r)
        by_text None q z = absurd cc
        by_text (Some text) q z =
            ap (λ o. option_and_then (λ t. by_children table h t (looks_for n [] h) (table.children t)) o) (text_at n text q)
            ∙ (ap (λ ls. by_children table h text ls (table.children text)) (looks_at n is)
            ∙ handed_made h text (own_looks k n) (table.children text) r
            (ap (λ x. handed_by x text (own_looks k n) (table.children text)) shows.seen.1 ∙ handed_more k.seen shows.seen.0 text (own_looks k n) (table.children text) r front exist z))

    -- so the calls may be made there
    pub look_made : (n : ℕ) (text : List ℕ) (plain : Bool) → n ≡ k.number → MayLook k text plain → IsMade table h (Look n text plain Absent)
    look_made n text true own may = (may.0, ap (λ c. next_child table h c) own ∙ next_at text may.1)
    look_made n text false own may = may.0

    pub end_made : (n larval : ℕ) (built : Result Spec Ended) → IsOpen k larval → MayHand k larval built → IsMade table h (End n larval (end_given (rows_of h) built))
    end_made n larval (Ok spec) is may = by_answer (built_answer (rows_of h) spec) (handed_at larval (Ok spec) is may)
      where
        by_answer : (a : EndAnswer) → made_answer table h larval ≡ Some a → IsMade table h (End n larval a)
        by_answer (answer.Built id s) q = q
        by_answer (answer.Joined id below) q = q
        by_answer (answer.Failed errno) q = q
        by_answer answer.NoMemory q = tt
    end_made n larval (Err (ended.Failed errno)) is may = handed_at larval (Err errno) is may
    end_made n larval (Err ended.NoMemory) is may = tt
    end_made n larval (Err (ended.Built id)) is may = absurd may
    end_made n larval (Err (ended.Joined id)) is may = absurd may
