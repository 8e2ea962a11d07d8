-- What callers of the building calls learn.
use Rattle.std.proofs.Common.{◌≡◌, ℕ, zero, suc, ◌<◌, ◌≤◌, ◌⊎◌, inl, inr, Bool, true, false, not, ◌&&◌, eqb, if◌then◌else◌, List, [], ◌∷◌, ◌++◌, length, refl, ap, sym, ◌∙◌, subst, arith, Option, Some, None, Result, Ok, Err, IsSome}
use Rattle.std.specs.Prelude.{slice_get, MatchResult, nat_lt, is_none}
use Rattle.std.specs.Option.{option_map, option_map_or}
use Rattle.std.proofs.lemmas.Bool.Decides.{nat_tests}
use Rattle.kc_base.specs.declared.error_numbers.Errno.{Errno}
use Rattle.alg_registry.specs.declared.row.Larval.{Larval}
use Rattle.alg_registry.specs.declared.spec.Spec.{Spec}
use Rattle.alg_registry.specs.declared.entry.Claimed.{Claimed}
use Rattle.alg_registry.specs.declared.entry.Looked.{Looked}
use Rattle.alg_registry.specs.declared.entry.Ended.TheVariants as ended
use Rattle.alg_registry.specs.declared.entry.RegErr.{RegErr}
use Rattle.alg_registry.specs.declared.entry.RegEntry.{RegEntry}
use Rattle.alg_registry.specs.declared.entry.RegEntry.TheVariants.{Enlist, Look, Claim, End, Waited, Unlist, Get, Put, Refs}
use Rattle.alg_registry.specs.declared.entry.RegEntry.TheVariants as entry
use Rattle.alg_registry.specs.declared.entry.Looked.TheVariants.{Found, Pending, Began, Absent}
use Rattle.alg_registry.specs.Rows.{caller_of, texts, registered, larvals_of, larval_at}
use Rattle.alg_registry.specs.Calls.{text_at}
use Rattle.alg_registry.specs.Legal.{LegalReg, IsRight, ended_as}
use Rattle.alg_registry.specs.Made.{Made, MadeAfter, IsMade, outcome, outcome_of}
use Rattle.alg_registry.proofs.Histories.{text_more}
use Rattle.alg_registry.proofs.Existing.{registered_grow}
use Rattle.alg_registry.proofs.LifetimeLaws.{right_at}
use Rattle.alg_registry.proofs.Fresh.{length-larvals_of}
use Rattle.alg_registry.proofs.Stack.{larval_get}
use Rattle.alg_names.specs.Name.{Tree, depth, width}
use Rattle.alg_names.specs.Spelled.{tree_of}
use Rattle.templates.specs.Nesting.{is_nested_well}
use Rattle.templates.specs.Table.{table, is_allowed}
use Rattle.templates.specs.LookResults.{Entry, found_in, entry_found, found_as}
use Rattle.templates.specs.declared.build_errors.BuildErr.{BuildErr}
use Rattle.templates.specs.declared.build_errors.BuildErr.TheVariants as build
use Rattle.turn_lock.specs.Turns.{Known, Has, of}
use Rattle.shared_registry.specs.Passes.{IsSound}
use Rattle.shared_registry.proofs.Going.{Goes}
use Rattle.shared_registry.specs.Builds.{Works, Looks, Comes, Resolves, Ends, Resolved, Settled, IsLook, WasAnswered, HasText, BuiltOne}
use Rattle.shared_registry.specs.Within.{Closes, BeginsText, HasCome}
use Rattle.shared_registry.proofs.Asking.{FoundExists, found_there, outcome_there}
use Rattle.shared_registry.proofs.Answering.{answered_text}
use Rattle.shared_registry.proofs.Claiming.{HasClaimed, claimed_some, begins, closed, took_oldest}
use Rattle.shared_registry.specs.Learned.{RegistryLaws}

get_some : (xs : List Spec) (n : ℕ) → n < length xs → (x : Spec) × (slice_get xs n ≡ Some x)
get_some [] n lt = absurd (omega (arith, lt))
get_some (x ∷ xs) zero lt = (x, refl)
get_some (x ∷ xs) (suc n) lt = get_some xs n (omega (arith, lt))

-- an element of a list that is such
pub record IsSomewhere {A : Type 0} (P : A → Type 0) (xs : List A) : Type 0 where
  pub before : List A
  pub at : A
  pub later : List A
  pub is : xs ≡ before ++ at ∷ later
  pub holds : P at

somewhere : {A : Type 0} (P : A → Type 0) (xs : List A) → Has P xs → IsSomewhere P xs
somewhere P [] has = absurd has
somewhere P (x ∷ xs) (inl p) = record { before = []; at = x; later = xs; is = refl; holds = p }
somewhere P (x ∷ xs) (inr has) = let s = somewhere P xs has in record { before = x ∷ s.before; at = s.at; later = s.later; is = ap (λ ys. x ∷ ys) s.is; holds = s.holds }

has_own : (P : RegEntry → Type 0) (c : ℕ) (h : List RegEntry) → Has P (of caller_of c h) → Has P h
has_own P c [] has = absurd has
has_own P c (e ∷ h) has = by_caller (eqb (caller_of e) c) has (has_own P c h)
  where
    by_caller : (b : Bool) → Has P (if b then e ∷ of caller_of c h else of caller_of c h) → (Has P (of caller_of c h) → Has P h) → P e ⊎ Has P h
    by_caller true (inl p) rest = inl p
    by_caller true (inr later) rest = inr (rest later)
    by_caller false later rest = inr (rest later)

has_middle : (P : RegEntry → Type 0) (xs ys : List RegEntry) (e : RegEntry) → P e → Has P (xs ++ e ∷ ys)
has_middle P [] ys e p = inl p
has_middle P (x ∷ xs) ys e p = inr (has_middle P xs ys e p)

pub exists_on : (k l : Known RegEntry) (a : List RegEntry) (answer : Looked) → Goes k l a → FoundExists k.seen answer → FoundExists l.seen answer
exists_on k l a answer g exists = λ id is. let lt : id < length (registered k.seen) = exists id is in omega (arith, lt, registered_grow k.seen g.between, ap (λ x. length (registered x)) g.seen)

-- the text of each larval is a name
named_after : (before h : List RegEntry) (n : ℕ) (text : List ℕ) → MadeAfter table before h → slice_get (texts h) n ≡ Some text → table.is_name text ≡ true
named_after before [] n text made at = absurd cc
named_after before (e ∷ h) n text made at = by_entry e made.0 n at (λ m q. named_after (before ++ e ∷ []) h m text made.1 q)
  where
    by_entry : (x : RegEntry) → IsMade table before x → (n : ℕ) → slice_get (texts (x ∷ h)) n ≡ Some text → ((m : ℕ) → slice_get (texts h) m ≡ Some text → table.is_name text ≡ true) → table.is_name text ≡ true
    by_entry (Look by other true (Began larval)) m zero q rest = let s : other ≡ text = cc in subst (λ t. table.is_name t ≡ true) s m.0
    by_entry (Look by other false (Began larval)) m zero q rest = let s : other ≡ text = cc in subst (λ t. table.is_name t ≡ true) s m
    by_entry (Look by other plain (Began larval)) m (suc i) q rest = rest i q
    by_entry (Look by other plain (Found id)) m i q rest = rest i q
    by_entry (Look by other plain (Pending larval)) m i q rest = rest i q
    by_entry (Look by other plain Absent) m i q rest = rest i q
    by_entry (Claim by larval) m i q rest = rest i q
    by_entry (End by larval a) m i q rest = rest i q
    by_entry (Enlist by spec a) m i q rest = rest i q
    by_entry (Waited by larval) m i q rest = rest i q
    by_entry (Unlist by driver a) m i q rest = rest i q
    by_entry (Get by id ok) m i q rest = rest i q
    by_entry (Put by id) m i q rest = rest i q
    by_entry (Refs by driver) m i q rest = rest i q
    by_entry (entry.List by) m i q rest = rest i q

pub larvals_named : (h : List RegEntry) (n : ℕ) (text : List ℕ) → Made table h → slice_get (texts h) n ≡ Some text → table.is_name text ≡ true
larvals_named h n text made at = named_after [] h n text made at

-- the tree of a text that is a name
pub record IsNamed (text : List ℕ) : Type 0 where
  pub tree : Tree
  pub read : tree_of text ≡ Some tree
  pub short : length text ≤ 127
  pub levels : depth tree ≤ 8
  pub arguments : width tree ≤ 4
  pub nested : is_nested_well tree ≡ true

not_less : (a b : ℕ) → not (nat_lt a b) ≡ true → b ≤ a
not_less a b e = grind (arith, nat_tests)

pub is_named : (text : List ℕ) → table.is_name text ≡ true → IsNamed text
unfolding table
is_named text e = by_tree (tree_of text) refl e
  where
    all_four : (a b c d : Bool) → (a && b && c && d) ≡ true → (a ≡ true) × (b ≡ true) × (c ≡ true) × (d ≡ true)
    all_four true true true true e = (refl, refl, refl, refl)
    all_four false b c d e = absurd cc
    all_four true false c d e = absurd cc
    all_four true true false d e = absurd cc
    all_four true true true false e = absurd cc

    by_tree : (o : Option Tree) → tree_of text ≡ o → option_map_or (is_allowed text) o false ≡ true → IsNamed text
    by_tree None q z = absurd cc
    by_tree (Some t) q z =
        let four = all_four (not (nat_lt 127 (length text))) (not (nat_lt 8 (depth t))) (not (nat_lt 4 (width t))) (is_nested_well t) z in
        record { tree = t; read = q; short = not_less 127 (length text) four.0; levels = not_less 8 (depth t) four.1; arguments = not_less 4 (width t) four.2; nested = four.3 }

-- the tree that was read is that of the text
pub same_tree : (text : List ℕ) (t : Tree) (n : IsNamed text) → tree_of text ≡ Some t → is_nested_well t ≡ true
same_tree text t n e = let f : Some n.tree ≡ Some t = sym n.read ∙ e in let s : n.tree ≡ t = cc in ap is_nested_well (sym s) ∙ n.nested

-- a claimed larval's text is the text with which it began
pub claimed_text : (h : List RegEntry) (m : ℕ) (text : List ℕ) → slice_get (texts h) m ≡ Some text → text_at (larvals_of h) m ≡ text
claimed_text h m text at = ap (λ (o : Option Larval). option_map_or (λ larval. larval.text) o []) (larval_get h 0 m m (texts h) (omega arith) ∙ ap (λ o. option_map (λ t. larval_at h m t) o) at)

come_some : (l : Known RegEntry) (m : ℕ) (r : Result ℕ BuildErr) → Ends l m r → HasCome r → IsSome (outcome_of (ended_as l.seen m))
come_some l m (Ok id) e come = subst (λ (o : Option (Result ℕ Errno)). IsSome o) (sym e) refl
come_some l m (Err (build.Fault errno)) e come = subst (λ (o : Option (Result ℕ Errno)). IsSome o) (sym e) refl
come_some l m (Err build.Memory) e come = absurd come

larval_text : (h : List RegEntry) (m : ℕ) → m < length (texts h) → slice_get (texts h) m ≡ Some (text_at (larvals_of h) m)
larval_text h m lt = let t = some_text (texts h) m lt in t.1 ∙ ap (λ x. Some x) (sym (claimed_text h m t.0 t.1))
  where
    some_text : (xs : List (List ℕ)) (n : ℕ) → n < length xs → (x : List ℕ) × (slice_get xs n ≡ Some x)
    some_text [] n lt = absurd (omega (arith, lt))
    some_text (x ∷ xs) zero lt = (x, refl)
    some_text (x ∷ xs) (suc n) lt = some_text xs n (omega (arith, lt))

pending_lt : (xs : List Larval) (n : ℕ) → option_map_or (λ larval. is_none larval.ended) (slice_get xs n) false ≡ true → n < length xs
pending_lt [] n h = absurd cc
pending_lt (x ∷ xs) zero h = omega arith
pending_lt (x ∷ xs) (suc n) h = let r : n < length xs = pending_lt xs n h in omega (arith, r)

-- the oldest larval, claimed to be built
module _ (k l : Known RegEntry) (r : Result (Option Claimed) RegErr) (x : Claimed) (did : HasClaimed k l None r) (sound : IsSound l) (is : r ≡ Ok (Some x)) where
  pub begins_oldest : BeginsText x.larval x.text l
  begins_oldest =
      let t = took_oldest k l r x did is in
      let e : RegEntry = Claim k.number x.larval in
      let right : IsRight t.h e = right_at [] t.h e [] (subst (λ y. LegalReg y) t.seen sound.faithful.legal) in
      let lt : x.larval < length (larvals_of t.h) = pending_lt (larvals_of t.h) x.larval right.0 in
      let at : slice_get (texts t.h) x.larval ≡ Some x.text = larval_text t.h x.larval (omega (arith, lt, length-larvals_of t.h)) ∙ ap (λ y. Some y) (sym t.text) in
      begins k l x.larval (claimed_some k l None r did x is) x.text sound (ap (λ y. slice_get (texts y) x.larval) t.seen ∙ text_more t.h (e ∷ []) x.larval x.text at)

  pub works_oldest : (p : Known RegEntry) → Closes x.larval l p → Works k p
  works_oldest p c = closed k l x.larval (claimed_some k l None r did x is) p c

  pub built_oldest : {E : Type 0} (p : Known RegEntry) (came : Result ℕ BuildErr) (answer : Result Bool E) → Closes x.larval l p → Ends p x.larval came → (came ≡ Err build.Memory → ended_as p.seen x.larval ≡ Some ended.NoMemory)
      → MatchResult answer (λ b. (b ≡ true) × HasCome came) (λ _. came ≡ Err build.Memory) → BuiltOne k p answer
  built_oldest p came (Err e) c ends wanting said =
      let t = took_oldest k l r x did is in
      inr (t.h, t.met, (x.larval, t.oldest, (c.goes.between, c.goes.seen ∙ ap (λ y. y ++ c.goes.between) t.seen), wanting said))
  built_oldest p came (Ok false) c ends wanting said = absurd (let f : false ≡ true = said.0 in cc)
  built_oldest p came (Ok true) c ends wanting said =
      let t = took_oldest k l r x did is in
      (t.h, t.met, (x.larval, t.oldest, (c.goes.between, c.goes.seen ∙ ap (λ y. y ++ c.goes.between) t.seen), come_some p x.larval came ends said.1))

module _ (laws : RegistryLaws) where
  look_known : (c : ℕ) (before later whole : List RegEntry) (text : List ℕ) (answer : Looked) (e : RegEntry) → IsLook c text answer e → whole ≡ before ++ e ∷ later → LegalReg whole → HasText whole text answer × FoundExists whole answer
  look_known c before later whole text answer (Look by other plain a) is w legal = (
    subst (λ t. HasText whole t answer) is.1 (subst (HasText whole other) is.2 (answered_text laws.named before later whole by other plain a w legal)),
    subst (FoundExists whole) is.2 (found_there laws before later whole by other plain a w legal),
  )
  look_known c before later whole text answer (Claim by larval) is w legal = absurd is
  look_known c before later whole text answer (End by larval a) is w legal = absurd is
  look_known c before later whole text answer (Enlist by spec a) is w legal = absurd is
  look_known c before later whole text answer (Waited by larval) is w legal = absurd is
  look_known c before later whole text answer (Unlist by driver a) is w legal = absurd is
  look_known c before later whole text answer (Get by id ok) is w legal = absurd is
  look_known c before later whole text answer (Put by id) is w legal = absurd is
  look_known c before later whole text answer (Refs by driver) is w legal = absurd is
  look_known c before later whole text answer (entry.List by) is w legal = absurd is

  -- what a look of the pass answered stands in what it has seen
  pub answered : (k : Known RegEntry) (text : List ℕ) (answer : Looked) → IsSound k → WasAnswered k text answer → HasText k.seen text answer × FoundExists k.seen answer
  answered k text answer sound was =
      let s = somewhere (IsLook k.number text answer) k.seen (has_own (IsLook k.number text answer) k.number k.seen (subst (Has (IsLook k.number text answer)) (sym sound.own) was)) in
      look_known k.number s.before s.later k.seen text answer s.at s.holds s.is sound.faithful.legal

  found_entry : (h : List RegEntry) (answer : Looked) (id : ℕ) → LegalReg h → FoundExists h answer → outcome h answer ≡ Some (Ok id) → (spec : Spec) × (found_in h answer ≡ Some (Entry id spec))
  found_entry h answer id legal exists come =
      let s = get_some (registered h) id (outcome_there laws h answer id legal exists come) in
      (s.0, ap (λ o. found_as h o) come ∙ ap (λ o. entry_found id o) s.1)

  pub settled : (l : Known RegEntry) (answer : Looked) (r : Result ℕ BuildErr) → LegalReg l.seen → FoundExists l.seen answer → Comes l answer r → Settled l answer r
  settled l answer (Ok id) legal exists come = found_entry l.seen answer id legal exists come
  settled l answer (Err (build.Fault errno)) legal exists come = ap (λ o. found_as l.seen o) come
  settled l answer (Err build.Memory) legal exists come = tt

  looks_exists : (k l : Known RegEntry) (text : List ℕ) (plain : Bool) (answer : Looked) → Looks k l text plain answer → FoundExists l.seen answer
  looks_exists k l text plain answer w =
      (answered l text answer w.sound
      (subst (Has (IsLook l.number text answer)) (sym w.goes.made) (has_middle (IsLook l.number text answer) k.made w.work (Look k.number text plain answer) (sym w.goes.number, refl, refl)))).1

  pub resolved : (k l : Known RegEntry) (text : List ℕ) (plain : Bool) (r : Result ℕ BuildErr) → Resolves k l text plain r → Resolved k l text plain r
  resolved k l text plain (Ok id) (inl none) = absurd (let f : Ok id ≡ Err build.Memory = none.1 in cc)
  resolved k l text plain (Err (build.Fault errno)) (inl none) = absurd (let f : Err (build.Fault errno) ≡ Err build.Memory = none.1 in cc)
  resolved k l text plain (Err build.Memory) (inl none) = inl none.0
  resolved k l text plain (Ok id) (inr came) =
      let w = came.1 in
      let f = found_entry l.seen came.0 id w.sound.faithful.legal (looks_exists k l text plain came.0 w) came.2 in
      (f.0, record { answer = came.0; work = w.work; goes = w.goes; all_work = w.all_work; builds = w.builds; found_is = f.1 })
  resolved k l text plain (Err (build.Fault errno)) (inr came) =
      let w = came.1 in record { answer = came.0; work = w.work; goes = w.goes; all_work = w.all_work; builds = w.builds; found_is = ap (λ o. found_as l.seen o) came.2 }
  resolved k l text plain (Err build.Memory) (inr came) = inr (came.0, came.1)
