-- Where each look that was asked for has come to something, nothing is left to build.
use Rattle.std.proofs.Common.{◌≡◌, ◌≢◌, ℕ, zero, suc, ◌+◌, ◌<◌, ◌≤◌, ◌⊎◌, inl, inr, Bool, true, false, not, eqb, eq-eqb, if◌then◌else◌, List, [], ◌∷◌, ◌++◌, length, refl, ap, sym, ◌∙◌, subst, arith, Option, Some, None, Result, Ok, Err, IsSome, append_assoc, length-append}
use Rattle.std.specs.Prelude.{slice_get}
use Rattle.std.specs.List.{cons_option, AllByRecursion}
use Rattle.std.specs.Option.{option_or, option_and_then}
use Rattle.std.proofs.lemmas.Bool.{eqb-true}
use Rattle.std.proofs.lemmas.Bool.Decides.{nat_tests}
use Rattle.std.proofs.lemmas.List.{append-nil}
use Rattle.kc_base.specs.declared.error_numbers.Errno.{Errno}
use Rattle.alg_registry.specs.declared.entry.Ended.{Ended}
use Rattle.alg_registry.specs.declared.entry.Looked.{Looked}
use Rattle.alg_registry.specs.declared.entry.Looked.TheVariants.{Found, Pending, Began, Absent}
use Rattle.alg_registry.specs.declared.entry.EndAnswer.{EndAnswer}
use Rattle.alg_registry.specs.declared.entry.EndAnswer.TheVariants as answer
use Rattle.alg_registry.specs.declared.entry.RegEntry.{RegEntry}
use Rattle.alg_registry.specs.declared.entry.RegEntry.TheVariants.{Enlist, Look, Claim, End, Waited, Unlist, Get, Put, Refs}
use Rattle.alg_registry.specs.declared.entry.RegEntry.TheVariants as entry
use Rattle.alg_registry.specs.Rows.{caller_of, texts, begun_by, first_of, ends, end_of}
use Rattle.alg_registry.specs.Legal.{LegalReg, IsRight, is_worker, ended_as}
use Rattle.alg_registry.specs.Made.{Templates, Made, MadeAfter, IsMade, building, last_of, looks_for, look_for, if_of, outcome, outcome_of, outcomes, all_outcomes, next_of, next_child, made_answer, by_children, by_outcomes}
use Rattle.alg_registry.proofs.Looks.{began_new}
use Rattle.alg_registry.proofs.LifetimeLaws.{right_at}
use Rattle.alg_registry.proofs.Stack.{ended-within, stack_below, last_below, texts-push}
use Rattle.alg_registry.specs.OwnCalls.{calls_of, HasCome}
use Rattle.alg_registry.proofs.Histories.{legal_front, outcome_more, outcomes_more, text_more}
use Rattle.alg_registry.proofs.OwnCalls.{open_own, last_any}

each_at : {A : Type 0} (P : A → Type 0) (xs ys : List A) (x : A) → AllByRecursion P (xs ++ x ∷ ys) → P x
each_at P [] ys x all = all.0
each_at P (z ∷ xs) ys x all = each_at P xs ys x all.1

made_at : (t : Templates) (before h : List RegEntry) (e : RegEntry) (later : List RegEntry) → MadeAfter t before (h ++ e ∷ later) → IsMade t (before ++ h) e
made_at t before [] e later made = subst (λ x. IsMade t x e) (sym (append-nil before)) made.0
made_at t before (x ∷ h) e later made = subst (λ y. IsMade t y e) (append_assoc before (x ∷ []) h) (made_at t (before ++ x ∷ []) h e later made.1)

looks_append : (n : ℕ) (before xs ys : List RegEntry) → looks_for n before (xs ++ ys) ≡ looks_for n before xs ++ looks_for n (before ++ xs) ys
looks_append n before [] ys = ap (λ b. looks_for n b ys) (sym (append-nil before))
looks_append n before (x ∷ xs) ys =
    put (if_of n (look_for before x)) (looks_for n (before ++ x ∷ []) (xs ++ ys)) (looks_for n (before ++ x ∷ []) xs) (looks_for n (before ++ x ∷ xs) ys)
    (looks_append n (before ++ x ∷ []) xs ys ∙ ap (λ b. looks_for n (before ++ x ∷ []) xs ++ looks_for n b ys) (append_assoc before (x ∷ []) xs))
  where
    put : (o : Option Looked) → (a b c : List Looked) → a ≡ b ++ c → cons_option o a ≡ cons_option o b ++ c
    put None a b c e = e
    put (Some l) a b c e = ap (λ ls. l ∷ ls) e

-- the look with which a larval began
pub record Start (h : List RegEntry) (n : ℕ) : Type 0 where
  before : List RegEntry
  by : ℕ
  text : List ℕ
  plain : Bool
  number : ℕ
  later : List RegEntry
  is : h ≡ before ++ Look by text plain (Began number) ∷ later
  place : length (texts before) ≡ n

pub start_in : (done h : List RegEntry) (n : ℕ) → length (texts done) ≤ n → n < length (texts done) + length (texts h) → Start (done ++ h) n
start_in done [] n le lt = absurd (omega (arith, le, lt))
start_in done (e ∷ h) n le lt = by_entry e refl le lt (λ le' lt'. subst (λ x. Start x n) (append_assoc done (e ∷ []) h) (start_in (done ++ e ∷ []) h n le' lt'))
  where
    texts_more : length (texts (done ++ e ∷ [])) ≡ length (texts done) + length (cons_option (begun_by e) [])
    texts_more = ap length (texts-push done e) ∙ length-append (texts done) (cons_option (begun_by e) [])

    on : begun_by e ≡ None → length (texts done) ≤ n → n < length (texts done) + length (texts (e ∷ h)) → (length (texts (done ++ e ∷ [])) ≤ n → n < length (texts (done ++ e ∷ [])) + length (texts h) → Start (done ++ e ∷ h) n) → Start (done ++ e ∷ h) n
    on none le lt rest =
        let same : length (texts (done ++ e ∷ [])) ≡ length (texts done) + 0 = texts_more ∙ ap (λ (o : Option (List ℕ)). length (texts done) + length (cons_option o [])) none in
        let less : length (texts (e ∷ h)) ≡ length (texts h) = ap (λ (o : Option (List ℕ)). length (cons_option o (texts h))) none in
        rest (omega (arith, same, le)) (omega (arith, same, less, lt))

    by_entry : (x : RegEntry) → e ≡ x → length (texts done) ≤ n → n < length (texts done) + length (texts (e ∷ h)) → (length (texts (done ++ e ∷ [])) ≤ n → n < length (texts (done ++ e ∷ [])) + length (texts h) → Start (done ++ e ∷ h) n) → Start (done ++ e ∷ h) n
    by_entry (Look by text plain (Began number)) q le lt rest = by_place (eqb (length (texts done)) n) refl
      where
        by_place : (b : Bool) → eqb (length (texts done)) n ≡ b → Start (done ++ e ∷ h) n
        by_place true z = record { before = done; by = by; text = text; plain = plain; number = number; later = h; is = ap (λ y. done ++ y ∷ h) q; place = eqb-true (length (texts done)) n z }
        by_place false z =
            let ne : length (texts done) ≢ n = λ s. absurd (let w : true ≡ false = sym (eq-eqb (length (texts done)) n s) ∙ z in cc) in
            let more : length (texts (done ++ e ∷ [])) ≡ length (texts done) + 1 = texts_more ∙ ap (λ y. length (texts done) + length (cons_option (begun_by y) [])) q in
            let less : length (texts (e ∷ h)) ≡ suc (length (texts h)) = ap (λ y. length (cons_option (begun_by y) (texts h))) q in
            rest (above (length (texts done)) n le ne more) (omega (arith, more, less, lt))
          where
            above : (a b : ℕ) → a ≤ b → a ≢ b → length (texts (done ++ e ∷ [])) ≡ a + 1 → length (texts (done ++ e ∷ [])) ≤ b
            above a b le ne more = by_order (less_or a b le)
              where
                less_or : (a b : ℕ) → a ≤ b → (a ≡ b) ⊎ (a < b)
                less_or zero zero le = inl refl
                less_or zero (suc b) le = inr (omega arith)
                less_or (suc a) zero le = absurd (omega (arith, le))
                less_or (suc a) (suc b) le = up (less_or a b (omega (arith, le)))
                  where
                    up : (a ≡ b) ⊎ (a < b) → (suc a ≡ suc b) ⊎ (suc a < suc b)
                    up (inl s) = inl (ap suc s)
                    up (inr s) = inr (omega (arith, s))

                by_order : (a ≡ b) ⊎ (a < b) → length (texts (done ++ e ∷ [])) ≤ b
                by_order (inl s) = absurd (ne s)
                by_order (inr s) = omega (arith, s, more)
    by_entry (Look by text plain (Found id)) q le lt rest = on (ap begun_by q) le lt rest
    by_entry (Look by text plain (Pending m)) q le lt rest = on (ap begun_by q) le lt rest
    by_entry (Look by text plain Absent) q le lt rest = on (ap begun_by q) le lt rest
    by_entry (Claim by larval) q le lt rest = on (ap begun_by q) le lt rest
    by_entry (End by larval a) q le lt rest = on (ap begun_by q) le lt rest
    by_entry (Enlist by spec a) q le lt rest = on (ap begun_by q) le lt rest
    by_entry (Waited by larval) q le lt rest = on (ap begun_by q) le lt rest
    by_entry (Unlist by driver a) q le lt rest = on (ap begun_by q) le lt rest
    by_entry (Get by id ok) q le lt rest = on (ap begun_by q) le lt rest
    by_entry (Put by id) q le lt rest = on (ap begun_by q) le lt rest
    by_entry (Refs by driver) q le lt rest = on (ap begun_by q) le lt rest
    by_entry (entry.List by) q le lt rest = on (ap begun_by q) le lt rest

-- the end of a larval
pub record Finish (h : List RegEntry) (m : ℕ) (x : Ended) : Type 0 where
  before : List RegEntry
  by : ℕ
  answered : EndAnswer
  later : List RegEntry
  is : h ≡ before ++ End by m answered ∷ later
  ends_so : end_of answered ≡ x

pub finish_in : (h : List RegEntry) (m : ℕ) (x : Ended) → first_of (ends m) h ≡ Some x → Finish h m x
finish_in [] m x q = absurd cc
finish_in (e ∷ h) m x q = by_entry e refl q (finish_in h m x)
  where
    later : (first_of (ends m) h ≡ Some x → Finish h m x) → first_of (ends m) h ≡ Some x → Finish (e ∷ h) m x
    later rest z = let f = rest z in record { before = e ∷ f.before; by = f.by; answered = f.answered; later = f.later; is = ap (λ y. e ∷ y) f.is; ends_so = f.ends_so }

    by_entry : (y : RegEntry) → e ≡ y → option_or (ends m e) (first_of (ends m) h) ≡ Some x → (first_of (ends m) h ≡ Some x → Finish h m x) → Finish (e ∷ h) m x
    by_entry (End by larval a) s z rest = by_test (eqb larval m) refl (ap (λ y. option_or (ends m y) (first_of (ends m) h)) (sym s) ∙ z)
      where
        by_test : (b : Bool) → eqb larval m ≡ b → option_or (if b then Some (end_of a) else None) (first_of (ends m) h) ≡ Some x → Finish (e ∷ h) m x
        by_test true w v = record { before = []; by = by; answered = a; later = h; is = ap (λ y. y ∷ h) (s ∙ ap (λ k. End by k a) (eqb-true larval m w)); ends_so = (let f : Some (end_of a) ≡ Some x = v in cc) }
        by_test false w v = later rest v
    by_entry (Look by text plain a) s z rest = later rest (ap (λ y. option_or (ends m y) (first_of (ends m) h)) (sym s) ∙ z)
    by_entry (Claim by larval) s z rest = later rest (ap (λ y. option_or (ends m y) (first_of (ends m) h)) (sym s) ∙ z)
    by_entry (Enlist by spec a) s z rest = later rest (ap (λ y. option_or (ends m y) (first_of (ends m) h)) (sym s) ∙ z)
    by_entry (Waited by larval) s z rest = later rest (ap (λ y. option_or (ends m y) (first_of (ends m) h)) (sym s) ∙ z)
    by_entry (Unlist by driver a) s z rest = later rest (ap (λ y. option_or (ends m y) (first_of (ends m) h)) (sym s) ∙ z)
    by_entry (Get by id ok) s z rest = later rest (ap (λ y. option_or (ends m y) (first_of (ends m) h)) (sym s) ∙ z)
    by_entry (Put by id) s z rest = later rest (ap (λ y. option_or (ends m y) (first_of (ends m) h)) (sym s) ∙ z)
    by_entry (Refs by driver) s z rest = later rest (ap (λ y. option_or (ends m y) (first_of (ends m) h)) (sym s) ∙ z)
    by_entry (entry.List by) s z rest = later rest (ap (λ y. option_or (ends m y) (first_of (ends m) h)) (sym s) ∙ z)

-- a look between others of which those before it came to entries
middle_some : (h : List RegEntry) (looks more : List Looked) (ids : List ℕ) (a : Looked) (r : Result (List ℕ) Errno) → outcomes h looks ≡ Some (Ok ids) → outcomes h (looks ++ a ∷ more) ≡ Some r → IsSome (outcome h a)
middle_some h [] more ids a r sofar e = by_look (outcome h a) e
  where
    by_look : (o : Option (Result ℕ Errno)) → all_outcomes o (outcomes h more) ≡ Some r → IsSome o
    by_look None z = absurd cc
    by_look (Some x) z = refl
middle_some h (look ∷ looks) more ids a r sofar e = by_look (outcome h look) (outcomes h looks) (outcomes h (looks ++ a ∷ more)) refl refl sofar e (λ rest q s z. middle_some h looks more rest a q s z)
  where
    by_look : (o : Option (Result ℕ Errno)) (p q : Option (Result (List ℕ) Errno)) → outcomes h looks ≡ p → outcomes h (looks ++ a ∷ more) ≡ q → all_outcomes o p ≡ Some (Ok ids) → all_outcomes o q ≡ Some r
        → ((rest : List ℕ) (s : Result (List ℕ) Errno) → outcomes h looks ≡ Some (Ok rest) → outcomes h (looks ++ a ∷ more) ≡ Some s → IsSome (outcome h a)) → IsSome (outcome h a)
    by_look None p q x y z w rest = absurd cc
    by_look (Some (Err errno)) p q x y z w rest = absurd cc
    by_look (Some (Ok id)) None q x y z w rest = absurd cc
    by_look (Some (Ok id)) (Some (Err errno)) q x y z w rest = absurd cc
    by_look (Some (Ok id)) (Some (Ok ids')) None x y z w rest = absurd cc
    by_look (Some (Ok id)) (Some (Ok ids')) (Some s) x y z w rest = rest ids' s x y

next_none : (h : List RegEntry) (looks : List Looked) (children : List (List ℕ)) → outcomes h looks ≡ None → next_of h looks (Ok children) ≡ None
next_none h looks children e = rw e

next_err : (h : List RegEntry) (looks : List Looked) (children : List (List ℕ)) (errno : Errno) → outcomes h looks ≡ Some (Err errno) → next_of h looks (Ok children) ≡ None
next_err h looks children errno e = rw e

-- what there is to know of a look for a child
record Asked (t : Templates) (before : List RegEntry) (by : ℕ) : Type 0 where
  larval : ℕ
  last : last_of (building before by) ≡ Some larval
  text : List ℕ
  at : slice_get (texts before) larval ≡ Some text
  children : List (List ℕ)
  children_are : t.children text ≡ Ok children
  ids : List ℕ
  come : outcomes before (looks_for larval [] before) ≡ Some (Ok ids)

asked : (t : Templates) (before : List RegEntry) (by : ℕ) (child : List ℕ) → next_child t before by ≡ Some child → Asked t before by
asked t before by child next = by_last (last_of (building before by)) refl next
  where
    by_come : (m : ℕ) → last_of (building before by) ≡ Some m → (text : List ℕ) → slice_get (texts before) m ≡ Some text → (cs : List (List ℕ)) → t.children text ≡ Ok cs
        → (o : Option (Result (List ℕ) Errno)) → outcomes before (looks_for m [] before) ≡ o → next_of before (looks_for m [] before) (Ok cs) ≡ Some child → Asked t before by
    by_come m l text at cs are None q z = absurd (let f : None ≡ Some child = sym (next_none before (looks_for m [] before) cs q) ∙ z in cc)
    by_come m l text at cs are (Some (Err errno)) q z = absurd (let f : None ≡ Some child = sym (next_err before (looks_for m [] before) cs errno q) ∙ z in cc)
    by_come m l text at cs are (Some (Ok ids)) q z = record { larval = m; last = l; text = text; at = at; children = cs; children_are = are; ids = ids; come = q }

    by_children' : (m : ℕ) → last_of (building before by) ≡ Some m → (text : List ℕ) → slice_get (texts before) m ≡ Some text → (r : Result (List (List ℕ)) Errno) → t.children text ≡ r → next_of before (looks_for m [] before) r ≡ Some child → Asked t before by
    by_children' m l text at (Err errno) q z = absurd cc
    by_children' m l text at (Ok cs) q z = by_come m l text at cs q (outcomes before (looks_for m [] before)) refl z

    by_text : (m : ℕ) → last_of (building before by) ≡ Some m → (o : Option (List ℕ)) → slice_get (texts before) m ≡ o → option_and_then (λ text. next_of before (looks_for m [] before) (t.children text)) o ≡ Some child → Asked t before by
    by_text m l None q z = absurd cc
    by_text m l (Some text) q z = by_children' m l text q (t.children text) refl z

    by_last : (o : Option ℕ) → last_of (building before by) ≡ o → option_and_then (λ m. option_and_then (λ text. next_of before (looks_for m [] before) (t.children text)) (slice_get (texts before) m)) o ≡ Some child → Asked t before by
    by_last None q z = absurd cc
    by_last (Some m) q z = by_text m q (slice_get (texts before) m) refl z

made_end : (t : Templates) (h : List RegEntry) (by m : ℕ) (a : EndAnswer) (x : Ended) (r : Result ℕ Errno) → end_of a ≡ x → outcome_of (Some x) ≡ Some r → IsMade t h (End by m a) → made_answer t h m ≡ Some a
made_end t h by m (answer.Built id spec) x r e o made = made
made_end t h by m (answer.Joined id below) x r e o made = made
made_end t h by m (answer.Failed errno) x r e o made = made
made_end t h by m answer.NoMemory x r e o made = absurd (let f : None ≡ Some r = ap (λ y. outcome_of (Some y)) e ∙ o in cc)

answer_outcomes : (t : Templates) (h : List RegEntry) (m : ℕ) (text : List ℕ) (cs : List (List ℕ)) (a : EndAnswer) → slice_get (texts h) m ≡ Some text → t.children text ≡ Ok cs → made_answer t h m ≡ Some a → (r : Result (List ℕ) Errno) × (outcomes h (looks_for m [] h) ≡ Some r)
answer_outcomes t h m text cs a at are made =
    by_come (outcomes h (looks_for m [] h)) refl
    (sym (ap (λ o. option_and_then (λ y. by_children t h y (looks_for m [] h) (t.children y)) o) at ∙ ap (λ c. by_children t h text (looks_for m [] h) c) are) ∙ made)
  where
    by_come : (o : Option (Result (List ℕ) Errno)) → outcomes h (looks_for m [] h) ≡ o → by_outcomes t h text cs o ≡ Some a → (r : Result (List ℕ) Errno) × (outcomes h (looks_for m [] h) ≡ Some r)
    by_come None q z = absurd cc
    by_come (Some r) q z = (r, q)

some_value : {A : Type 0} (o : Option A) → IsSome o → (x : A) × (o ≡ Some x)
some_value None s = absurd cc
some_value (Some x) s = (x, refl)

some_now : {A : Type 0} (o : Option A) (x : A) → o ≡ Some x → IsSome o
some_now o x e = subst (λ (y : Option _). IsSome y) (sym e) refl

outcome_some_more : (h more : List RegEntry) (a : Looked) → IsSome (outcome h a) → IsSome (outcome (h ++ more) a)
outcome_some_more h more a s = let v = some_value (outcome h a) s in some_now (outcome (h ++ more) a) v.0 (outcome_more h more a v.0 v.1)

first_after : (m : ℕ) (xs ys : List RegEntry) → first_of (ends m) xs ≡ None → first_of (ends m) (xs ++ ys) ≡ first_of (ends m) ys
first_after m [] ys e = refl
first_after m (x ∷ xs) ys e = here (ends m x) refl e (first_after m xs ys)
  where
    here : (o : Option Ended) → ends m x ≡ o → option_or o (first_of (ends m) xs) ≡ None → (first_of (ends m) xs ≡ None → first_of (ends m) (xs ++ ys) ≡ first_of (ends m) ys) → option_or (ends m x) (first_of (ends m) (xs ++ ys)) ≡ first_of (ends m) ys
    here None q z rest = ap (λ o. option_or o (first_of (ends m) (xs ++ ys))) q ∙ rest z
    here (Some b) q z rest = absurd cc

-- a child's larval ended, since the larval for which it was asked came to something
child_ended : (t : Templates) (before later : List RegEntry) (by : ℕ) (text : List ℕ) (n : ℕ) → LegalReg (before ++ Look by text true (Began n) ∷ later) → Made t (before ++ Look by text true (Began n) ∷ later)
    → (a : Asked t before by) → IsSome (outcome_of (ended_as (before ++ Look by text true (Began n) ∷ later) a.larval)) → IsSome (outcome_of (ended_as (before ++ Look by text true (Began n) ∷ later) n))
child_ended t before later by text n legal made a come =
    let e : RegEntry = Look by text true (Began n) in
    let h : List RegEntry = before ++ e ∷ later in
    let open_there = open_own before (legal_front [] before (e ∷ later) legal) by a.larval (last_any (building before by) a.larval a.last) in
    let lt : a.larval < length (texts before) = last_below (length (texts before)) a.larval (building before by) (stack_below before (legal_front [] before (e ∷ later) legal) by) a.last in
    let v = some_value (outcome_of (ended_as h a.larval)) come in
    let ended_at = ended_value (ended_as h a.larval) v.0 v.1 in
    let there : slice_get (texts h) a.larval ≡ Some a.text = text_more before (e ∷ later) a.larval a.text a.at in
    let first : first_of (ends a.larval) h ≡ Some ended_at.0 = sym (ended-within h a.larval (within (texts h) a.larval a.text there)) ∙ ended_at.1 in
    let none : first_of (ends a.larval) before ≡ None = sym (ended-within before a.larval lt) ∙ open_there.1 in
    let f = finish_in later a.larval ended_at.0 (sym (first_after a.larval before (e ∷ later) none) ∙ first) in
    let b2 : List RegEntry = before ++ e ∷ f.before in
    let grown : h ≡ b2 ++ End f.by a.larval f.answered ∷ f.later = ap (λ x. before ++ e ∷ x) f.is ∙ sym (append_assoc before (e ∷ f.before) (End f.by a.larval f.answered ∷ f.later)) in
    let answer_is : made_answer t b2 a.larval ≡ Some f.answered =
    made_end t b2 f.by a.larval f.answered ended_at.0 v.0 f.ends_so (ap outcome_of (sym ended_at.1) ∙ v.1) (made_at t [] b2 (End f.by a.larval f.answered) f.later (subst (λ x. MadeAfter t [] x) grown made)) in
    let came = answer_outcomes t b2 a.larval a.text a.children f.answered (text_more before (e ∷ f.before) a.larval a.text a.at) a.children_are answer_is in
    let looks : looks_for a.larval [] b2 ≡ looks_for a.larval [] before ++ Began n ∷ looks_for a.larval (before ++ e ∷ []) f.before =
    looks_append a.larval [] before (e ∷ f.before) ∙ ap (λ o. looks_for a.larval [] before ++ cons_option o (looks_for a.larval (before ++ e ∷ []) f.before))
    (ap (λ o. if_of a.larval (option_and_then (λ m. Some (m, Began n)) o)) a.last ∙ ap (λ b. if b then Some (Began n) else None) (eq-eqb a.larval a.larval refl)) in
    let settled : IsSome (outcome b2 (Began n)) =
    middle_some b2 (looks_for a.larval [] before) (looks_for a.larval (before ++ e ∷ []) f.before) a.ids (Began n) came.0 (outcomes_more before (e ∷ f.before) (looks_for a.larval [] before) (Ok a.ids) a.come) (ap (λ ls. outcomes b2 ls) (sym looks) ∙ came.1) in
    subst (λ x. IsSome (outcome x (Began n))) (sym grown) (outcome_some_more b2 (End f.by a.larval f.answered ∷ f.later) (Began n) settled)
  where
    ended_value : (o : Option Ended) (r : Result ℕ Errno) → outcome_of o ≡ Some r → (x : Ended) × (o ≡ Some x)
    ended_value None r e = absurd cc
    ended_value (Some x) r e = (x, refl)

    within : (xs : List (List ℕ)) (n : ℕ) (x : List ℕ) → slice_get xs n ≡ Some x → n < length xs
    within [] n x e = absurd cc
    within (y ∷ xs) zero x e = omega arith
    within (y ∷ xs) (suc n) x e = let r : n < length xs = within xs n x e in omega (arith, r)

all_below : (t : Templates) (h : List RegEntry) → LegalReg h → Made t h → AllByRecursion (HasCome h) h → (bound n : ℕ) → n < bound → n < length (texts h) → IsSome (outcome_of (ended_as h n))
all_below t h legal made all zero n lt within = absurd (omega (arith, lt))
all_below t h legal made all (suc bound) n lt within = by_start (start_in [] h n (omega arith) (omega (arith, within))) (λ m less there. all_below t h legal made all bound m (omega (arith, less, lt)) there)
  where
    by_kind : (before : List RegEntry) (by : ℕ) (text : List ℕ) (plain : Bool) (later : List RegEntry) → h ≡ before ++ Look by text plain (Began n) ∷ later → length (texts before) ≡ n
        → ((m : ℕ) → m < n → m < length (texts h) → IsSome (outcome_of (ended_as h m))) → IsSome (outcome_of (ended_as h n))
    by_kind before by text false later is place older = each_at (HasCome h) before later (Look by text false (Began n)) (subst (AllByRecursion (HasCome h)) is all)
    by_kind before by text true later is place older =
        let e : RegEntry = Look by text true (Began n) in
        let legal' : LegalReg (before ++ e ∷ later) = subst (λ x. LegalReg x) is legal in
        let made' : Made t (before ++ e ∷ later) = subst (λ x. Made t x) is made in
        let a = asked t before by text (made_at t [] before e later made').1 in
        let less : a.larval < length (texts before) = last_below (length (texts before)) a.larval (building before by) (stack_below before (legal_front [] before (e ∷ later) legal') by) a.last in
        let there : a.larval < length (texts h) = omega (arith, less, place, within) in
        subst (λ x. IsSome (outcome_of (ended_as x n))) (sym is)
        (child_ended t before later by text n legal' made' a (subst (λ x. IsSome (outcome_of (ended_as x a.larval))) is (older a.larval (omega (arith, less, place)) there)))

    by_start : Start h n → ((m : ℕ) → m < n → m < length (texts h) → IsSome (outcome_of (ended_as h m))) → IsSome (outcome_of (ended_as h n))
    by_start s older =
        let right : IsRight s.before (Look s.by s.text s.plain (Began s.number)) = right_at [] s.before (Look s.by s.text s.plain (Began s.number)) s.later (subst (λ x. LegalReg x) s.is legal) in
        let number : s.number ≡ n = began_new s.before s.text s.plain s.number (sym right.1) ∙ s.place in
        by_kind s.before s.by s.text s.plain s.later (s.is ∙ ap (λ m. s.before ++ Look s.by s.text s.plain (Began m) ∷ s.later) number) s.place older

pub all_ended : (t : Templates) (h : List RegEntry) → LegalReg h → Made t h → AllByRecursion (HasCome h) h → (n : ℕ) → n < length (texts h) → IsSome (outcome_of (ended_as h n))
all_ended t h legal made all n within = all_below t h legal made all (suc n) n (omega arith) within

-- only caller 0 may look for any entry, where the others are workers
worker : (c : ℕ) → c < 17 → eqb c 0 ≡ false → is_worker c ≡ true
worker c lt ne = grind (arith, nat_tests)

own_come : (whole before h : List RegEntry) → whole ≡ before ++ h → LegalReg whole → AllByRecursion (λ e. caller_of e < 17) h → AllByRecursion (HasCome whole) (calls_of 0 h) → AllByRecursion (HasCome whole) h
own_come whole before [] is legal few own = tt
own_come whole before (e ∷ h) is legal few own = by_caller (eqb (caller_of e) 0) refl own (own_come whole (before ++ e ∷ []) h (is ∙ sym (append_assoc before (e ∷ []) h)) legal few.1)
  where
    not_asked : (x : RegEntry) → e ≡ x → eqb (caller_of e) 0 ≡ false → HasCome whole x
    not_asked (Look by text true a) q ne = tt
    not_asked (Look by text false a) q ne =
        let right : IsRight before (Look by text false a) = right_at [] before (Look by text false a) h (subst (λ x. LegalReg x) (is ∙ ap (λ y. before ++ y ∷ h) q) legal) in
        let its : is_worker by ≡ true = worker by (subst (λ y. caller_of y < 17) q few.0) (ap (λ y. eqb (caller_of y) 0) (sym q) ∙ ne) in
        let no_any : not true ≡ true = ap not (sym its) ∙ right.0 in
        absurd (let f : false ≡ true = no_any in cc)
    not_asked (Claim by larval) q ne = tt
    not_asked (End by larval a) q ne = tt
    not_asked (Enlist by spec a) q ne = tt
    not_asked (Waited by larval) q ne = tt
    not_asked (Unlist by driver a) q ne = tt
    not_asked (Get by id ok) q ne = tt
    not_asked (Put by id) q ne = tt
    not_asked (Refs by driver) q ne = tt
    not_asked (entry.List by) q ne = tt

    by_caller : (b : Bool) → eqb (caller_of e) 0 ≡ b → AllByRecursion (HasCome whole) (if b then e ∷ calls_of 0 h else calls_of 0 h) → (AllByRecursion (HasCome whole) (calls_of 0 h) → AllByRecursion (HasCome whole) h) → HasCome whole e × AllByRecursion (HasCome whole) h
    by_caller true q own rest = (own.0, rest own.1)
    by_caller false q own rest = (not_asked e refl q, rest own)

pub all_ended_for : (t : Templates) (h : List RegEntry) → LegalReg h → Made t h → AllByRecursion (λ e. caller_of e < 17) h → AllByRecursion (HasCome h) (calls_of 0 h) → (n : ℕ) → n < length (texts h) → IsSome (outcome_of (ended_as h n))
all_ended_for t h legal made few own n within = all_ended t h legal made (own_come h [] h refl legal few own) n within
