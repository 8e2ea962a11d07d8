-- The checker's table of a registry goes on with a right event.
use Rattle.std.proofs.Common.{◌≡◌, ℕ, zero, suc, ◌+◌, Bool, true, false, not, cond, ◌&&◌, ◌||◌, List, [], ◌∷◌, ◌++◌, length, map, Option, Some, None, is_none, refl, sym, ◌∙◌, ap, subst, arith}
use Rattle.std.specs.Prelude.{◌==◌, slice_get, IsTrue, IsSome}
use Rattle.std.specs.List.{list_any}
use Rattle.std.specs.Option.{option_map_or, option_and_then}
use Rattle.std.proofs.lemmas.Bool.{and_parts, eqb-true}
use Rattle.alg_registry.specs.declared.row.Row.{Row}
use Rattle.alg_registry.specs.declared.row.Larval.{Larval}
use Rattle.alg_registry.specs.declared.entry.Ended.{Ended}
use Rattle.alg_registry.specs.declared.entry.Looked.TheVariants.{Found, Pending, Began, Absent}
use Rattle.alg_registry.specs.declared.entry.Enlisted.TheVariants.{Made, Exist, NFile}
use Rattle.alg_registry.specs.declared.entry.EndAnswer.TheVariants.{Built, Joined, Failed, NoMemory}
use Rattle.alg_registry.specs.declared.entry.RegEntry.{RegEntry}
use Rattle.alg_registry.specs.declared.entry.RegEntry.TheVariants.{Enlist, Look, Claim, End, Waited, Unlist, Get, Put, Refs}
use Rattle.alg_registry.specs.declared.entry.RegEntry.TheVariants as reg
use Rattle.alg_registry.specs.Rows.{rows_of, larvals_of}
use Rattle.alg_registry.specs.Answers.{look_answer, built_answer}
use Rattle.alg_registry.specs.Legal as legal
use Rattle.alg_registry.specs.Legal.{is_worker, ended_as, gets_as, puts_as}
use Rattle.alg_registry.specs.Kept.{IsKept}
use Rattle.trace_check.specs.declared.register.Reference.{Reference}
use Rattle.trace_check.specs.RegReasons.{builds}
use Rattle.trace_check.specs.Registers.{unreferred, is_of, has_state, has_caller}
use Rattle.std.proofs.Common.{get_or, set}
use Rattle.alg_registry.specs.Rows.{marked, standing, end_of}
use Rattle.alg_registry.specs.Calls.{new_row, unlisted_row, taken_row, put_row_of, claimed_larval, ended_larval, claimed_number, is_unclaimed}
use Rattle.alg_registry.proofs.Steps.{count_by-push}
use Rattle.alg_registry.proofs.Keeping.{kept-look, kept-began, kept-unlist, kept-no_unlist, kept-get, kept-no_get, kept-put, kept-claim}
use Rattle.alg_registry.proofs.Registering.{kept-made, kept-refused, kept-end, kept-built, kept-waited, kept-refs, kept-list}
use Rattle.alg_registry.proofs.Changing.{a_row}
use Rattle.trace_check.specs.Registers.{change_at, table_after, larvals_after, without_first, references_after}
use Rattle.trace_check.proofs.RegTable.{table_unlisted, table_counted, table_added}
use Rattle.trace_check.proofs.RegParts.{built_known}
use Rattle.trace_check.proofs.RegJudging.{IsRegister, AreReferences, times}

-- an element that is changed
change_is : {X : Type 0} (f : X → X) (xs : List X) (p : ℕ) (d : X) → change_at f xs p ≡ set xs p (f (get_or xs p d))
change_is f [] p d = refl
change_is f (x ∷ xs) zero d = refl
change_is f (x ∷ xs) (suc p) d = ap (λ ys. x ∷ ys) (change_is f xs p d)

change_table : (f : Row → Row) (rows : List Row) (p : ℕ) (d : Row) → change_at f (map unreferred rows) p ≡ set (map unreferred rows) p (f (unreferred (get_or rows p d)))
change_table f [] p d = refl
change_table f (row ∷ rows) zero d = refl
change_table f (row ∷ rows) (suc p) d = ap (λ ys. unreferred row ∷ ys) (change_table f rows p d)

abbrev bit : Bool → ℕ
bit b = cond b 1 0

-- References.
times_push : {X : Type 0} (p : X → Bool) (xs : List X) (x : X) → times p (xs ++ x ∷ []) ≡ times p xs + cond (p x) 1 0
times_push p [] x = omega arith
times_push p (y ∷ xs) x = (let h = times_push p xs x in omega arith)

first_removed : {X : Type 0} (q : X → Bool) (key : Bool) (x : X) (xs : List X) → q x ≡ key → times q xs + cond key 1 0 ≡ cond (q x) 1 0 + times q xs
first_removed q key x xs e = (let r : bit (q x) ≡ bit key = ap bit e in omega arith)

times_step : {X : Type 0} (p q : X → Bool) (key : Bool) (x : X) (xs : List X) (b : Bool) → p x ≡ b → ((x : X) → p x ≡ true → q x ≡ key) → (list_any p xs ≡ true → times q (without_first p xs) + cond key 1 0 ≡ times q xs) → (b || list_any p xs) ≡ true → times q (cond b xs (x ∷ without_first p xs)) + cond key 1 0 ≡ cond (q x) 1 0 + times q xs
times_step p q key x xs true e f ih t = first_removed q key x xs (f x e)
times_step p q key x xs false e f ih t = (let h = ih t in omega arith)

times_without : {X : Type 0} (p q : X → Bool) (key : Bool) (xs : List X) → ((x : X) → p x ≡ true → q x ≡ key) → list_any p xs ≡ true → times q (without_first p xs) + cond key 1 0 ≡ times q xs
times_without p q key [] f h = cc
times_without p q key (x ∷ xs) f h = times_step p q key x xs (p x) refl f (times_without p q key xs f) h

same_key : (caller id c i : ℕ) (x : Reference) → is_of c i x ≡ true → is_of caller id x ≡ (c == caller && (i == id))
same_key caller id c i x h =
    let k = and_parts (x.caller == c) (x.id == i) h in
    ap (λ n. n == caller && (x.id == id)) (eqb-true x.caller c k.0) ∙ ap (λ n. c == caller && (n == id)) (eqb-true x.id i k.1)

pub references_put : (references : List Reference) (h : List RegEntry) (caller id : ℕ) → list_any (is_of caller id) references ≡ true → AreReferences references h → AreReferences (without_first (is_of caller id) references) (h ++ Put caller id ∷ [])
references_put references h caller id some k = record {
  each = λ c i.
      (let a = k.each c i in
      let t = times_without (is_of caller id) (is_of c i) (caller == c && (id == i)) references (λ x e. same_key c i caller id x e) some in
      let p = count_by-push (puts_as c i) h (Put caller id) in
      let g = count_by-push (gets_as c i) h (Put caller id) in
      let z : bit (gets_as c i (Put caller id)) ≡ 0 = refl in
      let y : bit (puts_as c i (Put caller id)) ≡ bit (caller == c && (id == i)) = refl in
      omega arith);
}

pub references_get : (references : List Reference) (h : List RegEntry) (caller id : ℕ) → AreReferences references h → AreReferences (references ++ record { caller = caller; id = id } ∷ []) (h ++ Get caller id true ∷ [])
references_get references h caller id k = record {
  each = λ c i.
      (let a = k.each c i in
      let r : Reference = record { caller = caller; id = id } in
      let t = times_push (is_of c i) references r in
      let p = count_by-push (puts_as c i) h (Get caller id true) in
      let g = count_by-push (gets_as c i) h (Get caller id true) in
      let z : bit (puts_as c i (Get caller id true)) ≡ 0 = refl in
      let y : bit (gets_as c i (Get caller id true)) ≡ bit (is_of c i r) = refl in
      omega arith);
}

pub references_stay : (references : List Reference) (h : List RegEntry) (e : RegEntry) → ((c i : ℕ) → gets_as c i e ≡ false) → ((c i : ℕ) → puts_as c i e ≡ false) → AreReferences references h → AreReferences references (h ++ e ∷ [])
references_stay references h e g p k = record {
  each = λ c i.
      (let a = k.each c i in
      let s = count_by-push (puts_as c i) h e in
      let t = count_by-push (gets_as c i) h e in
      let z : bit (puts_as c i e) ≡ bit false = ap bit (p c i) in
      let y : bit (gets_as c i e) ≡ bit false = ap bit (g c i) in
      omega arith);
}

-- The register after an event, by what the history says of its entries and larvals then.
pub stepped : (h : List RegEntry) (table : List Row) (rows' : List Row) (larvals' : List Larval) (references' : List Reference) (e : RegEntry) → IsKept (h ++ e ∷ []) rows' larvals' → table ≡ map unreferred rows' → AreReferences references' (h ++ e ∷ []) → IsRegister (h ++ e ∷ []) table larvals' references'
stepped h table rows' larvals' references' e k m r = record { legal = k.legal; marks = m ∙ ap (map unreferred) k.rows_are; larvals_are = k.larvals_are; owed = r }

kept_now : (h : List RegEntry) (table : List Row) (larvals : List Larval) (references : List Reference) → IsRegister h table larvals references → IsKept h (rows_of h) larvals
kept_now h table larvals references k = record { legal = k.legal; rows_are = refl; larvals_are = k.larvals_are }

a_larval : Larval
a_larval = record { text = []; claimed = None; ended = None }

-- an event that changes nothing that is kept
pub stays : (h : List RegEntry) (table : List Row) (larvals : List Larval) (references : List Reference) (e : RegEntry) → IsRegister h table larvals references → IsKept (h ++ e ∷ []) (rows_of h) larvals → ((c i : ℕ) → gets_as c i e ≡ false) → ((c i : ℕ) → puts_as c i e ≡ false) → IsRegister (h ++ e ∷ []) table larvals references
stays h table larvals references e k n g p = stepped h table (rows_of h) larvals references e n k.marks (references_stay references h e g p k.owed)

unclaimed_number : (larvals : List Larval) (n : ℕ) (o : Option Larval) → IsTrue (option_map_or (λ larval. is_none larval.ended) o false) → option_and_then (λ larval. larval.claimed) o ≡ None → cond (option_map_or is_unclaimed o false) (Some n) None ≡ Some n
unclaimed_number larvals n None p c = cc
unclaimed_number larvals n (Some larval) p c = both larval.ended larval.claimed p c
  where
    both : (ended : Option Ended) (claimed : Option ℕ) → IsTrue (is_none ended) → claimed ≡ None → cond (is_none ended && is_none claimed) (Some n) None ≡ Some n
    both (Some e) c p q = cc
    both None (Some c) p q = cc
    both None None p q = refl

some_of : {X : Type 0} (o : Option X) → IsSome o → (x : X) × (o ≡ Some x)
some_of None h = cc
some_of (Some x) h = (x, refl)

-- the register goes on
pub register_step : (h : List RegEntry) (table : List Row) (larvals : List Larval) (references : List Reference) (e : RegEntry) → legal.IsRight h e → has_state larvals references e ≡ true → has_caller larvals references e ≡ true → IsRegister h table larvals references → IsRegister (h ++ e ∷ []) (table_after table e) (larvals_after larvals e) (references_after references e)
register_step h table larvals references (Enlist caller spec (Made id)) r t c k =
    stepped h _ (standing (rows_of h ++ new_row spec ∷ [])) larvals references _ (kept-made h _ (rows_of h) _ larvals caller id spec (kept_now h table larvals references k) r.0 r.1 r.2 (sym r.3) refl refl) (table_added (rows_of h) table spec k.marks) (references_stay references h _ (λ c i. refl) (λ c i. refl) k.owed)
register_step h table larvals references (Enlist caller spec Exist) r t c k =
    stays h table larvals references _ k (kept-refused h _ (rows_of h) larvals caller spec Exist (kept_now h table larvals references k) r.0 r.1 r.2 (sym r.3) (λ id e. cc) refl) (λ c i. refl) (λ c i. refl)
register_step h table larvals references (Enlist caller spec NFile) r t c k =
    stays h table larvals references _ k (kept-refused h _ (rows_of h) larvals caller spec NFile (kept_now h table larvals references k) r.0 r.1 r.2 (sym r.3) (λ id e. cc) refl) (λ c i. refl) (λ c i. refl)
register_step h table larvals references (Look caller text plain (Began n)) r t c k =
    stepped h table (rows_of h) _ references _ (kept-began h _ (rows_of h) larvals _ caller text plain (Began n) n (kept_now h table larvals references k) r.0 (r.1 ∙ ap (λ ls. look_answer (rows_of h) ls text plain) (sym k.larvals_are)) refl refl refl) k.marks (references_stay references h _ (λ c i. refl) (λ c i. refl) k.owed)
register_step h table larvals references (Look caller text plain (Found id)) r t c k =
    stays h table larvals references _ k (kept-look h _ (rows_of h) larvals caller text plain (Found id) (kept_now h table larvals references k) r.0 (r.1 ∙ ap (λ ls. look_answer (rows_of h) ls text plain) (sym k.larvals_are)) (λ n e. cc) refl) (λ c i. refl) (λ c i. refl)
register_step h table larvals references (Look caller text plain (Pending id)) r t c k =
    stays h table larvals references _ k (kept-look h _ (rows_of h) larvals caller text plain (Pending id) (kept_now h table larvals references k) r.0 (r.1 ∙ ap (λ ls. look_answer (rows_of h) ls text plain) (sym k.larvals_are)) (λ n e. cc) refl) (λ c i. refl) (λ c i. refl)
register_step h table larvals references (Look caller text plain Absent) r t c k =
    stays h table larvals references _ k (kept-look h _ (rows_of h) larvals caller text plain Absent (kept_now h table larvals references k) r.0 (r.1 ∙ ap (λ ls. look_answer (rows_of h) ls text plain) (sym k.larvals_are)) (λ n e. cc) refl) (λ c i. refl) (λ c i. refl)
register_step h table larvals references (Claim caller n) r t c k =
    let free : claimed_number larvals (Some n) ≡ Some n = subst (λ ls. claimed_number ls (Some n) ≡ Some n) (sym k.larvals_are) (unclaimed_number (larvals_of h) n (slice_get (larvals_of h) n) r.0 r.1) in
    stepped h table (rows_of h) _ references _ (kept-claim h _ (rows_of h) larvals _ caller n (Some n) a_larval (kept_now h table larvals references k) free refl (change_is (claimed_larval caller) larvals n a_larval)) k.marks (references_stay references h _ (λ c i. refl) (λ c i. refl) k.owed)
register_step h table larvals references (End caller n (Built id spec)) r t c k =
    let b : built_answer (rows_of h) spec ≡ Built (length (rows_of h)) spec = built_known (rows_of h) spec (ap builds (sym r.2)) in
    let e : Built id spec ≡ Built (length (rows_of h)) spec = r.2 ∙ b in
    let i : id ≡ length (rows_of h) = cc in
    stepped h _ (standing (rows_of h ++ new_row spec ∷ [])) _ references _ (kept-built h _ (rows_of h) _ larvals _ caller n id spec a_larval (kept_now h table larvals references k) r.0 r.1 b i refl refl (change_is (ended_larval (end_of (Built id spec))) larvals n a_larval)) (table_added (rows_of h) table spec k.marks) (references_stay references h _ (λ c i. refl) (λ c i. refl) k.owed)
register_step h table larvals references (End caller n (Joined id below)) r t c k =
    stepped h table (rows_of h) _ references _ (kept-end h _ (rows_of h) larvals _ caller n (Joined id below) a_larval (kept_now h table larvals references k) r.0 r.1 r.2 refl refl (change_is (ended_larval (end_of (Joined id below))) larvals n a_larval)) k.marks (references_stay references h _ (λ c i. refl) (λ c i. refl) k.owed)
register_step h table larvals references (End caller n (Failed errno)) r t c k =
    stepped h table (rows_of h) _ references _ (kept-end h _ (rows_of h) larvals _ caller n (Failed errno) a_larval (kept_now h table larvals references k) r.0 r.1 r.2 refl refl (change_is (ended_larval (end_of (Failed errno))) larvals n a_larval)) k.marks (references_stay references h _ (λ c i. refl) (λ c i. refl) k.owed)
register_step h table larvals references (End caller n NoMemory) r t c k =
    stepped h table (rows_of h) _ references _ (kept-end h _ (rows_of h) larvals _ caller n NoMemory a_larval (kept_now h table larvals references k) r.0 r.1 r.2 refl refl (change_is (ended_larval (end_of NoMemory)) larvals n a_larval)) k.marks (references_stay references h _ (λ c i. refl) (λ c i. refl) k.owed)
register_step h table larvals references (Waited caller n) r t c k =
    let s = some_of (ended_as h n) r in
    stays h table larvals references _ k (kept-waited h _ (rows_of h) larvals caller n s.0 (kept_now h table larvals references k) (ap (λ ls. option_and_then (λ (l : Larval). l.ended) (slice_get ls n)) k.larvals_are ∙ s.1) refl) (λ c i. refl) (λ c i. refl)
register_step h table larvals references (Unlist caller driver (Some id)) r t c k =
    stepped h _ (standing (set (rows_of h) id (unlisted_row (get_or (rows_of h) id a_row)))) larvals references _ (kept-unlist h _ (rows_of h) _ larvals caller id driver a_row (kept_now h table larvals references k) r.0 (sym r.1) refl refl)
    (ap (λ tb. marked [] (change_at unlisted_row tb id)) k.marks ∙ (ap (marked []) (change_table unlisted_row (rows_of h) id a_row) ∙ table_unlisted (rows_of h) (map unreferred (rows_of h)) id a_row refl)) (references_stay references h _ (λ c i. refl) (λ c i. refl) k.owed)
register_step h table larvals references (Unlist caller driver None) r t c k =
    stays h table larvals references _ k (kept-no_unlist h _ (rows_of h) larvals caller driver (kept_now h table larvals references k) r.0 (sym r.1) refl) (λ c i. refl) (λ c i. refl)
register_step h table larvals references (Get caller id true) r t c k =
    stepped h _ (standing (set (rows_of h) id (taken_row (get_or (rows_of h) id a_row)))) larvals _ _ (kept-get h _ (rows_of h) _ larvals caller id a_row (kept_now h table larvals references k) r.0 (sym r.1) refl refl)
    (ap (λ tb. change_at taken_row tb id) k.marks ∙ (change_table taken_row (rows_of h) id a_row ∙ table_counted h taken_row id a_row (λ row. refl) (λ row. refl))) (references_get references h caller id k.owed)
register_step h table larvals references (Get caller id false) r t c k =
    stays h table larvals references _ k (kept-no_get h _ (rows_of h) larvals caller id (kept_now h table larvals references k) r.0 (sym r.1) refl) (λ c i. refl) (λ c i. refl)
register_step h table larvals references (Put caller id) r t c k =
    stepped h _ (standing (set (rows_of h) id (put_row_of (get_or (rows_of h) id a_row)))) larvals _ _ (kept-put h _ (rows_of h) _ larvals caller id a_row (kept_now h table larvals references k) r.0 r.1 refl refl)
    (ap (λ tb. change_at put_row_of tb id) k.marks ∙ (change_table put_row_of (rows_of h) id a_row ∙ table_counted h put_row_of id a_row (λ row. refl) (λ row. refl))) (references_put references h caller id (and_parts (not (is_worker caller)) (list_any (is_of caller id) references) c).1 k.owed)
register_step h table larvals references (Refs caller driver) r t c k =
    stays h table larvals references _ k (kept-refs h _ (rows_of h) larvals caller driver (kept_now h table larvals references k) r refl) (λ c i. refl) (λ c i. refl)
register_step h table larvals references (reg.List caller) r t c k =
    stays h table larvals references _ k (kept-list h _ (rows_of h) larvals caller (kept_now h table larvals references k) r refl) (λ c i. refl) (λ c i. refl)
