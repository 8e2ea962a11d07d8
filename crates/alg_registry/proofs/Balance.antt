-- In a legal history nobody gives back what was not taken, and no larval ends that nobody claimed.
use Rattle.std.proofs.Common.{◌≡◌, ℕ, zero, suc, ◌+◌, ◌<◌, ◌≤◌, Bool, true, false, cond, not, ◌&&◌, eqb, List, [], ◌∷◌, ◌++◌, Some, None, refl, sym, ap, ◌∙◌, subst, arith, append_assoc}
use Rattle.std.specs.Prelude.{count_by, slice_get}
use Rattle.std.specs.List.{filter_map}
use Rattle.std.specs.Option.{option_or, option_and_then}
use Rattle.std.proofs.lemmas.List.{append-nil}
use Rattle.std.proofs.lemmas.List.Sums.{sum_by-append}
use Rattle.std.proofs.lemmas.Bool.Decides.{nat_tests}
use Rattle.alg_registry.specs.declared.entry.RegEntry.{RegEntry}
use Rattle.alg_registry.specs.declared.entry.RegEntry.TheVariants.{Enlist, Look, Claim, End, Waited, Unlist, Get, Put, Refs}
use Rattle.alg_registry.specs.declared.entry.RegEntry.TheVariants as entry
use Rattle.alg_registry.specs.Rows.{gets, puts, first_of, claims, ends, end_of, begun_by, larvals_from}
use Rattle.alg_registry.specs.Legal.{IsRight, MayFollow, LegalReg, gets_as, puts_as, HasReference, claimer, ended_as}
use Rattle.alg_registry.specs.Room.{opens, closes, owed}
use Rattle.alg_registry.proofs.Steps.{count_by-push, bit}

-- a taking, or a giving back, that the test of caller and id passes
abbrev pub gets_where : (ℕ → ℕ → Bool) → RegEntry → Bool
gets_where p (Get caller id ok) = ok && p caller id
gets_where p _ = false

abbrev pub puts_where : (ℕ → ℕ → Bool) → RegEntry → Bool
puts_where p (Put caller id) = p caller id
puts_where p _ = false

abbrev claims_where : (ℕ → Bool) → RegEntry → Bool
claims_where q (Claim caller larval) = q larval
claims_where q _ = false

abbrev ends_where : (ℕ → Bool) → RegEntry → Bool
ends_where q (End caller larval answer) = q larval
ends_where q _ = false

pub count_cons : (p : RegEntry → Bool) (e : RegEntry) (h : List RegEntry) → count_by p (e ∷ h) ≡ bit (p e) + count_by p h
count_cons p e h = omega (arith, sum_by-append (λ (x : RegEntry). cond (p x) 1 0) (e ∷ []) h)

count_split : (a b c : RegEntry → Bool) → ((e : RegEntry) → bit (a e) ≡ bit (b e) + bit (c e)) → (h : List RegEntry) → count_by a h ≡ count_by b h + count_by c h
count_split a b c split [] = refl
count_split a b c split (e ∷ h) = omega (arith, count_cons a e h, count_cons b e h, count_cons c e h, split e, count_split a b c split h)

pub count_same : (a b : RegEntry → Bool) → ((e : RegEntry) → a e ≡ b e) → (h : List RegEntry) → count_by a h ≡ count_by b h
count_same a b same [] = refl
count_same a b same (e ∷ h) = omega (arith, count_cons a e h, count_cons b e h, ap bit (same e), count_same a b same h)

-- the test, but for one caller and id
abbrev but : (ℕ → ℕ → Bool) → ℕ → ℕ → ℕ → ℕ → Bool
but p caller id c i = p c i && not (eqb c caller && eqb i id)

abbrev but_one : (ℕ → Bool) → ℕ → ℕ → Bool
but_one q n m = q m && not (eqb m n)

split_pair : (p : ℕ → ℕ → Bool) (caller id c i : ℕ) → p caller id ≡ true → bit (p c i) ≡ bit (but p caller id c i) + bit (eqb c caller && eqb i id)
split_pair p caller id c i is = here (eqb c caller) (eqb i id) refl refl
  where
    both : eqb c caller ≡ true → eqb i id ≡ true → p c i ≡ true
    both e f =
        let e' : c ≡ caller = grind (arith, nat_tests) in
        let f' : i ≡ id = grind (arith, nat_tests) in
        (λ k. p (e' k) (f' k)) ∙ is

    here : (a b : Bool) → eqb c caller ≡ a → eqb i id ≡ b → bit (p c i) ≡ bit (p c i && not (a && b)) + bit (a && b)
    here true true e f = rw (both e f)
    here true false e f = plain (p c i)
      where
        plain : (x : Bool) → bit x ≡ bit (x && true) + 0
        plain true = refl
        plain false = refl
    here false b e f = plain (p c i)
      where
        plain : (x : Bool) → bit x ≡ bit (x && true) + 0
        plain true = refl
        plain false = refl

split_gets : (p : ℕ → ℕ → Bool) (caller id : ℕ) → p caller id ≡ true → (e : RegEntry) → bit (gets_where p e) ≡ bit (gets_where (but p caller id) e) + bit (gets_as caller id e)
split_gets p caller id is (Get c i true) = split_pair p caller id c i is
split_gets p caller id is (Get c i false) = refl
split_gets p caller id is (Enlist c spec answer) = refl
split_gets p caller id is (Look c text plain answer) = refl
split_gets p caller id is (Claim c larval) = refl
split_gets p caller id is (End c larval answer) = refl
split_gets p caller id is (Waited c larval) = refl
split_gets p caller id is (Unlist c driver answer) = refl
split_gets p caller id is (Put c given) = refl
split_gets p caller id is (Refs c driver) = refl
split_gets p caller id is (entry.List c) = refl

split_puts : (p : ℕ → ℕ → Bool) (caller id : ℕ) → p caller id ≡ true → (e : RegEntry) → bit (puts_where p e) ≡ bit (puts_where (but p caller id) e) + bit (puts_as caller id e)
split_puts p caller id is (Put c i) = split_pair p caller id c i is
split_puts p caller id is (Get c i ok) = refl
split_puts p caller id is (Enlist c spec answer) = refl
split_puts p caller id is (Look c text plain answer) = refl
split_puts p caller id is (Claim c larval) = refl
split_puts p caller id is (End c larval answer) = refl
split_puts p caller id is (Waited c larval) = refl
split_puts p caller id is (Unlist c driver answer) = refl
split_puts p caller id is (Refs c driver) = refl
split_puts p caller id is (entry.List c) = refl

-- of whichever callers and ids, no more is given back than was taken
abbrev IsBalanced : List RegEntry → Type 0
IsBalanced h = (p : ℕ → ℕ → Bool) → count_by (puts_where p) h ≤ count_by (gets_where p) h

balanced_put : (h : List RegEntry) (caller id : ℕ) (p : ℕ → ℕ → Bool) → IsBalanced h → HasReference h caller id → p caller id ≡ true → count_by (puts_where p) h < count_by (gets_where p) h
balanced_put h caller id p balanced has is =
    let g : count_by (gets_where p) h ≡ count_by (gets_where (but p caller id)) h + count_by (gets_as caller id) h = count_split (gets_where p) (gets_where (but p caller id)) (gets_as caller id) (split_gets p caller id is) h in
    let q : count_by (puts_where p) h ≡ count_by (puts_where (but p caller id)) h + count_by (puts_as caller id) h = count_split (puts_where p) (puts_where (but p caller id)) (puts_as caller id) (split_puts p caller id is) h in
    let b : count_by (puts_where (but p caller id)) h ≤ count_by (gets_where (but p caller id)) h = balanced (but p caller id) in
    omega arith

balanced_push : (h : List RegEntry) (e : RegEntry) → IsBalanced h → IsRight h e → IsBalanced (h ++ e ∷ [])
balanced_push h e balanced right p = step e right
  where
    more : (e : RegEntry) → count_by (puts_where p) h + bit (puts_where p e) ≤ count_by (gets_where p) h + bit (gets_where p e) → count_by (puts_where p) (h ++ e ∷ []) ≤ count_by (gets_where p) (h ++ e ∷ [])
    more e le = omega (arith, count_by-push (puts_where p) h e, count_by-push (gets_where p) h e)

    put : (caller id : ℕ) → HasReference h caller id → (b : Bool) → p caller id ≡ b → count_by (puts_where p) h + bit b ≤ count_by (gets_where p) h + 0
    put caller id has true is = omega (arith, balanced_put h caller id p balanced has is)
    put caller id has false is = omega (arith, balanced p)

    step : (e : RegEntry) → IsRight h e → count_by (puts_where p) (h ++ e ∷ []) ≤ count_by (gets_where p) (h ++ e ∷ [])
    step (Put caller id) right = more (Put caller id) (put caller id right.1 (p caller id) refl)
    step (Get caller id ok) right = more (Get caller id ok) (omega (arith, balanced p))
    step (Enlist c spec answer) right = more (Enlist c spec answer) (omega (arith, balanced p))
    step (Look c text plain answer) right = more (Look c text plain answer) (omega (arith, balanced p))
    step (Claim c larval) right = more (Claim c larval) (omega (arith, balanced p))
    step (End c larval answer) right = more (End c larval answer) (omega (arith, balanced p))
    step (Waited c larval) right = more (Waited c larval) (omega (arith, balanced p))
    step (Unlist c driver answer) right = more (Unlist c driver answer) (omega (arith, balanced p))
    step (Refs c driver) right = more (Refs c driver) (omega (arith, balanced p))
    step (entry.List c) right = more (entry.List c) (omega (arith, balanced p))

balanced_after : (before h : List RegEntry) → IsBalanced before → MayFollow before h → IsBalanced (before ++ h)
balanced_after before [] balanced legal = subst IsBalanced (sym (append-nil before)) balanced
balanced_after before (e ∷ h) balanced legal = subst IsBalanced (append_assoc before (e ∷ []) h) (balanced_after (before ++ e ∷ []) h (balanced_push before e balanced legal.0) legal.1)

pub balanced : (h : List RegEntry) → LegalReg h → IsBalanced h
balanced h legal = balanced_after [] h (λ p. omega arith) legal

-- the same of larvals that the test passes
split_larval : (q : ℕ → Bool) (n m : ℕ) → q n ≡ true → bit (q m) ≡ bit (but_one q n m) + bit (eqb m n)
split_larval q n m is = here (eqb m n) refl
  where
    plain : (x : Bool) → bit x ≡ bit (x && true) + 0
    plain true = refl
    plain false = refl

    same : eqb m n ≡ true → q m ≡ true
    same e = let e' : m ≡ n = grind (arith, nat_tests) in ap q e' ∙ is

    here : (a : Bool) → eqb m n ≡ a → bit (q m) ≡ bit (q m && not a) + bit a
    here true e = rw (same e)
    here false e = plain (q m)

split_claims : (q : ℕ → Bool) (n : ℕ) → q n ≡ true → (e : RegEntry) → bit (claims_where q e) ≡ bit (claims_where (but_one q n) e) + bit (claims_where (λ m. eqb m n) e)
split_claims q n is (Claim c m) = split_larval q n m is
split_claims q n is (Put c i) = refl
split_claims q n is (Get c i ok) = refl
split_claims q n is (Enlist c spec answer) = refl
split_claims q n is (Look c text plain answer) = refl
split_claims q n is (End c larval answer) = refl
split_claims q n is (Waited c larval) = refl
split_claims q n is (Unlist c driver answer) = refl
split_claims q n is (Refs c driver) = refl
split_claims q n is (entry.List c) = refl

split_ends : (q : ℕ → Bool) (n : ℕ) → q n ≡ true → (e : RegEntry) → bit (ends_where q e) ≡ bit (ends_where (but_one q n) e) + bit (ends_where (λ m. eqb m n) e)
split_ends q n is (End c m answer) = split_larval q n m is
split_ends q n is (Claim c m) = refl
split_ends q n is (Put c i) = refl
split_ends q n is (Get c i ok) = refl
split_ends q n is (Enlist c spec answer) = refl
split_ends q n is (Look c text plain answer) = refl
split_ends q n is (Waited c larval) = refl
split_ends q n is (Unlist c driver answer) = refl
split_ends q n is (Refs c driver) = refl
split_ends q n is (entry.List c) = refl

abbrev IsFinished : List RegEntry → Type 0
IsFinished h = (q : ℕ → Bool) → count_by (ends_where q) h ≤ count_by (claims_where q) h

-- a larval with a claimer has a claim
some_claim : (n caller : ℕ) (h : List RegEntry) → first_of (claims n) h ≡ Some caller → 0 < count_by (claims_where (λ m. eqb m n)) h
some_claim n caller [] is = absurd cc
some_claim n caller (Claim c m ∷ h) is = omega (arith, count_cons (claims_where (λ m. eqb m n)) (Claim c m) h, here (eqb m n) refl (some_claim n caller h))
  where
    here : (b : Bool) → eqb m n ≡ b → (first_of (claims n) h ≡ Some caller → 0 < count_by (claims_where (λ m. eqb m n)) h) → 0 < bit (eqb m n) + count_by (claims_where (λ m. eqb m n)) h
    here true e rest = omega (arith, ap bit e)
    here false e rest =
        let later : first_of (claims n) h ≡ Some caller = subst (λ b. option_or (cond b (Some c) None) (first_of (claims n) h) ≡ Some caller) e is in
        omega (arith, rest later)
some_claim n caller (Put c i ∷ h) is = omega (arith, count_cons (claims_where (λ m. eqb m n)) (Put c i) h, some_claim n caller h is)
some_claim n caller (Get c i ok ∷ h) is = omega (arith, count_cons (claims_where (λ m. eqb m n)) (Get c i ok) h, some_claim n caller h is)
some_claim n caller (Enlist c spec answer ∷ h) is = omega (arith, count_cons (claims_where (λ m. eqb m n)) (Enlist c spec answer) h, some_claim n caller h is)
some_claim n caller (Look c text plain answer ∷ h) is = omega (arith, count_cons (claims_where (λ m. eqb m n)) (Look c text plain answer) h, some_claim n caller h is)
some_claim n caller (End c m answer ∷ h) is = omega (arith, count_cons (claims_where (λ m. eqb m n)) (End c m answer) h, some_claim n caller h is)
some_claim n caller (Waited c m ∷ h) is = omega (arith, count_cons (claims_where (λ m. eqb m n)) (Waited c m) h, some_claim n caller h is)
some_claim n caller (Unlist c driver answer ∷ h) is = omega (arith, count_cons (claims_where (λ m. eqb m n)) (Unlist c driver answer) h, some_claim n caller h is)
some_claim n caller (Refs c driver ∷ h) is = omega (arith, count_cons (claims_where (λ m. eqb m n)) (Refs c driver) h, some_claim n caller h is)
some_claim n caller (entry.List c ∷ h) is = omega (arith, count_cons (claims_where (λ m. eqb m n)) (entry.List c) h, some_claim n caller h is)

-- one with no end has none
no_end : (n : ℕ) (h : List RegEntry) → first_of (ends n) h ≡ None → count_by (ends_where (λ m. eqb m n)) h ≡ 0
no_end n [] is = refl
no_end n (End c m answer ∷ h) is = omega (arith, count_cons (ends_where (λ m. eqb m n)) (End c m answer) h, here (eqb m n) refl (no_end n h))
  where
    here : (b : Bool) → eqb m n ≡ b → (first_of (ends n) h ≡ None → count_by (ends_where (λ m. eqb m n)) h ≡ 0) → bit (eqb m n) + count_by (ends_where (λ m. eqb m n)) h ≡ 0
    here true e rest =
        let never : Some (end_of answer) ≡ None = subst (λ b. option_or (cond b (Some (end_of answer)) None) (first_of (ends n) h) ≡ None) e is in
        absurd cc
    here false e rest =
        let later : first_of (ends n) h ≡ None = subst (λ b. option_or (cond b (Some (end_of answer)) None) (first_of (ends n) h) ≡ None) e is in
        omega (arith, ap bit e, rest later)
no_end n (Claim c m ∷ h) is = omega (arith, count_cons (ends_where (λ m. eqb m n)) (Claim c m) h, no_end n h is)
no_end n (Put c i ∷ h) is = omega (arith, count_cons (ends_where (λ m. eqb m n)) (Put c i) h, no_end n h is)
no_end n (Get c i ok ∷ h) is = omega (arith, count_cons (ends_where (λ m. eqb m n)) (Get c i ok) h, no_end n h is)
no_end n (Enlist c spec answer ∷ h) is = omega (arith, count_cons (ends_where (λ m. eqb m n)) (Enlist c spec answer) h, no_end n h is)
no_end n (Look c text plain answer ∷ h) is = omega (arith, count_cons (ends_where (λ m. eqb m n)) (Look c text plain answer) h, no_end n h is)
no_end n (Waited c m ∷ h) is = omega (arith, count_cons (ends_where (λ m. eqb m n)) (Waited c m) h, no_end n h is)
no_end n (Unlist c driver answer ∷ h) is = omega (arith, count_cons (ends_where (λ m. eqb m n)) (Unlist c driver answer) h, no_end n h is)
no_end n (Refs c driver ∷ h) is = omega (arith, count_cons (ends_where (λ m. eqb m n)) (Refs c driver) h, no_end n h is)
no_end n (entry.List c ∷ h) is = omega (arith, count_cons (ends_where (λ m. eqb m n)) (entry.List c) h, no_end n h is)

larval_claimer : (h : List RegEntry) (first n : ℕ) (texts : List (List ℕ)) (caller : ℕ) → option_and_then (λ larval. larval.claimed) (slice_get (larvals_from h first texts) n) ≡ Some caller → first_of (claims (first + n)) h ≡ Some caller
larval_claimer h first n [] caller is = absurd cc
larval_claimer h first zero (text ∷ texts) caller is =
    let e : first ≡ first + 0 = omega arith in
    subst (λ k. first_of (claims k) h ≡ Some caller) e is
larval_claimer h first (suc n) (text ∷ texts) caller is =
    let e : (first + 1) + n ≡ first + suc n = omega arith in
    subst (λ k. first_of (claims k) h ≡ Some caller) e (larval_claimer h (first + 1) n texts caller is)

larval_ended : (h : List RegEntry) (first n : ℕ) (texts : List (List ℕ)) (caller : ℕ) → option_and_then (λ larval. larval.claimed) (slice_get (larvals_from h first texts) n) ≡ Some caller
    → option_and_then (λ larval. larval.ended) (slice_get (larvals_from h first texts) n) ≡ None → first_of (ends (first + n)) h ≡ None
larval_ended h first n [] caller has is = absurd cc
larval_ended h first zero (text ∷ texts) caller has is =
    let e : first ≡ first + 0 = omega arith in
    subst (λ k. first_of (ends k) h ≡ None) e is
larval_ended h first (suc n) (text ∷ texts) caller has is =
    let e : (first + 1) + n ≡ first + suc n = omega arith in
    subst (λ k. first_of (ends k) h ≡ None) e (larval_ended h (first + 1) n texts caller has is)

finished_end : (h : List RegEntry) (caller n : ℕ) (q : ℕ → Bool) → IsFinished h → claimer h n ≡ Some caller → ended_as h n ≡ None → q n ≡ true → count_by (ends_where q) h < count_by (claims_where q) h
finished_end h caller n q finished claimed unended is =
    let z : 0 + n ≡ n = omega arith in
    let c : count_by (claims_where q) h ≡ count_by (claims_where (but_one q n)) h + count_by (claims_where (λ m. eqb m n)) h = count_split (claims_where q) (claims_where (but_one q n)) (claims_where (λ m. eqb m n)) (split_claims q n is) h in
    let e : count_by (ends_where q) h ≡ count_by (ends_where (but_one q n)) h + count_by (ends_where (λ m. eqb m n)) h = count_split (ends_where q) (ends_where (but_one q n)) (ends_where (λ m. eqb m n)) (split_ends q n is) h in
    let some : 0 < count_by (claims_where (λ m. eqb m n)) h = some_claim n caller h (subst (λ k. first_of (claims k) h ≡ Some caller) z (larval_claimer h 0 n (filter_map begun_by h) caller claimed)) in
    let none : count_by (ends_where (λ m. eqb m n)) h ≡ 0 = no_end n h (subst (λ k. first_of (ends k) h ≡ None) z (larval_ended h 0 n (filter_map begun_by h) caller claimed unended)) in
    let b : count_by (ends_where (but_one q n)) h ≤ count_by (claims_where (but_one q n)) h = finished (but_one q n) in
    omega arith

finished_push : (h : List RegEntry) (e : RegEntry) → IsFinished h → IsRight h e → IsFinished (h ++ e ∷ [])
finished_push h e finished right q = step e right
  where
    more : (e : RegEntry) → count_by (ends_where q) h + bit (ends_where q e) ≤ count_by (claims_where q) h + bit (claims_where q e) → count_by (ends_where q) (h ++ e ∷ []) ≤ count_by (claims_where q) (h ++ e ∷ [])
    more e le = omega (arith, count_by-push (ends_where q) h e, count_by-push (claims_where q) h e)

    ending : (caller n : ℕ) → claimer h n ≡ Some caller → ended_as h n ≡ None → (b : Bool) → q n ≡ b → count_by (ends_where q) h + bit b ≤ count_by (claims_where q) h + 0
    ending caller n claimed unended true is = omega (arith, finished_end h caller n q finished claimed unended is)
    ending caller n claimed unended false is = omega (arith, finished q)

    step : (e : RegEntry) → IsRight h e → count_by (ends_where q) (h ++ e ∷ []) ≤ count_by (claims_where q) (h ++ e ∷ [])
    step (End caller n answer) right = more (End caller n answer) (ending caller n right.0 right.1 (q n) refl)
    step (Put caller id) right = more (Put caller id) (omega (arith, finished q))
    step (Get caller id ok) right = more (Get caller id ok) (omega (arith, finished q))
    step (Enlist c spec answer) right = more (Enlist c spec answer) (omega (arith, finished q))
    step (Look c text plain answer) right = more (Look c text plain answer) (omega (arith, finished q))
    step (Claim c larval) right = more (Claim c larval) (omega (arith, finished q))
    step (Waited c larval) right = more (Waited c larval) (omega (arith, finished q))
    step (Unlist c driver answer) right = more (Unlist c driver answer) (omega (arith, finished q))
    step (Refs c driver) right = more (Refs c driver) (omega (arith, finished q))
    step (entry.List c) right = more (entry.List c) (omega (arith, finished q))

finished_after : (before h : List RegEntry) → IsFinished before → MayFollow before h → IsFinished (before ++ h)
finished_after before [] finished legal = subst IsFinished (sym (append-nil before)) finished
finished_after before (e ∷ h) finished legal = subst IsFinished (append_assoc before (e ∷ []) h) (finished_after (before ++ e ∷ []) h (finished_push before e finished legal.0) legal.1)

finished : (h : List RegEntry) → LegalReg h → IsFinished h
finished h legal = finished_after [] h (λ q. omega arith) legal

opens_split : (e : RegEntry) → bit (opens e) ≡ bit (gets_where (λ c i. true) e) + bit (claims_where (λ m. true) e)
opens_split (Get c i true) = refl
opens_split (Get c i false) = refl
opens_split (Claim c larval) = refl
opens_split (Put c given) = refl
opens_split (Enlist c spec answer) = refl
opens_split (Look c text plain answer) = refl
opens_split (End c larval answer) = refl
opens_split (Waited c larval) = refl
opens_split (Unlist c driver answer) = refl
opens_split (Refs c driver) = refl
opens_split (entry.List c) = refl

closes_split : (e : RegEntry) → bit (closes e) ≡ bit (puts_where (λ c i. true) e) + bit (ends_where (λ m. true) e)
closes_split (Put c given) = refl
closes_split (End c larval answer) = refl
closes_split (Get c i ok) = refl
closes_split (Claim c larval) = refl
closes_split (Enlist c spec answer) = refl
closes_split (Look c text plain answer) = refl
closes_split (Waited c larval) = refl
closes_split (Unlist c driver answer) = refl
closes_split (Refs c driver) = refl
closes_split (entry.List c) = refl

opens_are : (h : List RegEntry) → count_by opens h ≡ count_by (gets_where (λ c i. true)) h + count_by (claims_where (λ m. true)) h
opens_are h = count_split opens (gets_where (λ c i. true)) (claims_where (λ m. true)) opens_split h

closes_are : (h : List RegEntry) → count_by closes h ≡ count_by (puts_where (λ c i. true)) h + count_by (ends_where (λ m. true)) h
closes_are h = count_split closes (puts_where (λ c i. true)) (ends_where (λ m. true)) closes_split h

-- and less where a reference may be given back
pub closes-lt-put : (h : List RegEntry) (caller id : ℕ) → LegalReg h → HasReference h caller id → count_by closes h < count_by opens h
closes-lt-put h caller id legal has = omega (arith, opens_are h, closes_are h, balanced_put h caller id (λ c i. true) (balanced h legal) has refl, finished h legal (λ m. true))

-- or where a larval may end
pub closes-lt-end : (h : List RegEntry) (caller n : ℕ) → LegalReg h → claimer h n ≡ Some caller → ended_as h n ≡ None → count_by closes h < count_by opens h
closes-lt-end h caller n legal claimed unended = omega (arith, opens_are h, closes_are h, balanced h legal (λ c i. true), finished_end h caller n (λ m. true) (finished h legal) claimed unended refl)

-- so there is room for the entry that follows
pub owed-put : (h : List RegEntry) (caller id : ℕ) → LegalReg h → HasReference h caller id → 0 < owed h
owed-put h caller id legal has = omega (arith, closes-lt-put h caller id legal has)

pub owed-end : (h : List RegEntry) (caller n : ℕ) → LegalReg h → claimer h n ≡ Some caller → ended_as h n ≡ None → 0 < owed h
owed-end h caller n legal claimed unended = omega (arith, closes-lt-end h caller n legal claimed unended)

gets_any : (id : ℕ) (e : RegEntry) → gets id e ≡ gets_where (λ c i. eqb i id) e
gets_any id (Get c i ok) = refl
gets_any id (Put c given) = refl
gets_any id (Enlist c spec answer) = refl
gets_any id (Look c text plain answer) = refl
gets_any id (Claim c larval) = refl
gets_any id (End c larval answer) = refl
gets_any id (Waited c larval) = refl
gets_any id (Unlist c driver answer) = refl
gets_any id (Refs c driver) = refl
gets_any id (entry.List c) = refl

puts_any : (id : ℕ) (e : RegEntry) → puts id e ≡ puts_where (λ c i. eqb i id) e
puts_any id (Put c given) = refl
puts_any id (Get c i ok) = refl
puts_any id (Enlist c spec answer) = refl
puts_any id (Look c text plain answer) = refl
puts_any id (Claim c larval) = refl
puts_any id (End c larval answer) = refl
puts_any id (Waited c larval) = refl
puts_any id (Unlist c driver answer) = refl
puts_any id (Refs c driver) = refl
puts_any id (entry.List c) = refl

-- of each entry no more is given back than was taken
pub puts-le : (h : List RegEntry) (id : ℕ) → LegalReg h → count_by (puts id) h ≤ count_by (gets id) h
puts-le h id legal = omega (arith, count_same (puts id) (puts_where (λ c i. eqb i id)) (puts_any id) h, count_same (gets id) (gets_where (λ c i. eqb i id)) (gets_any id) h, balanced h legal (λ c i. eqb i id))

self_equal : (a : ℕ) → eqb a a ≡ true
self_equal a = grind (arith, nat_tests)

pub puts-lt : (h : List RegEntry) (caller id : ℕ) → LegalReg h → HasReference h caller id → count_by (puts id) h < count_by (gets id) h
puts-lt h caller id legal has = omega (arith, count_same (puts id) (puts_where (λ c i. eqb i id)) (puts_any id) h, count_same (gets id) (gets_where (λ c i. eqb i id)) (gets_any id) h, balanced_put h caller id (λ c i. eqb i id) (balanced h legal) has (self_equal id))
