use Rattle.std.proofs.Common.{◌≡◌, ℕ, ◌+◌, Bool, true, false, cond, List, [], ◌∷◌, ◌++◌, length, Option, Some, None, refl, sym, ◌∙◌, ap, arith, length-append}
use Rattle.std.specs.Prelude.{◌==◌, sum_by}
use Rattle.std.specs.declared.collections.BTreeMap.{BTreeMap}
use Rattle.std.specs.Global.{Global}
use Rattle.std.proofs.lemmas.Bool.{eqb-true, eq-eqb, false_from_ne_true, both_ways}
use Rattle.std.proofs.lemmas.List.Sums.{sum_by-append}
use Rattle.board.specs.declared.entry.BoardEntry.{BoardEntry}
use Rattle.board.specs.Entries.{caller_of, accepted_in}
use Rattle.board.specs.declared.allowance.Used.{Used}
use Rattle.board.specs.Allowance.{used_at, used_in, accepted_from, accepted_by, IsKeptUsed}
use Rattle.board.proofs.Lists.{filter_map-none, filter_map-some}

pub nothing_from : {A : Type 0} (b : Bool) (o : Option A) → o ≡ None → cond b o None ≡ None
nothing_from true o h = h
nothing_from false o h = refl

-- an entry that accepts nothing leaves what each caller has used
pub used_same : {A : Type 0} (weight : A → ℕ) (used : BTreeMap ℕ Used Global) (h : List (BoardEntry A)) (e : BoardEntry A) → accepted_in e ≡ None → IsKeptUsed weight used h → IsKeptUsed weight used (h ++ e ∷ [])
used_same weight used h e n k = λ c. rw (filter_map-none (accepted_from c) h e (nothing_from (caller_of e == c) (accepted_in e) n)) (k c)

used_cases : {A : Type 0} (weight : A → ℕ) (h : List (BoardEntry A)) (e : BoardEntry A) (a : A) (c : ℕ) (b : Bool) → (caller_of e == c) ≡ b → accepted_in e ≡ Some a
    → ◌≡◌ {A = Used} (cond {A = Used} b (record { requests = length (accepted_by c h) + 1; bytes = sum_by weight (accepted_by c h) + weight a }) (used_in weight h c)) (used_in weight (h ++ e ∷ []) c)
used_cases weight h e a c true s n =
    let f = filter_map-some (accepted_from c) h e a (ap (λ b. cond b (accepted_in e) None) s ∙ n) in
    let l : length (accepted_by c h ++ a ∷ []) ≡ length (accepted_by c h) + 1 = length-append (accepted_by c h) (a ∷ []) in
    let q : sum_by weight (accepted_by c h ++ a ∷ []) ≡ sum_by weight (accepted_by c h) + weight a = (let x = sum_by-append weight (accepted_by c h) (a ∷ []) in omega arith) in
    rw (f, l, q) refl
used_cases weight h e a c false s n = rw (filter_map-none (accepted_from c) h e (ap (λ b. cond b (accepted_in e) None) s)) refl

more_cases : {A : Type 0} (weight : A → ℕ) (used : BTreeMap ℕ Used Global) (h : List (BoardEntry A)) (e : BoardEntry A) (a : A) (size : ℕ) → accepted_in e ≡ Some a → size ≡ weight a → IsKeptUsed weight used h → (c : ℕ) (b : Bool) → (c == caller_of e) ≡ b
    → ◌≡◌ {A = Used} (cond {A = Used} b (record { requests = (used_at used (caller_of e)).requests + 1; bytes = (used_at used (caller_of e)).bytes + size }) (used_at used c)) (used_in weight (h ++ e ∷ []) c)
more_cases weight used h e a size v z k c true s =
    let q : c ≡ caller_of e = eqb-true c (caller_of e) s in
    rw (q, k (caller_of e), z) (used_cases weight h e a (caller_of e) true (eq-eqb (caller_of e) (caller_of e) refl) v)
more_cases weight used h e a size v z k c false s =
    rw (k c) (used_cases weight h e a c false (false_from_ne_true (caller_of e == c) (λ g. both_ways (c == caller_of e) s (eq-eqb c (caller_of e) (sym (eqb-true (caller_of e) c g))))) v)

-- what an accepted request adds to what its caller has used
pub used_more : {A : Type 0} (weight : A → ℕ) (used after : BTreeMap ℕ Used Global) (h : List (BoardEntry A)) (e : BoardEntry A) (a : A) (size : ℕ) → accepted_in e ≡ Some a → size ≡ weight a → IsKeptUsed weight used h
    → ((c : ℕ) → used_at after c ≡ cond {A = Used} (c == caller_of e) (record { requests = (used_at used (caller_of e)).requests + 1; bytes = (used_at used (caller_of e)).bytes + size }) (used_at used c))
    → IsKeptUsed weight after (h ++ e ∷ [])
used_more weight used after h e a size v z k s = λ c. s c ∙ more_cases weight used h e a size v z k c (c == caller_of e) refl
