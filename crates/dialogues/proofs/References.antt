-- The references that a caller has, counted over its history and over its calls.
use Rattle.std.proofs.Common.{◌≡◌, ℕ, ◌+◌, Bool, true, false, cond, List, [], ◌∷◌, ◌++◌, length, Some, None, refl, sym, ap, ◌∙◌, append_assoc, append-nil, arith}
use Rattle.std.specs.Prelude.{◌&&◌, ◌==◌, if◌then◌else◌, count_by, filter}
use Rattle.alg_registry.specs.declared.entry.RegEntry.{RegEntry}
use Rattle.alg_registry.specs.declared.entry.RegEntry.TheVariants as entry
use Rattle.alg_registry.specs.Legal.{gets_as, puts_as}
use Rattle.alg_registry.proofs.Steps.{count_by-push}
use Rattle.alg_registry.specs.Rows.{caller_of}
use Rattle.std.proofs.lemmas.List.Sums.{length-filter}
use Rattle.dialogues.specs.RegistryCalls.{RegCall, Gets, Puts, reg_calls, reg_calls_from, reg_call_of, prepend}
use Rattle.dialogues.specs.References.{is_get, is_put, got, given, ReferencesFollow}

-- a call that is no get, whoever makes it
no-get : (id : ℕ) (b : Bool) (call : RegCall) (rest : List RegCall) → is_get id call ≡ false → got id (prepend (if b then Some call else None) rest) ≡ got id rest
no-get id true call rest e = ap (λ c. cond c 1 0 + got id rest) e ∙ (omega arith)
no-get id false call rest e = refl

no-put : (id : ℕ) (b : Bool) (call : RegCall) (rest : List RegCall) → is_put id call ≡ false → given id (prepend (if b then Some call else None) rest) ≡ given id rest
no-put id true call rest e = ap (λ c. cond c 1 0 + given id rest) e ∙ (omega arith)
no-put id false call rest e = refl

get-counts : (id of : ℕ) (ok own : Bool) (rest : List RegCall) → got id (prepend (if own then Some (Gets of ok) else None) rest) ≡ cond (ok && own && of == id) 1 0 + got id rest
get-counts id of true true rest = refl
get-counts id of true false rest = omega arith
get-counts id of false true rest = refl
get-counts id of false false rest = omega arith

put-counts : (id of : ℕ) (own : Bool) (rest : List RegCall) → given id (prepend (if own then Some (Puts of) else None) rest) ≡ cond (own && of == id) 1 0 + given id rest
put-counts id of true rest = refl
put-counts id of false rest = omega arith

got-first : (h : List RegEntry) (caller id : ℕ) (before : List RegEntry) (e : RegEntry) (rest : List RegCall) → got id (prepend (reg_call_of h caller before e) rest) ≡ cond (gets_as caller id e) 1 0 + got id rest
got-first h caller id before (entry.Enlist by spec answer) rest = no-get id (by == caller) _ rest refl ∙ omega arith
got-first h caller id before (entry.Look by text true answer) rest = omega arith
got-first h caller id before (entry.Look by text false answer) rest = no-get id (by == caller) _ rest refl ∙ omega arith
got-first h caller id before (entry.Unlist by driver answer) rest = no-get id (by == caller) _ rest refl ∙ omega arith
got-first h caller id before (entry.Get by of ok) rest = get-counts id of ok (by == caller) rest
got-first h caller id before (entry.Put by of) rest = no-get id (by == caller) _ rest refl ∙ omega arith
got-first h caller id before (entry.Refs by driver) rest = no-get id (by == caller) _ rest refl ∙ omega arith
got-first h caller id before (entry.List by) rest = no-get id (by == caller) _ rest refl ∙ omega arith
got-first h caller id before (entry.Claim by larval) rest = omega arith
got-first h caller id before (entry.End by larval answer) rest = omega arith
got-first h caller id before (entry.Waited by larval) rest = omega arith

given-first : (h : List RegEntry) (caller id : ℕ) (before : List RegEntry) (e : RegEntry) (rest : List RegCall) → given id (prepend (reg_call_of h caller before e) rest) ≡ cond (puts_as caller id e) 1 0 + given id rest
given-first h caller id before (entry.Enlist by spec answer) rest = no-put id (by == caller) _ rest refl ∙ omega arith
given-first h caller id before (entry.Look by text true answer) rest = omega arith
given-first h caller id before (entry.Look by text false answer) rest = no-put id (by == caller) _ rest refl ∙ omega arith
given-first h caller id before (entry.Unlist by driver answer) rest = no-put id (by == caller) _ rest refl ∙ omega arith
given-first h caller id before (entry.Get by of ok) rest = no-put id (by == caller) _ rest refl ∙ omega arith
given-first h caller id before (entry.Put by of) rest = put-counts id of (by == caller) rest
given-first h caller id before (entry.Refs by driver) rest = no-put id (by == caller) _ rest refl ∙ omega arith
given-first h caller id before (entry.List by) rest = no-put id (by == caller) _ rest refl ∙ omega arith
given-first h caller id before (entry.Claim by larval) rest = omega arith
given-first h caller id before (entry.End by larval answer) rest = omega arith
given-first h caller id before (entry.Waited by larval) rest = omega arith

got-from : (h : List RegEntry) (caller id : ℕ) (before entries : List RegEntry) → count_by (gets_as caller id) (before ++ entries) ≡ count_by (gets_as caller id) before + got id (reg_calls_from h caller before entries)
got-from h caller id before [] = ap (count_by (gets_as caller id)) (append-nil before) ∙ omega arith
got-from h caller id before (e ∷ es) =
    ap (count_by (gets_as caller id)) (sym (append_assoc before (e ∷ []) es))
    ∙ (got-from h caller id (before ++ e ∷ []) es
    ∙ (let a = count_by-push (gets_as caller id) before e in
    let b = got-first h caller id before e (reg_calls_from h caller (before ++ e ∷ []) es) in
    omega (arith, a, b)))

given-from : (h : List RegEntry) (caller id : ℕ) (before entries : List RegEntry) → count_by (puts_as caller id) (before ++ entries) ≡ count_by (puts_as caller id) before + given id (reg_calls_from h caller before entries)
given-from h caller id before [] = ap (count_by (puts_as caller id)) (append-nil before) ∙ omega arith
given-from h caller id before (e ∷ es) =
    ap (count_by (puts_as caller id)) (sym (append_assoc before (e ∷ []) es))
    ∙ (given-from h caller id (before ++ e ∷ []) es
    ∙ (let a = count_by-push (puts_as caller id) before e in
    let b = given-first h caller id before e (reg_calls_from h caller (before ++ e ∷ []) es) in
    omega (arith, a, b)))

got-all : (caller id : ℕ) (h : List RegEntry) → count_by (gets_as caller id) h ≡ got id (reg_calls caller h)
unfolding reg_calls
got-all caller id h = got-from h caller id [] h ∙ omega arith

given-all : (caller id : ℕ) (h : List RegEntry) → count_by (puts_as caller id) h ≡ given id (reg_calls caller h)
unfolding reg_calls
given-all caller id h = given-from h caller id [] h ∙ omega arith

-- ---- over the caller's own entries alone

and-false : (a b c : Bool) → b ≡ false → (a && b && c) ≡ false
and-false true b c e = ap (λ x. x && c) e
and-false false b c e = refl

gets-own : (n id : ℕ) (e : RegEntry) → (caller_of e == n) ≡ false → gets_as n id e ≡ false
gets-own n id (entry.Get by of ok) e = and-false ok (by == n) (of == id) e
gets-own n id (entry.Enlist by spec answer) e = refl
gets-own n id (entry.Look by text plain answer) e = refl
gets-own n id (entry.Unlist by driver answer) e = refl
gets-own n id (entry.Put by of) e = refl
gets-own n id (entry.Refs by driver) e = refl
gets-own n id (entry.List by) e = refl
gets-own n id (entry.Claim by larval) e = refl
gets-own n id (entry.End by larval answer) e = refl
gets-own n id (entry.Waited by larval) e = refl

puts-own : (n id : ℕ) (e : RegEntry) → (caller_of e == n) ≡ false → puts_as n id e ≡ false
puts-own n id (entry.Put by of) e = ap (λ x. x && of == id) e
puts-own n id (entry.Get by of ok) e = refl
puts-own n id (entry.Enlist by spec answer) e = refl
puts-own n id (entry.Look by text plain answer) e = refl
puts-own n id (entry.Unlist by driver answer) e = refl
puts-own n id (entry.Refs by driver) e = refl
puts-own n id (entry.List by) e = refl
puts-own n id (entry.Claim by larval) e = refl
puts-own n id (entry.End by larval answer) e = refl
puts-own n id (entry.Waited by larval) e = refl

-- what a test says of those alone it says of all
filter-own : (p q : RegEntry → Bool) → ((e : RegEntry) → q e ≡ false → p e ≡ false) → (h : List RegEntry) → filter p (filter q h) ≡ filter p h
filter-own p q only [] = refl
filter-own p q only (e ∷ h) = by_test (q e) refl (filter-own p q only h)
  where
    by_test : (b : Bool) → q e ≡ b → filter p (filter q h) ≡ filter p h → filter p (if b then e ∷ filter q h else filter q h) ≡ filter p (e ∷ h)
    by_test true is rest = ap (λ xs. if p e then e ∷ xs else xs) rest
    by_test false is rest = rest ∙ ap (λ b. if b then e ∷ filter p h else filter p h) (sym (only e is))

count-own : (p q : RegEntry → Bool) → ((e : RegEntry) → q e ≡ false → p e ≡ false) → (h : List RegEntry) → count_by p (filter q h) ≡ count_by p h
count-own p q only h = sym (length-filter p (filter q h)) ∙ (ap length (filter-own p q only h) ∙ length-filter p h)

pub references-follow : ReferencesFollow
references-follow caller id h less =
    let q : RegEntry → Bool = λ e. caller_of e == caller in
    let a : count_by (gets_as caller id) (filter q h) ≡ got id (reg_calls caller h) = count-own (gets_as caller id) q (gets-own caller id) h ∙ got-all caller id h in
    let b : count_by (puts_as caller id) (filter q h) ≡ given id (reg_calls caller h) = count-own (puts_as caller id) q (puts-own caller id) h ∙ given-all caller id h in
    omega (arith, a, b, less)
