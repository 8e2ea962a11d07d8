-- What a name asks for is lighter than the name, and nested well.
use Rattle.std.proofs.Common.{◌≡◌, ◌≢◌, ℕ, zero, suc, ◌+◌, ◌*◌, ◌<◌, ◌≤◌, ◌⊎◌, inl, inr, Bool, true, false, not, ◌||◌, ◌&&◌, if◌then◌else◌, List, [], ◌∷◌, length, get_or, refl, ap, sym, ◌∙◌, subst, arith, Option, Some, None, Ok, codes}
use Rattle.std.specs.Str.{bytes_eq}
use Rattle.std.proofs.lemmas.Bool.{and_from}
use Rattle.alg_names.specs.Name.{Tree, Args, node, end, arg, word_of, args_of, list_of}
use Rattle.alg_names.specs.Built.{nodes, args_from}
use Rattle.alg_names.specs.Built.{nodes_at, args_from-list_of}
use Rattle.templates.specs.declared.template_words.Template.{Template}
use Rattle.templates.specs.declared.template_words.Template.TheVariants.{Gcm, CryptdPcrypt}
use Rattle.templates.specs.Nesting.{has_wrapper, any_wrapper, inner_args, is_nested_well, is_wrapper_word}
use Rattle.templates.specs.Table.{Arity, template_at, only_one, children_of, arity, asked_as, asked_by}
use Rattle.templates.specs.Table.Arity.{One, Two, Parts, Within}
use Rattle.templates.specs.Resolution.{weight}
use Rattle.templates.proofs.Words.{template_over, gcm_at, queued_at, is_queued}
use Rattle.templates.proofs.Wrappers.{any_at}

abbrev pub is_chain : Option Template → Bool
is_chain (Some CryptdPcrypt) = true
is_chain _ = false

-- it asks for its arguments
abbrev pub AsksOwn : Option Template → List Tree → List Tree → Type 0
AsksOwn o args names = (is_chain o ≡ false) × (names ≡ args)

-- it asks for a counter over its argument, and a hash
abbrev pub AsksParts : Option Template → List Tree → List Tree → Type 0
AsksParts o args names = (o ≡ Some Gcm) × (x : Tree) × (args ≡ x ∷ []) × (names ≡ node (codes "ctr") (arg x end) ∷ node (codes "ghash") end ∷ [])

-- it asks for what stands in its argument
abbrev pub AsksWithin : Option Template → List Tree → List Tree → Type 0
AsksWithin o args names = (o ≡ Some CryptdPcrypt) × (x : Tree) × (args ≡ x ∷ []) × (names ≡ args_of x)

one_only : (xs names : List Tree) → only_one xs ≡ Ok names → names ≡ xs
one_only [] names e = absurd cc
one_only (x ∷ []) names e = let f : names ≡ x ∷ [] = cc in f
one_only (x ∷ y ∷ xs) names e = absurd cc

not_chain : (t : Template) (a : Arity) → arity t ≡ a → a ≢ Within → is_chain (Some t) ≡ false
not_chain CryptdPcrypt a q other = absurd (other (sym q))
not_chain _ a q other = refl

has_parts : (t : Template) → arity t ≡ Parts → Some t ≡ Some Gcm
has_parts Gcm q = refl
has_parts _ q = absurd cc

has_within : (t : Template) → arity t ≡ Within → Some t ≡ Some CryptdPcrypt
has_within CryptdPcrypt q = refl
has_within _ q = absurd cc

by_arity : (t : Template) (a : Arity) (args names : List Tree) → arity t ≡ a → asked_as a args ≡ Ok names → AsksOwn (Some t) args names ⊎ (AsksParts (Some t) args names ⊎ AsksWithin (Some t) args names)
by_arity t One [] names q e = absurd cc
by_arity t One (x ∷ []) names q e = inl (not_chain t One q (λ f. cc), let f : names ≡ x ∷ [] = cc in f)
by_arity t One (x ∷ y ∷ xs) names q e = absurd cc
by_arity t Two [] names q e = absurd cc
by_arity t Two (x ∷ []) names q e = absurd cc
by_arity t Two (x ∷ y ∷ []) names q e = inl (not_chain t Two q (λ f. cc), let f : names ≡ x ∷ y ∷ [] = cc in f)
by_arity t Two (x ∷ y ∷ z ∷ xs) names q e = absurd cc
by_arity t Parts [] names q e = absurd cc
by_arity t Parts (x ∷ []) names q e =
    inr (inl (has_parts t q, x, refl, let f : names ≡ node (codes "ctr") (arg x end) ∷ node (codes "ghash") end ∷ [] = cc in f))
by_arity t Parts (x ∷ y ∷ xs) names q e = absurd cc
by_arity t Within [] names q e = absurd cc
by_arity t Within (x ∷ []) names q e = inr (inr (has_within t q, x, refl, one_only (args_of x) names e))
by_arity t Within (x ∷ y ∷ xs) names q e = absurd cc

pub by_shape : (o : Option Template) (args names : List Tree) → asked_by o args ≡ Ok names → AsksOwn o args names ⊎ (AsksParts o args names ⊎ AsksWithin o args names)
by_shape None args names e = absurd cc
by_shape (Some t) args names e = by_arity t (arity t) args names refl e

weight-most : (t : Tree) → weight t ≤ 2 * nodes t + 1
unfolding weight
weight-most (node w ts) = bit (bytes_eq w (codes "gcm"))
  where
    bit : (b : Bool) → 2 * nodes (node w ts) + (if b then 1 else 0) ≤ 2 * nodes (node w ts) + 1
    bit true = omega arith
    bit false = omega arith

weight-least : (t : Tree) → 2 * nodes t ≤ weight t
unfolding weight
weight-least (node w ts) = omega arith

weight-gcm : (w : List ℕ) (ts : Args) → bytes_eq w (codes "gcm") ≡ true → weight (node w ts) ≡ 2 * nodes (node w ts) + 1
unfolding weight
weight-gcm w ts e = ap (λ b. 2 * nodes (node w ts) + (if b then 1 else 0)) e

weight-ctr : (ts : Args) → weight (node (codes "ctr") ts) ≡ 2 * nodes (node (codes "ctr") ts) + 0
unfolding weight
weight-ctr ts = refl

weight-ghash : weight (node (codes "ghash") end) ≡ 2 * nodes (node (codes "ghash") end) + 0
unfolding weight
weight-ghash = refl

nodes_positive : (t : Tree) → 1 ≤ nodes t
nodes_positive (node w ts) = omega arith

pub only_arg : (ts : Args) (x : Tree) → list_of ts ≡ x ∷ [] → ts ≡ arg x end
only_arg end x e = absurd cc
only_arg (arg y end) x e = let f : y ≡ x = cc in ap (λ z. arg z end) f
only_arg (arg y (arg z zs)) x e = absurd cc

gcm_lighter : (w : List ℕ) (x : Tree) → bytes_eq w (codes "gcm") ≡ true → (i : ℕ) (u : Tree) → i < 2 → u ≡ get_or (node (codes "ctr") (arg x end) ∷ node (codes "ghash") end ∷ []) i u → weight u < weight (node w (arg x end))
gcm_lighter w x e zero u lt is = omega (arith, ap weight is, weight-ctr (arg x end), weight-gcm w (arg x end) e)
gcm_lighter w x e (suc zero) u lt is = omega (arith, ap weight is, weight-ghash, weight-gcm w (arg x end) e, nodes_positive x)
gcm_lighter w x e (suc (suc i)) u lt is = absurd (omega (arith, lt))

pub lighter : (t : Tree) (names : List Tree) (i : ℕ) (u : Tree) → children_of t ≡ Ok names → i < length names → u ≡ get_or names i u → weight u < weight t
lighter (node w ts) names i u e lt is = by_case (by_shape (template_at (node w ts)) (list_of ts) names e)
  where
    by_case : AsksOwn (template_at (node w ts)) (list_of ts) names ⊎ (AsksParts (template_at (node w ts)) (list_of ts) names ⊎ AsksWithin (template_at (node w ts)) (list_of ts) names) → weight u < weight (node w ts)
    by_case (inl s) = omega (arith, weight-most u, weight-least (node w ts), nodes_at (node w ts) names i u s.1 lt is)
    by_case (inr (inl s)) =
        subst (λ us. weight u < weight (node w us)) (sym (only_arg ts s.1 s.2))
        (gcm_lighter w s.1 (gcm_at (node w ts) s.0) i u (omega (arith, lt, ap length s.3)) (is ∙ ap (λ ns. get_or ns i u) s.3))
    by_case (inr (inr s)) =
        let within = nodes_at s.1 names i u s.3 lt is in
        let below = nodes_at (node w ts) (s.1 ∷ []) 0 s.1 (sym s.2) (omega arith) refl in
        omega (arith, weight-most u, weight-least (node w ts), within, below)

pub not_false : (b : Bool) → not b ≡ true → b ≡ false
not_false true e = absurd cc
not_false false e = refl

second_false : (a b : Bool) → (a || b) ≡ false → not b ≡ true
second_false true b e = absurd cc
second_false false b e = ap not e

first_false : (a b : Bool) → (a || b) ≡ false → a ≡ false
first_false true b e = absurd cc
first_false false b e = refl

last_false : (a b : Bool) → (a || b) ≡ false → b ≡ false
last_false true b e = absurd cc
last_false false b e = e

left_true : (a b : Bool) → (a && b) ≡ true → a ≡ true
left_true true b e = refl
left_true false b e = absurd cc

right_true : (a b : Bool) → (a && b) ≡ true → b ≡ true
right_true true b e = e
right_true false b e = absurd cc

-- ---- the arguments in which no wrapper may stand

-- what is no wrapper has its own
inner_bare : (w : List ℕ) (xs : List Tree) → is_wrapper_word w ≡ false → inner_args w xs ≡ xs
inner_bare w [] e = refl
inner_bare w (x ∷ []) e =
    ap (λ b. if b && bytes_eq (word_of x) (codes "pcrypt") then args_of x else x ∷ [])
    (last_false (bytes_eq w (codes "pcrypt")) (bytes_eq w (codes "cryptd")) e)
inner_bare w (x ∷ y ∷ xs) e = refl

-- and so has what isn't `cryptd` over `pcrypt` alone
inner_own : (w : List ℕ) (xs : List Tree) → is_chain (template_over w xs) ≡ false → inner_args w xs ≡ xs
inner_own w [] other = refl
inner_own w (x ∷ []) other = by_test (bytes_eq w (codes "cryptd") && bytes_eq (word_of x) (codes "pcrypt")) refl
  where
    by_test : (b : Bool) → (bytes_eq w (codes "cryptd") && bytes_eq (word_of x) (codes "pcrypt")) ≡ b → (if b then args_of x else x ∷ []) ≡ x ∷ []
    by_test true e =
        let queued = is_queued w x (left_true (bytes_eq w (codes "cryptd")) (bytes_eq (word_of x) (codes "pcrypt")) e) (right_true (bytes_eq w (codes "cryptd")) (bytes_eq (word_of x) (codes "pcrypt")) e) in
        let f : true ≡ false = sym (ap is_chain queued) ∙ other in absurd cc
    by_test false e = refl
inner_own w (x ∷ y ∷ xs) other = refl

-- which has those of the `pcrypt`
inner_queued : (w : List ℕ) (x : Tree) → bytes_eq w (codes "cryptd") ≡ true → bytes_eq (word_of x) (codes "pcrypt") ≡ true → inner_args w (x ∷ []) ≡ args_of x
inner_queued w x p q = ap (λ b. if b then args_of x else x ∷ []) (and_from (bytes_eq w (codes "cryptd")) (bytes_eq (word_of x) (codes "pcrypt")) p q)

pub none_nested : (u : Tree) → has_wrapper u ≡ false → is_nested_well u ≡ true
none_nested (node w ts) e =
    ap (λ us. not (any_wrapper us)) (ap args_from (inner_bare w (list_of ts) (first_false (is_wrapper_word w) (any_wrapper ts) e)) ∙ args_from-list_of ts)
    ∙ second_false (is_wrapper_word w) (any_wrapper ts) e

pub from_false : (b : Bool) (c : Bool) → c ≡ false → (b ≡ true → c ≡ true) → b ≡ false
from_false true c p q = absurd (let z : true ≡ false = sym (q refl) ∙ p in cc)
from_false false c p q = refl

-- no wrapper stands in what a name asks for
none_within : (names : List Tree) (i : ℕ) (u : Tree) → any_wrapper (args_from names) ≡ false → i < length names → u ≡ get_or names i u → has_wrapper u ≡ false
none_within names i u below lt is = from_false (has_wrapper u) (any_wrapper (args_from names)) below (any_at names i u lt is)

own_none : (w : List ℕ) (xs names : List Tree) → AsksOwn (template_over w xs) xs names → not (any_wrapper (args_from (inner_args w xs))) ≡ true → any_wrapper (args_from names) ≡ false
own_none w xs names s nested =
    ap (λ us. any_wrapper (args_from us)) (s.1 ∙ sym (inner_own w xs s.0))
    ∙ not_false (any_wrapper (args_from (inner_args w xs))) nested

within_none : (w : List ℕ) (xs names : List Tree) → AsksWithin (template_over w xs) xs names → not (any_wrapper (args_from (inner_args w xs))) ≡ true → any_wrapper (args_from names) ≡ false
within_none w xs names s nested =
    let words = queued_at w s.1 (subst (λ us. template_over w us ≡ Some CryptdPcrypt) s.2 s.0) in
    ap (λ us. any_wrapper (args_from us)) (s.3 ∙ (sym (inner_queued w s.1 words.0 words.1) ∙ ap (inner_args w) (sym s.2)))
    ∙ not_false (any_wrapper (args_from (inner_args w xs))) nested

-- nor in the arguments of the `gcm` that asks for its parts
gcm_own : (w : List ℕ) (ts : Args) → template_over w (list_of ts) ≡ Some Gcm → is_nested_well (node w ts) ≡ true → not (any_wrapper ts) ≡ true
gcm_own w ts e nested =
    ap (λ us. not (any_wrapper us)) (sym (ap args_from (inner_own w (list_of ts) (ap is_chain e)) ∙ args_from-list_of ts)) ∙ nested

gcm_nested : (x : Tree) → not (any_wrapper (arg x end)) ≡ true → (i : ℕ) (u : Tree) → i < 2 → u ≡ get_or (node (codes "ctr") (arg x end) ∷ node (codes "ghash") end ∷ []) i u → is_nested_well u ≡ true
gcm_nested x e zero u lt is = ap is_nested_well is ∙ e
gcm_nested x e (suc zero) u lt is = ap is_nested_well is
gcm_nested x e (suc (suc i)) u lt is = absurd (omega (arith, lt))

-- what a name asks for of its own, or within its argument, has no wrapper
pub child_bare : (w : List ℕ) (ts : Args) (names : List Tree) (i : ℕ) (u : Tree) → AsksOwn (template_over w (list_of ts)) (list_of ts) names ⊎ AsksWithin (template_over w (list_of ts)) (list_of ts) names → i < length names → u ≡ get_or names i u → is_nested_well (node w ts) ≡ true → has_wrapper u ≡ false
child_bare w ts names i u (inl s) lt is nested = none_within names i u (own_none w (list_of ts) names s nested) lt is
child_bare w ts names i u (inr s) lt is nested = none_within names i u (within_none w (list_of ts) names s nested) lt is

pub nested_child : (t : Tree) (names : List Tree) (i : ℕ) (u : Tree) → children_of t ≡ Ok names → i < length names → u ≡ get_or names i u → is_nested_well t ≡ true → is_nested_well u ≡ true
nested_child (node w ts) names i u e lt is nested = by_case (by_shape (template_at (node w ts)) (list_of ts) names e)
  where
    by_case : AsksOwn (template_at (node w ts)) (list_of ts) names ⊎ (AsksParts (template_at (node w ts)) (list_of ts) names ⊎ AsksWithin (template_at (node w ts)) (list_of ts) names) → is_nested_well u ≡ true
    by_case (inl s) = none_nested u (child_bare w ts names i u (inl s) lt is nested)
    by_case (inr (inl s)) =
        gcm_nested s.1 (subst (λ us. not (any_wrapper us) ≡ true) (only_arg ts s.1 s.2) (gcm_own w ts s.0 nested)) i u (omega (arith, lt, ap length s.3)) (is ∙ ap (λ ns. get_or ns i u) s.3)
    by_case (inr (inr s)) = none_nested u (child_bare w ts names i u (inr s) lt is nested)
