-- `pcrypt` and `cryptd` in a list of names.
use Rattle.std.proofs.Common.{◌≡◌, ℕ, zero, suc, ◌+◌, ◌<◌, ◌≤◌, Bool, true, false, ◌||◌, not, if◌then◌else◌, List, [], ◌∷◌, ◌++◌, length, get_or, take, refl, ap, sym, ◌∙◌, arith, Result, Ok, Err}
use Rattle.std.proofs.lemmas.List.{take_all, take_more}
use Rattle.std.proofs.lemmas.Bool.{or_from}
use Rattle.alg_names.specs.Name.{Tree, node, word_of, args_of}
use Rattle.alg_names.specs.Built.{args_from}
use Rattle.alg_names.specs.Built.{args_from-list_of}
use Rattle.kc_base.specs.declared.error_numbers.Errno.{Errno}
use Rattle.kc_base.specs.declared.error_numbers.Errno.TheVariants.{EINVAL}
use Rattle.templates.specs.Nesting.{has_wrapper, any_wrapper, inner_args, is_wrapper_word, is_nested_well}

or_true : (a : Bool) → (a || true) ≡ true
or_true true = refl
or_true false = refl

any-snoc : (xs : List Tree) (x : Tree) → any_wrapper (args_from xs) ≡ false → has_wrapper x ≡ false → any_wrapper (args_from (xs ++ x ∷ [])) ≡ false
any-snoc [] x h k = or_from (has_wrapper x) false k refl
any-snoc (y ∷ ys) x h k = or_from (has_wrapper y) (any_wrapper (args_from (ys ++ x ∷ []))) (left (has_wrapper y) (any_wrapper (args_from ys)) h) (any-snoc ys x (right (has_wrapper y) (any_wrapper (args_from ys)) h) k)
  where
    left : (a b : Bool) → (a || b) ≡ false → a ≡ false
    left true b h = h
    left false b h = refl

    right : (a b : Bool) → (a || b) ≡ false → b ≡ false
    right true b h = absurd cc
    right false b h = h

pub any_more : (xs : List Tree) (i : ℕ) (u : Tree) → i < length xs → u ≡ get_or xs i u → any_wrapper (args_from (take i xs)) ≡ false → has_wrapper u ≡ false → any_wrapper (args_from (take (i + 1) xs)) ≡ false
any_more xs i u h e k l =
    ap (λ ys. any_wrapper (args_from ys)) (take_more xs i u h)
    ∙ any-snoc (take i xs) (get_or xs i u) k (ap has_wrapper (sym e) ∙ l)

pub any_at : (xs : List Tree) (i : ℕ) (u : Tree) → i < length xs → u ≡ get_or xs i u → has_wrapper u ≡ true → any_wrapper (args_from xs) ≡ true
any_at [] i u h e k = absurd (omega (arith, h))
any_at (x ∷ xs) zero u h e k = ap (λ b. b || any_wrapper (args_from xs)) (ap has_wrapper (sym e) ∙ k)
any_at (x ∷ xs) (suc i) u h e k = ap (λ b. has_wrapper x || b) (any_at xs i u (omega (arith, h)) e k) ∙ or_true (has_wrapper x)

pub wrapper_parts : (t : Tree) (xs : List Tree) → xs ≡ args_of t → has_wrapper t ≡ (is_wrapper_word (word_of t) || any_wrapper (args_from xs))
wrapper_parts (node w ts) xs e = ap (λ us. is_wrapper_word w || any_wrapper us) (sym (args_from-list_of ts) ∙ ap args_from (sym e))

-- the arguments of a name in which no wrapper may stand are these
abbrev pub AreInner : Tree → List Tree → Type 0
AreInner t xs = xs ≡ inner_args (word_of t) (args_of t)

pub nested_parts : (t : Tree) (xs : List Tree) → AreInner t xs → is_nested_well t ≡ not (any_wrapper (args_from xs))
nested_parts t xs e = ap (λ us. not (any_wrapper (args_from us))) (sym e)

pub found_below : (t : Tree) (xs : List Tree) (i : ℕ) (u : Tree) → xs ≡ args_of t → i < length xs → u ≡ get_or xs i u → true ≡ has_wrapper u → true ≡ has_wrapper t
found_below t xs i u e h k l = sym (wrapper_parts t xs e ∙ ap (λ b. is_wrapper_word (word_of t) || b) (any_at xs i u h k (sym l)) ∙ or_true (is_wrapper_word (word_of t)))

pub none_found : (t : Tree) (xs : List Tree) (i : ℕ) (w : List ℕ) → xs ≡ args_of t → w ≡ word_of t → length xs ≤ i → false ≡ is_wrapper_word w → any_wrapper (args_from (take i xs)) ≡ false → false ≡ has_wrapper t
none_found t xs i w e f h k l =
    sym (wrapper_parts t xs e ∙ or_from (is_wrapper_word (word_of t)) (any_wrapper (args_from xs)) (ap is_wrapper_word (sym f) ∙ sym k) (ap (λ ys. any_wrapper (args_from ys)) (sym (take_all i xs h)) ∙ l))

abbrev verdict : Bool → Result (Unit {0}) Errno
verdict b = if b then Ok tt else Err EINVAL

pub refused : (t : Tree) (xs : List Tree) (i : ℕ) (u : Tree) → AreInner t xs → i < length xs → u ≡ get_or xs i u → true ≡ has_wrapper u → verdict false ≡ verdict (is_nested_well t)
refused t xs i u e h k l = ap (λ b. verdict (not b)) (sym (any_at xs i u h k (sym l))) ∙ ap verdict (sym (nested_parts t xs e))

pub taken : (t : Tree) (xs : List Tree) (i : ℕ) → AreInner t xs → length xs ≤ i → any_wrapper (args_from (take i xs)) ≡ false → verdict true ≡ verdict (is_nested_well t)
taken t xs i e h l = ap (λ b. verdict (not b)) (sym l ∙ ap (λ ys. any_wrapper (args_from ys)) (take_all i xs h)) ∙ ap verdict (sym (nested_parts t xs e))
