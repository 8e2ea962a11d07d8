-- The arguments of a name as a list, in their order.
use Rattle.std.proofs.Common.{◌≡◌, ℕ, ◌-◌, ◌<◌, ◌≤◌, List, [], ◌∷◌, ◌++◌, length, take, drop, get_or, ap, sym, ◌∙◌, subst, append_assoc, append-nil, arith}
use Rattle.std.proofs.lemmas.List.{take_all, drop_all}
use Rattle.alg_names.specs.Name.{Tree, node, end, arg, word_of, args_of, spelling, in_parentheses, after_first}
use Rattle.alg_names.specs.Built.{args_from, nodes, nodes_in, args_from-list_of, nodes_in_list, nodes_of}

-- all but the first
abbrev pub others_of : List Tree → List Tree
others_of xs = take (length xs - 1) (drop 1 xs)

others-cons : (x : Tree) (xs : List Tree) → others_of (x ∷ xs) ≡ xs
others-cons x xs = take_all (length (x ∷ xs) - 1) xs (omega arith)

pub nodes_first : (t : Tree) (xs : List Tree) (u : Tree) → xs ≡ args_of t → 1 ≤ length xs → u ≡ get_or xs 0 u → nodes u < nodes t
nodes_first t xs u e h k = omega (arith, nodes_of t xs e, nodes_in_list xs 0 u (omega (arith, h)), ap nodes k)

nodes_other : (xs : List Tree) (i : ℕ) (u : Tree) → i < length (others_of xs) → u ≡ get_or (others_of xs) i u → nodes u ≤ nodes_in (args_from xs)
nodes_other [] i u h k = absurd (omega (arith, h))
nodes_other (x ∷ xs) i u h k =
    let p : nodes (get_or xs i u) ≤ nodes_in (args_from xs) = nodes_in_list xs i u (subst (λ ys. i < length ys) (others-cons x xs) h) in
    omega (arith, p, ap nodes (subst (λ ys. u ≡ get_or ys i u) (others-cons x xs) k))

pub nodes_others : (t : Tree) (xs : List Tree) (i : ℕ) (u : Tree) → xs ≡ args_of t → i < length (others_of xs) → u ≡ get_or (others_of xs) i u → nodes u < nodes t
nodes_others t xs i u e h k = omega (arith, nodes_of t xs e, nodes_other xs i u h k)

pub spelled_word : (t : Tree) (xs : List Tree) → xs ≡ args_of t → length xs < 1 → word_of t ≡ spelling t
spelled_word (node w end) xs e h = sym (append-nil w)
spelled_word (node w (arg t ts)) xs e h = absurd (omega (arith, h, ap length e))

first_others : (xs : List Tree) (u : Tree) → 1 ≤ length xs → u ≡ get_or xs 0 u → in_parentheses (args_from xs) ≡ 40 ∷ (spelling u ++ after_first (args_from (others_of xs)))
first_others [] u h k = absurd (omega (arith, h))
first_others (x ∷ xs) u h k = ap (λ v. 40 ∷ (spelling v ++ after_first (args_from xs))) (sym k) ∙ ap (λ ys. 40 ∷ (spelling u ++ after_first (args_from ys))) (sym (others-cons x xs))

spelled_parts : (t : Tree) (xs : List Tree) → xs ≡ args_of t → spelling t ≡ word_of t ++ in_parentheses (args_from xs)
spelled_parts (node w ts) xs e = ap (λ us. w ++ in_parentheses us) (sym (args_from-list_of ts) ∙ ap args_from (sym e))

pub spelled_template : (t : Tree) (xs : List Tree) (u : Tree) (old : List ℕ) → xs ≡ args_of t → 1 ≤ length xs → u ≡ get_or xs 0 u
    → (((old ++ word_of t) ++ 40 ∷ []) ++ spelling u) ++ after_first (args_from (others_of xs)) ≡ old ++ spelling t
spelled_template t xs u old e h k =
    append_assoc ((old ++ word_of t) ++ 40 ∷ []) (spelling u) (after_first (args_from (others_of xs)))
    ∙ append_assoc (old ++ word_of t) (40 ∷ []) (spelling u ++ after_first (args_from (others_of xs)))
    ∙ append_assoc old (word_of t) (40 ∷ (spelling u ++ after_first (args_from (others_of xs))))
    ∙ ap (λ x. old ++ (word_of t ++ x)) (sym (first_others xs u h k))
    ∙ ap (λ x. old ++ x) (sym (spelled_parts t xs e))

pub spelled_end : (xs : List Tree) (i : ℕ) → length xs ≤ i → after_first (args_from (drop i xs)) ≡ 41 ∷ []
spelled_end xs i h = ap (λ ys. after_first (args_from ys)) (drop_all i xs h)
