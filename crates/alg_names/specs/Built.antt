-- The tree of a name from its parts, and that arguments are smaller than the name.
use Rattle.std.specs.Prelude.{◌≡◌, ℕ, ◌+◌, ◌<◌, ◌≤◌, List, [], ◌∷◌, length}
use Rattle.std.proofs.Common.{arith, refl, ap, zero, suc, get_or}
use Rattle.alg_names.specs.Name.{Tree, Args, node, end, arg, word_of, list_of, args_of}
use denote.Param.Weighed.{most}

-- the arguments in order
abbrev pub args_from : List Tree → Args
args_from [] = end
args_from (t ∷ ts) = arg t (args_from ts)

abbrev pub tree_with : List ℕ → List Tree → Tree
tree_with word ts = node word (args_from ts)

-- how many words a name has
abbrev mutual
  pub nodes : Tree → ℕ
  nodes (node word args) = nodes_in args + 1

  pub nodes_in : Args → ℕ
  nodes_in end = 0
  nodes_in (arg t ts) = nodes t + nodes_in ts

pub most-nodes : (ts : List Tree) → most (λ t. nodes t + 1) ts ≤ nodes_in (args_from ts) + 1
most-nodes [] = omega arith
most-nodes (t ∷ ts) = omega (arith, most-nodes ts)

pub nodes_fall : (word : List ℕ) (ts : List Tree) → most (λ t. nodes t + 1) ts ≤ nodes (tree_with word ts)
nodes_fall word ts = most-nodes ts

pub list_of-args_from : (ts : List Tree) → list_of (args_from ts) ≡ ts
list_of-args_from [] = refl
list_of-args_from (t ∷ ts) = ap (λ us. t ∷ us) (list_of-args_from ts)

pub args_from-list_of : (ts : Args) → args_from (list_of ts) ≡ ts
args_from-list_of end = refl
args_from-list_of (arg t ts) = ap (arg t) (args_from-list_of ts)

-- A tree is its word and its arguments.
pub tree_of_parts : (t : Tree) → node (word_of t) (args_from (args_of t)) ≡ t
tree_of_parts (node w ts) = ap (node w) (args_from-list_of ts)

pub nodes_in_list : (xs : List Tree) (i : ℕ) (d : Tree) → i < length xs → nodes (get_or xs i d) ≤ nodes_in (args_from xs)
nodes_in_list [] i d h = absurd (omega (arith, h))
nodes_in_list (x ∷ xs) zero d h = omega arith
nodes_in_list (x ∷ xs) (suc i) d h = omega (arith, nodes_in_list xs i d (omega (arith, h)))

pub nodes_of : (t : Tree) (xs : List Tree) → xs ≡ args_of t → nodes_in (args_from xs) < nodes t
nodes_of (node w ts) xs e = omega (arith, ap (λ ys. nodes_in (args_from ys)) e, ap nodes_in (args_from-list_of ts))

-- an argument has fewer nodes than its name
pub nodes_fewer : (t : Tree) (xs : List Tree) (i : ℕ) (d : Tree) → xs ≡ args_of t → i < length xs → nodes (get_or xs i d) < nodes t
nodes_fewer t xs i d e h = omega (arith, nodes_of t xs e, nodes_in_list xs i d h)

pub nodes_at : (t : Tree) (xs : List Tree) (i : ℕ) (u : Tree) → xs ≡ args_of t → i < length xs → u ≡ get_or xs i u → nodes u < nodes t
nodes_at t xs i u e h k = omega (arith, nodes_fewer t xs i u e h, ap nodes k)
