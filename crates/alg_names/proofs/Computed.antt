-- The tree that is computed from a text is the one whose name it is, and its arguments are names.
use Rattle.std.proofs.Common.{◌≡◌, ℕ, zero, suc, ◌<◌, length, get_or, arith, List, [], ◌∷◌, refl, ap, ◌∙◌, subst, Some}
use Rattle.alg_names.specs.Name.{Tree, Args, node, end, arg, IsName, AreNames, a_word, a_template, one, more, spelling, list_of, args_of}
use Rattle.alg_names.specs.Reader.{begins, in_word, closed, Reading, lost, reading, run, start}
use Rattle.alg_names.specs.Spelled.{tree_of, tree_behind}
use Rattle.alg_names.proofs.Complete.{run_name, place_behind}
use Rattle.alg_names.proofs.Building.{name_spelled}
use Rattle.alg_names.proofs.Sound.{word_is_name, closed_is_name}

behind : (t : Tree) → tree_behind (reading [] (place_behind t)) ≡ Some t
behind (node w end) = refl
behind (node w (arg t ts)) = refl

pub tree_of-name : (text : List ℕ) (t : Tree) → IsName text t → tree_of text ≡ Some t
unfolding tree_of
tree_of-name text t h = ap tree_behind (run_name h []) ∙ behind t

read_so : (text : List ℕ) (t : Tree) (r : Reading) → run start text ≡ r → tree_behind r ≡ Some t → IsName text t
read_so text t lost e k = absurd cc
read_so text t (reading (f ∷ fs) place) e k = absurd cc
read_so text t (reading [] begins) e k = absurd cc
read_so text t (reading [] (in_word w)) e k =
    let f : node w end ≡ t = cc in subst (IsName text) f (word_is_name text w e)
read_so text t (reading [] (closed u)) e k =
    let f : u ≡ t = cc in subst (IsName text) f (closed_is_name text u e)

pub name-tree_of : (text : List ℕ) (t : Tree) → tree_of text ≡ Some t → IsName text t
unfolding tree_of
name-tree_of text t k = read_so text t (run start text) refl k

in_parentheses_named : {a : List ℕ} {ts : Args} → AreNames a ts → (k : ℕ) (d : Tree) → k < length (list_of ts) → IsName (spelling (get_or (list_of ts) k d)) (get_or (list_of ts) k d)
in_parentheses_named (one {a} {t} h) zero d lt = subst (λ x. IsName x t) (name_spelled h) h
in_parentheses_named (one h) (suc k) d lt = absurd (omega (arith, lt))
in_parentheses_named (more {a} {b} {t} {ts} h hs) zero d lt = subst (λ x. IsName x t) (name_spelled h) h
in_parentheses_named (more h hs) (suc k) d lt = in_parentheses_named hs k d (omega (arith, lt))

pub arguments_named : {text : List ℕ} {t : Tree} → IsName text t → (k : ℕ) (d : Tree) → k < length (args_of t) → IsName (spelling (get_or (args_of t) k d)) (get_or (args_of t) k d)
arguments_named (a_word h) k d lt = absurd (omega (arith, lt))
arguments_named (a_template h hs) k d lt = in_parentheses_named hs k d lt
