use Rattle.std.proofs.Common.{◌≡◌, ◌<◌, ◌≤◌, ℕ, List, length, take, arith, ap, sym, ◌∙◌, subst}
use Rattle.std.proofs.lemmas.List.{take_all}
use Rattle.alg_names.specs.Name.{Tree, word_of, args_of, IsAllowed}
use Rattle.alg_names.specs.Built.{nodes, tree_with}
use Rattle.alg_names.specs.Built.{nodes_at, tree_of_parts}
use Rattle.alg_names.proofs.name_tree.Name.+copy.Goals as goal

pub copy-requires : goal.copy-requires
copy-requires t c =
    let f : nodes c.argument-item.result < t = omega (arith, c.decreases, nodes_at c.args.self.now c.args-argument-items.result.now c.loop-argument.argument-index c.argument-item.result c.args-argument-items.ensures.args c.loop-argument-test.true c.argument-item.is) in (f, tt)

copied : (t : Tree) (w v : List ℕ) (xs ys : List Tree) (i : ℕ) → w ≡ v → v ≡ word_of t → ys ≡ take i xs → length xs ≤ i → xs ≡ args_of t → tree_with w ys ≡ t
copied t w v xs ys i a b c d e = ap (λ x. tree_with x ys) (a ∙ b) ∙ ap (tree_with (word_of t)) (c ∙ take_all i xs d ∙ e) ∙ tree_of_parts t

pub invariant_of-result : goal.invariant_of-result
invariant_of-result t c =
    subst IsAllowed (sym (copied c.args.self.now c.in_ok-word.word c.word.result.now c.args-argument-items.result.now c.loop-argument.arguments.items c.loop-argument.argument-index c.in_ok-word.ensures c.word.ensures.word c.loop-argument.invariant c.loop-argument-test.false c.args-argument-items.ensures.args)) c.word.ensures.allowed

pub returns : goal.returns
returns t c = copied c.args.self.now c.in_ok-word.word c.word.result.now c.args-argument-items.result.now c.loop-argument.arguments.items c.loop-argument.argument-index c.in_ok-word.ensures c.word.ensures.word c.loop-argument.invariant c.loop-argument-test.false c.args-argument-items.ensures.args
