use Rattle.std.proofs.Common.{◌<◌, List, [], ◌∷◌, ◌++◌, arith, sym, ap, ◌∙◌}
use Rattle.alg_names.specs.Name.{Tree, spelling, after_first}
use Rattle.alg_names.specs.Built.{args_from, nodes}
use Rattle.alg_names.proofs.Printed.{nodes_first, nodes_others, spelled_word, spelled_template, spelled_end, others_of}
use Rattle.alg_names.proofs.printer.+print_into.Goals as goal

pub print_into-requires : goal.print_into-requires
print_into-requires t c =
    let f : nodes c.first-item.result < t = omega (arith, c.decreases, nodes_first c.args.name.now c.args-2.result.now c.first-item.result c.args-2.ensures.args c.in-len1-up.len_at_least c.first-item.is) in (f, tt)

pub print_into-requires-in-loop-other : goal.print_into-requires-in-loop-other
print_into-requires-in-loop-other t c =
    let f : nodes c.other-item.result < t = omega (arith, c.decreases, nodes_others c.args.name.now c.args-2.result.now c.loop-other.other-index c.other-item.result c.args-2.ensures.args c.loop-other-test.true c.other-item.is) in (f, tt)

pub returns-in-empty : goal.returns-in-empty
returns-in-empty t c = c.in_ok-append.ensures.ok ∙ ap (λ w. c.args.out.now ++ w) (c.word.ensures.word ∙ spelled_word c.args.name.now c.args-2.result.now c.args-2.ensures.args c.in-empty.len_below)

pub returns-in_ok-push-in-len1-up-3 : goal.returns-in_ok-push-in-len1-up-3
returns-in_ok-push-in-len1-up-3 t c =
    let xs : List Tree = c.args-2.result.now in
    c.in_ok-push-in-len1-up-3.ensures.ok
    ∙ ap (λ x. c.loop-other.out ++ x) (sym (spelled_end (others_of xs) c.loop-other.other-index c.loop-other-test.false))
    ∙ c.loop-other.invariant
    ∙ ap (λ x. x ++ after_first (args_from (others_of xs)))
    (c.in_ok-print_into-in-len1-up.ensures ∙ ap (λ x. x ++ spelling c.first-item.result)
    (c.in_ok-push-in-len1-up.ensures.ok ∙ ap (λ x. x ++ 40 ∷ []) (c.in_ok-append.ensures.ok ∙ ap (λ w. c.args.out.now ++ w) c.word.ensures.word)))
    ∙ spelled_template c.args.name.now xs c.first-item.result c.args.out.now c.args-2.ensures.args c.in-len1-up.len_at_least c.first-item.is
