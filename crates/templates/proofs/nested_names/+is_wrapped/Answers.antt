use Rattle.std.proofs.Common.{◌≡◌, ◌<◌, true, false, arith}
use Rattle.alg_names.specs.Built.{nodes}
use Rattle.alg_names.specs.Built.{nodes_at}
use Rattle.templates.specs.Nesting.{has_wrapper}
use Rattle.templates.proofs.Wrappers.{any_more, found_below, none_found}
use Rattle.templates.proofs.nested_names.+is_wrapped.Goals as goal

pub is_wrapped-requires : goal.is_wrapped-requires
is_wrapped-requires t c =
    let f : nodes c.argument-item.result < t = omega (arith, c.decreases, nodes_at c.args.name.now c.args-argument-items.result.now c.loop-argument.argument-index c.argument-item.result c.args-argument-items.ensures.args c.loop-argument-test.true c.argument-item.is) in (f, tt)

pub returns-then-is_wrapped : goal.returns-then-is_wrapped
returns-then-is_wrapped t c =
    let e : true ≡ has_wrapper c.argument-item.result = cc in
    found_below c.args.name.now c.args-argument-items.result.now c.loop-argument.argument-index c.argument-item.result c.args-argument-items.ensures.args c.loop-argument-test.true c.argument-item.is e

pub loop-argument-preserved : goal.loop-argument-preserved
loop-argument-preserved t c =
    let e : has_wrapper c.argument-item.result ≡ false = cc in
    any_more c.args-argument-items.result.now c.loop-argument.argument-index c.argument-item.result c.loop-argument-test.true c.argument-item.is c.loop-argument.invariant e

pub returns : goal.returns
returns t c =
    none_found c.args.name.now c.args-argument-items.result.now c.loop-argument.argument-index c.word.result.now c.args-argument-items.ensures.args c.word.ensures.word c.loop-argument-test.false (cc) c.loop-argument.invariant
