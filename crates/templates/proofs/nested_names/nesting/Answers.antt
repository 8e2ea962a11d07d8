use Rattle.std.proofs.Common.{◌≡◌, true, false}
use Rattle.templates.specs.Nesting.{has_wrapper}
use Rattle.templates.proofs.Wrappers.{any_more, refused, taken}
use Rattle.templates.proofs.nested_names.nesting.Goals as goal

pub returns-then-is_wrapped : goal.returns-then-is_wrapped
returns-then-is_wrapped c =
    let e : true ≡ has_wrapper c.argument-item.result = cc in
    refused c.args.name.now c.inner_args-argument-items.result.now c.loop-argument.argument-index c.argument-item.result c.inner_args-argument-items.ensures c.loop-argument-test.true c.argument-item.is e

pub loop-argument-preserved : goal.loop-argument-preserved
loop-argument-preserved c =
    let e : has_wrapper c.argument-item.result ≡ false = cc in
    any_more c.inner_args-argument-items.result.now c.loop-argument.argument-index c.argument-item.result c.loop-argument-test.true c.argument-item.is c.loop-argument.invariant e

pub returns : goal.returns
returns c =
    taken c.args.name.now c.inner_args-argument-items.result.now c.loop-argument.argument-index c.inner_args-argument-items.ensures c.loop-argument-test.false c.loop-argument.invariant
