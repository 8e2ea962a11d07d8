use Rattle.std.proofs.Common.{◌-◌, ◌∙◌, sym, arith}
use Rattle.alg_registry.proofs.Scanning.{refs-stop}
use Rattle.alg_registry.proofs.listing.newest_among.Goals as goal

pub returns-then-is_some : goal.returns-then-is_some
returns-then-is_some c =
    refs-stop c.args.driver.now c.args.all.now c.args.held.now c.loop-i.i (c.loop-i.i - 1) _ c.refs_at-found.result
    (omega (arith, c.loop-i-test.true, c.loop-i.invariant.within)) (omega (arith, c.loop-i-test.true)) c.loop-i.invariant.none c.refs_at-found.ensures (sym c.is_some.ensures ∙ c.if-is_some.true)
