use Rattle.std.proofs.Common.{◌≡◌, ◌+◌, ◌-◌, arith, sym, ◌∙◌, subst}
use Rattle.trace_check.specs.Held.{AreMarked}
use Rattle.trace_check.proofs.Holding.{HoldsFrom, goes_on_held, goes_on_free}
use Rattle.trace_check.proofs.held.held_count.Goals as goal

pub loop-place-preserved-then-holds : goal.loop-place-preserved-then-holds
loop-place-preserved-then-holds c =
    let z : c.loop-place.place ≡ c.loop-place.place - 1 + 1 = omega arith in
    goes_on_held c.args.entries.now c.loop-place.used.items c.mark_ids.new.marks.items c.loop-place.count (c.loop-place.place - 1) c.index-entries-place.result c.index.result.now (omega arith) c.index-entries-place.is c.index.ensures (sym c.holds.ensures ∙ c.if-holds.true)
    (subst (AreMarked c.loop-place.used.items c.mark_ids.new.marks.items) c.as_slice.ensures c.mark_ids.ensures) (subst (HoldsFrom c.args.entries.now c.loop-place.used.items c.loop-place.count) z c.loop-place.invariant)

pub loop-place-preserved : goal.loop-place-preserved
loop-place-preserved c =
    let z : c.loop-place.place ≡ c.loop-place.place - 1 + 1 = omega arith in
    goes_on_free c.args.entries.now c.loop-place.used.items c.loop-place.count (c.loop-place.place - 1) c.index-entries-place.result c.index.result.now (omega arith) c.index-entries-place.is c.index.ensures (sym c.holds.ensures ∙ c.if-holds.false)
    (subst (HoldsFrom c.args.entries.now c.loop-place.used.items c.loop-place.count) z c.loop-place.invariant)
