use Rattle.std.proofs.Common.{arith, subst, ◌-◌, ◌+◌, ◌/◌, ◌≤◌, slice_index_or}
use Rattle.padata_core.proofs.Putting.{rising_less}
use Rattle.padata_core.proofs.row.place_for.Goals as goal

pub loop-low-preserved-then-index-number : goal.loop-low-preserved-then-index-number
loop-low-preserved-then-index-number g c =
    let i = c.loop-low.invariant in
    let middle = c.loop-low.low + (c.loop-low.high - c.loop-low.low) / 2 in
    let at : (slice_index_or c.args.entries.now.items middle c.index.result.now).0 ≤ c.args.number = subst (λ x. x.0 ≤ c.args.number) c.index.ensures c.if-index-number.true in (
      omega arith,
      i.1,
      λ j d l. let less = rising_less c.args.entries.now.items 0 middle j d c.index.result.now c.requires.rising (omega arith) (omega arith) in omega arith,
      i.3,
    )
