use Rattle.alg_registry.specs.Rows.{registered}
use Rattle.templates.proofs.Calls.{one_more}
use Rattle.templates.proofs.resolution.origins.Goals as goal

pub loop-id-preserved : goal.loop-id-preserved
loop-id-preserved c = one_more (registered c.args.registry.now) c.loop-id.below.items c.add_origin.new.below.items c.args.ids.now c.loop-id.id-index c.loop-id-test.true c.loop-id.invariant c.in_ok-add_origin.ensures.ok
