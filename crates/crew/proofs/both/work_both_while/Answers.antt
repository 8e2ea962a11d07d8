use Rattle.crew.proofs.OnBoth.{both_still, both_on}
use Rattle.crew.proofs.both.work_both_while.Goals as goal

pub loop-init : goal.loop-init
loop-init g c = (tt, tt, c.requires, both_still c.building_goes_on.ensures.still c.args.passes)

pub loop-preserved : goal.loop-preserved
loop-preserved g c = (tt, tt, c.work_or_build-worked.ensures.lock, both_on c.building_goes_on.ensures.on _ _ _ c.loop.invariant.3 c.work_or_build-worked.ensures.worked)

pub returns-in_default-clause-worked : goal.returns-in_default-clause-worked
returns-in_default-clause-worked g c = both_on c.building_goes_on.ensures.on _ _ _ c.loop.invariant.3 c.work_or_build-worked.ensures.worked
