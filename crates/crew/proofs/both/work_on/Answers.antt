use Rattle.crew.proofs.OnBoth.{both_still, both_on}
use Rattle.crew.proofs.both.work_on.Goals as goal

pub loop-init : goal.loop-init
loop-init g c = (tt, tt, c.requires, both_still c.building_goes_on.ensures.still c.args.passes)

pub returns-in_default-clause-worked : goal.returns-in_default-clause-worked
returns-in_default-clause-worked g c = both_on c.building_goes_on.ensures.on _ _ _ (both_on c.building_goes_on.ensures.on _ _ _ c.loop.invariant.3 c.work_both_while-worked.ensures.worked) c.look_at_end-seen.ensures.worked

pub loop-preserved-in-JobCame : goal.loop-preserved-in-JobCame
loop-preserved-in-JobCame g c = (tt, tt, c.work_both_while-worked.ensures.lock, both_on c.building_goes_on.ensures.on _ _ _ c.loop.invariant.3 c.work_both_while-worked.ensures.worked)

pub loop-preserved-then-may_be_shut : goal.loop-preserved-then-may_be_shut
loop-preserved-then-may_be_shut g c = (tt, tt, c.look_at_end-seen.ensures.lock, both_on c.building_goes_on.ensures.on _ _ _ (both_on c.building_goes_on.ensures.on _ _ _ c.loop.invariant.3 c.work_both_while-worked.ensures.worked) c.look_at_end-seen.ensures.worked)

pub loop-preserved : goal.loop-preserved
loop-preserved g c = (tt, tt, c.work_or_build-tried.ensures.lock, both_on c.building_goes_on.ensures.on _ _ _ (both_on c.building_goes_on.ensures.on _ _ _ c.loop.invariant.3 c.work_both_while-worked.ensures.worked) c.work_or_build-tried.ensures.worked)
