use Rattle.crew.specs.Both.{ArePassesOn, WorkedOnBoth}
use Rattle.crew.proofs.both.work_on.Given as goal

abbrev pub invariant-loop : goal.invariant-loop
invariant-loop g l =
    (goal.iterator-loop g).can_next l.iterator' × (goal.iterator-loop g).is_finite l.iterator'
    × ArePassesOn l.fn.board l.fn.registry l.mine × WorkedOnBoth l.fn.passes l.mine
