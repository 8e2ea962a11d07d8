use Rattle.sg_walk.proofs.Steps.{Walked}
use Rattle.sg_walk.proofs.full_walk.walk_parts.Given as goal

-- the segments before this one and `skip` more bytes were gone over
abbrev pub invariant-loop-i : goal.invariant-loop-i
invariant-loop-i g l = Walked g.W.Walker.makes l.fn.walker l.fn.parts l.parts l.walker l.i l.skip
