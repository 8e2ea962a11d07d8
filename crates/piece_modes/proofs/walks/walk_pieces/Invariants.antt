use Rattle.sg_walk.proofs.Steps.{Walked}
use Rattle.piece_modes.specs.Pieces.{parts_of}
use Rattle.piece_modes.proofs.walks.walk_pieces.Given as goal

-- the pieces before this one and `skip` more bytes were gone over
abbrev pub invariant-loop-i : goal.invariant-loop-i
invariant-loop-i g l = Walked g.W.Walker.makes l.fn.walker (parts_of l.fn.pieces) (parts_of l.pieces) l.walker l.i l.skip
