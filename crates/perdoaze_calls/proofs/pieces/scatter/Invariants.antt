use Rattle.perdoaze_calls.proofs.Gathering.{IsScattered}
use Rattle.perdoaze_calls.proofs.pieces.scatter.Given as goal

abbrev pub invariant-loop-piece : goal.invariant-loop-piece
invariant-loop-piece l = IsScattered l.fn.pieces l.from l.piece-index l.done l.pieces
