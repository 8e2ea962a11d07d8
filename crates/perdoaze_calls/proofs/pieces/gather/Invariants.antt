use Rattle.perdoaze_calls.proofs.Gathering.{IsGathered}
use Rattle.perdoaze_calls.proofs.pieces.gather.Given as goal

abbrev pub invariant-loop-piece : goal.invariant-loop-piece
invariant-loop-piece l = IsGathered l.pieces l.at l.n l.piece-index l.skip l.done l.fn.into l.into
