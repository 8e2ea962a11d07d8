use Rattle.perdoaze_calls.proofs.Gathering.{IsCopied}
use Rattle.perdoaze_calls.proofs.pieces.gather_all.Given as goal

abbrev pub invariant-loop-piece : goal.invariant-loop-piece
invariant-loop-piece l = IsCopied l.pieces l.piece-index l.done l.fn.into l.into
