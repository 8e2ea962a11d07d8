use Rattle.std.proofs.Common.{◌≡◌, ◌++◌, drop}
use Rattle.piece_modes.specs.Pieces.{text_over}
use Rattle.perdoaze_calls.proofs.pieces.joined_over.Given as goal

-- the bytes so far and those that are left are all
abbrev pub invariant-loop-piece : goal.invariant-loop-piece
invariant-loop-piece l = l.whole.items ++ text_over (drop l.piece-index l.pieces) ≡ text_over l.pieces
