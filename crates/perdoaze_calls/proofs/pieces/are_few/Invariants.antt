use Rattle.std.proofs.Common.{◌≡◌, ◌+◌, length, drop}
use Rattle.piece_modes.specs.Pieces.{text_over}
use Rattle.perdoaze_calls.proofs.pieces.are_few.Given as goal

abbrev pub invariant-loop-piece : goal.invariant-loop-piece
invariant-loop-piece l = l.left + length (text_over l.pieces) ≡ 4160 + length (text_over (drop l.piece-index l.pieces))
