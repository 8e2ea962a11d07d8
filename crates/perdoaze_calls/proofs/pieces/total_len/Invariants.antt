use Rattle.std.proofs.Common.{◌≡◌, ◌+◌, ◌<◌, length, drop}
use Rattle.perdoaze_calls.specs.Pieces.{text_in}
use Rattle.perdoaze_calls.proofs.pieces.total_len.Given as goal

-- the bytes so far and those that are left are all
abbrev pub invariant-loop-piece : goal.invariant-loop-piece
invariant-loop-piece l = record {
  all : l.total + length (text_in (drop l.piece-index l.pieces)) ≡ length (text_in l.pieces);
  few : l.total < 4294967296;
}
