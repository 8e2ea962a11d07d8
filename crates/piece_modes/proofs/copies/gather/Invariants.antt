use Rattle.std.proofs.Common.{◌≡◌, ◌++◌, ◌-◌, ◌≤◌, length, take, drop}
use Rattle.std.specs.List.{concat}
use Rattle.piece_modes.specs.Pieces.{parts_of}
use Rattle.piece_modes.proofs.copies.gather.Given as goal

-- what was copied, and what is still to be copied
abbrev pub invariant-loop-i : goal.invariant-loop-i
invariant-loop-i l = record {
  copied : take l.done l.into ++ take (length l.fn.into - l.done) (drop l.skip (concat (drop l.i (parts_of l.pieces))))
      ≡ take (length l.fn.into) (drop l.at (concat (drop l.first (parts_of l.pieces))));
  rest : drop l.done l.into ≡ drop l.done l.fn.into;
  long : length l.into ≡ length l.fn.into;
  room : l.done ≤ length l.fn.into;
}
