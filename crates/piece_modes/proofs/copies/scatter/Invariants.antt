use Rattle.std.proofs.Common.{◌≡◌, ◌++◌, ◌+◌, ◌-◌, ◌≤◌, length, map, take, drop}
use Rattle.std.specs.List.{concat}
use Rattle.sg_walk.specs.Segments.{written}
use Rattle.piece_modes.specs.Pieces.{parts_of}
use Rattle.piece_modes.proofs.copies.scatter.Given as goal

-- the pieces that are written, and those in which the rest of `from` is still to be written
abbrev pub invariant-loop-i : goal.invariant-loop-i
invariant-loop-i l = record {
  text : concat (take l.i (parts_of l.pieces)) ++ written l.skip (drop l.done l.from) (concat (drop l.i (parts_of l.pieces)))
      ≡ written (length (concat (take l.first (parts_of l.fn.pieces))) + l.at) l.from (concat (parts_of l.fn.pieces));
  sizes : map length (parts_of l.pieces) ≡ map length (parts_of l.fn.pieces);
  room : l.done ≤ length l.from;
  within : l.skip + (length l.from - l.done) ≤ length (concat (drop l.i (parts_of l.pieces)));
}
