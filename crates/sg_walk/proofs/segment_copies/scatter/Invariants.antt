use Rattle.std.proofs.Common.{◌≡◌, ◌++◌, ◌+◌, ◌-◌, ◌≤◌, length, map, take, drop}
use Rattle.std.specs.List.{concat}
use Rattle.sg_walk.specs.Segments.{written}
use Rattle.sg_walk.proofs.segment_copies.scatter.Given as goal

-- the segments that are written, and those in which the rest of the piece is still to be written
abbrev pub invariant-loop-i : goal.invariant-loop-i
invariant-loop-i l = record {
  text : concat (take l.i l.parts) ++ written l.skip (drop l.done l.piece) (concat (drop l.i l.parts))
      ≡ written (length (concat (take l.first l.fn.parts)) + l.at) l.piece (concat l.fn.parts);
  sizes : map length l.parts ≡ map length l.fn.parts;
  room : l.done ≤ length l.piece;
  within : l.skip + (length l.piece - l.done) ≤ length (concat (drop l.i l.parts));
}
