use Rattle.std.proofs.Common.{◌≡◌, ◌++◌, take, drop, length}
use Rattle.sg_walk.proofs.Joined.{fronts}
use Rattle.sg_walk.proofs.parts.cut_to.Given as goal

-- the segments that were cut, and the fronts of those that are left
abbrev pub invariant-loop-part : goal.invariant-loop-part
invariant-loop-part l = record {
  cut : take l.part-index l.parts ++ fronts l.rest (drop l.part-index l.parts) ≡ fronts l.len l.fn.parts;
  same : length l.parts ≡ length l.fn.parts;
}
