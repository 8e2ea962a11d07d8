use Rattle.std.proofs.Common.{◌≡◌, ◌++◌, ◌-◌, ◌≤◌, length, take, drop}
use Rattle.std.specs.List.{concat}
use Rattle.sg_walk.proofs.segment_copies.gather.Given as goal

-- what was copied, and what is still to be copied
abbrev pub invariant-loop-i : goal.invariant-loop-i
invariant-loop-i l = record {
  copied : take l.done l.into ++ take (length l.fn.into - l.done) (drop l.skip (concat (drop l.i l.parts)))
      ≡ take (length l.fn.into) (drop l.at (concat (drop l.first l.parts)));
  rest : drop l.done l.into ≡ drop l.done l.fn.into;
  long : length l.into ≡ length l.fn.into;
  room : l.done ≤ length l.fn.into;
}
