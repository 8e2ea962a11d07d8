use Rattle.std.proofs.Common.{◌≡◌, ◌++◌, drop}
use Rattle.std.specs.List.{concat}
use Rattle.sg_walk.proofs.parts.joined.Given as goal

-- the bytes so far and those that are left are all
abbrev pub invariant-loop-part : goal.invariant-loop-part
invariant-loop-part l = l.bytes ++ concat (drop l.part-index l.parts) ≡ concat l.parts
