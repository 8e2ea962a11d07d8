use Rattle.std.proofs.Common.{◌≡◌, ◌+◌, length, drop}
use Rattle.std.specs.List.{concat}
use Rattle.sg_walk.proofs.parts.total_len.Given as goal

-- the bytes so far and those that are left are all
abbrev pub invariant-loop-part : goal.invariant-loop-part
invariant-loop-part l = l.len + length (concat (drop l.part-index l.parts)) ≡ length (concat l.parts)
