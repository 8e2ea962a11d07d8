use Rattle.std.proofs.Common.{◌≡◌, ◌++◌, ◌≤◌, ◌+◌, length, drop}
use Rattle.std.specs.Prelude.{vec_capacity}
use Rattle.std.specs.List.{concat}
use Rattle.transforms.proofs.room.add_parts.Given as goal

-- the bytes so far and those that are left are all, and there is room for these
abbrev pub invariant-loop-part : goal.invariant-loop-part
invariant-loop-part l = (l.buffer.items ++ concat (drop l.part-index l.parts) ≡ l.fn.buffer.items ++ concat l.parts) × (length l.buffer.items + length (concat (drop l.part-index l.parts)) ≤ vec_capacity l.buffer) × (vec_capacity l.fn.buffer ≤ vec_capacity l.buffer)
