use Rattle.std.proofs.Common.{ℕ, List, ◌++◌, take}
use Rattle.std.specs.List.{concat}
use Rattle.sha_lanes.specs.Hashers.{HasAbsorbed}
use Rattle.hmac_sha.proofs.mac.hash_parts.Given as goal

-- the segments so far are hashed
abbrev pub invariant-loop-part : goal.invariant-loop-part
invariant-loop-part l = (m : List ℕ) → HasAbsorbed l.fn.hasher m → HasAbsorbed l.hasher (m ++ concat (take l.part-index l.parts))
