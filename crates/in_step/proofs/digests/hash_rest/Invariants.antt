use Rattle.std.proofs.Common.{◌≡◌, List, ℕ}
use Rattle.sha2.specs.Sha256.{hash_after}
use Rattle.in_step.specs.Pieces.{behind}
use Rattle.in_step.proofs.digests.hash_rest.Given as goal

abbrev pub invariant-loop-i : goal.invariant-loop-i
invariant-loop-i l = (h : List ℕ) → l.fn.value ≡ hash_after h (behind l.taken l.first l.second) l.from → l.value ≡ hash_after h (behind l.taken l.first l.second) l.i
