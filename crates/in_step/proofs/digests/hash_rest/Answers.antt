use Rattle.std.proofs.Common.{◌∙◌, ap₂, sym}
use Rattle.sha2.specs.Sha256.{compress}
use Rattle.sha_lanes.proofs.HashedBlocks.{next}
use Rattle.in_step.specs.Pieces.{behind}
use Rattle.in_step.proofs.digests.hash_rest.Goals as goal

pub loop-i-preserved : goal.loop-i-preserved
loop-i-preserved c = λ h e. c.compressed-next.ensures ∙ ap₂ compress (c.loop-i.invariant h e) c.put_block.ensures ∙ sym (next h (behind c.args.taken c.args.first.now c.args.second.now) c.loop-i.i)
