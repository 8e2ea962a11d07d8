use Rattle.std.proofs.Common.{arith, refl}
use Rattle.cbc_mode.proofs.Filled.{filled_none, filled_more}
use Rattle.cbc_mode.proofs.blocks.some_blocks.Goals as goal

pub loop-j-init : goal.loop-j-init
loop-j-init c = filled_none _ _ refl

pub loop-j-preserved : goal.loop-j-preserved
loop-j-preserved c = filled_more _ _ c.loop-j.j c.block_at.result c.loop-j.invariant (omega arith) c.block_at.ensures

pub returns : goal.returns
returns c = λ j below. c.loop-j.invariant.made j (omega arith)
