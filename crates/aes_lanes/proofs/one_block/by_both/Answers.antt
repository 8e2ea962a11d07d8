use Rattle.std.specs.Prelude.{bit_xor}
use Rattle.std.proofs.Common.{ap₂, ◌∙◌}
use lib.Lanes.{zip2}
use Rattle.aes_lanes.proofs.one_block.by_both.Goals as goal

pub returns : goal.returns
returns c = c.sum.ensures ∙ ap₂ (zip2 bit_xor) c.looked_up.ensures c.looked_up-2.ensures
