use Rattle.std.proofs.Common.{arith}
use Rattle.cmac_ccm.proofs.Fields.{same_counter}
use Rattle.cmac_ccm.proofs.formatting.CounterCounterBlocks.skip.Goals as goal

pub returns : goal.returns
returns c = λ n. same_counter c.args.self.now.iv _ _ c.args.self.now.taken (omega arith)
