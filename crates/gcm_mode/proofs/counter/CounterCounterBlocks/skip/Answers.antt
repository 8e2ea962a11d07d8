use Rattle.std.proofs.Common.{ap}
use Rattle.std_defs.specs.Blocks.{block_bytes}
use Rattle.gcm_mode.proofs.Counted.{counted_on}
use Rattle.gcm_mode.proofs.counter.CounterCounterBlocks.skip.Goals as goal

pub returns : goal.returns
returns c = λ n. ap block_bytes (counted_on c.args.self.now.next c.counter_after-self.result n c.args.count c.counter_after-self.ensures)
