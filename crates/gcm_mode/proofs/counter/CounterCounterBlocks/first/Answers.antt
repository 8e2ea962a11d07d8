use Rattle.std_defs.specs.Gcm.{counter_block}
use Rattle.gcm_mode.proofs.counter.CounterCounterBlocks.first.Goals as goal

pub returns : goal.returns
unfolding counter_block
returns c = c.block_bytes.ensures
