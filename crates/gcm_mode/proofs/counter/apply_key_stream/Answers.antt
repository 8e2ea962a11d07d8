use Rattle.std_defs.specs.Gcm.{gctr, key_stream_block}
use Rattle.gcm_mode.proofs.counter.apply_key_stream.Goals as goal

pub returns : goal.returns
unfolding gctr key_stream_block
returns g c = c.apply_key_stream.ensures
