use Rattle.std.proofs.Common.{◌∙◌, arith, length-set}
use Rattle.std_defs.specs.Aes.{inverse_mix_columns}
use Rattle.aes_lanes.specs.Pairs.{each_half}
use Rattle.aes_lanes.specs.Tower.{state_byte}
use Rattle.aes_lanes.proofs.RowKeyVectors.{rows_more, rows_all}
use Rattle.aes_lanes.proofs.row_keys.unsealing_keys.Goals as goal

pub loop-round-preserved : goal.loop-round-preserved
loop-round-preserved c = record {
  long = length-set c.loop-round.rows c.loop-round.round c.unsealing_key.result ∙ c.loop-round.invariant.long;
  done = rows_more state_byte (each_half inverse_mix_columns) c.args.keys.now c.loop-round.rows c.loop-round.round c.unsealing_key.result (omega (arith, c.loop-round.invariant.long)) c.unsealing_key.ensures c.loop-round.invariant.done;
}

pub returns : goal.returns
returns c = rows_all c.args.count state_byte (each_half inverse_mix_columns) c.args.keys.now c.loop-round.rows c.requires c.told-keys c.loop-round.invariant.long (λ r d h. c.loop-round.invariant.done r d (omega arith))
