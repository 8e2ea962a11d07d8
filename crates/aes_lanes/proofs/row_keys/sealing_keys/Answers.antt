use Rattle.std.proofs.Common.{◌∙◌, arith, length-set}
use Rattle.std.specs.Prelude.{map}
use Rattle.aes_lanes.specs.RowKeys.{less_constant}
use Rattle.aes_lanes.specs.SealingTower.{tower_byte}
use Rattle.aes_lanes.proofs.RowKeyVectors.{rows_more, rows_all}
use Rattle.aes_lanes.proofs.row_keys.sealing_keys.Goals as goal

pub loop-round-preserved : goal.loop-round-preserved
loop-round-preserved c = record {
  long = length-set c.loop-round.rows c.loop-round.round c.sealing_key.result ∙ c.loop-round.invariant.long;
  done = rows_more tower_byte (map less_constant) c.args.keys.now c.loop-round.rows c.loop-round.round c.sealing_key.result (omega (arith, c.loop-round.invariant.long)) c.sealing_key.ensures c.loop-round.invariant.done;
}

pub returns : goal.returns
returns c = rows_all c.args.count tower_byte (map less_constant) c.args.keys.now c.loop-round.rows c.requires c.told-keys c.loop-round.invariant.long (λ r d h. c.loop-round.invariant.done r d (omega arith))
