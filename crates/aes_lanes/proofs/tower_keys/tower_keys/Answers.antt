use Rattle.std.specs.Prelude.{map}
use Rattle.std.proofs.Common.{◌∙◌, ap, arith, length-set}
use Rattle.aes_lanes.specs.RowKeys.{less_constant}
use Rattle.aes_lanes.proofs.TowerKeyVectors.{tower_more, tower_all}
use Rattle.aes_lanes.proofs.tower_keys.tower_keys.Goals as goal

pub loop-round-preserved : goal.loop-round-preserved
loop-round-preserved c = record {
  long = length-set c.loop-round.in_tower c.loop-round.round c.tower_key.result ∙ c.loop-round.invariant.long;
  done = tower_more c.args.keys.now c.loop-round.in_tower c.loop-round.round c.tower_key.result (omega (arith, c.loop-round.invariant.long))
      (c.tower_key.ensures ∙ ap (map less_constant) c.front_of.ensures) c.loop-round.invariant.done;
}

pub returns : goal.returns
returns c = tower_all c.args.count c.args.keys.now c.loop-round.in_tower c.requires c.told-keys c.loop-round.invariant.long (λ r d h. c.loop-round.invariant.done r d (omega arith))
