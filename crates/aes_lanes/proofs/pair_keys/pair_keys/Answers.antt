use Rattle.std.proofs.Common.{◌∙◌, arith, length-set}
use Rattle.aes_lanes.proofs.PairKeyVectors.{pairs_more, pairs_all}
use Rattle.aes_lanes.proofs.pair_keys.pair_keys.Goals as goal

pub loop-round-preserved : goal.loop-round-preserved
loop-round-preserved c = record {
  long = length-set c.loop-round.pairs c.loop-round.round c.pair_key.result ∙ c.loop-round.invariant.long;
  done = pairs_more c.args.keys.now c.loop-round.pairs c.loop-round.round c.pair_key.result (omega (arith, c.loop-round.invariant.long)) c.pair_key.ensures c.loop-round.invariant.done;
}

pub returns : goal.returns
returns c = pairs_all c.args.count c.args.keys.now c.loop-round.pairs c.requires c.told-keys c.loop-round.invariant.long (λ r d h. c.loop-round.invariant.done r d (omega arith))
