use Rattle.std.proofs.Common.{◌∙◌, arith, length-set}
use Rattle.aes_ni.proofs.KeyVectors.{back_more, back_all}
use Rattle.aes_ni.proofs.round_keys.back_keys.Goals as goal

pub loop-round-preserved : goal.loop-round-preserved
loop-round-preserved c = record {
  long = length-set c.loop-round.back c.loop-round.round (record { bytes = c.aesimc.result }) ∙ c.loop-round.invariant.long;
  done = back_more c.args.keys.now c.loop-round.back c.loop-round.round (record { bytes = c.aesimc.result }) (omega (arith, c.loop-round.invariant.long))
      c.aesimc.ensures c.loop-round.invariant.done;
}

pub returns : goal.returns
returns c = back_all c.args.keys.now c.loop-round.back c.told-keys c.loop-round.invariant.long (λ r d h. c.loop-round.invariant.done r d (omega arith))
