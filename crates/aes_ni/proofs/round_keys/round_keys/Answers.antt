use Rattle.std.proofs.Common.{◌∙◌, arith, length-set}
use Rattle.aes_ni.proofs.KeyVectors.{HoldKeys, schedule_is, blocks_are, holds_more}
use Rattle.aes_ni.proofs.round_keys.round_keys.Goals as goal

pub loop-round-preserved : goal.loop-round-preserved
loop-round-preserved c = record {
  long = length-set c.loop-round.keys c.loop-round.round c.round_key.result ∙ c.loop-round.invariant.long;
  done = holds_more c.args.words.now c.loop-round.keys c.loop-round.round c.round_key.result (omega (arith, c.loop-round.invariant.long)) c.round_key.ensures c.loop-round.invariant.done;
}

pub returns-clause-schedule : goal.returns-clause-schedule
returns-clause-schedule c =
    let held : HoldKeys c.args.words.now c.loop-round.keys = λ r d h. c.loop-round.invariant.done r d (omega arith) in
    schedule_is c.args.words.now c.loop-round.keys c.loop-round.invariant.long held

pub returns-clause-blocks : goal.returns-clause-blocks
returns-clause-blocks c =
    let held : HoldKeys c.args.words.now c.loop-round.keys = λ r d h. c.loop-round.invariant.done r d (omega arith) in
    blocks_are c.args.words.now c.loop-round.keys c.loop-round.invariant.long held
