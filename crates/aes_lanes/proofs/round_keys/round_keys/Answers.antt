use Rattle.std.proofs.Common.{◌∙◌, arith, length-set}
use Rattle.aes_lanes.proofs.KeyVectors.{HoldKeys, schedule_is, twice_is, holds_more}
use Rattle.aes_lanes.proofs.round_keys.round_keys.Goals as goal

pub loop-round-preserved : goal.loop-round-preserved
loop-round-preserved c = record {
  long = length-set c.loop-round.keys c.loop-round.round c.round_key_twice.result ∙ c.loop-round.invariant.long;
  done = holds_more c.args.words.now c.loop-round.keys c.loop-round.round c.round_key_twice.result (omega (arith, c.loop-round.invariant.long)) c.round_key_twice.ensures c.loop-round.invariant.done;
}

pub returns-clause-schedule : goal.returns-clause-schedule
returns-clause-schedule c =
    let held : HoldKeys c.args.words.now c.loop-round.keys = λ r d h. c.loop-round.invariant.done r d (omega arith) in
    schedule_is c.args.words.now c.loop-round.keys c.loop-round.invariant.long held

pub returns-clause-twice : goal.returns-clause-twice
returns-clause-twice c =
    let held : HoldKeys c.args.words.now c.loop-round.keys = λ r d h. c.loop-round.invariant.done r d (omega arith) in
    twice_is c.args.words.now c.loop-round.keys c.loop-round.invariant.long held
