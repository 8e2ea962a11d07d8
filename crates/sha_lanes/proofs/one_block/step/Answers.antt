use Rattle.std.proofs.Common.{ap, arith, slice_index}
use Rattle.sha2.specs.Sha256.{add32, round_constants, schedule}
use Rattle.sha_lanes.proofs.Schedules.{word_set}
use Rattle.sha_lanes.proofs.Steps.{next}
use Rattle.sha_lanes.proofs.one_block.step.Goals as goal

pub returns : goal.returns
returns c = λ h b word held.
    let k = slice_index round_constants c.args.t in (
      word_set c.args.words.now (schedule b 48) c.args.t (omega (arith, c.told-words)) held.0 word,
      next h (schedule b 48) c.args.v c.args.t held.1 (c.round.ensures k (slice_index (schedule b 48) c.args.t) (ap (λ w. add32 w k) word)),
    )
