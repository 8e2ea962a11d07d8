use Rattle.std.proofs.Common.{arith}
use Rattle.sha2.specs.Sha256.{schedule}
use Rattle.sha_lanes.proofs.Steps.{next, word}
use Rattle.sha_lanes.proofs.lane_rounds.step.Goals as goal

pub returns : goal.returns
returns c = λ h b words held.
    next h (schedule b 48) c.args.v c.args.t held (c.round.ensures _ _ (word b c.args.rows.now c.args.lane c.args.t (omega (arith, c.told-rows)) c.requires.round words))
