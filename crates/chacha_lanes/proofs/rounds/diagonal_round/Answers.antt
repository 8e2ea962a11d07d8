use Rattle.std_defs.specs.ChaCha20.{diagonal_round}
use Rattle.chacha_lanes.proofs.rounds.diagonal_round.Goals as goal

pub returns : goal.returns
unfolding diagonal_round
returns c j h =
    rw (
      ← c.quarter_round.ensures j h,
      ← c.quarter_round-2.ensures j h,
      ← c.quarter_round-3.ensures j h,
      ← c.quarter_round-4.ensures j h,
    )
