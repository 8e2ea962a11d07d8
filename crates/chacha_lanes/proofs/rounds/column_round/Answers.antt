use Rattle.std_defs.specs.ChaCha20.{column_round}
use Rattle.chacha_lanes.proofs.rounds.column_round.Goals as goal

pub returns : goal.returns
unfolding column_round
returns c j h =
    rw (
      ← c.quarter_round.ensures j h,
      ← c.quarter_round-2.ensures j h,
      ← c.quarter_round-3.ensures j h,
      ← c.quarter_round-4.ensures j h,
    )
