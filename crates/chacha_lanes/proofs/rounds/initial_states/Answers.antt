use Rattle.std.proofs.Common.{rules}
use Rattle.chacha_lanes.proofs.LaneFacts.{below_eight}
use Rattle.chacha_lanes.proofs.rounds.initial_states.Goals as goal

pub returns : goal.returns
returns c = below_eight _ (search rules) (search rules) (search rules) (search rules) (search rules) (search rules) (search rules) (search rules)
