use Rattle.std.proofs.Common.{◌≡◌, ◌*◌, List, ℕ}
use Rattle.sha2.specs.Sha256.{rounds, schedule}
use Rattle.sha_lanes.specs.Lanes.{in_lane, keyed_words}
use Rattle.sha_lanes.proofs.lane_rounds.all_steps.Given as goal

abbrev pub invariant-loop-turn : goal.invariant-loop-turn
invariant-loop-turn l = (b : List ℕ) → in_lane l.rows l.lane ≡ keyed_words b → l.v ≡ rounds l.fn.state (schedule b 48) (8 * l.turn)
