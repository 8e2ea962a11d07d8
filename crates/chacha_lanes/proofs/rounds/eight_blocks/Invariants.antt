use Rattle.std.proofs.Common.{◌≡◌, ℕ, ◌<◌}
use Rattle.std_defs.specs.ChaCha20.{double_rounds}
use Rattle.chacha_lanes.specs.Lanes.{lane}
use Rattle.chacha_lanes.proofs.rounds.eight_blocks.Given as goal

abbrev pub invariant-rounds : goal.invariant-rounds
invariant-rounds l = (j : ℕ) → j < 8 → lane j l.x ≡ double_rounds l._round (lane j l.first)
