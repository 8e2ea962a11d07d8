use Rattle.std.proofs.Common.{◌≡◌, length}
use Rattle.std_defs.specs.Aes.{inverse_mix_columns}
use Rattle.aes_lanes.specs.Pairs.{each_half}
use Rattle.aes_lanes.specs.Tower.{state_byte}
use Rattle.aes_lanes.proofs.RowKeyVectors.{StandBelow}
use Rattle.aes_lanes.proofs.row_keys.unsealing_keys.Given as goal

abbrev pub invariant-loop-round : goal.invariant-loop-round
invariant-loop-round l = record {
  long : length l.rows ≡ 15;
  done : StandBelow l.round state_byte (each_half inverse_mix_columns) l.keys l.rows;
}
