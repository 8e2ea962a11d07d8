use Rattle.std.proofs.Common.{◌≡◌, length}
use Rattle.std.specs.Prelude.{map}
use Rattle.aes_lanes.specs.RowKeys.{less_constant}
use Rattle.aes_lanes.specs.SealingTower.{tower_byte}
use Rattle.aes_lanes.proofs.RowKeyVectors.{StandBelow}
use Rattle.aes_lanes.proofs.row_keys.sealing_keys.Given as goal

abbrev pub invariant-loop-round : goal.invariant-loop-round
invariant-loop-round l = record {
  long : length l.rows ≡ 15;
  done : StandBelow l.round tower_byte (map less_constant) l.keys l.rows;
}
