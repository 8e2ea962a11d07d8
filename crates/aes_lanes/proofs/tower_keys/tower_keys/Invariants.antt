use Rattle.std.proofs.Common.{◌≡◌, length}
use Rattle.aes_lanes.proofs.TowerKeyVectors.{InTowerBelow}
use Rattle.aes_lanes.proofs.tower_keys.tower_keys.Given as goal

abbrev pub invariant-loop-round : goal.invariant-loop-round
invariant-loop-round l = record {
  long : length l.in_tower ≡ 15;
  done : InTowerBelow l.round l.keys l.in_tower;
}
