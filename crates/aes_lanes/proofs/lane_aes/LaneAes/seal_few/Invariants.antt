use Rattle.std.proofs.Common.{◌≡◌, ◌*◌, ◌++◌, length, map, take, drop}
use Rattle.std_defs.specs.Aes.{seal}
use Rattle.aes_lanes.proofs.lane_aes.LaneAes.seal_few.Given as goal

abbrev pub invariant-loop-j : goal.invariant-loop-j
invariant-loop-j l = record {
  long : length l.b ≡ 8;
  done : l.b ≡ map (seal l.self.bytes) (take (2 * l.j) l.fn.b) ++ drop (2 * l.j) l.fn.b;
}
