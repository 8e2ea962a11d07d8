use Rattle.std.proofs.Common.{◌≡◌, length}
use Rattle.aes_lanes.proofs.PairKeyVectors.{InPairsBelow}
use Rattle.aes_lanes.proofs.pair_keys.pair_keys.Given as goal

abbrev pub invariant-loop-round : goal.invariant-loop-round
invariant-loop-round l = record {
  long : length l.pairs ≡ 15;
  done : InPairsBelow l.round l.keys l.pairs;
}
