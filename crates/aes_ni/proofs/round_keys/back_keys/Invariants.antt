use Rattle.std.proofs.Common.{◌≡◌, length}
use Rattle.aes_ni.proofs.KeyVectors.{BackBelow}
use Rattle.aes_ni.proofs.round_keys.back_keys.Given as goal

abbrev pub invariant-loop-round : goal.invariant-loop-round
invariant-loop-round l = record {
  long : length l.back ≡ 15;
  done : BackBelow l.round l.keys l.back;
}
