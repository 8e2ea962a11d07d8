use Rattle.std.proofs.Common.{◌≡◌, ◌<◌, ℕ, length, get_or}
use Rattle.aes_block.specs.KeyBlock.{key_block}
use Rattle.aes_ni.specs.declared.round_keys.RoundKey.{RoundKey}
use Rattle.aes_ni.proofs.round_keys.round_keys.Given as goal

abbrev pub invariant-loop-round : goal.invariant-loop-round
invariant-loop-round l = record {
  long : length l.keys ≡ 15;
  done : (r : ℕ) (d : RoundKey) → r < l.round → (get_or l.keys r d).bytes ≡ key_block l.words r;
}
