use Rattle.std.proofs.Common.{◌≡◌, ◌++◌, length, map, take, drop}
use Rattle.aes_block.proofs.cipher.BlockCipher.seal_some.Given as goal

abbrev pub invariant-loop-j : goal.invariant-loop-j
invariant-loop-j g l = record {
  long : length l.b ≡ 8;
  done : l.b ≡ map (g.Self.BlockCipher.sealed l.self) (take l.j l.fn.b) ++ drop l.j l.fn.b;
}
