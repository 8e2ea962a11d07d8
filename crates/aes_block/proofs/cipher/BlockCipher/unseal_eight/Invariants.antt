use Rattle.std.proofs.Common.{◌≡◌, ◌++◌, map, take, drop}
use Rattle.aes_block.proofs.cipher.BlockCipher.unseal_eight.Given as goal

abbrev pub invariant-loop-block : goal.invariant-loop-block
invariant-loop-block g l =
    l.b ≡ map (g.Self.BlockCipher.unsealed l.self) (take l.block-index l.fn.b) ++ drop l.block-index l.fn.b
