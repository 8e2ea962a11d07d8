use Rattle.std.proofs.Common.{◌*◌}
use Rattle.cbc_mode.proofs.Pieces.{Opened}
use Rattle.cbc_mode.proofs.blocks.unseal_blocks.Given as goal

abbrev pub invariant-loop-i : goal.invariant-loop-i
invariant-loop-i g l = Opened (g.C.BlockCipher.unsealed l.cipher) l.fn.iv l.fn.text l.text l.before (8 * l.i)
