use Rattle.std.proofs.Common.{◌≡◌}
use Rattle.std_defs.specs.Cmac.{chained}
use Rattle.cmac_ccm.proofs.chain.chain_blocks.Given as goal

abbrev pub invariant-loop-i : goal.invariant-loop-i
invariant-loop-i g l = l.chain ≡ chained (g.C.BlockCipher.sealed l.cipher) l.fn.chain l.bytes l.i
