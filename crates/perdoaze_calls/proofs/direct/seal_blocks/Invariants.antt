use Rattle.std.proofs.Common.{◌≡◌, ◌++◌, ◌*◌, drop, suc}
use Rattle.std_defs.specs.Blocks.{joined}
use Rattle.std_defs.specs.Modes.{cbc_block}
use Rattle.perdoaze_calls.proofs.direct.seal_blocks.Given as goal

abbrev pub invariant-loop-i : goal.invariant-loop-i
invariant-loop-i g l = record {
  made : l.into ≡ joined (λ j. cbc_block (g.C.BlockCipher.sealed l.cipher) l.fn.iv l.fn.from (suc j)) l.i ++ drop (16 * l.i) l.fn.into;
  last : l.chain ≡ cbc_block (g.C.BlockCipher.sealed l.cipher) l.fn.iv l.fn.from l.i;
}
