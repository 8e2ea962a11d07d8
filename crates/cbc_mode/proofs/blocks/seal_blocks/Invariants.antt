use Rattle.std.proofs.Common.{◌≡◌, ◌++◌, ◌*◌, drop, suc}
use Rattle.std_defs.specs.Blocks.{joined}
use Rattle.std_defs.specs.Modes.{cbc_block}
use Rattle.cbc_mode.proofs.blocks.seal_blocks.Given as goal

abbrev pub invariant-loop-i : goal.invariant-loop-i
invariant-loop-i g l = record {
  made : l.text ≡ joined (λ j. cbc_block (g.C.BlockCipher.sealed l.cipher) l.fn.iv l.fn.text (suc j)) l.i ++ drop (16 * l.i) l.fn.text;
  last : l.chain ≡ cbc_block (g.C.BlockCipher.sealed l.cipher) l.fn.iv l.fn.text l.i;
}
