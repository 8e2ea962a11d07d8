use Rattle.std_defs.specs.Blocks.{text_block}
use Rattle.cbc_mode.proofs.Filled.{Filled}
use Rattle.cbc_mode.proofs.blocks.some_blocks.Given as goal

abbrev pub invariant-loop-j : goal.invariant-loop-j
invariant-loop-j l = Filled (text_block l.text) l.some l.j
