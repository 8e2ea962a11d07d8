use Rattle.std.proofs.Common.{[], slice_index_or}
use Rattle.std_defs.specs.Blocks.{xor_blocks, text_block}
use Rattle.xts_mode.proofs.Eight.{Filled}
use Rattle.xts_mode.proofs.blocks.some_masked.Given as goal

abbrev pub invariant-loop-j : goal.invariant-loop-j
invariant-loop-j l = Filled (λ k. xor_blocks (text_block l.text k) (slice_index_or l.masks k [])) l.some l.j
