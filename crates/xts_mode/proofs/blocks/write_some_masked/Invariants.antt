use Rattle.std.proofs.Common.{◌≡◌, ◌++◌, ◌*◌, [], drop, slice_index_or}
use Rattle.std_defs.specs.Blocks.{xor_blocks, joined}
use Rattle.xts_mode.proofs.blocks.write_some_masked.Given as goal

abbrev pub invariant-loop-j : goal.invariant-loop-j
invariant-loop-j l = l.text ≡ joined (λ k. xor_blocks (slice_index_or l.blocks k []) (slice_index_or l.masks k [])) l.j ++ drop (16 * l.j) l.fn.text
