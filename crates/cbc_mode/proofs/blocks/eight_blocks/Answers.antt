use Rattle.std.proofs.Common.{[], ◌∷◌}
use Rattle.cbc_mode.proofs.blocks.eight_blocks.Goals as goal

pub returns : goal.returns
returns c = λ j.
    c.block_at.ensures j ∷ c.block_at-2.ensures j ∷ c.block_at-3.ensures j ∷ c.block_at-4.ensures j
    ∷ c.block_at-5.ensures j ∷ c.block_at-6.ensures j ∷ c.block_at-7.ensures j ∷ c.block_at-8.ensures j ∷ []
