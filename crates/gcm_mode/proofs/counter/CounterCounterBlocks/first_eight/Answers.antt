use Rattle.std.proofs.Common.{◌∷◌, [], ◌∙◌, ap}
use Rattle.std_defs.specs.Blocks.{block_bytes}
use Rattle.std_defs.specs.Gcm.{counter_block}
use Rattle.gcm_mode.proofs.counter.CounterCounterBlocks.first_eight.Goals as goal

pub returns : goal.returns
unfolding counter_block
returns c = λ i.
    c.block_bytes.ensures i
    ∷ (c.block_bytes-2.ensures ∙ ap block_bytes c.counter_after.ensures) i
    ∷ (c.block_bytes-3.ensures ∙ ap block_bytes c.counter_after-2.ensures) i
    ∷ (c.block_bytes-4.ensures ∙ ap block_bytes c.counter_after-3.ensures) i
    ∷ (c.block_bytes-5.ensures ∙ ap block_bytes c.counter_after-4.ensures) i
    ∷ (c.block_bytes-6.ensures ∙ ap block_bytes c.counter_after-5.ensures) i
    ∷ (c.block_bytes-7.ensures ∙ ap block_bytes c.counter_after-6.ensures) i
    ∷ (c.block_bytes-8.ensures ∙ ap block_bytes c.counter_after-7.ensures) i ∷ []
