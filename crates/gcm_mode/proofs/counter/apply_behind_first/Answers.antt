use Rattle.std.proofs.Common.{ap, sym, ◌∙◌}
use Rattle.std_defs.specs.Blocks.{block_bytes, with_stream}
use Rattle.std_defs.specs.Gcm.{counter_block, gcm_text, gctr, key_stream_block, pre_counter_block}
use Rattle.gcm_mode.proofs.Counted.{behind}
use Rattle.gcm_mode.proofs.counter.apply_behind_first.Goals as goal

pub apply_behind_first-requires : goal.apply_behind_first-requires
apply_behind_first-requires g c = λ j below taken.
    c.requires j below taken ∙ ap (λ n. g.C.BlockCipher.sealed c.args.cipher.now (block_bytes (counter_block n j))) (sym c.pre_counter.ensures)

pub returns : goal.returns
unfolding gcm_text gctr key_stream_block
returns g c =
    c.apply_behind_first.ensures
    ∙ (λ i. with_stream (λ n. g.C.BlockCipher.sealed c.args.cipher.now (block_bytes (behind c.pre_counter.result (pre_counter_block c.args.iv.now) n c.pre_counter.ensures i))) c.args.text.now)
