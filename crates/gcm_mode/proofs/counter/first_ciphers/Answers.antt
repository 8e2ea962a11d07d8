use Rattle.std.proofs.Common.{ap, ◌∙◌}
use Rattle.std_defs.specs.Blocks.{block_bytes}
use Rattle.std_defs.specs.Gcm.{counter_block}
use Rattle.gcm_mode.proofs.counter.first_ciphers.Goals as goal

pub returns : goal.returns
returns g c = λ j below taken.
    c.first_ciphers.ensures j below taken ∙ ap (λ n. g.C.BlockCipher.sealed c.args.cipher.now (block_bytes (counter_block n j))) c.pre_counter.ensures
