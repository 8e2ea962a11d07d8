use Rattle.std.proofs.Common.{ap, ap₂, ◌∙◌, bit_xor}
use Rattle.std_defs.specs.Blocks.{block_bytes}
use Rattle.std_defs.specs.GhashField.{field_product}
use Rattle.std_defs.specs.Gcm.{gctr}
use Rattle.gcm_mode.proofs.gcm.Gcm.seal_hash.Goals as goal

pub returns : goal.returns
returns g c =
    rw (← c.self.view_is)
    (c.apply_key_stream.ensures
    ∙ ap₂ (gctr (g.C.BlockCipher.sealed c.self.inside.cipher)) c.pre_counter.ensures
    (c.block_bytes-tag.ensures ∙ ap block_bytes (c.product.ensures ∙ ap₂ (λ l k. field_product (bit_xor c.args.hash l) k) c.lengths_of-lengths.ensures c.self.invariant)))
