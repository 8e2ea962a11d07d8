use Rattle.std.proofs.Common.{◌≡◌, ap, sym, ◌∙◌, arith, length, ◌*◌, ◌+◌, bit_xor}
use Rattle.std_defs.specs.Blocks.{block_bytes}
use Rattle.std_defs.specs.GhashField.{field_product}
use Rattle.std_defs.specs.Gcm.{gctr, pre_counter_block, gcm_tag, lengths_block}
use Rattle.gcm_mode.proofs.Tag.{hashed-gcm_hash}
use Rattle.gcm_mode.proofs.gcm.Gcm.tag_of_segs.Goals as goal

pub returns-clause-tag : goal.returns-clause-tag
unfolding gcm_tag lengths_block
returns-clause-tag g c =
    let sealed = g.C.BlockCipher.sealed c.args.self.now in
    let h = g.H.GhashKey.block c.key-key.result.now in
    let lengths : length c.args.associated.now * 8 * 18446744073709551616 + c.len-text_len.result * 8 ≡ lengths_block c.args.associated.now c.args.text.now.text = omega (arith, c.len-text_len.ensures) in
    c.seal_hash.ensures
    ∙ ap (λ n. gctr sealed (pre_counter_block c.args.iv.now) (block_bytes n))
    (ap (λ k. field_product (bit_xor c.hash_over-after_text.result (length c.args.associated.now * 8 * 18446744073709551616 + c.len-text_len.result * 8)) k) (sym c.key-key.ensures)
    ∙ ap (λ n. field_product (bit_xor c.hash_over-after_text.result n) h) lengths
    ∙ hashed-gcm_hash sealed h c.absorb-after_associated.result c.hash_over-after_text.result c.args.associated.now c.args.text.now.text
    c.key-key.ensures (g.met.H.GhashKey.fits c.key-key.result.now)
    (λ i. (c.type_inv.associated i).fits) c.hash_over-after_text.ensures.bytes c.requires.associated_short c.requires.text_short
    c.absorb-after_associated.type_inv c.absorb-after_associated.ensures c.hash_over-after_text.ensures.hash)
