use Rattle.std.proofs.Common.{◌<◌, ◌^◌, ap₂, subst, refl, arith, ◌∙◌}
use Rattle.std_defs.specs.Blocks.{block_bytes}
use Rattle.std_defs.specs.Gcm.{hash_subkey, pre_counter_block, gctr, gcm_tag, padded_blocks}
use Rattle.std_defs.proofs.Horner.{horner}
use Rattle.gcm_mode.proofs.GcmStreamed.{streamed-gcm_hash, subkey_hash}
use Rattle.gcm_mode.proofs.stream.GcmText.tag.Goals as goal

pub returns : goal.returns
unfolding gcm_tag
returns g c = λ iv a t sealed held.
    let cipher = g.C.BlockCipher.sealed c.args.gcm.now in
    let h = hash_subkey cipher in
    let key = g.H.GhashKey.block c.key.result.now in
    c.seal_hash.ensures
    ∙ ap₂ (λ i n. gctr cipher (pre_counter_block i) (block_bytes n)) held.under
    (streamed-gcm_hash cipher c.hash-hash.result h c.args.self.now.associated_len c.len.result a sealed refl (subst (λ k. k < 2 ^ 128) c.key.ensures (g.met.H.GhashKey.fits c.key.result.now))
    held.associated_len (c.len.ensures ∙ held.hash.len) (omega arith) (omega arith) held.associated_bytes held.hash.bytes
    (subkey_hash h key (horner h 0 (padded_blocks a)) c.hash-hash.result c.args.self.now.hash sealed c.key.ensures c.hash-hash.ensures held.hash))
