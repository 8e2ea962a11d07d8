use Rattle.std.proofs.Common.{ap, ◌∙◌, arith, length, bit_xor, get_or}
use Rattle.std_defs.specs.Blocks.{block_bytes}
use Rattle.std_defs.specs.Gcm.{pre_counter_block, gcm_tag, gctr}
use Rattle.gcm_mode.proofs.Tag.{under_cipher, whole-gcm_hash, length-block_bytes}
use Rattle.gcm_mode.proofs.gcm.Gcm.tag.Goals as goal

pub returns : goal.returns
unfolding gcm_tag
returns g c = λ iv sealed.
    let sixteen = ap length c.block_bytes-tag.ensures ∙ length-block_bytes c.ghash_of.result in
    under_cipher (g.C.BlockCipher.sealed c.args.self.now) (pre_counter_block iv) c.ghash_of.result c.xor_block.new.text c.args.sealed.now sealed (c.xor_block.auto.text ∙ sixteen)
    (λ k below. c.xor_block.ensures k (omega arith) ∙ ap (λ v. bit_xor (get_or v k 0) (get_or c.args.sealed.now k 0)) c.block_bytes-tag.ensures)
    ∙ ap (λ n. gctr (g.C.BlockCipher.sealed c.args.self.now) (pre_counter_block iv) (block_bytes n))
    (c.ghash_of.ensures
    ∙ whole-gcm_hash (g.C.BlockCipher.sealed c.args.self.now) (g.H.GhashKey.block c.self.inside.key) c.lengths_of-lengths.result c.args.associated.now c.args.text.now
    (rw c.self.view_is at c.self.invariant) c.lengths_of-lengths.ensures)
