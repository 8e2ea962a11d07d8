use Rattle.std.proofs.Common.{◌≡◌, ℕ, suc, List, ◌+◌, ◌*◌, ◌≤◌, length, arith, refl, ap, ap₂, ◌∙◌, add-one}
use Rattle.std_defs.specs.Blocks.{xor_blocks, joined}
use Rattle.std_defs.specs.Modes.{cbc_block}
use Rattle.cbc_mode.proofs.InPlace.{next_block, one_more, all_made}
use Rattle.cbc_mode.proofs.blocks.seal_blocks.Goals as goal

pub loop-i-init : goal.loop-i-init
unfolding joined cbc_block
loop-i-init g c = record { made = refl; last = refl }

pub loop-i-preserved : goal.loop-i-preserved
unfolding cbc_block
loop-i-preserved g c =
    let sealed : List ℕ → List ℕ = g.C.BlockCipher.sealed c.args.cipher.now in
    let blocks : ℕ → List ℕ = λ j. cbc_block sealed c.args.iv.now c.args.text.now (suc j) in
    let within : 16 * c.loop-i.i + 16 ≤ length c.args.text.now = omega arith in
    let block : c.seal_block.new.b ≡ blocks c.loop-i.i =
    c.seal_block.ensures ∙ ap sealed (c.add_block.ensures
    ∙ ap₂ xor_blocks (c.block_at.ensures ∙ next_block c.args.text.now c.loop-i.text blocks c.loop-i.i c.loop-i.invariant.made c.loop-i.auto.text within) c.loop-i.invariant.last) in
    record {
      made = one_more c.args.text.now c.loop-i.text blocks c.loop-i.i c.loop-i.invariant.made c.loop-i.auto.text c.copy_from_slice.new.self (c.copy_from_slice.ensures.after ∙ block) within;
      last = rw add-one block;
    }

pub returns : goal.returns
returns g c =
    all_made c.args.text.now c.loop-i.text (λ j. cbc_block (g.C.BlockCipher.sealed c.args.cipher.now) c.args.iv.now c.args.text.now (suc j)) c.loop-i.i
    c.loop-i.invariant.made c.loop-i.auto.text c.requires c.loop-i-test.false c.loop-i.auto.i-end
