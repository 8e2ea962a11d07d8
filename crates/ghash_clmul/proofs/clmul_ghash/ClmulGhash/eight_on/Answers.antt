use Rattle.std.proofs.Common.{ℕ, ◌∙◌, ap, ap₂, bit_xor}
use Rattle.std_defs.specs.GhashField.{field_product}
use Rattle.ghash_field.proofs.EightBlocks.{eight_products}
use Rattle.ghash_clmul.specs.Wide.{number, reduced}
use Rattle.ghash_clmul.proofs.Vectors.{number-lt}
use Rattle.ghash_clmul.proofs.Powers.{reduced_eight}
use Rattle.ghash_clmul.proofs.clmul_ghash.ClmulGhash.eight_on.Goals as goal

pub returns : goal.returns
returns c =
    let s = c.args.self.now in
    let y : ℕ = number c.args.y in
    let s2 = c.sum-two.ensures in
    let s3 = c.sum-three.ensures ∙ ap (λ (t : ℕ). bit_xor t c.times_block-2.result) s2 in
    let s4 = c.sum-four.ensures ∙ ap (λ (t : ℕ). bit_xor t c.times_block-3.result) s3 in
    let s5 = c.sum-five.ensures ∙ ap (λ (t : ℕ). bit_xor t c.times_block-4.result) s4 in
    let s6 = c.sum-six.ensures ∙ ap (λ (t : ℕ). bit_xor t c.times_block-5.result) s5 in
    let s7 = c.sum-seven.ensures ∙ ap (λ (t : ℕ). bit_xor t c.times_block-6.result) s6 in
    let s8 = c.sum.ensures ∙ ap (λ (t : ℕ). bit_xor t c.times_block-7.result) s7 in
    c.reduced.ensures.reduces ∙ ap reduced s8
    ∙ reduced_eight c.times_block-one.result c.times_block.result c.times_block-2.result c.times_block-3.result c.times_block-4.result c.times_block-5.result c.times_block-6.result c.times_block-7.result
    ∙ ap₂ bit_xor
    (ap₂ bit_xor
    (ap₂ bit_xor
    (c.times_block-one.ensures ∙ ap (λ (t : ℕ). field_product t s.eighth) (c.added.ensures.sum ∙ ap (bit_xor y) c.lanes_at.ensures))
    (c.times_block.ensures ∙ ap (λ (t : ℕ). field_product t s.seventh) c.lanes_at-2.ensures))
    (ap₂ bit_xor
    (c.times_block-2.ensures ∙ ap (λ (t : ℕ). field_product t s.sixth) c.lanes_at-3.ensures)
    (c.times_block-3.ensures ∙ ap (λ (t : ℕ). field_product t s.fifth) c.lanes_at-4.ensures)))
    (ap₂ bit_xor
    (ap₂ bit_xor
    (c.times_block-4.ensures ∙ ap (λ (t : ℕ). field_product t s.fourth) c.lanes_at-5.ensures)
    (c.times_block-5.ensures ∙ ap (λ (t : ℕ). field_product t s.third) c.lanes_at-6.ensures))
    (ap₂ bit_xor
    (c.times_block-6.ensures ∙ ap (λ (t : ℕ). field_product t s.second) c.lanes_at-7.ensures)
    (c.times_block-7.ensures ∙ ap (λ (t : ℕ). field_product t s.first) c.lanes_at-8.ensures)))
    ∙ eight_products s.first y s.second s.third s.fourth s.fifth s.sixth s.seventh s.eighth
    c.args.eight.now s.fits (number-lt c.args.y c.fits-y) (λ (i : ℕ). (c.type_inv.eight i).fits) c.requires
    s.powers.0 s.powers.1 s.powers.2 s.powers.3 s.powers.4 s.powers.5 s.powers.6
