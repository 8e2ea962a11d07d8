use Rattle.std.proofs.Common.{ℕ, List, ◌∙◌, ap, ap₂, bit_xor}
use Rattle.std_defs.specs.Blocks.{block_number}
use Rattle.std_defs.specs.GhashField.{field_product}
use Rattle.std_defs.proofs.FieldBytes.{block_number-block_bytes}
use Rattle.ghash_field.proofs.EightBlocks.{eight_products}
use Rattle.ghash_field.proofs.lane_ghash.LaneGhashGhashKey.absorb_eight.Goals as goal

pub returns : goal.returns
returns c =
    let s = c.args.self.now in
    c.sum_of_products.ensures
    ∙ ap₂ bit_xor
    (ap₂ bit_xor
    (ap₂ bit_xor
    (ap (λ (t : ℕ). field_product t s.eighth.h)
    (ap block_number c.halves_of.ensures ∙ c.added.ensures ∙ ap₂ bit_xor (ap block_number c.lanes_of.ensures ∙ block_number-block_bytes c.args.y c.ranges.y.fits) (ap block_number c.lanes_at.ensures)))
    (ap (λ (v : List ℕ). field_product (block_number v) s.seventh.h) (c.halves_of-2.ensures ∙ c.lanes_at-2.ensures)))
    (ap₂ bit_xor
    (ap (λ (v : List ℕ). field_product (block_number v) s.sixth.h) (c.halves_of-3.ensures ∙ c.lanes_at-3.ensures))
    (ap (λ (v : List ℕ). field_product (block_number v) s.fifth.h) (c.halves_of-4.ensures ∙ c.lanes_at-4.ensures))))
    (ap₂ bit_xor
    (ap₂ bit_xor
    (ap (λ (v : List ℕ). field_product (block_number v) s.fourth.h) (c.halves_of-5.ensures ∙ c.lanes_at-5.ensures))
    (ap (λ (v : List ℕ). field_product (block_number v) s.third.h) (c.halves_of-6.ensures ∙ c.lanes_at-6.ensures)))
    (ap₂ bit_xor
    (ap (λ (v : List ℕ). field_product (block_number v) s.second.h) (c.halves_of-7.ensures ∙ c.lanes_at-7.ensures))
    (ap (λ (v : List ℕ). field_product (block_number v) s.first.h) (c.halves_of-8.ensures ∙ c.lanes_at-8.ensures))))
    ∙ eight_products s.first.h c.args.y s.second.h s.third.h s.fourth.h s.fifth.h s.sixth.h s.seventh.h s.eighth.h c.args.eight.now s.first.fits c.ranges.y.fits (λ i. (c.type_inv.eight i).fits) c.requires
    s.powers.0 s.powers.1 s.powers.2 s.powers.3 s.powers.4 s.powers.5 s.powers.6
