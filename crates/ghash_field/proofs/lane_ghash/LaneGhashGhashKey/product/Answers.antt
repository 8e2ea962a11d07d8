use Rattle.std.proofs.Common.{ℕ, ◌∙◌, ap}
use Rattle.std_defs.specs.Blocks.{block_number}
use Rattle.std_defs.specs.GhashField.{field_product}
use Rattle.std_defs.proofs.FieldBytes.{block_number-block_bytes}
use Rattle.ghash_field.proofs.lane_ghash.LaneGhashGhashKey.product.Goals as goal

pub returns : goal.returns
returns c =
    c.product_by.ensures
    ∙ ap (λ (t : ℕ). field_product t c.args.self.now.first.h) (ap block_number (c.halves_of.ensures ∙ c.lanes_of.ensures) ∙ block_number-block_bytes c.args.x c.ranges.x.fits)
