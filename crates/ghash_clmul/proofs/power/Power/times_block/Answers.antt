use Rattle.std.proofs.Common.{◌∙◌, ap}
use Rattle.std_defs.specs.GhashField.{field_product}
use Rattle.ghash_clmul.specs.Wide.{number, reduced}
use Rattle.ghash_clmul.proofs.Vectors.{number-lt}
use Rattle.ghash_clmul.proofs.Powers.{by_divided}
use Rattle.ghash_clmul.proofs.power.Power.times_block.Goals as goal

pub returns : goal.returns
returns c =
    ap reduced c.product_of.ensures
    ∙ by_divided (number c.args.x) (number c.self.inside.lanes) (number-lt c.args.x c.fits-x) c.self.invariant
    ∙ ap (field_product (number c.args.x)) c.self.view_is
