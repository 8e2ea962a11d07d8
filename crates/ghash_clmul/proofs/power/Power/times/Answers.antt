use Rattle.std.proofs.Common.{◌∙◌, ap, ap₂}
use Rattle.std_defs.specs.GhashField.{field_product}
use Rattle.ghash_clmul.specs.Wide.{number, reduced}
use Rattle.ghash_clmul.proofs.Powers.{by_divided, next_divided}
use Rattle.ghash_clmul.proofs.power.Power.times.Goals as goal

pub returns : goal.returns
returns c =
    let p = number c.self.inside.lanes in
    let q = number c.other.inside.lanes in
    next_divided p q (number c.reduced.result) c.self.invariant c.other.invariant
    (c.reduced.ensures.reduces ∙ ap reduced c.product_of.ensures ∙ by_divided p q c.self.invariant c.other.invariant)
    ∙ ap₂ field_product c.self.view_is c.other.view_is
