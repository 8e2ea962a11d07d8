use Rattle.std.proofs.Common.{◌∙◌, ap₂, bit_xor}
use Rattle.ghash_clmul.specs.Wide.{number}
use Rattle.ghash_clmul.proofs.Parts.{spanned-same, spanned-xor}
use Rattle.ghash_clmul.proofs.wide.sum.Goals as goal

pub returns : goal.returns
returns c =
    let x = c.x.inside in
    let y = c.y.inside in
    spanned-same c.added.ensures.sum c.added-2.ensures.sum c.added-3.ensures.sum
    ∙ spanned-xor (number x.low) (number x.middle) (number x.high) (number y.low) (number y.middle) (number y.high)
    ∙ ap₂ bit_xor c.x.view_is c.y.view_is
