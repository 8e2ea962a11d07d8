use Rattle.std.proofs.Common.{◌∙◌, ◌*◌, ◌%◌, ◌^◌, ap, arith}
use Rattle.poly1305.proofs.LaneFacts.{with_splat}
use Rattle.poly1305.proofs.lanes.up_twelve.Goals as goal

pub returns : goal.returns
returns c j lt =
    c.low.ensures j lt ∙ ap (λ x. x % 2 ^ 26) (with_splat (λ x n. x * 2 ^ n % 2 ^ 64) c.args.a 12 j c.fits-a.0 lt) ∙ omega arith
