use Rattle.std.proofs.Common.{◌∙◌}
use Rattle.sha_lanes.proofs.Matrix.{eight_joined, joined}
use Rattle.sha_lanes.proofs.transposed.transposed.Goals as goal

pub returns : goal.returns
returns c =
    (λ j. joined (c.crossed-first.ensures j) (c.crossed-second.ensures j))
    ∙ eight_joined c.args.a c.args.b c.args.c c.args.d c.args.e c.args.f c.args.g c.args.h
