use Rattle.std.specs.Prelude.{[], ◌∷◌}
use Rattle.std.proofs.Common.{◌∙◌}
use Rattle.aes_lanes.specs.Rows.{eight_blocks}
use Rattle.aes_lanes.proofs.Transposed.{crossed, rows_of_pairs}
use Rattle.aes_lanes.proofs.rows.rows_of.Goals as goal

pub returns : goal.returns
returns c =
    (λ j. eight_blocks (c.crossed.ensures.first j ∷ c.crossed.ensures.second j ∷ c.crossed.ensures.third j ∷ c.crossed.ensures.fourth j ∷ []))
    ∙ (λ j. eight_blocks (crossed (c.grouped.ensures j) (c.grouped-2.ensures j) (c.grouped-3.ensures j) (c.grouped-4.ensures j)))
    ∙ rows_of_pairs c.args.a c.args.b c.args.c c.args.d c.fits-a.0 c.fits-b.0 c.fits-c.0 c.fits-d.0
