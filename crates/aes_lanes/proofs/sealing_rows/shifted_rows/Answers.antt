use Rattle.std.specs.Prelude.{[], ◌∷◌, map}
use Rattle.std.proofs.Common.{arith, ◌∙◌}
use Rattle.aes_lanes.specs.SealingTower.{tower_byte}
use Rattle.aes_lanes.specs.Rows.{eight_blocks}
use Rattle.aes_lanes.proofs.RowsSealed.{all_shifted_rows}
use Rattle.aes_lanes.proofs.sealing_rows.shifted_rows.Goals as goal

pub returns : goal.returns
returns c g =
    let s = c.args.s in
    (λ j. map (map g) (map (map tower_byte) (eight_blocks (s.first ∷ c.one_column_on.ensures j ∷ c.two_columns_on.ensures j ∷ c.three_columns_on.ensures j ∷ []))))
    ∙ all_shifted_rows g tower_byte s.first s.second s.third s.fourth (omega arith) (omega arith) (omega arith) (omega arith)
