use Rattle.std.specs.Prelude.{[], ◌∷◌, map}
use Rattle.std.proofs.Common.{arith, ◌∙◌}
use Rattle.aes_lanes.specs.Tower.{state_byte}
use Rattle.aes_lanes.specs.Rows.{eight_blocks}
use Rattle.aes_lanes.proofs.Transposed.{all_shifted_back}
use Rattle.aes_lanes.proofs.rows.shifted_back.Goals as goal

pub returns : goal.returns
returns c =
    let s = c.args.s in
    (λ j. map (map state_byte) (eight_blocks (s.first ∷ c.three_columns_on.ensures j ∷ c.two_columns_on.ensures j ∷ c.one_column_on.ensures j ∷ [])))
    ∙ all_shifted_back state_byte s.first s.second s.third s.fourth (omega arith) (omega arith) (omega arith) (omega arith)
