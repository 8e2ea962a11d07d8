use Rattle.std.specs.Prelude.{[], ◌∷◌, map}
use Rattle.std.proofs.Common.{◌∙◌, arith}
use Rattle.aes_lanes.specs.Pairs.{blocks_of}
use Rattle.aes_lanes.specs.Places.{by_rows}
use Rattle.aes_lanes.proofs.Transposed.{pairs_of_rows}
use Rattle.aes_lanes.proofs.rows.pairs_of.Goals as goal

pub returns : goal.returns
returns c =
    let s = c.args.s in
    (λ j. blocks_of (c.grouped.ensures j ∷ c.grouped-2.ensures j ∷ c.grouped-3.ensures j ∷ c.grouped-4.ensures j ∷ []))
    ∙ (λ j. blocks_of (map by_rows (c.crossed-t.ensures.first j ∷ c.crossed-t.ensures.second j ∷ c.crossed-t.ensures.third j ∷ c.crossed-t.ensures.fourth j ∷ [])))
    ∙ pairs_of_rows s.first s.second s.third s.fourth (omega arith) (omega arith) (omega arith) (omega arith)
