use Rattle.std.specs.Prelude.{[], ◌∷◌}
use Rattle.std.proofs.Common.{arith, ap, ◌∙◌}
use Rattle.std.proofs.lemmas.Simd.{pick_l_whole}
use Rattle.aes_lanes.specs.Pairs.{blocks_of}
use Rattle.aes_lanes.proofs.pairs.parted.Goals as goal

pub returns : goal.returns
returns c =
    (λ i.
    c.first_of.ensures i ∷ c.second_of.ensures i
    ∷ c.first_of-2.ensures i ∷ c.second_of-2.ensures i
    ∷ c.first_of-3.ensures i ∷ c.second_of-3.ensures i
    ∷ c.first_of-4.ensures i ∷ c.second_of-4.ensures i ∷ [])
    ∙ ap blocks_of (pick_l_whole [] c.args.x 4 (omega arith))
