use Rattle.std.specs.Prelude.{[], ◌∷◌}
use Rattle.std.proofs.Common.{◌∙◌}
use Rattle.std.proofs.lemmas.Simd.{pick_l_whole}
use Rattle.aes_lanes.proofs.pairs.paired.Goals as goal

pub returns : goal.returns
returns c =
    (λ i.
    c.joined.ensures.first i ∷ c.joined.ensures.second i
    ∷ c.joined-2.ensures.first i ∷ c.joined-2.ensures.second i
    ∷ c.joined-3.ensures.first i ∷ c.joined-3.ensures.second i
    ∷ c.joined-4.ensures.first i ∷ c.joined-4.ensures.second i ∷ [])
    ∙ pick_l_whole [] c.args.b.now 8 c.told-b
