use Rattle.std.proofs.Common.{ℕ, List, [], ◌∷◌, ◌∙◌, sym, ap, map, get_or}
use Rattle.std.proofs.lemmas.Simd.{map-map}
use Rattle.std_defs.specs.Aes.{sbox}
use Rattle.aes_lanes.specs.SealingTower.{tower_byte}
use Rattle.aes_lanes.proofs.lane_words.ByLanesSubWord.sub_word.Goals as goal

pub returns : goal.returns
returns c =
    ap (λ (v : List ℕ). get_or v 0 0 ∷ get_or v 1 0 ∷ get_or v 2 0 ∷ get_or v 3 0 ∷ [])
    (c.one_made_last.ensures ∙ sym (map-map sbox tower_byte c.one_in_tower.result) ∙ ap (map sbox) c.one_in_tower.ensures)
