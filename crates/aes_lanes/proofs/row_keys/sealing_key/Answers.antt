use Rattle.std.specs.Prelude.{bit_xor}
use Rattle.std.proofs.Common.{◌∙◌, arith}
use Rattle.std.proofs.lemmas.Simd.{zip2_splat}
use Rattle.aes_lanes.specs.SealingTower.{tower_byte}
use Rattle.aes_lanes.proofs.RowKeyVectors.{key_rows}
use Rattle.aes_lanes.proofs.row_keys.sealing_key.Goals as goal

pub returns : goal.returns
returns c =
    let k = c.rows_of_key.ensures in
    key_rows tower_byte c.in_sealing_tower.result _ _ _ _ _ (omega arith) k.first k.second k.third k.fourth
    (c.in_sealing_tower.ensures ∙ zip2_splat bit_xor c.args.key 32 0x63 c.fits-key.0)
