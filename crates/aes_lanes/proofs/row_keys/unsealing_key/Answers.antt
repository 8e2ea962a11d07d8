use Rattle.std.proofs.Common.{◌∙◌, arith}
use Rattle.aes_lanes.specs.Tower.{state_byte}
use Rattle.aes_lanes.proofs.RowKeyVectors.{key_rows}
use Rattle.aes_lanes.proofs.row_keys.unsealing_key.Goals as goal

pub returns : goal.returns
returns c =
    let k = c.rows_of_key.ensures in
    key_rows state_byte c.in_tower.result _ _ _ _ _ (omega arith) k.first k.second k.third k.fourth (c.in_tower.ensures ∙ c.mixed_back.ensures)
