use Rattle.std.specs.Prelude.{◌*◌, bit_xor}
use Rattle.std.specs.Fn.{iterate}
use Rattle.std.proofs.Common.{◌∙◌, ap}
use Rattle.std.proofs.lemmas.List.{length-map}
use Rattle.std.proofs.lemmas.Simd.{zip2_splat}
use Rattle.std_defs.specs.Aes.{shift_rows}
use Rattle.aes_lanes.specs.RowKeys.{less_constant}
use Rattle.aes_lanes.proofs.Shifted.{shifts_back}
use Rattle.aes_lanes.proofs.tower_keys.tower_key.Goals as goal

pub returns : goal.returns
returns c =
    let n = c.args.round in
    ap (iterate shift_rows n) (c.one_in_tower.ensures ∙ c.shifted.ensures ∙ ap (iterate shift_rows (3 * n)) (zip2_splat bit_xor c.args.key 16 0x63 c.fits-key.0))
    ∙ shifts_back n _ (length-map c.args.key less_constant ∙ c.fits-key.0)
