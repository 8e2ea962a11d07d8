use Rattle.aes_lanes.proofs.Sides.{unsealed_round_is}
use Rattle.std.proofs.Common.{◌∙◌, ap}
use Rattle.aes_lanes.specs.Pairs.{each_half}
use Rattle.std_defs.specs.Aes.{inverse_sub_bytes, inverse_shift_rows, inverse_mix_columns}
use Rattle.aes_lanes.proofs.lane_schedule.unsealed_round.Goals as goal

pub returns : goal.returns
returns c =
    unsealed_round_is _ _ _ _ c.mixed_back.ensures c.shifted_back.ensures c.inverse_substituted.ensures
    ∙ ap (each_half (λ s. inverse_sub_bytes (inverse_shift_rows (inverse_mix_columns s)))) c.sum.ensures
