use Rattle.std.specs.Prelude.{◌≡◌, ◌<◌, [], ℕ, List, map, bit_xor, slice_index_or}
use Rattle.std.proofs.Common.{arith, ap, sym, ◌∙◌, get_or}
use Rattle.std.proofs.lemmas.List.{get_or-map}
use lib.Lanes.{zip2}
use Rattle.std_defs.specs.Aes.{inverse_mix_columns, inverse_sub_bytes}
use Rattle.aes_block.proofs.Rounds.{at_most_fourteen}
use Rattle.aes_block.specs.KeyBlock.{key_block}
use Rattle.aes_block.proofs.EquivalentInverse.{back_long}
use Rattle.aes_lanes.specs.Rows.{state_blocks}
use Rattle.aes_lanes.specs.Tower.{state_byte}
use Rattle.aes_lanes.specs.RoundKeys.{schedule_of, vectors_of}
use Rattle.aes_lanes.specs.RowKeys.{bytes_by, four_rows}
use Rattle.aes_lanes.specs.declared.row_keys.RowKey.{RowKey}
use Rattle.aes_lanes.proofs.RowsUnsealed.{rows_of_twice, rows_with_key, round_of_all}
use Rattle.aes_lanes.proofs.lane_schedule.LaneSchedule.unsealed_rows.Goals as goal

pub returns : goal.returns
returns c =
    let s = c.args.self.now in
    let r = c.args.round in
    let ws = schedule_of s.keys in
    let within : r < 15 = omega (arith, c.requires, at_most_fourteen s.rounds (schedule_of s.keys) s.scheduled) in
    let none : RowKey = record { first = []; second = []; third = []; fourth = [] } in
    let key : RowKey = get_or s.unsealing_keys r none in
    let m : List ℕ = inverse_mix_columns (key_block ws r) in
    let u = c.mixed_back-u.result in
    let held : bytes_by state_byte key ≡ four_rows m =
    sym (get_or-map (bytes_by state_byte) s.unsealing_keys r none [] (omega (arith, within))) ∙ s.unsealing r (omega (arith, c.requires)) ∙ rows_of_twice ws r (slice_index_or (vectors_of s.keys) r []) (s.twice r within) in
    c.key_added.ensures
    ∙ rows_with_key m (back_long (key_block ws r)) key.first key.second key.third key.fourth held u.first u.second u.third u.fourth (omega arith) (omega arith) (omega arith) (omega arith)
    ∙ ap (map (λ z. zip2 bit_xor z m)) (c.mixed_back-u.ensures ∙ ap (map inverse_mix_columns) (c.all_undone-t.ensures ∙ ap (map inverse_sub_bytes) c.shifted_back.ensures))
    ∙ round_of_all ws r (state_blocks c.args.s)
