use Rattle.std.specs.Prelude.{◌≡◌, ◌<◌, [], ◌∷◌, ℕ, List, map, bit_xor, slice_index_or}
use Rattle.std.proofs.Common.{arith, ap, sym, ◌∙◌, get_or}
use Rattle.std.proofs.lemmas.List.{get_or-map, length-map}
use lib.Lanes.{zip2}
use Rattle.std_defs.specs.Aes.{mix_columns}
use Rattle.aes_block.proofs.Rounds.{at_most_fourteen}
use Rattle.aes_block.specs.KeyBlock.{key_block}
use Rattle.aes_block.proofs.KeyBlocks.{block_long}
use Rattle.aes_lanes.specs.SealingTower.{tower_byte, less_sbox}
use Rattle.aes_lanes.specs.RoundKeys.{schedule_of, vectors_of}
use Rattle.aes_lanes.specs.RowKeys.{bytes_by, four_rows, less_constant}
use Rattle.aes_lanes.specs.declared.row_keys.RowKey.{RowKey}
use Rattle.aes_lanes.proofs.RowsSealed.{rows_of_sealing_key, rows_with_sealing_key, sealed_round_of_all}
use Rattle.aes_lanes.proofs.lane_schedule.LaneSchedule.sealed_rows.Goals as goal

pub returns : goal.returns
returns c =
    let s = c.args.self.now in
    let r = c.args.round in
    let ws = schedule_of s.keys in
    let within : r < 15 = omega (arith, c.requires, at_most_fourteen s.rounds (schedule_of s.keys) s.scheduled) in
    let none : RowKey = record { first = []; second = []; third = []; fourth = [] } in
    let key : RowKey = get_or s.sealing_keys r none in
    let m : List ℕ = map less_constant (key_block ws r) in
    let u = c.made_and_mixed-u.result in
    let held : bytes_by tower_byte key ≡ four_rows m =
    sym (get_or-map (bytes_by tower_byte) s.sealing_keys r none [] (omega (arith, within))) ∙ s.sealing r (omega (arith, c.requires)) ∙ rows_of_sealing_key ws r (slice_index_or (vectors_of s.keys) r []) (s.twice r within) in
    c.sealing_key_added.ensures
    ∙ rows_with_sealing_key m (length-map (key_block ws r) less_constant ∙ block_long ws r) key.first key.second key.third key.fourth held u.first u.second u.third u.fourth (omega arith) (omega arith) (omega arith) (omega arith)
    ∙ ap (map (λ z. zip2 bit_xor z m)) (c.made_and_mixed-u.ensures ∙ ap (map mix_columns) (c.shifted_rows-t.ensures less_sbox))
    ∙ sealed_round_of_all ws r (c.args.s.first ∷ c.args.s.second ∷ c.args.s.third ∷ c.args.s.fourth ∷ [])
