use Rattle.std.proofs.Common.{◌≡◌, ◌∙◌, ap, arith, slice_index}
use Rattle.std.proofs.lemmas.List.FromFn.{get_or-map-range_with_len}
use Rattle.sha2.specs.Sha256.{next_word}
use Rattle.sha_lanes.specs.Lanes.{in_lane}
use Rattle.sha_lanes.proofs.Schedules.{word_behind}
use Rattle.sha_lanes.proofs.in_step.next_step.Goals as goal

pub returns : goal.returns
returns c = λ n h b lt held.
    let t = c.args.t in
    let rows = c.args.rows.now in
    let word : slice_index c.next_row-words.result n ≡ next_word (in_lane rows n) t =
    ap (λ row. slice_index row n) c.next_row-words.ensures ∙ get_or-map-range_with_len (λ lane. next_word (in_lane rows lane) t) 0 8 n n 0 lt (omega arith) in
    c.step.ensures n h b lt (word_behind b (in_lane rows n) t c.requires.from c.requires.to held.0 word) held
