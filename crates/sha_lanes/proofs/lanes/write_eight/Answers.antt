use Rattle.std.proofs.Common.{◌≡◌, ◌∙◌, ◌*◌, [], ap, arith, slice_index, slice_index_or}
use Rattle.std.proofs.lemmas.List.{length-set}
use Rattle.std.proofs.lemmas.List.FromFn.{get_or-map-range_with_len}
use Rattle.sha2.specs.Sha256.{next_word, round_constants, word_at}
use Rattle.sha_lanes.specs.Lanes.{block_at, in_lane}
use Rattle.sha_lanes.proofs.Schedules.{all_keyed, first_set, keyed_set, next_set, none_keyed}
use Rattle.sha_lanes.proofs.Rows.{row_keyed}
use Rattle.sha_lanes.proofs.lanes.write_eight.Goals as goal

pub first-init : goal.first-init
first-init c = (omega (arith, c.told-rows), λ n lt k below. absurd (omega arith))

pub first-preserved : goal.first-preserved
first-preserved c = (
  length-set c.first.rows c.first.t _ ∙ c.first.invariant.0,
  λ n lt.
      let b = block_at c.args.blocks.now n in
      let t = c.first.t in
      let word : slice_index c.first_row.result n ≡ word_at b (4 * t) =
      ap (λ row. slice_index row n) c.first_row.ensures ∙ get_or-map-range_with_len (λ n. word_at (block_at c.args.blocks.now n) (4 * t)) 0 8 n n 0 lt (omega arith) in
      first_set c.first.rows _ b n t c.first.invariant.0 c.first-test.true (c.first.invariant.1 n lt) word,
)

pub next-init : goal.next-init
next-init c = (c.first.invariant.0, λ n lt k below. c.first.invariant.1 n lt k (omega arith))

pub next-preserved : goal.next-preserved
next-preserved c = (
  length-set c.next.rows c.next.t _ ∙ c.next.invariant.0,
  λ n lt.
      let t = c.next.t in
      let word : slice_index c.next_row.result n ≡ next_word (in_lane c.next.rows n) t =
      ap (λ row. slice_index row n) c.next_row.ensures ∙ get_or-map-range_with_len (λ lane. next_word (in_lane c.next.rows lane) t) 0 8 n n 0 lt (omega arith) in
      next_set c.next.rows _ (block_at c.args.blocks.now n) n t c.next.invariant.0 (omega arith) c.next-test.true (c.next.invariant.1 n lt) word,
)

pub keyed-init : goal.keyed-init
keyed-init c = (c.next.invariant.0, λ n lt. none_keyed (in_lane c.next.rows n) (block_at c.args.blocks.now n) (λ k below. c.next.invariant.1 n lt k (omega arith)))

pub keyed-preserved : goal.keyed-preserved
keyed-preserved c = (
  length-set c.keyed.rows c.keyed.t _ ∙ c.keyed.invariant.0,
  λ n lt.
      let t = c.keyed.t in
      keyed_set c.keyed.rows _ (block_at c.args.blocks.now n) n t c.keyed.invariant.0 c.keyed-test.true (c.keyed.invariant.1 n lt)
      (row_keyed (slice_index_or c.keyed.rows t []) (slice_index round_constants t) n lt c.vector.ensures),
)

pub returns : goal.returns
returns c = λ n lt.
    let all : c.keyed.t ≡ 64 = omega arith in
    all_keyed c.keyed.rows (block_at c.args.blocks.now n) n c.keyed.invariant.0 (rw all at c.keyed.invariant.1 n lt)
