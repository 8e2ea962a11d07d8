use Rattle.std.proofs.Common.{◌≡◌, ◌∙◌, ◌+◌, ◌-◌, ◌*◌, ◌<◌, ℕ, List, [], ap₂, subst, arith, length, slice_index, inl, inr}
use Rattle.std.proofs.lemmas.Bool.{cases_lt}
use Rattle.sha_lanes.specs.Lanes.{block_at}
use Rattle.in_step.specs.Pieces.{behind}
use Rattle.in_step.proofs.Behind.{piece_at, put_at, kept_below, put_length}
use Rattle.in_step.proofs.digests.put_blocks.Goals as goal

pub loop-n-preserved : goal.loop-n-preserved
loop-n-preserved c =
    let n = c.loop-n.n in
    let held = c.loop-n.invariant in
    let blocks = c.loop-n.blocks in
    let block = c.put_next.new.block in
    let width : 64 * n + 64 - 64 * n ≡ 64 = omega arith in
    let long : length block ≡ 64 = omega (arith, held.long) in
    record {
      long = put_length (64 * n) (64 * n + 64 - 64 * n) blocks block (omega (arith, held.long)) (omega (arith, long)) ∙ held.long;
      done = λ k below at. elim (cases_lt k n) [
        | inl before ↦ kept_below (64 * n) (64 * n + 64 - 64 * n) k blocks block (omega (arith, before)) (omega (arith, held.long)) ∙ held.done k before at
        | inr from ↦
            let is : k ≡ n = omega (arith, below, from) in
            let here : c.args.i < slice_index c.args.counts.now n = subst (λ (j : ℕ). c.args.i < slice_index c.args.counts.now j) is at in
            rw is (put_at (64 * n) (64 * n + 64 - 64 * n) n blocks block (omega arith) long (omega (arith, held.long)) ∙ c.put_next.ensures here
            ∙ ap₂ (λ (f s : List ℕ). block_at (behind c.args.taken f s) c.args.i) (piece_at c.args.firsts.now n (record { ref_ptr = (0, 0); now = [] }) (omega arith))
            (piece_at c.args.seconds.now n (record { ref_ptr = (0, 0); now = [] }) (omega arith)))
      ];
    }
