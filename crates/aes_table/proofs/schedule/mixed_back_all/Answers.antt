use Rattle.std.proofs.Common.{◌≡◌, ◌≢◌, ℕ, ◌∙◌, ap, arith, refl, set, slice_index, get_or-set_other, get_or-set_same, below_more, length-set}
use Rattle.aes_table.specs.Words.{bytes_of, mixed_back}
use Rattle.aes_table.proofs.schedule.mixed_back_all.Goals as goal

pub loop-n-init : goal.loop-n-init
loop-n-init c = record { long = refl; done = λ k h. absurd (omega arith) }

pub loop-n-preserved : goal.loop-n-preserved
loop-n-preserved c =
    let back = c.loop-n.back in
    let n : ℕ = c.loop-n.n in
    let v : ℕ = c.word_mixed_back.result in
    record {
      long = length-set back n v ∙ c.loop-n.invariant.long;
      done = below_more (λ k. bytes_of (slice_index (set back n v) k) ≡ mixed_back (bytes_of (slice_index c.args.words.now k))) n
          (λ k l. let ne : k ≢ n = omega arith in ap bytes_of (get_or-set_other back n k v 0 ne) ∙ c.loop-n.invariant.done k l)
          (ap bytes_of (get_or-set_same back n v 0 (omega (arith, c.loop-n.invariant.long))) ∙ c.word_mixed_back.ensures);
    }

pub returns : goal.returns
returns c = λ n h. c.loop-n.invariant.done n (omega arith)
