use Rattle.std.proofs.Common.{◌≡◌, ◌≢◌, ℕ, ◌∙◌, ap, arith, refl, set, map, [], slice_index, slice_index_or, get_or-set_other, get_or-set_same, below_more, length-set}
use Rattle.std.proofs.lemmas.List.{ext_get_or, length-map, get_or-map}
use Rattle.aes_table.specs.Words.{bytes_of}
use Rattle.aes_table.proofs.schedule.numbers_of.Goals as goal

pub loop-n-init : goal.loop-n-init
loop-n-init c = record { long = refl; done = λ k h. absurd (omega arith) }

pub loop-n-preserved : goal.loop-n-preserved
loop-n-preserved c =
    let numbers = c.loop-n.numbers in
    let n : ℕ = c.loop-n.n in
    let v : ℕ = c.number_of.result in
    record {
      long = length-set numbers n v ∙ c.loop-n.invariant.long;
      done = below_more (λ k. bytes_of (slice_index (set numbers n v) k) ≡ slice_index_or c.args.words.now k []) n
          (λ k l. let ne : k ≢ n = omega arith in ap bytes_of (get_or-set_other numbers n k v 0 ne) ∙ c.loop-n.invariant.done k l)
          (ap bytes_of (get_or-set_same numbers n v 0 (omega (arith, c.loop-n.invariant.long))) ∙ c.number_of.ensures);
    }

pub returns : goal.returns
returns c =
    ext_get_or [] (map bytes_of c.loop-n.numbers) c.args.words.now (omega (arith, length-map c.loop-n.numbers bytes_of, c.loop-n.invariant.long))
    (λ k h.
    get_or-map bytes_of c.loop-n.numbers k 0 [] (omega (arith, length-map c.loop-n.numbers bytes_of)) ∙ c.loop-n.invariant.done k (omega (arith, length-map c.loop-n.numbers bytes_of, c.loop-n.invariant.long)))
