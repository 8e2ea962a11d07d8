use Rattle.std.proofs.Common.{◌≡◌, ◌∙◌, ◌+◌, ◌-◌, ◌<◌, ◌≤◌, ◌++◌, ℕ, List, [], ap, subst, arith, length, take, slice_index, slice_index_or, inl, inr, length-set}
use Rattle.std.proofs.lemmas.Bool.{cases_lt}
use Rattle.jobs_in_step.specs.Lanes.{items_of, text_in}
use Rattle.in_step.proofs.Chains.{text_at, text_set, text_others}
use Rattle.jobs_in_step.proofs.sealing.put_tags.Goals as goal

pub loop-n-preserved : goal.loop-n-preserved
loop-n-preserved c =
    let n = c.loop-n.n in
    let held = c.loop-n.invariant in
    let texts = c.loop-n.texts in
    let within : n < length texts = omega (arith, held.long) in
    let was = text_at items_of texts n _ within ∙ held.left n (omega arith) in
    record {
      long = length-set texts n _ ∙ held.long;
      put = λ k below room. elim (cases_lt k n) [
        | inl before ↦ text_others items_of texts n k _ (omega (arith, before)) ∙ held.put k before room
        | inr from ↦
            let is : k ≡ n = omega (arith, below, from) in
            let here : length (text_in c.args.texts.now n) ≤ slice_index c.args.lengths.now n + 32 =
            subst (λ (j : ℕ). length (text_in c.args.texts.now j) ≤ slice_index c.args.lengths.now j + 32) is room in
            rw is (text_set items_of texts n c.put_tag.new.text within ∙ c.put_tag.ensures (omega (arith, here, ap length was))
            ∙ ap (λ (t : List ℕ). take (slice_index c.args.lengths.now n) t ++ take (length t - slice_index c.args.lengths.now n) (slice_index_or c.args.tags.now n [])) was)
      ];
      left = λ k from. text_others items_of texts n k _ (omega (arith, from)) ∙ held.left k (omega (arith, from));
    }
