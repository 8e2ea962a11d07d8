use Rattle.std.proofs.Common.{◌≡◌, ◌∙◌, ◌+◌, ◌<◌, ◌++◌, ℕ, List, [], ap, arith, length, take, drop, slice_index, slice_index_or, inl, inr}
use Rattle.std.proofs.lemmas.Bool.{cases_lt}
use Rattle.jobs_in_step.proofs.fronts.put_tags_at.Goals as goal

pub loop-n-preserved : goal.loop-n-preserved
loop-n-preserved g c =
    let n = c.loop-n.n in
    let held = c.loop-n.invariant in
    let others = c.put_tag_at.ensures.others in
    let was = held.left n (omega arith) in
    let len : ℕ = slice_index c.args.lengths.now n in
    record {
      count = c.put_tag_at.ensures.count ∙ held.count;
      put = λ k below inside. elim (cases_lt k n) [
        | inl before ↦ others k (omega (arith, before)) ∙ held.put k before inside
        | inr from ↦
            let is : k ≡ n = omega (arith, below, from) in
            let here : n < length c.loop-n.texts = omega (arith, is, inside, held.count) in
            rw is (c.put_tag_at.ensures.put here
            ∙ ap (λ (t : List ℕ). take len t ++ take c.args.tag_size (slice_index_or c.args.tags.now n []) ++ drop (len + c.args.tag_size) t) was)
      ];
      left = λ k from. others k (omega (arith, from)) ∙ held.left k (omega (arith, from));
      same = λ k. elim (cases_lt k n) [
        | inl before ↦ ap length (others k (omega (arith, before))) ∙ held.same k
        | inr from ↦ elim (cases_lt n k) [
          | inl past ↦ ap length (others k (omega (arith, past))) ∙ held.same k
          | inr to ↦
              let is : k ≡ n = omega (arith, from, to) in
              rw is (c.put_tag_at.ensures.same ∙ held.same n)
        ]
      ];
    }
