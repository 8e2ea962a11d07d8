use Rattle.std.proofs.Common.{◌≡◌, ◌∙◌, ◌+◌, ◌*◌, ◌/◌, ◌<◌, ◌≤◌, ◌++◌, ℕ, List, [], ap, subst, arith, length, take, drop, slice_index, slice_index_or, inl, inr}
use Rattle.std.proofs.lemmas.Bool.{cases_lt}
use Rattle.in_step.proofs.cbc.put_blocks.Goals as goal

pub loop-n-preserved : goal.loop-n-preserved
loop-n-preserved g c =
    let n = c.loop-n.n in
    let held = c.loop-n.invariant in
    let others = c.put_next.ensures.others in
    let was = held.left n (omega arith) in
    record {
      count = c.put_next.ensures.count ∙ held.count;
      put = λ k below at. elim (cases_lt k n) [
        | inl before ↦ others k (omega (arith, before)) ∙ held.put k before at
        | inr from ↦
            let is : k ≡ n = omega (arith, below, from) in
            let here : c.args.i < slice_index c.args.lengths.now n / 16 = subst (λ (j : ℕ). c.args.i < slice_index c.args.lengths.now j / 16) is at in
            rw is (c.put_next.ensures.put here ∙ ap (λ (t : List ℕ). take (16 * c.args.i) t ++ slice_index_or c.args.chains.now n [] ++ drop (16 * c.args.i + 16) t) was)
      ];
      kept = λ k below at. elim (cases_lt k n) [
        | inl before ↦ others k (omega (arith, before)) ∙ held.kept k before at
        | inr from ↦
            let is : k ≡ n = omega (arith, below, from) in
            let here : slice_index c.args.lengths.now n / 16 ≤ c.args.i = subst (λ (j : ℕ). slice_index c.args.lengths.now j / 16 ≤ c.args.i) is at in
            rw is (c.put_next.ensures.kept here ∙ was)
      ];
      left = λ k from. others k (omega (arith, from)) ∙ held.left k (omega (arith, from));
      same = λ k. elim (cases_lt k n) [
        | inl before ↦ ap length (others k (omega (arith, before))) ∙ held.same k
        | inr from ↦ elim (cases_lt n k) [
          | inl past ↦ ap length (others k (omega (arith, past))) ∙ held.same k
          | inr to ↦
              let is : k ≡ n = omega (arith, from, to) in
              rw is (c.put_next.ensures.same ∙ held.same n)
        ]
      ];
    }
