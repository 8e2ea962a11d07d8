use Rattle.std.proofs.Common.{◌≡◌, ◌∙◌, ◌<◌, ℕ, List, [], ap, ap₂, sym, arith, inl, inr, length-set}
use Rattle.std.proofs.lemmas.Bool.{cases_lt}
use Rattle.std.proofs.lemmas.List.{get_or-set_other, get_or-set_same}
use Rattle.sha2.specs.Sha256.{digest_bytes, hash_after}
use Rattle.in_step.specs.Pieces.{behind}
use Rattle.in_step.proofs.Behind.{piece_at}
use Rattle.in_step.proofs.digests.digests_behind.Goals as goal

pub loop-n-preserved : goal.loop-n-preserved
loop-n-preserved c =
    let n = c.loop-n.n in
    let held = c.loop-n.invariant in
    let h = c.args.start.now in
    let lt : n < 8 = omega arith in
    let stream = ap₂ (behind c.args.taken) (piece_at c.args.firsts.now n (record { ref_ptr = (0, 0); now = [] }) (omega arith)) (piece_at c.args.seconds.now n (record { ref_ptr = (0, 0); now = [] }) (omega arith)) in
    let value = c.hash_rest-value.ensures h (c.hash_in_step-values.ensures n lt ∙ ap₂ (λ (x : List ℕ) (k : ℕ). hash_after h x k) (sym stream) (sym c.min-from.ensures))
    ∙ ap₂ (λ (x : List ℕ) (k : ℕ). hash_after h x k) stream (c.counts_of-counts.ensures n lt) in
    record {
      long = length-set c.loop-n.digests n _ ∙ held.long;
      done = λ k below. elim (cases_lt k n) [
        | inl before ↦ get_or-set_other c.loop-n.digests n k _ [] (omega (arith, before)) ∙ held.done k before
        | inr from ↦
            let is : k ≡ n = omega (arith, below, from) in
            rw is (get_or-set_same c.loop-n.digests n _ [] (omega (arith, held.long)) ∙ c.digest_of.ensures ∙ ap (λ (v : List ℕ). digest_bytes v 8) value)
      ];
    }
