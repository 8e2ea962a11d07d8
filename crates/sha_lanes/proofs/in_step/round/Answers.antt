use Rattle.std.proofs.Common.{◌≡◌, ◌∙◌, ℕ, [], refl, slice_index, slice_index_or}
use Rattle.sha2.specs.Sha256.{add32, big_sigma0, big_sigma1, ch, maj}
use Rattle.sha_lanes.proofs.InStep.{variable}
use Rattle.sha_lanes.proofs.Steps.{in_order}
use Rattle.sha_lanes.proofs.in_step.round.Goals as goal

pub returns : goal.returns
returns c = λ n k w lt e.
    let v = c.args.v in
    let a : ℕ → ℕ = λ i. slice_index (slice_index_or v i []) n in
    let first : slice_index c.sum-temp1.result n ≡ add32 (add32 (add32 (add32 (a 7) (big_sigma1 (a 4))) (ch (a 4) (a 5) (a 6))) k) w =
    c.sum-temp1.ensures n lt
    ∙ rw (c.sum-2.ensures n lt, c.sum.ensures n lt, c.choice.ensures n lt, c.upper_sigma1.ensures n lt, e)
    (in_order (a 7) (big_sigma1 (a 4)) (ch (a 4) (a 5) (a 6)) k w) in
    let second : slice_index c.sum-temp2.result n ≡ add32 (big_sigma0 (a 0)) (maj (a 0) (a 1) (a 2)) =
    c.sum-temp2.ensures n lt ∙ rw (c.upper_sigma0.ensures n lt, c.majority.ensures n lt) refl in
    rw (
      c.sum-3.ensures n lt,
      c.sum-4.ensures n lt,
      first,
      second,
      variable v n 0,
      variable v n 1,
      variable v n 2,
      variable v n 3,
      variable v n 4,
      variable v n 5,
      variable v n 6,
      variable v n 7,
    )
    refl
