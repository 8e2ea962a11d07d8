use Rattle.std.proofs.Common.{◌≡◌, refl, slice_index}
use Rattle.sha2.specs.Sha256.{add32, big_sigma1, ch, temp1, temp2}
use Rattle.sha_lanes.proofs.Steps.{in_order}
use Rattle.sha_lanes.proofs.rounds.round.Goals as goal

pub returns : goal.returns
returns c = λ k w e.
    let v = c.args.v in
    let first : add32 (add32 (add32 (slice_index v 7) c.args.sum) c.choice.result) c.upper_sigma1.result ≡ temp1 v k w =
    rw (e, c.choice.ensures, c.upper_sigma1.ensures)
    (in_order (slice_index v 7) (big_sigma1 (slice_index v 4)) (ch (slice_index v 4) (slice_index v 5) (slice_index v 6)) k w) in
    let second : add32 c.upper_sigma0.result c.majority.result ≡ temp2 v = rw (c.upper_sigma0.ensures, c.majority.ensures) refl in
    rw (first, second) refl
