use Rattle.std.proofs.Common.{refl}
use Rattle.sha_lanes.proofs.InStep.{variable}
use Rattle.sha_lanes.proofs.in_step.added.Goals as goal

pub returns : goal.returns
returns c = λ n lt.
    let h = c.args.state in
    let v = c.args.v in
    rw (
      c.sum.ensures n lt,
      c.sum-2.ensures n lt,
      c.sum-3.ensures n lt,
      c.sum-4.ensures n lt,
      c.sum-5.ensures n lt,
      c.sum-6.ensures n lt,
      c.sum-7.ensures n lt,
      c.sum-8.ensures n lt,
      variable h n 0,
      variable h n 1,
      variable h n 2,
      variable h n 3,
      variable h n 4,
      variable h n 5,
      variable h n 6,
      variable h n 7,
      variable v n 0,
      variable v n 1,
      variable v n 2,
      variable v n 3,
      variable v n 4,
      variable v n 5,
      variable v n 6,
      variable v n 7,
    )
    refl
