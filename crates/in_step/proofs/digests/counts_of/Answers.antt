use Rattle.std.proofs.Common.{ap, arith, length, []}
use Rattle.in_step.proofs.Behind.{piece_at}
use Rattle.in_step.proofs.digests.counts_of.Goals as goal

pub count_of-requires : goal.count_of-requires
count_of-requires c =
    let n = c.loop-n.n in
    omega (
      arith,
      c.requires n (omega arith),
      ap length (piece_at c.args.firsts.now n (record { ref_ptr = (0, 0); now = [] }) (omega arith)),
      ap length (piece_at c.args.seconds.now n (record { ref_ptr = (0, 0); now = [] }) (omega arith)),
    )
