use Rattle.std.proofs.Common.{arith}
use Rattle.sha_lanes.proofs.Rows.{next_row_is}
use Rattle.sha_lanes.proofs.lanes.next_row.Goals as goal

pub returns : goal.returns
returns c =
    next_row_is c.args.rows.now c.args.t (omega (arith, c.told-rows)) c.requires.from c.vector.ensures c.vector-2.ensures c.vector-3.ensures c.vector-4.ensures
    c.lower_sigma1.ensures c.lower_sigma0.ensures
