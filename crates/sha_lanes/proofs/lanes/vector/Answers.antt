use Rattle.std.proofs.Common.{sym}
use Rattle.std.proofs.lemmas.Simd.{pick_l_whole}
use Rattle.sha_lanes.proofs.lanes.vector.Goals as goal

pub returns : goal.returns
returns c = sym (pick_l_whole 0 c.args.row.now 8 c.told-row)
