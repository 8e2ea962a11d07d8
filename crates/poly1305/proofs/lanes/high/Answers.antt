use Rattle.std.proofs.Common.{◌/◌, ◌^◌}
use Rattle.poly1305.proofs.LaneFacts.{with_splat}
use Rattle.poly1305.proofs.lanes.high.Goals as goal

pub returns : goal.returns
returns c j lt = with_splat (λ x n. x / 2 ^ n) c.args.a 26 j c.fits-a.0 lt
