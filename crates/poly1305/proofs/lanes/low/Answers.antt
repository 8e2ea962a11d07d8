use Rattle.std.proofs.Common.{◌∙◌, bit_and, slice_index}
use Rattle.std.proofs.lemmas.Nat.{and_mask}
use Rattle.poly1305.proofs.LaneFacts.{with_splat}
use Rattle.poly1305.proofs.lanes.low.Goals as goal

pub returns : goal.returns
returns c j lt = with_splat bit_and c.args.a 0x03ffffff j c.fits-a.0 lt ∙ and_mask (slice_index c.args.a j) 26
