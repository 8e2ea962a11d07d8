use Rattle.std.proofs.Common.{◌∙◌}
use Rattle.sha_lanes.proofs.HashedBlocks.{of_copy}
use Rattle.sha_lanes.proofs.blocks.take_rest.Goals as goal

pub returns-else-bytes-lt192 : goal.returns-else-bytes-lt192
returns-else-bytes-lt192 c = c.take_first.ensures ∙ of_copy c.args.state.now c.args.bytes.now _ c.copy_from_slice.ensures.after
