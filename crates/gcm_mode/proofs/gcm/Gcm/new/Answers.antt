use Rattle.std.proofs.Common.{ap, ◌∙◌}
use Rattle.std_defs.specs.Blocks.{block_number}
use Rattle.std_defs.specs.Gcm.{hash_subkey}
use Rattle.gcm_mode.proofs.gcm.Gcm.new.Goals as goal

pub invariant_of-result : goal.invariant_of-result
unfolding hash_subkey
invariant_of-result g c = c.new-key.ensures ∙ ap block_number c.seal_block.ensures
