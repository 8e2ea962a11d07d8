use Rattle.std.proofs.Common.{refl}
use Rattle.aes_table.specs.Words.{state_in}
use Rattle.aes_table.proofs.state.block_of.Goals as goal

pub returns : goal.returns
unfolding state_in
returns c = rw (c.to_le_bytes.ensures, c.to_le_bytes-2.ensures, c.to_le_bytes-3.ensures, c.to_le_bytes-4.ensures) refl
