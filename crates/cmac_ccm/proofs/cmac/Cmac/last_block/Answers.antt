use Rattle.std.proofs.Common.{arith}
use Rattle.cmac_ccm.proofs.LastBlock.{whole_last, partial_last}
use Rattle.cmac_ccm.proofs.cmac.Cmac.last_block.Goals as goal

pub returns-then-bytes-eq16 : goal.returns-then-bytes-eq16
returns-then-bytes-eq16 g c =
    rw (← c.self.view_is)
    (whole_last (g.C.BlockCipher.sealed c.self.inside.cipher) c.args.bytes.now c.copy_from_slice.new.self c.self.inside.k1 c.add_block.new.block
    c.if-bytes-eq16.true c.copy_from_slice.ensures.after c.self.invariant.0 c.add_block.ensures)

pub returns-else-bytes-eq16 : goal.returns-else-bytes-eq16
returns-else-bytes-eq16 g c =
    rw (← c.self.view_is)
    (partial_last (g.C.BlockCipher.sealed c.self.inside.cipher) c.args.bytes.now c.copy_from_slice.new.self c.self.inside.k2 c.add_block-else-bytes-eq16.new.block
    (omega arith) c.copy_from_slice.ensures.after c.self.invariant.1 c.add_block-else-bytes-eq16.ensures)
