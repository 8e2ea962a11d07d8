use Rattle.std.proofs.Common.{arith}
use Rattle.ctr_mode.proofs.Pieces.{some_blocks}
use Rattle.ctr_mode.proofs.key_stream.KeyStream.apply_some.Goals as goal

pub returns-clause-text : goal.returns-clause-text
returns-clause-text g c =
    rw (← c.self.view_is)
    (some_blocks (g.C.BlockCipher.sealed c.args.cipher.now) (g.B.CounterBlocks.block c.self.inside.counters) c.self.inside.used c.div_ceil.result _ _ c.args.text.now c.xor_some.new.text
    (rw (← c.self.view_is) at c.requires.between) (omega arith) (omega arith) c.first_eight-blocks.ensures c.seal_some.ensures c.xor_some.auto.text c.xor_some.ensures)
