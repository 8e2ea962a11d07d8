use Rattle.ctr_mode.proofs.Pieces.{eight_blocks}
use Rattle.ctr_mode.proofs.key_stream.KeyStream.apply_eight.Goals as goal

pub returns-clause-text : goal.returns-clause-text
returns-clause-text g c =
    rw (← c.self.view_is)
    (eight_blocks (g.C.BlockCipher.sealed c.args.cipher.now) (g.B.CounterBlocks.block c.self.inside.counters) c.self.inside.used _ _ c.args.eight.now c.xor_eight.new.text
    (rw (← c.self.view_is) at c.requires.between) c.requires.long c.first_eight-blocks.ensures c.seal_eight.ensures c.xor_eight.auto.text c.xor_eight.ensures)
