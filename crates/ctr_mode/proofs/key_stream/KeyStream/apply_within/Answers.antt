use Rattle.std.proofs.Common.{arith, refl}
use Rattle.std.proofs.lemmas.Bool.Decides.{nat_tests}
use Rattle.ctr_mode.specs.Streams.{key_byte}
use Rattle.ctr_mode.proofs.Pieces.{no_bytes, within_block}
use Rattle.ctr_mode.proofs.key_stream.KeyStream.apply_within.Goals as goal

pub returns-then-is_empty-clause-text : goal.returns-then-is_empty-clause-text
returns-then-is_empty-clause-text g c =
    no_bytes (key_byte (g.C.BlockCipher.sealed c.args.cipher.now) (g.B.CounterBlocks.block c.args.self.now.0) c.args.self.now.1) c.args.piece.now (grind (arith, nat_tests))

pub returns-then-self-eq16-clause-text : goal.returns-then-self-eq16-clause-text
returns-then-self-eq16-clause-text g c =
    rw (← c.self.view_is)
    (within_block (g.C.BlockCipher.sealed c.args.cipher.now) (g.B.CounterBlocks.block c.self.inside.counters) c.self.inside.used _ _ _ c.args.piece.now c.xor_bytes.new.text
    (rw (← c.self.view_is) at c.requires) c.first-block.ensures c.seal_block.ensures refl c.xor_bytes.auto.text c.xor_bytes.ensures)

pub returns-else-self-eq16-clause-text : goal.returns-else-self-eq16-clause-text
returns-else-self-eq16-clause-text g c =
    rw (← c.self.view_is)
    (within_block (g.C.BlockCipher.sealed c.args.cipher.now) (g.B.CounterBlocks.block c.self.inside.counters) c.self.inside.used _ _ _ c.args.piece.now c.xor_bytes.new.text
    (rw (← c.self.view_is) at c.requires) c.first-block.ensures c.seal_block.ensures refl c.xor_bytes.auto.text c.xor_bytes.ensures)
