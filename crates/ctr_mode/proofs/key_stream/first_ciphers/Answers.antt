use Rattle.std.proofs.Common.{◌+◌, arith}
use Rattle.ctr_mode.proofs.Pieces.{some_sealed}
use Rattle.ctr_mode.proofs.key_stream.first_ciphers.Goals as goal

pub returns : goal.returns
returns g c = λ j below taken.
    some_sealed (g.C.BlockCipher.sealed c.args.cipher.now) (g.B.CounterBlocks.block c.args.counters.now) c.first_eight-blocks.result c.seal_some.new.b (1 + c.min.result) j
    c.first_eight-blocks.ensures c.seal_some.ensures (omega arith) (omega arith)
