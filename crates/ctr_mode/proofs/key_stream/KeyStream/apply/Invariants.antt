use Rattle.std.proofs.Common.{◌+◌, ◌*◌}
use Rattle.ctr_mode.proofs.Pieces.{Applied}
use Rattle.ctr_mode.proofs.key_stream.KeyStream.apply.Given as goal

abbrev pub invariant-loop-i : goal.invariant-loop-i
invariant-loop-i g l = Applied (g.C.BlockCipher.sealed l.cipher) (g.B.CounterBlocks.block l.fn.self.0) l.fn.self.1 l.fn.text l.text (l.front + 128 * l.i) (g.B.CounterBlocks.block l.self.0) l.self.1
