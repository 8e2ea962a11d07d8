use Rattle.std.proofs.Common.{◌≡◌, ◌+◌}
use Rattle.std_defs.specs.Cmac.{chained, zero_block}
use Rattle.perdoaze_calls.specs.Pieces.{text_in}
use Rattle.perdoaze_calls.proofs.macs.chain_some.Given as goal

abbrev pub invariant-loop-i : goal.invariant-loop-i
invariant-loop-i g l = l.fn.chain ≡ chained (g.C.BlockCipher.sealed l.cipher) zero_block (text_in l.pieces) l.from
    → l.chain ≡ chained (g.C.BlockCipher.sealed l.cipher) zero_block (text_in l.pieces) (l.from + l.i)
