use Rattle.std.proofs.Common.{◌*◌, arith}
use Rattle.hex.proofs.Pairs.{decode_step, decode_done}
use Rattle.script_text.proofs.HexLemmas.{pairs_even}
use Rattle.script_text.proofs.hexadecimal.write_bytes.Goals as goal

pub bytes-preserved : goal.bytes-preserved
bytes-preserved c = decode_step c.args.digits.now c.bytes.bytes c.bytes.i c.byte_of.result (omega arith) (omega arith) (c.byte_of.ensures (2 * c.bytes.i)) c.bytes.invariant

pub returns : goal.returns
returns c = let even = pairs_even c.args.digits.now c.requires.pairs in decode_done c.args.digits.now c.bytes.bytes c.bytes.i (omega arith) (omega (arith, even)) c.bytes.invariant
