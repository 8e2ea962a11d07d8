use Rattle.std.proofs.Common.{◌∙◌}
use Rattle.std_defs.specs.ChaCha20.{stream_byte}
use Rattle.chacha_lanes.proofs.Shifts.{of_zeros}
use Rattle.chacha_lanes.proofs.cipher.eight_blocks_of.Goals as goal

pub returns : goal.returns
returns c i lt = c.xor_eight.ensures.sum i lt ∙ of_zeros 512 i (stream_byte c.args.key.now c.args.nonce.now c.args.counter i) lt
