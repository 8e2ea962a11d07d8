use Rattle.std.proofs.Common.{◌∙◌, ◌+◌, ◌-◌, ap, arith, bit_xor}
use Rattle.std_defs.specs.ChaCha20.{stream_byte}
use Rattle.chacha_lanes.proofs.Written.{in_part}
use Rattle.chacha_lanes.proofs.Shifts.{byte_within}
use Rattle.chacha_lanes.proofs.cipher.xor_eight_at.Goals as goal

pub returns-clause-there : goal.returns-clause-there
returns-clause-there c k lt =
    let text = c.args.text.now in
    let at = c.args.at in
    in_part text c.xor_eight.new.text _ at k (omega arith) (omega (arith, c.xor_eight.ensures.long))
    ∙ c.xor_eight.ensures.sum k lt
    ∙ ap (λ b. bit_xor b (stream_byte c.args.key.now c.args.nonce.now c.args.counter k)) (byte_within text at (at + 512 - at) k (omega arith))
