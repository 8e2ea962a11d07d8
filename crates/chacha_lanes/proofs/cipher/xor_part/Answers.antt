use Rattle.std.proofs.Common.{◌≡◌, ◌∙◌, ℕ, ◌+◌, ◌-◌, ◌<◌, ap₂, arith, length, take, drop, bit_xor}
use Rattle.std.proofs.lemmas.List.{length-take-le, length-drop}
use Rattle.chacha_lanes.proofs.Written.{in_part}
use Rattle.chacha_lanes.proofs.Shifts.{byte_within}
use Rattle.chacha_lanes.proofs.cipher.xor_part.Goals as goal

pub returns-clause-there : goal.returns-clause-there
returns-clause-there c k within below =
    let text = c.args.text.now in
    let at = c.args.at in
    let stream = c.args.stream.now in
    let from = c.args.from in
    let n = c.min-count.result in
    let lt : k < n = omega (arith, c.min-count.ensures) in
    let fits : at + n - at ≡ n = omega arith in
    let part : length (take (at + n - at) (drop at text)) ≡ n =
    rw fits (length-take-le n (drop at text) (omega (arith, length-drop at text, c.min-count.ensures))) in
    in_part text c.xor_bytes.new.text _ at k (omega arith) (omega (arith, c.xor_bytes.auto.text))
    ∙ c.xor_bytes.ensures k (omega arith)
    ∙ ap₂ bit_xor (byte_within text at (at + n - at) k (omega arith)) (byte_within stream from (from + n - from) k (omega arith))
