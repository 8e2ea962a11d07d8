use Rattle.std.proofs.Common.{◌≡◌, ◌∙◌, ◌+◌, ◌*◌, ap, arith, slice_index, take, drop}
use Rattle.chacha_lanes.proofs.Shifts.{word_of, byte_within}
use Rattle.chacha_lanes.proofs.cipher.word_at.Goals as goal

pub returns : goal.returns
returns c =
    let bytes = c.args.bytes.now in
    let i = c.args.i in
    let front : 4 * i + 0 ≡ 4 * i = omega arith in
    c.from_le_bytes.ensures
    ∙ word_of (take 4 (drop (4 * i) bytes)) _ _ _ _
    (byte_within bytes (4 * i) 4 0 (omega arith) ∙ ap (slice_index bytes) front)
    (byte_within bytes (4 * i) 4 1 (omega arith)) (byte_within bytes (4 * i) 4 2 (omega arith)) (byte_within bytes (4 * i) 4 3 (omega arith))
