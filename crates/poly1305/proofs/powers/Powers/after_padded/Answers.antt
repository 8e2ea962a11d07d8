use Rattle.std.proofs.Common.{◌≡◌, ◌%◌, arith, length}
use Rattle.poly1305.specs.Limbs.{value_of}
use Rattle.poly1305.proofs.PaddedText.{groups_and_rest}
use Rattle.poly1305.proofs.powers.Powers.after_padded.Goals as goal

pub returns-clause-value : goal.returns-clause-value
returns-clause-value c =
    let whole : length c.split_at.result.0.now % 16 ≡ 0 = omega (arith, c.split_at.ensures.front_len) in
    groups_and_rest c.args.self.now.r (value_of c.args.value) (value_of c.after_whole-after.result) (value_of c.after_rest.result)
    c.args.bytes.now c.split_at.result.0.now c.split_at.result.1.now c.split_at.ensures.by_index.0 whole
    c.after_whole-after.ensures.value c.after_rest.ensures.value
