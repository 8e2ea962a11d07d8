use Rattle.std.proofs.Common.{◌≡◌, ◌∙◌, ◌%◌, arith, length}
use Rattle.poly1305.proofs.PaddedText.{tag_in_parts}
use Rattle.poly1305.proofs.tag.message_tag.Goals as goal

pub returns : goal.returns
returns c =
    let whole : length c.split_at.result.0.now % 16 ≡ 0 = omega (arith, c.split_at.ensures.front_len) in
    c.finish.ensures
    ∙ rw (c.add_padded.ensures, c.new-tag.ensures)
    (tag_in_parts c.args.key.now c.args.message.now c.split_at.result.0.now c.split_at.result.1.now c.split_at.ensures.by_index.0 whole)
