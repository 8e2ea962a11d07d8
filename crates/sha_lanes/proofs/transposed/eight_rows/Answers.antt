use Rattle.std.proofs.Common.{◌∙◌, refl}
use Rattle.sha_lanes.proofs.transposed.eight_rows.Goals as goal

pub returns : goal.returns
returns c =
    c.transposed.ensures
    ∙ rw (
      c.words_at.ensures,
      c.words_at-2.ensures,
      c.words_at-3.ensures,
      c.words_at-4.ensures,
      c.words_at-5.ensures,
      c.words_at-6.ensures,
      c.words_at-7.ensures,
      c.words_at-8.ensures,
    )
    refl
