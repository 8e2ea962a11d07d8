use Rattle.std.proofs.Common.{arith, refl}
use Rattle.sha_lanes.proofs.Rows.{word_of_block}
use Rattle.sha_lanes.proofs.lanes.first_row.Goals as goal

pub returns : goal.returns
returns c =
    let p = c.args.blocks.now in
    let t = c.args.t in
    let low = c.requires.word in
    rw (
      word_of_block p 0 t low (omega arith) c.word_at.ensures,
      word_of_block p 1 t low (omega arith) c.word_at-2.ensures,
      word_of_block p 2 t low (omega arith) c.word_at-3.ensures,
      word_of_block p 3 t low (omega arith) c.word_at-4.ensures,
      word_of_block p 4 t low (omega arith) c.word_at-5.ensures,
      word_of_block p 5 t low (omega arith) c.word_at-6.ensures,
      word_of_block p 6 t low (omega arith) c.word_at-7.ensures,
      word_of_block p 7 t low (omega arith) c.word_at-8.ensures,
    )
    refl
