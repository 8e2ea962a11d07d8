use Rattle.std.proofs.Common.{◌+◌, arith, refl}
use Rattle.sha_lanes.proofs.Rows.{word_of_block}
use Rattle.sha_lanes.proofs.transposed.words_at.Goals as goal

pub returns : goal.returns
returns c =
    let p = c.args.blocks.now in
    let n = c.args.n in
    let t = c.args.t in
    rw (
      word_of_block p n (t + 0) (omega arith) (omega arith) c.word_at.ensures,
      word_of_block p n (t + 1) (omega arith) (omega arith) c.word_at-2.ensures,
      word_of_block p n (t + 2) (omega arith) (omega arith) c.word_at-3.ensures,
      word_of_block p n (t + 3) (omega arith) (omega arith) c.word_at-4.ensures,
      word_of_block p n (t + 4) (omega arith) (omega arith) c.word_at-5.ensures,
      word_of_block p n (t + 5) (omega arith) (omega arith) c.word_at-6.ensures,
      word_of_block p n (t + 6) (omega arith) (omega arith) c.word_at-7.ensures,
      word_of_block p n (t + 7) (omega arith) (omega arith) c.word_at-8.ensures,
    )
    refl
