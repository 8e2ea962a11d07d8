use Rattle.std.proofs.Common.{arith}
use Rattle.poly1305.proofs.Words.{two_words}
use Rattle.poly1305.proofs.tag.key_halves.Goals as goal

pub returns-clause-first : goal.returns-clause-first
returns-clause-first c =
    let key = c.args.key.now in
    let a = c.four_words.ensures.word 0 (omega arith) in
    let b = c.four_words.ensures.word 1 (omega arith) in
    let both = two_words key 0 (omega arith) in
    omega arith

pub returns-clause-second : goal.returns-clause-second
returns-clause-second c =
    let key = c.args.key.now in
    let a = c.four_words.ensures.word 2 (omega arith) in
    let b = c.four_words.ensures.word 3 (omega arith) in
    let both = two_words key 16 (omega arith) in
    omega arith
