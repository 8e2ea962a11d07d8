use Rattle.std.proofs.Common.{ap, ◌∙◌}
use Rattle.std_defs.specs.Aes.{sbox, mixed_byte}
use Rattle.aes_table.specs.Words.{times, bytes_of}
use Rattle.aes_table.proofs.Entries.{column_is, key_first}
use Rattle.aes_table.proofs.columns.sealed_column.Goals as goal

pub returns : goal.returns
unfolding mixed_byte
returns c =
    ap bytes_of (key_first c.args.key c.first.result c.second.result c.third.result c.fourth.result)
    ∙ column_is c.first.result c.second.result c.third.result c.fourth.result c.args.key
    (times 2 1 1 3 (sbox c.args.a)) (times 3 2 1 1 (sbox c.args.b)) (times 1 3 2 1 (sbox c.args.c)) (times 1 1 3 2 (sbox c.args.d))
    c.first.ensures c.second.ensures c.third.ensures c.fourth.ensures
