use Rattle.std_defs.specs.Aes.{inverse_sbox, mixed_byte}
use Rattle.aes_table.specs.Words.{times}
use Rattle.aes_table.proofs.Entries.{column_is}
use Rattle.aes_table.proofs.columns.unsealed_column.Goals as goal

pub returns : goal.returns
unfolding mixed_byte
returns c =
    column_is c.back_first.result c.back_second.result c.back_third.result c.back_fourth.result c.args.key
    (times 14 9 13 11 (inverse_sbox c.args.a)) (times 11 14 9 13 (inverse_sbox c.args.b)) (times 13 11 14 9 (inverse_sbox c.args.c)) (times 9 13 11 14 (inverse_sbox c.args.d))
    c.back_first.ensures c.back_second.ensures c.back_third.ensures c.back_fourth.ensures
