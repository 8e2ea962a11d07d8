use Rattle.std.proofs.Common.{arith, refl, map, ◌∷◌, []}
use Rattle.std_defs.specs.Aes.{sbox}
use Rattle.aes_table.specs.Words.{bytes_of}
use Rattle.aes_table.proofs.Entries.{bytes_of_sum, four_bytes_of}
use Rattle.aes_table.proofs.columns.last_column.Goals as goal

pub returns : goal.returns
returns c =
    bytes_of_sum c.from_le_bytes.result c.args.key (map sbox (c.args.a ∷ c.args.b ∷ c.args.c ∷ c.args.d ∷ [])) (bytes_of c.args.key)
    (four_bytes_of c.from_le_bytes.result c.substituted.result c.substituted-2.result c.substituted-3.result c.substituted-4.result (sbox c.args.a) (sbox c.args.b) (sbox c.args.c) (sbox c.args.d)
    c.from_le_bytes.ensures c.substituted.ensures c.substituted-2.ensures c.substituted-3.ensures c.substituted-4.ensures
    (omega arith) (omega arith) (omega arith) (omega arith)) refl
