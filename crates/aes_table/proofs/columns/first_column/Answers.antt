use Rattle.std.proofs.Common.{arith, refl, map, ◌∷◌, []}
use Rattle.std_defs.specs.Aes.{inverse_sbox}
use Rattle.aes_table.specs.Words.{bytes_of}
use Rattle.aes_table.proofs.Entries.{bytes_of_sum, four_bytes_of}
use Rattle.aes_table.proofs.columns.first_column.Goals as goal

pub returns : goal.returns
returns c =
    bytes_of_sum c.from_le_bytes.result c.args.key (map inverse_sbox (c.args.a ∷ c.args.b ∷ c.args.c ∷ c.args.d ∷ [])) (bytes_of c.args.key)
    (four_bytes_of c.from_le_bytes.result c.inverse_substituted.result c.inverse_substituted-2.result c.inverse_substituted-3.result c.inverse_substituted-4.result (inverse_sbox c.args.a) (inverse_sbox c.args.b) (inverse_sbox c.args.c) (inverse_sbox c.args.d)
    c.from_le_bytes.ensures c.inverse_substituted.ensures c.inverse_substituted-2.ensures c.inverse_substituted-3.ensures c.inverse_substituted-4.ensures
    (omega arith) (omega arith) (omega arith) (omega arith)) refl
