use Rattle.std.proofs.Common.{arith, ap, ◌∙◌}
use Rattle.std_defs.specs.Aes.{inverse_sbox}
use Rattle.std_defs.proofs.Tables.{inverse_sbox-lt}
use Rattle.aes_table.proofs.Entries.{all_four, times_all}
use Rattle.aes_table.proofs.columns.inverse_substituted.Goals as goal

pub returns : goal.returns
returns c =
    ap all_four (c.to_le_bytes.ensures ∙ c.back_first.ensures) ∙ times_all (inverse_sbox c.args.byte) (inverse_sbox-lt c.args.byte (omega arith))
