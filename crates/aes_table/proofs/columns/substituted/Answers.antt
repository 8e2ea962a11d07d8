use Rattle.std.proofs.Common.{arith, ap, ◌∙◌, slice_index}
use Rattle.std_defs.specs.Aes.{sbox}
use Rattle.std_defs.proofs.Tables.{sbox-lt}
use Rattle.aes_table.proofs.Entries.{times_one}
use Rattle.aes_table.proofs.columns.substituted.Goals as goal

pub returns : goal.returns
returns c =
    ap (λ v. slice_index v 1) (c.to_le_bytes.ensures ∙ c.first.ensures) ∙ times_one (sbox c.args.byte) (sbox-lt c.args.byte (omega arith))
