use Rattle.std.proofs.Common.{arith}
use Rattle.aes_table.proofs.Entries.{back_first_entry}
use Rattle.aes_table.proofs.tables.back_first.Goals as goal

pub returns : goal.returns
returns c = back_first_entry c.args.byte (omega arith)
