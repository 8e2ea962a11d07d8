use Rattle.std.proofs.Common.{arith}
use Rattle.aes_table.proofs.Entries.{fourth_entry}
use Rattle.aes_table.proofs.tables.fourth.Goals as goal

pub returns : goal.returns
returns c = fourth_entry c.args.byte (omega arith)
