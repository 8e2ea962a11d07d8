use Rattle.std.proofs.Common.{arith}
use Rattle.aes_table.proofs.Entries.{second_entry}
use Rattle.aes_table.proofs.tables.second.Goals as goal

pub returns : goal.returns
returns c = second_entry c.args.byte (omega arith)
