use Rattle.std.proofs.Common.{arith}
use Rattle.aes_table.proofs.Entries.{third_entry}
use Rattle.aes_table.proofs.tables.third.Goals as goal

pub returns : goal.returns
returns c = third_entry c.args.byte (omega arith)
