use Rattle.std.proofs.Common.{arith}
use Rattle.aes_table.proofs.Entries.{first_entry}
use Rattle.aes_table.proofs.tables.first.Goals as goal

pub returns : goal.returns
returns c = first_entry c.args.byte (omega arith)
