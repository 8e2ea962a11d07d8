use Rattle.std.proofs.Common.{arith}
use Rattle.aes_table.proofs.Entries.{back_second_entry}
use Rattle.aes_table.proofs.tables.back_second.Goals as goal

pub returns : goal.returns
returns c = back_second_entry c.args.byte (omega arith)
