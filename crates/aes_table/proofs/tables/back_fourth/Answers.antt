use Rattle.std.proofs.Common.{arith}
use Rattle.aes_table.proofs.Entries.{back_fourth_entry}
use Rattle.aes_table.proofs.tables.back_fourth.Goals as goal

pub returns : goal.returns
returns c = back_fourth_entry c.args.byte (omega arith)
