use Rattle.std.proofs.Common.{arith}
use Rattle.aes_table.proofs.Entries.{back_third_entry}
use Rattle.aes_table.proofs.tables.back_third.Goals as goal

pub returns : goal.returns
returns c = back_third_entry c.args.byte (omega arith)
