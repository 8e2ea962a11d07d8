use Rattle.std.proofs.Common.{arith}
use Rattle.std.proofs.lemmas.Nat.{le_bytes_4}
use Rattle.aes_table.proofs.schedule.number_of.Goals as goal

pub returns : goal.returns
returns c = le_bytes_4 c.args.word.now c.from_le_bytes.result (omega arith) c.fits-word c.from_le_bytes.ensures
