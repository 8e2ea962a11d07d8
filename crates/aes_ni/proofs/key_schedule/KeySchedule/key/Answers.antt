use Rattle.std.proofs.Common.{arith}
use Rattle.aes_ni.proofs.KeyVectors.{key_at}
use Rattle.aes_ni.proofs.key_schedule.KeySchedule.key.Goals as goal

pub returns : goal.returns
returns c = let s = c.args.self.now in key_at s.keys c.args.round (omega arith) c.requires s.blocks
