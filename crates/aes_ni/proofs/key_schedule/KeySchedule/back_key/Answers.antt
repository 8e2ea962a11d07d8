use Rattle.std.proofs.Common.{arith}
use Rattle.aes_ni.proofs.KeyVectors.{back_key_at}
use Rattle.aes_ni.proofs.key_schedule.KeySchedule.back_key.Goals as goal

pub returns : goal.returns
returns c = let s = c.args.self.now in back_key_at s.keys s.back_keys c.args.round (omega arith) c.requires s.blocks s.mixed_back
