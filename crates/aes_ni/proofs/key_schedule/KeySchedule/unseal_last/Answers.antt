use Rattle.aes_ni.specs.RoundKeys.{schedule_of}
use Rattle.aes_ni.proofs.OneBlock.{back_last_added}
use Rattle.aes_ni.proofs.key_schedule.KeySchedule.unseal_last.Goals as goal

pub returns : goal.returns
returns c = back_last_added (schedule_of c.args.self.now.keys) 0 c.args.state.now _ _ c.key.ensures c.aesdeclast.ensures
