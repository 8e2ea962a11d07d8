use Rattle.aes_ni.specs.RoundKeys.{schedule_of}
use Rattle.aes_ni.proofs.OneBlock.{back_added}
use Rattle.aes_ni.proofs.key_schedule.KeySchedule.unseal_round.Goals as goal

pub returns : goal.returns
returns c = back_added (schedule_of c.args.self.now.keys) c.args.round c.args.state.now _ _ c.back_key.ensures c.aesdec.ensures
