use Rattle.aes_ni.specs.RoundKeys.{schedule_of}
use Rattle.aes_ni.proofs.OneBlock.{round_added}
use Rattle.aes_ni.proofs.key_schedule.KeySchedule.seal_round.Goals as goal

pub returns : goal.returns
returns c = round_added (schedule_of c.args.self.now.keys) c.args.round c.args.state.now _ _ c.key.ensures c.aesenc.ensures
