use Rattle.std.specs.Prelude.{refl}
use Rattle.aes_ni.specs.RoundKeys.{schedule_of}
use Rattle.aes_ni.proofs.OneBlock.{key_added}
use Rattle.aes_ni.proofs.key_schedule.KeySchedule.add_key.Goals as goal

pub returns : goal.returns
returns c = key_added (schedule_of c.args.self.now.keys) c.args.round c.args.state.now _ _ c.told-state c.key.ensures refl
