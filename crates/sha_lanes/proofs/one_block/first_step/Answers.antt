use Rattle.sha_lanes.proofs.Schedules.{first_word}
use Rattle.sha_lanes.proofs.one_block.first_step.Goals as goal

pub returns : goal.returns
returns c = λ h held. c.step.ensures h c.args.block.now (first_word c.args.block.now c.args.t c.requires.round c.word_at.ensures) held
