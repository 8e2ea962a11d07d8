use Rattle.sha_lanes.proofs.Schedules.{word_behind}
use Rattle.sha_lanes.proofs.one_block.next_step.Goals as goal

pub returns : goal.returns
returns c = λ h b held. c.step.ensures h b (word_behind b c.args.words.now c.args.t c.requires.from c.requires.to held.0 c.next_word-word.ensures) held
