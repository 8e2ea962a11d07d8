use Rattle.std.proofs.Common.{◌∙◌}
use Rattle.script_session.proofs.lives.LiveTransforms.place_of.Goals as goal

pub returns : goal.returns
returns c = c.copied.ensures ∙ (c.get.ensures.value ∙ c.requires.led c.args.label.now)
