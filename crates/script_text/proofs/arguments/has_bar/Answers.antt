use Rattle.std.proofs.Common.{◌∙◌}
use Rattle.script_text.specs.Arguments.{is_bar}
use Rattle.script_text.proofs.PlaceLemmas.{any_found}
use Rattle.script_text.proofs.arguments.has_bar.Goals as goal

pub returns : goal.returns
returns c = c.is_some.ensures ∙ any_found is_bar c.args.token.now c.memchr.result c.memchr.ensures
