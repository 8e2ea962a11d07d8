use Rattle.std.proofs.Common.{rules}
use Rattle.script_text.proofs.PartLemmas.{one_part}
use Rattle.script_text.proofs.arguments.one_segment.Goals as goal

pub returns-in_err-bytes : goal.returns-in_err-bytes
returns-in_err-bytes c = rw (one_part c.args.token.now c.requires) search rules

pub returns : goal.returns
returns c = rw (one_part c.args.token.now c.requires) search rules
