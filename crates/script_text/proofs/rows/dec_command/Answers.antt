use Rattle.std.proofs.Common.{map, rules}
use Rattle.script_text.proofs.AeadLemmas.{dec_as}
use Rattle.script_text.proofs.rows.dec_command.Goals as goal

pub returns-in_err-asked : goal.returns-in_err-asked
returns-in_err-asked c = rw (dec_as (map (λ token. token.now) c.args.args.now)) search rules

pub returns : goal.returns
returns c = rw (dec_as (map (λ token. token.now) c.args.args.now)) search rules
