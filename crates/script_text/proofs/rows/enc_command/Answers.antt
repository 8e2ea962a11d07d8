use Rattle.std.proofs.Common.{map, rules}
use Rattle.script_text.proofs.AeadLemmas.{enc_as}
use Rattle.script_text.proofs.rows.enc_command.Goals as goal

pub returns-in_err-asked : goal.returns-in_err-asked
returns-in_err-asked c = rw (enc_as (map (λ token. token.now) c.args.args.now)) search rules

pub returns : goal.returns
returns c = rw (enc_as (map (λ token. token.now) c.args.args.now)) search rules
