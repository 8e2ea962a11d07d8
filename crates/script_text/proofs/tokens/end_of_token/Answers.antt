use Rattle.std.proofs.Common.{◌∙◌}
use Rattle.script_text.specs.Tokens.{is_blank}
use Rattle.script_text.proofs.PlaceLemmas.{place_found}
use Rattle.script_text.proofs.tokens.end_of_token.Goals as goal

pub returns : goal.returns
returns c = c.unwrap_or.ensures ∙ place_found is_blank c.args.line.now c.memchr2.result c.memchr2.ensures
