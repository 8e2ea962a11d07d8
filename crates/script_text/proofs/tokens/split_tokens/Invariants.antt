use Rattle.std.specs.Prelude.{◌≡◌, ◌++◌, map, length}
use Rattle.script_text.specs.Tokens.{tokens_of}
use Rattle.script_text.proofs.tokens.split_tokens.Given as goal

-- those that were taken and those of what is left
abbrev pub invariant-loop-rest : goal.invariant-loop-rest
invariant-loop-rest l = map (λ token. token.now) l.tokens.items ++ tokens_of l.rest ≡ tokens_of l.line

abbrev pub decreases-loop-rest : goal.decreases-loop-rest
decreases-loop-rest l = length l.rest
