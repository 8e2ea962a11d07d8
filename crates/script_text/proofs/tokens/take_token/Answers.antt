use Rattle.std.proofs.Common.{◌∙◌, sym, ap, ℕ, ◌+◌, List, ◌++◌, map, drop, arith, rules}
use Rattle.std.proofs.lemmas.List.{map-append}
use Rattle.script_text.specs.Tokens.{tokens_of}
use Rattle.script_text.proofs.PlaceLemmas.{token_taken, blank_passed}
use Rattle.script_text.proofs.tokens.take_token.Goals as goal
use Rattle.script_text.proofs.tokens.take_token.Goals.{then-end-gt0+in_ok-push, else-end-gt0}

pub returns-clause-tokens : goal.returns-clause-tokens
returns-clause-tokens c =
    let line = c.args.line.now in
    let end = c.end_of_token-end.result in
    elim c.if-end-gt0.branch [
      | then-end-gt0+in_ok-push w ↦ rw (w.tokens-is, w.in_ok-push.ensures.items, c.behind.ensures) (
          token_taken line end c.end_of_token-end.ensures (map (λ token. token.now) c.args.tokens.now.items) (let some = w.if-end-gt0.true in search rules)
          ∙ ap (λ (l : List (List ℕ)). l ++ tokens_of (drop (end + 1) line)) (sym (map-append (λ token. token.now) c.args.tokens.now.items _)))
      | else-end-gt0 w ↦ (let none = blank_passed line end c.end_of_token-end.ensures (omega arith) in search (rules, none))
    ]
