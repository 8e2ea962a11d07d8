use Rattle.std.proofs.Common.{◌≡◌, ◌∙◌, ◌+◌, ◌++◌, ◌∷◌, [], take, ap, sym}
use Rattle.std.proofs.lemmas.List.{take_more}
use Rattle.dialogues.specs.BoardCalls.{origin_of}
use Rattle.recorded_calls.proofs.Gathers.{lines-more}
use Rattle.recorded_calls.proofs.shared_calls.lines_of.Goals as goal

pub loop-ask-preserved : goal.loop-ask-preserved
loop-ask-preserved c =
    let xs = c.args.asks.now in
    let i = c.loop-ask.ask-index in
    let more : take (i + 1) xs ≡ take i xs ++ c.ask-item.result ∷ [] = take_more xs i c.ask-item.result c.loop-ask-test.true ∙ ap (λ x. take i xs ++ x ∷ []) (sym c.ask-item.is) in
    c.in_ok-push.ensures.ok ∙ lines-more (take i xs) c.ask-item.result (take (i + 1) xs) c.loop-ask.lines c.line_of.result more (c.line_of.ensures ∙ ap origin_of c.deref.ensures) c.loop-ask.invariant
