use Rattle.std.proofs.Common.{◌≡◌, ◌∙◌, ◌+◌, ◌++◌, ◌∷◌, [], take, ap, sym, map, subst}
use Rattle.std.specs.Arc.{arc_value}
use Rattle.board.specs.Entries.{entries_of, submissions}
use Rattle.std.proofs.lemmas.List.{take_more}
use Rattle.board.proofs.Accepting.{asks_more}
use Rattle.board.proofs.asks.asks_in.Goals as goal

pub loop-entry-preserved : goal.loop-entry-preserved
loop-entry-preserved g c =
    let xs = c.args.entries.now in
    let i = c.loop-entry.entry-index in
    let e = c.entry-item.result in
    let more : take (i + 1) xs ≡ take i xs ++ e ∷ [] = take_more xs i e c.loop-entry-test.true ∙ ap (λ x. take i xs ++ x ∷ []) (sym c.entry-item.is) in
    subst (λ ys. map arc_value c.push_some.new.asks.items ≡ submissions (entries_of c.args.of ys)) (sym more)
    (asks_more c.args.of (take i xs) e c.in_ok-ask.ask c.loop-entry.asks.items c.push_some.new.asks.items c.loop-entry.invariant c.in_ok-push_some.ensures c.in_ok-ask.ensures)
