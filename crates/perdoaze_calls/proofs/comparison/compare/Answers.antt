use Rattle.std.proofs.Common.{arith, sym, ◌∙◌, length, take, bytes_eq}
use Rattle.std.proofs.lemmas.Bool.{not-true, not-false, true≢false}
use Rattle.std.proofs.lemmas.List.{take_all}
use Rattle.std.proofs.lemmas.Slice.Eq.{bytes_eq-Decides}
use Rattle.perdoaze_calls.proofs.comparison.compare.Goals as goal

pub returns-then-tags_differ : goal.returns-then-tags_differ
returns-then-tags_differ c =
    λ same.
    let front = take (length c.args.b.now) c.args.a.now in
    true≢false
    (sym ((bytes_eq-Decides front c.args.b.now).1 (take_all (length c.args.b.now) c.args.a.now (omega arith) ∙ same))
    ∙ not-true (bytes_eq front c.args.b.now) (sym c.tags_differ.ensures ∙ c.if-tags_differ.true))

pub returns-else-tags_differ : goal.returns-else-tags_differ
returns-else-tags_differ c =
    let front = take (length c.args.b.now) c.args.a.now in
    sym (take_all (length c.args.b.now) c.args.a.now (omega arith))
    ∙ (bytes_eq-Decides front c.args.b.now).0 (not-false (bytes_eq front c.args.b.now) (sym c.tags_differ.ensures ∙ c.if-tags_differ.false))
