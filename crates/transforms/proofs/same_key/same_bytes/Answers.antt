use Rattle.std.proofs.Common.{◌≡◌, ◌∙◌, sym, arith, take, length, bytes_eq}
use Rattle.std.proofs.lemmas.Bool.{not-false, not-true, not_from_false, not_from_true}
use Rattle.std.proofs.lemmas.List.{take_all}
use Rattle.std.proofs.lemmas.Slice.Eq.{bytes_eq-Decides}
use Rattle.transforms.proofs.same_key.same_bytes.Goals as goal

pub returns : goal.returns
returns c =
    let a = c.args.a.now in
    let b = c.args.b.now in
    let differ = c.tags_differ.result in
    let known = bytes_eq-Decides (take (length b) a) b in
    let all : take (length b) a ≡ a = take_all (length b) a (omega arith) in (
      λ t. sym all ∙ known.0 (not-false (bytes_eq (take (length b) a) b) (sym c.tags_differ.ensures ∙ not-true differ t)),
      λ p. not_from_false differ (c.tags_differ.ensures ∙ not_from_true (bytes_eq (take (length b) a) b) (known.1 (all ∙ p))),
    )
