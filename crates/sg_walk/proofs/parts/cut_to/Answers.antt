use Rattle.std.proofs.Common.{◌≡◌, ◌∙◌, ◌<◌, ℕ, [], sym, ap, arith, rules, length, get_or, map, min}
use Rattle.std.proofs.lemmas.List.{get_or_default}
use Rattle.std.specs.List.{concat}
use Rattle.sg_walk.proofs.Joined.{concat-fronts, sizes-fronts, fronts_more, fronts_all}
use Rattle.sg_walk.proofs.parts.cut_to.Goals as goal

pub loop-part-preserved : goal.loop-part-preserved
loop-part-preserved c =
    let at = c.loop-part in
    let within : at.part-index < length at.parts = omega (arith, at.invariant.same) in
    let part : get_or at.parts at.part-index c.part-item.result ≡ get_or at.parts at.part-index [] = get_or_default at.parts at.part-index c.part-item.result [] within in
    record {
      cut = fronts_more at.parts at.part-index at.rest c.min-keep.result (get_or at.parts at.part-index c.part-item.result) c.shorten.new.part within part
          (c.min-keep.ensures ∙ ap (λ (n : ℕ). min n at.rest) c.len.ensures) c.shorten.ensures
          ∙ at.invariant.cut;
      same = search rules;
    }

pub returns-clause-text : goal.returns-clause-text
returns-clause-text c =
    let at = c.loop-part in
    ap concat (sym (fronts_all at.parts at.part-index at.rest (omega (arith, at.invariant.same))) ∙ at.invariant.cut) ∙ concat-fronts c.args.len c.args.parts.now

pub returns-clause-sizes : goal.returns-clause-sizes
returns-clause-sizes c =
    let at = c.loop-part in
    ap (map length) (sym (fronts_all at.parts at.part-index at.rest (omega (arith, at.invariant.same))) ∙ at.invariant.cut) ∙ sizes-fronts c.args.len c.args.parts.now
