use Rattle.std.proofs.Common.{ap, ◌∙◌}
use Rattle.padata_core.specs.Pad.{Pad}
use Rattle.padata_core.proofs.Step.{release_step}
use Rattle.padata_core.proofs.Padata.collect.Goals as goal

pub loop-number-preserved : goal.loop-number-preserved
loop-number-preserved g c =
    (let e = c.in-Some.ensures in
    let i = c.loop-number.invariant in
    let p = c.push.ensures in (
      release_step c.loop-number.self c.collect_next.new.self _ c.in-Some.number c.in-Some.out _ _ c.loop-number.into c.push.new.self i.0 e.0 e.1 e.2 p.list p.spare,
      ap (λ (p : Pad _ _). p.lists) e.2 ∙ i.1,
      ap (λ (p : Pad _ _). p.waiting) e.2 ∙ i.2,
      ap (λ (p : Pad _ _). p.spare) e.2 ∙ i.3,
    ))
