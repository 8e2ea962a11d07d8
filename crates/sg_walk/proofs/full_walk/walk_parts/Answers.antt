use Rattle.std.proofs.Common.{◌≡◌, ◌∙◌, ◌+◌, ◌<◌, [], ap, arith, length, get_or}
use Rattle.std.proofs.lemmas.List.{get_or_default}
use Rattle.sg_walk.proofs.Joined.{same_total}
use Rattle.sg_walk.proofs.Steps.{walked_none, walked_past, walked_on, walked_same, walked_all}
use Rattle.sg_walk.proofs.full_walk.walk_parts.Goals as goal
use Rattle.sg_walk.proofs.full_walk.walk_parts.Goals.{then-len-skip, else-len-skip}

pub loop-i-init : goal.loop-i-init
loop-i-init g c = walked_none g.W.Walker.makes c.args.walker.now c.args.parts.now (g.met.W.Walker.stays c.args.walker.now)

pub loop-i-preserved : goal.loop-i-preserved
loop-i-preserved g c =
    let makes = g.W.Walker.makes in
    let at = c.loop-i in
    let within : c.loop-i.i < length c.loop-i.parts = omega (arith, at.auto.parts) in
    let len : c.len-len.result ≡ length (get_or c.loop-i.parts c.loop-i.i []) = c.len-len.ensures ∙ ap length (get_or_default at.parts at.i c.index-parts-i.result [] within) in
    elim c.if-len-skip.branch [
      | then-len-skip w ↦
          walked_past makes c.args.walker.now at.walker c.args.parts.now at.parts at.i at.skip c.len-len.result c.loop-i-test.true len at.invariant c.if-len-skip.parts c.if-len-skip.walker c.if-len-skip.skip
          w.if-len-skip.true w.parts-is w.walker-is w.skip-is
      | else-len-skip w ↦
          let walked = w.walk_part-skip in
          walked_same makes c.args.walker.now walked.new.walker c.if-len-skip.walker c.args.parts.now walked.new.parts c.if-len-skip.parts (at.i + 1) walked.result c.if-len-skip.skip w.parts-is w.walker-is w.skip-is
          (walked_on makes c.args.walker.now at.walker c.args.parts.now at.parts at.i at.skip c.len-len.result c.loop-i-test.true len at.invariant walked.new.parts walked.new.walker walked.result
          g.met.W.Walker.joins (omega (arith, w.if-len-skip.false)) walked.ensures.stepped walked.ensures.whole)
    ]

pub returns-clause-text : goal.returns-clause-text
returns-clause-text g c =
    walked_all g.W.Walker.makes c.args.walker.now c.loop-i.walker c.args.parts.now c.loop-i.parts c.loop-i.i c.loop-i.skip c.loop-i-test.false c.loop-i.invariant

pub returns-clause-sizes : goal.returns-clause-sizes
returns-clause-sizes g c = c.loop-i.invariant.stepped.sizes

pub returns-clause-len : goal.returns-clause-len
returns-clause-len g c = same_total c.loop-i.parts c.args.parts.now c.loop-i.invariant.stepped.sizes
