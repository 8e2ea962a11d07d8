use Rattle.std.proofs.Common.{◌≡◌, ◌∙◌, ap, arith, refl, add-one}
use Rattle.std_defs.specs.Xts.{times_alpha, times_alpha_power}
use Rattle.xts_mode.proofs.Eight.{filled_none, filled_more}
use Rattle.xts_mode.proofs.tweak.Tweak.take_some.Goals as goal

pub loop-j-init : goal.loop-j-init
unfolding times_alpha_power
loop-j-init c = record { filled = filled_none _ _ refl; place = refl }

pub loop-j-preserved : goal.loop-j-preserved
unfolding times_alpha_power
loop-j-preserved c = record {
  filled = filled_more _ _ c.loop-j.j c.block.result c.loop-j.invariant.filled (omega arith) (c.block.ensures ∙ c.loop-j.invariant.place);
  place = rw add-one (c.next.ensures ∙ ap times_alpha c.loop-j.invariant.place);
}

pub returns-clause-blocks : goal.returns-clause-blocks
returns-clause-blocks c = λ j below. c.loop-j.invariant.filled.made j (omega arith)

pub returns-clause-tweak : goal.returns-clause-tweak
returns-clause-tweak c =
    let at_end : c.loop-j.j ≡ c.args.count = omega arith in
    c.loop-j.invariant.place ∙ ap (times_alpha_power c.args.self.now) at_end
