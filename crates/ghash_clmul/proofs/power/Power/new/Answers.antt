use Rattle.std.proofs.Common.{ℕ, ◌<◌, ◌∙◌, ◌^◌, ap, ap₂, sym, subst}
use Rattle.std_defs.specs.Aes.{product}
use Rattle.std_defs.proofs.Multiples.{times_x}
use Rattle.ghash_clmul.specs.Wide.{reduced}
use Rattle.ghash_clmul.proofs.Powers.{divided}
use Rattle.ghash_clmul.proofs.power.Power.new.Goals as goal

pub returns-clause-power : goal.returns-clause-power
returns-clause-power c =
    ap times_x (c.reduced.ensures.reduces ∙ ap reduced (c.product_of.ensures ∙ ap₂ (λ (a b : ℕ). product a b 128) c.lanes_of.ensures c.lanes_of-2.ensures))
    ∙ divided c.args.h c.ranges.h.fits

pub returns-clause-fits : goal.returns-clause-fits
returns-clause-fits c = subst (λ (t : ℕ). t < 2 ^ 128) (sym (returns-clause-power c)) c.ranges.h.fits
