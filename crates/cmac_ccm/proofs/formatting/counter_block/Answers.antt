use Rattle.std.proofs.Common.{◌≡◌, ◌∙◌, ◌+◌, ◌-◌, ◌∷◌, ◌++◌, ℕ, ap, arith}
use Rattle.std.specs.Prelude.{slice_index}
use Rattle.std.specs.Int.{bytes_high_first}
use Rattle.std_defs.specs.Ccm.{ccm_q, ccm_nonce, ccm_counter}
use Rattle.cmac_ccm.proofs.formatting.counter_block.Goals as goal

pub returns : goal.returns
unfolding ccm_counter
returns c =
    let same : slice_index c.args.iv.now 0 ≡ slice_index c.args.iv.now 0 + 1 - 1 = omega arith in
    c.with_field.ensures ∙ ap (λ (b : ℕ). b ∷ ccm_nonce c.args.iv.now ++ bytes_high_first (ccm_q c.args.iv.now) c.args.i) same
