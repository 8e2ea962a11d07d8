use Rattle.std.proofs.Common.{◌≡◌, ◌∙◌, ℕ, ◌∷◌, ◌++◌, length, ap, sym}
use Rattle.std.specs.Prelude.{◌==◌, if◌then◌else◌, slice_index}
use Rattle.std.specs.Int.{bytes_high_first}
use Rattle.std.proofs.lemmas.Bool.{cond-true, cond-false}
use Rattle.std_defs.specs.Ccm.{ccm_q, ccm_nonce, ccm_first_block}
use Rattle.cmac_ccm.proofs.Fields.{flags_are}
use Rattle.cmac_ccm.proofs.formatting.first_block.Goals as goal
use Rattle.cmac_ccm.proofs.formatting.first_block.Goals.{then-is_empty, else-is_empty}

pub returns : goal.returns
unfolding ccm_first_block
returns c =
    let none = length c.args.aad.now == 0 in
    let adata : c.if-is_empty.adata ≡ (if none then 0 else 64) =
    elim c.if-is_empty.branch [
      | then-is_empty w ↦ w.adata-is ∙ sym (cond-true none 0 64 (sym c.is_empty.ensures ∙ w.if-is_empty.true))
      | else-is_empty w ↦ w.adata-is ∙ sym (cond-false none 0 64 (sym c.is_empty.ensures ∙ w.if-is_empty.false))
    ] in
    c.with_field.ensures
    ∙ ap (λ (b : ℕ). b ∷ ccm_nonce c.args.iv.now ++ bytes_high_first (ccm_q c.args.iv.now) (length c.args.text.now))
    (flags_are none c.if-is_empty.adata c.saturating_sub.result c.args.tag_len (slice_index c.args.iv.now 0) adata c.saturating_sub.ensures)
