use Rattle.std.proofs.Common.{ap, ◌∙◌}
use Rattle.std_defs.specs.Gcm.{gctr, gcm_tag, gcm_text, gcm_seal}
use Rattle.gcm_mode.proofs.gcm.Gcm.seal_segs.Goals as goal

pub returns-clause-sealed : goal.returns-clause-sealed
unfolding gcm_seal gcm_text
returns-clause-sealed g c =
    let text = c.count_over.ensures.text ∙ ap (λ k. gctr (g.C.BlockCipher.sealed k) c.first_counter.result c.args.text.now.text) c.cipher.ensures ∙ ap (λ n. gctr (g.C.BlockCipher.sealed c.args.self.now) n c.args.text.now.text) c.first_counter.ensures in
    let tag = c.tag_of_segs.ensures.tag ∙ ap (gcm_tag (g.C.BlockCipher.sealed c.args.self.now) c.args.iv.now c.args.associated.now) text in
    λ i. ((c.tag_of_segs.ensures.text ∙ text) i, tag i)
