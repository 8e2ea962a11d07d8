use Rattle.std.proofs.Common.{ap, ◌∙◌, refl, sym, cond, Some, None, length, take, bytes_eq, inl}
use Rattle.std.proofs.lemmas.Bool.{not-true, not-false}
use Rattle.std_defs.specs.Gcm.{gctr, gcm_text, gcm_open}
use Rattle.std_defs.specs.Value.{or_bad_message}
use Rattle.gcm_mode.proofs.gcm.Gcm.unseal_segs.Goals as goal

pub returns-then-tags_differ-clause-text : goal.returns-then-tags_differ-clause-text
unfolding gcm_open
returns-then-tags_differ-clause-text g c =
    let differ = not-true (bytes_eq (take (length c.args.tag.now) c.tag_of_segs-full.result) c.args.tag.now) (sym c.tags_differ.ensures ∙ c.if-tags_differ.true) in (
      inl (
        refl,
        ap (λ t. or_bad_message (cond (bytes_eq (take (length c.args.tag.now) t) c.args.tag.now) (Some (gcm_text (g.C.BlockCipher.sealed c.args.self.now) c.args.iv.now c.args.text.now.text)) None)) (sym c.tag_of_segs-full.ensures.tag)
            ∙ ap (λ b. or_bad_message (cond b (Some (gcm_text (g.C.BlockCipher.sealed c.args.self.now) c.args.iv.now c.args.text.now.text)) None)) differ,
      ),
      c.tag_of_segs-full.ensures.text,
    )

pub returns-clause-text : goal.returns-clause-text
unfolding gcm_open gcm_text
returns-clause-text g c =
    let same = not-false (bytes_eq (take (length c.args.tag.now) c.tag_of_segs-full.result) c.args.tag.now) (sym c.tags_differ.ensures ∙ c.if-tags_differ.false) in
    let text = c.count_over.ensures.text ∙ ap (gctr (g.C.BlockCipher.sealed c.cipher.result.now) c.first_counter.result) c.tag_of_segs-full.ensures.text ∙ ap (λ k. gctr (g.C.BlockCipher.sealed k) c.first_counter.result c.args.text.now.text) c.cipher.ensures ∙ ap (λ n. gctr (g.C.BlockCipher.sealed c.args.self.now) n c.args.text.now.text) c.first_counter.ensures in
    ap (λ t. or_bad_message (cond (bytes_eq (take (length c.args.tag.now) t) c.args.tag.now) (Some (gcm_text (g.C.BlockCipher.sealed c.args.self.now) c.args.iv.now c.args.text.now.text)) None)) (sym c.tag_of_segs-full.ensures.tag)
    ∙ ap (λ b. or_bad_message (cond b (Some (gcm_text (g.C.BlockCipher.sealed c.args.self.now) c.args.iv.now c.args.text.now.text)) None)) same
    ∙ ap (λ t. or_bad_message (Some t)) (sym text)
