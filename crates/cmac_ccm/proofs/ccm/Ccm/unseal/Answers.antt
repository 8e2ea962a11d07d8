use Rattle.std.proofs.Common.{◌∙◌, refl, sym, ap, inl, inr, length, take, bytes_eq}
use Rattle.std.proofs.lemmas.Bool.{not-true, not-false}
use Rattle.std_defs.specs.Ccm.{ccm_text}
use Rattle.cmac_ccm.proofs.Opened.{text-twice, not_opened, wrong_tag, right_tag}
use Rattle.cmac_ccm.proofs.ccm.Ccm.unseal.Goals as goal

pub returns-then-not-takes_iv : goal.returns-then-not-takes_iv
returns-then-not-takes_iv g c = (
  inr (refl, not_opened (g.C.BlockCipher.sealed c.args.self.now) c.args.iv.now c.args.aad.now c.args.b.now c.args.tag.now c.args.b.now c.args.b.now (sym c.takes_iv.ensures ∙ c.if-not-takes_iv.true)),
  refl,
)

pub returns-then-tags_differ : goal.returns-then-tags_differ
returns-then-tags_differ g c =
    let f = g.C.BlockCipher.sealed c.args.self.now in (
      inl (
        refl,
        wrong_tag f c.args.iv.now c.args.aad.now c.args.b.now c.args.tag.now c.full_tag-full.result c.apply.new.text (sym c.takes_iv.ensures ∙ c.if-not-takes_iv.false)
            c.apply.ensures c.full_tag-full.ensures (not-true (bytes_eq (take (length c.args.tag.now) c.full_tag-full.result) c.args.tag.now) (sym c.tags_differ.ensures ∙ c.if-tags_differ.true)),
      ),
      c.apply-then-tags_differ.ensures ∙ ap (ccm_text f c.args.iv.now) c.apply.ensures ∙ text-twice f c.args.iv.now c.args.aad.now c.args.b.now,
    )

pub returns : goal.returns
returns g c =
    let f = g.C.BlockCipher.sealed c.args.self.now in
    right_tag f c.args.iv.now c.args.aad.now c.args.b.now c.args.tag.now c.full_tag-full.result c.apply.new.text (sym c.takes_iv.ensures ∙ c.if-not-takes_iv.false)
    c.apply.ensures c.full_tag-full.ensures (not-false (bytes_eq (take (length c.args.tag.now) c.full_tag-full.result) c.args.tag.now) (sym c.tags_differ.ensures ∙ c.if-tags_differ.false))
