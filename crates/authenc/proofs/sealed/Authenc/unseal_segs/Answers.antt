use Rattle.std.proofs.Common.{sym, refl, ◌∙◌, inl, ◌++◌, length, take, bytes_eq}
use Rattle.std.proofs.lemmas.Bool.{not-true, not-false}
use Rattle.std_defs.specs.Hmac.{hmac_under}
use Rattle.std_defs.specs.Authenc.{authenc_open}
use Rattle.authenc.proofs.Opening.{same_tag, other_tag, opened}
use Rattle.authenc.proofs.sealed.Authenc.unseal_segs.Goals as goal

pub returns-then-tags_differ-clause-text : goal.returns-then-tags_differ-clause-text
unfolding authenc_open
returns-then-tags_differ-clause-text g c =
    rw (← c.self.view_is) (
      inl (
        refl,
        other_tag c.mac_segs-whole.result (hmac_under c.self.inside.mac (c.args.associated.now ++ c.args.b.now.text)) c.args.tag.now (length c.args.tag.now)
            (g.S.Skcipher.unseals c.self.inside.cipher c.args.iv.now c.args.b.now.text) c.mac_segs-whole.ensures
            (not-true (bytes_eq (take (length c.args.tag.now) c.mac_segs-whole.result) c.args.tag.now) (sym c.tags_differ.ensures ∙ c.if-tags_differ.true)),
      ),
      refl,
    )

pub returns-clause-text : goal.returns-clause-text
unfolding authenc_open
returns-clause-text g c =
    rw (← c.self.view_is)
    (opened c.unseal_segs.result (g.S.Skcipher.unseals c.self.inside.cipher c.args.iv.now c.args.b.now.text) _ c.args.b.now.text c.unseal_segs.new.b.text
    (same_tag c.mac_segs-whole.result (hmac_under c.self.inside.mac (c.args.associated.now ++ c.args.b.now.text)) c.args.tag.now (length c.args.tag.now)
    (g.S.Skcipher.unseals c.self.inside.cipher c.args.iv.now c.args.b.now.text) c.mac_segs-whole.ensures
    (not-false (bytes_eq (take (length c.args.tag.now) c.mac_segs-whole.result) c.args.tag.now) (sym c.tags_differ.ensures ∙ c.if-tags_differ.false)))
    c.unseal_segs.ensures.text)
