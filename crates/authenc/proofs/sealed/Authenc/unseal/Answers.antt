use Rattle.std.proofs.Common.{sym, refl, ◌∙◌, inl, ◌++◌, length, take, bytes_eq}
use Rattle.std.proofs.lemmas.Bool.{not-true, not-false}
use Rattle.std_defs.specs.Hmac.{hmac_under}
use Rattle.std_defs.specs.Authenc.{authenc_open}
use Rattle.authenc.proofs.Opening.{same_tag, other_tag, opened}
use Rattle.authenc.proofs.sealed.Authenc.unseal.Goals as goal

pub returns-then-tags_differ : goal.returns-then-tags_differ
unfolding authenc_open
returns-then-tags_differ g c =
    rw (← c.self.view_is) (
      inl (
        refl,
        other_tag c.mac-full.result (hmac_under c.self.inside.mac (c.args.associated.now ++ c.args.b.now)) c.args.tag.now (length c.args.tag.now)
            (g.S.Skcipher.unseals c.self.inside.cipher c.args.iv.now c.args.b.now) c.mac-full.ensures
            (not-true (bytes_eq (take (length c.args.tag.now) c.mac-full.result) c.args.tag.now) (sym c.tags_differ.ensures ∙ c.if-tags_differ.true)),
      ),
      refl,
    )

pub returns : goal.returns
unfolding authenc_open
returns g c =
    rw (← c.self.view_is)
    (opened c.unseal.result (g.S.Skcipher.unseals c.self.inside.cipher c.args.iv.now c.args.b.now) _ c.args.b.now c.unseal.new.b
    (same_tag c.mac-full.result (hmac_under c.self.inside.mac (c.args.associated.now ++ c.args.b.now)) c.args.tag.now (length c.args.tag.now)
    (g.S.Skcipher.unseals c.self.inside.cipher c.args.iv.now c.args.b.now) c.mac-full.ensures
    (not-false (bytes_eq (take (length c.args.tag.now) c.mac-full.result) c.args.tag.now) (sym c.tags_differ.ensures ∙ c.if-tags_differ.false)))
    c.unseal.ensures)
