use Rattle.std.proofs.Common.{◌∙◌, refl, sym}
use Rattle.cmac_ccm.proofs.Opened.{not_sealed, sealed_so}
use Rattle.cmac_ccm.proofs.ccm.Ccm.seal.Goals as goal

pub returns-then-not-takes_iv : goal.returns-then-not-takes_iv
returns-then-not-takes_iv g c = (
  refl,
  not_sealed (g.C.BlockCipher.sealed c.args.self.now) c.args.iv.now c.args.aad.now _ c.args.b.now (sym c.takes_iv.ensures ∙ c.if-not-takes_iv.true),
  refl,
  refl,
)

pub returns : goal.returns
returns g c =
    sealed_so (g.C.BlockCipher.sealed c.args.self.now) c.args.iv.now c.args.aad.now _ c.args.b.now c.full_tag-full.result c.copy_from_slice.new.self c.apply.new.text
    (sym c.takes_iv.ensures ∙ c.if-not-takes_iv.false) c.full_tag-full.ensures c.copy_from_slice.ensures.after c.apply.ensures
