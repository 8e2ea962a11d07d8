use Rattle.std.proofs.Common.{◌∙◌, subst, sym}
use Rattle.transforms.specs.Keys.{IsKeyed}
use Rattle.transforms.proofs.Kept.{kept_takes}
use Rattle.transforms.proofs.keyed.Keyed.takes.Goals as goal

pub returns-in-Aead : goal.returns-in-Aead
returns-in-Aead c =
    let kept = subst (λ inner. IsKeyed inner c.self.inside.plan c.self.inside.key) (sym c.deref.ensures ∙ c.in-Aead.is) c.self.invariant in
    rw (← c.self.view_is)
    (c.takes_aead.ensures ∙ kept_takes c.in-Aead.aead c.self.inside.plan c.self.inside.key c.args.authsize c.args.request.now kept)
