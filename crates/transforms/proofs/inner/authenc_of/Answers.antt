use Rattle.transforms.proofs.Kept.{kept_authenc}
use Rattle.transforms.proofs.inner.authenc_of.Goals as goal

pub returns : goal.returns
returns c =
    let h = c.in_ok-authenc.ensures in
    (h.0, kept_authenc c.in_ok-authenc.field-0 c.args.mode c.args.aes c.args.key.now h.1)
