use Rattle.transforms.proofs.Kept.{kept_cipher}
use Rattle.transforms.proofs.inner.cipher_of.Goals as goal

pub returns : goal.returns
returns c =
    let h = c.in_ok-new.ensures in
    (h.0, kept_cipher c.in_ok-new.field-0 c.args.mode c.args.aes c.args.key.now h.1)
