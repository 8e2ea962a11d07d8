use Rattle.transforms.proofs.UnderTag.{under_authenc, takes_by_keys}
use Rattle.transforms.proofs.any_aead.AnyAead.authenc.Goals as goal

pub returns : goal.returns
returns c =
    let h = c.in_ok-cipher.ensures in
    let keys = c.in_ok-keys.keys in
    let taken = takes_by_keys c.args.mode c.args.form c.args.key.now keys.mac.now keys.cipher.now c.in_ok-keys.ensures h.0 in
    rw (c.new-3.ensures, c.new-2.ensures) (
      taken,
      under_authenc keys.mac.now keys.cipher.now c.args.key.now c.in_ok-cipher.cipher c.args.mode c.args.form c.in_ok-keys.ensures h.1,
    )
