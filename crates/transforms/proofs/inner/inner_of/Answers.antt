use Rattle.std.proofs.Common.{refl}
use Rattle.transforms.proofs.Kept.{kept_hmac}
use Rattle.transforms.proofs.inner.inner_of.Goals as goal

pub returns-in-Hmac : goal.returns-in-Hmac
returns-in-Hmac c = rw (c.in-Hmac.is) (refl, kept_hmac c.hmac.result c.args.key.now c.hmac.ensures)
