use Rattle.transforms.proofs.UnderMac.{under_hmac}
use Rattle.transforms.proofs.any_mac.AnyMac.hmac.Goals as goal

pub returns : goal.returns
returns c = rw (c.new.ensures) (under_hmac c.args.key.now)
