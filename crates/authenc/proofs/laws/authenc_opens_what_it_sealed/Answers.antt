use Rattle.authenc.proofs.SealedAgain.{opens_what_it_sealed}
use Rattle.authenc.proofs.laws.authenc_opens_what_it_sealed.Goals as goal

pub returns : goal.returns
returns c = opens_what_it_sealed
