use Rattle.cmac_ccm.proofs.Opened.{opens_sealed}
use Rattle.cmac_ccm.proofs.laws.ccm_opens_what_it_sealed.Goals as goal

pub returns : goal.returns
returns c = opens_sealed
