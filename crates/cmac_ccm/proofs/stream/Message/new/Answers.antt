use Rattle.std.proofs.Common.{refl}
use Rattle.cmac_ccm.proofs.Streamed.{takes_none}
use Rattle.cmac_ccm.proofs.stream.Message.new.Goals as goal

pub returns : goal.returns
returns c = λ f. takes_none f _ refl refl refl
