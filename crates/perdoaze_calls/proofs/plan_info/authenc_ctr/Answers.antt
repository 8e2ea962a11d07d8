use Rattle.std.proofs.Common.{refl}
use Rattle.perdoaze_calls.proofs.plan_info.authenc_ctr.Goals as goal

pub returns-in-AesGeneric-clause-name : goal.returns-in-AesGeneric-clause-name
returns-in-AesGeneric-clause-name c = rw c.in-AesGeneric.is refl
