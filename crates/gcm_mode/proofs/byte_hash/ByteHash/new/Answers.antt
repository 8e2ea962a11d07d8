use Rattle.std.proofs.Common.{refl}
use Rattle.gcm_mode.proofs.Streamed.{hashed_none}
use Rattle.gcm_mode.proofs.byte_hash.ByteHash.new.Goals as goal

pub returns-clause-none : goal.returns-clause-none
returns-clause-none c = λ h. hashed_none h c.args.y _ refl refl
