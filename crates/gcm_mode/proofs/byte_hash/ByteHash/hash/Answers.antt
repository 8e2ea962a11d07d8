use Rattle.gcm_mode.proofs.Streamed.{hashed_hash}
use Rattle.gcm_mode.proofs.byte_hash.ByteHash.hash.Goals as goal

pub returns : goal.returns
returns g c = λ y m held. hashed_hash (g.H.GhashKey.block c.args.key.now) y c.carry.result c.args.self.now m c.carry.ensures held
