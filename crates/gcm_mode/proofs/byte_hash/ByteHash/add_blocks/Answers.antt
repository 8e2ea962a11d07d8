use Rattle.std.proofs.Common.{refl}
use Rattle.gcm_mode.proofs.Streamed.{hashed_blocks}
use Rattle.gcm_mode.proofs.byte_hash.ByteHash.add_blocks.Goals as goal

pub returns-clause-more : goal.returns-clause-more
returns-clause-more g c = λ y m held.
    hashed_blocks (g.H.GhashKey.block c.args.key.now) y c.args.self.now _ m c.args.bytes.now refl c.are_bytes.ensures held c.requires.between c.requires.whole c.carry-self.ensures
