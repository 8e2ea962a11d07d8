use Rattle.std.proofs.Common.{refl, arith}
use Rattle.std.proofs.lemmas.Bool.Decides.{nat_tests}
use Rattle.gcm_mode.proofs.Streamed.{hashed_short, hashed_full}
use Rattle.gcm_mode.proofs.byte_hash.ByteHash.add_within.Goals as goal

pub returns-then-used-bytes-eq16-clause-more : goal.returns-then-used-bytes-eq16-clause-more
returns-then-used-bytes-eq16-clause-more g c = λ y m held.
    hashed_full (g.H.GhashKey.block c.args.key.now) y c.args.self.now _ m c.args.bytes.now refl c.are_bytes.ensures held (grind (arith, nat_tests)) (grind (arith, nat_tests)) c.place.ensures c.carry-self.ensures

pub returns-else-used-bytes-eq16-clause-more : goal.returns-else-used-bytes-eq16-clause-more
returns-else-used-bytes-eq16-clause-more g c = λ y m held.
    hashed_short (g.H.GhashKey.block c.args.key.now) y c.args.self.now _ m c.args.bytes.now refl c.are_bytes.ensures held (grind (arith, nat_tests)) c.place.ensures refl
