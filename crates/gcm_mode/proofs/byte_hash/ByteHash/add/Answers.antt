use Rattle.std.proofs.Common.{subst, arith, take, drop, ◌++◌, ◌-◌, ◌%◌, length, ℕ, List}
use Rattle.gcm_mode.specs.Streams.{Hashed}
use Rattle.gcm_mode.proofs.Streamed.{in_three}
use Rattle.gcm_mode.proofs.byte_hash.ByteHash.add.Goals as goal

pub returns-clause-more : goal.returns-clause-more
returns-clause-more g c = λ y m held.
    let d : List ℕ = c.args.bytes.now in
    let f : ℕ = c.min-front.result in
    let e : ℕ = length d - (length d - f) % 16 in
    let front : List ℕ = m ++ take f d in
    subst (Hashed (g.H.GhashKey.block c.args.key.now) y c.add_within-2.new.self) (in_three m d f (e - f) e (omega arith))
    (c.add_within-2.ensures.more y (front ++ take (e - f) (drop f d)) (c.add_blocks.ensures.more y front (c.add_within.ensures.more y m held)))
