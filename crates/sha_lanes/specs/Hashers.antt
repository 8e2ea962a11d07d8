-- The message that a hasher holds.
use Rattle.std.specs.Prelude.{◌≡◌, ℕ, ◌%◌, ◌^◌, List, length}
use Rattle.sha2.specs.Sha256.{IsAbsorbed, initial_hash_256}
use Rattle.sha_lanes.specs.declared.hasher.Sha256.{Sha256}

-- the hasher s holds the message m: its length modulo 2 ^ 64, the hash value behind m's whole blocks, and the bytes
-- after them
unfoldable pub HasAbsorbed : Sha256 → List ℕ → Type 0
HasAbsorbed s m = (s.length ≡ length m % 2 ^ 64) × IsAbsorbed initial_hash_256 s.state s.buffer m
