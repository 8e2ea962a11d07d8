-- What a message on its way holds.
use Rattle.std.specs.Prelude.{ℕ, List, ◌++◌}
use Rattle.std_defs.specs.Hmac.{xor_pad}
use Rattle.sha_lanes.specs.Hashers.{HasAbsorbed}
use Rattle.hmac_sha.specs.declared.stream.Message.{Message}

-- under the key's block, these bytes came
abbrev pub Takes : List ℕ → List ℕ → Message → Type 0
Takes key m s = HasAbsorbed s.inner (xor_pad 0x36 key ++ m) × HasAbsorbed s.outer (xor_pad 0x5c key)
