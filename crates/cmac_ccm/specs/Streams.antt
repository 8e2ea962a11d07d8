-- What a message on its way holds.
use Rattle.std.specs.Prelude.{◌≡◌, ◌≤◌, ◌⊎◌, ℕ, ◌/◌, ◌%◌, List, ◌++◌, length, take}
use Rattle.std_defs.specs.Gcm.{BlockFunction}
use Rattle.std_defs.specs.Cmac.{zero_block, chained}
use Rattle.cmac_ccm.specs.declared.stream.Message.{Message}

-- These bytes came. The blocks before the last are chained, and the last stands ready, whole or not: which subkey it takes
-- is known at the end alone (6.2, step 4).
pub record Takes (f : BlockFunction) (m : List ℕ) (s : Message) : Type 0 where
  pub before : List ℕ
  pub blocks : length before % 16 ≡ 0
  pub cut : m ≡ before ++ take s.used s.rest
  pub chain : s.chain ≡ chained f zero_block before (length before / 16)
  pub last : (length before ≡ 0) ⊎ (1 ≤ s.used)
  pub within : s.used ≤ 16
  pub long : length s.rest ≡ 16
