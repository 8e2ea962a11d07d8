-- round keys by rows, and in the tower
use Rattle.std.specs.Prelude.{◌≡◌, ℕ, ◌+◌, ◌*◌, ◌%◌, ◌<◌, List, [], ◌∷◌, map, take, slice_index, slice_index_or, bit_xor}
use Rattle.std_defs.specs.Aes.{places, inverse_mix_columns}
use Rattle.aes_lanes.specs.SealingTower.{tower_byte, ordered}
use Rattle.aes_lanes.specs.Tower.{state_byte}
use Rattle.aes_lanes.specs.Pairs.{each_half}
use Rattle.aes_lanes.specs.RoundKeys.{vectors_of}
use Rattle.aes_lanes.specs.declared.round_keys.RoundKey.{RoundKey}
use Rattle.aes_lanes.specs.declared.pair_keys.PairKey.{PairKey}
use Rattle.aes_lanes.specs.declared.row_keys.RowKey.{RowKey}
use Rattle.aes_lanes.specs.declared.tower_keys.TowerKey.{TowerKey}

-- row n of the block at the front of x, four times
abbrev pub row_of : ℕ → List ℕ → List ℕ
row_of n x = map (λ i. slice_index x (4 * (i % 4) + n)) places

abbrev pub lists_of : RowKey → List (List ℕ)
lists_of key = key.first ∷ key.second ∷ key.third ∷ key.fourth ∷ []

-- the bytes for which they stand by f
abbrev pub bytes_by : (ℕ → ℕ) → RowKey → List (List ℕ)
bytes_by f key = map (map f) (lists_of key)

-- the rows of the block at the front of x
abbrev pub four_rows : List ℕ → List (List ℕ)
four_rows x = row_of 0 x ∷ row_of 1 x ∷ row_of 2 x ∷ row_of 3 x ∷ []

-- each of the first n keys by rows stands for g of the vector of its round
abbrev pub StandFor : ℕ → (ℕ → ℕ) → (List ℕ → List ℕ) → List RoundKey → List RowKey → Type 0
StandFor n f g keys rows = (r : ℕ) → r < n → slice_index_or (map (bytes_by f) rows) r [] ≡ four_rows (g (slice_index_or (vectors_of keys) r []))

-- the constant that the S-box adds, left out where it was added, or the other way round
abbrev pub less_constant : ℕ → ℕ
less_constant x = bit_xor x 0x63

-- each of the first n is the block of its round with the constant, in the tower, arranged as the state of its round
abbrev pub AreTowerKeys : ℕ → List RoundKey → List TowerKey → Type 0
AreTowerKeys n keys tower = (r : ℕ) → r < n → ordered r (slice_index_or (map (λ k. k.elements) tower) r []) ≡ map less_constant (take 16 (slice_index_or (vectors_of keys) r []))

-- each of the first n is the vector of its round with the constant, in the tower
abbrev pub ArePairKeys : ℕ → List RoundKey → List PairKey → Type 0
ArePairKeys n keys pairs = (r : ℕ) → r < n → map tower_byte (slice_index_or (map (λ k. k.elements) pairs) r []) ≡ map less_constant (slice_index_or (vectors_of keys) r [])

abbrev pub AreSealingKeys : ℕ → List RoundKey → List RowKey → Type 0
AreSealingKeys n keys rows = StandFor n tower_byte (map less_constant) keys rows

abbrev pub AreUnsealingKeys : ℕ → List RoundKey → List RowKey → Type 0
AreUnsealingKeys n keys rows = StandFor n state_byte (each_half inverse_mix_columns) keys rows
