-- Eight texts, a lane each.
use Rattle.std.specs.Prelude.{◌≡◌, ℕ, suc, ◌%◌, ◌+◌, ◌*◌, ◌^◌, ◌<◌, ◌≤◌, List, [], ◌++◌, length, map, take, drop, slice_index, slice_index_or}
use Rattle.std.specs.Borrow.{Bor}
use Rattle.std_defs.specs.Blocks.{joined}
use Rattle.std_defs.specs.Modes.{cbc_block}
use Rattle.in_step.specs.Pieces.{piece}

-- the bytes of a lane's text, by what the bytes of a text are; behind the last text a lane has none
abbrev pub text_in : {A : Type 0} → (A → List ℕ) → List A → ℕ → List ℕ
text_in {A} bytes_of texts lane = slice_index_or (map bytes_of texts) lane []

-- the first bytes of a lane's text, as many as its length says, and those behind them
abbrev pub front_in : {A : Type 0} → (A → List ℕ) → List ℕ → List A → ℕ → List ℕ
front_in {A} bytes_of lengths texts lane = take (slice_index lengths lane) (text_in bytes_of texts lane)

abbrev pub rest_in : {A : Type 0} → (A → List ℕ) → List ℕ → List A → ℕ → List ℕ
rest_in {A} bytes_of lengths texts lane = drop (slice_index lengths lane) (text_in bytes_of texts lane)

-- a lane's block
abbrev pub block_in : List (List ℕ) → ℕ → List ℕ
block_in blocks lane = slice_index_or blocks lane []

-- each lane's length is one of whole blocks, and its text is no shorter
abbrev pub AreWhole : {A : Type 0} → (A → List ℕ) → List ℕ → List A → Type 0
AreWhole {A} bytes_of lengths texts =
    (n : ℕ) → n < 8 → (slice_index lengths n % 16 ≡ 0) × (slice_index lengths n ≤ length (text_in bytes_of texts n))

-- and together with the lane's associated bytes it has fewer than 2^63 bytes
abbrev pub ArePackets : {A : Type 0} → (A → List ℕ) → List ℕ → List (Bor (List ℕ)) → List A → Type 0
ArePackets {A} bytes_of lengths aads texts =
    (n : ℕ) → n < 8
    → (slice_index lengths n % 16 ≡ 0) × (slice_index lengths n ≤ length (text_in bytes_of texts n)) × (length (piece aads n) + slice_index lengths n < 2 ^ 63)

-- For the contracts inside this crate: the ciphertext blocks of a text, from the first on.
abbrev pub blocks_of : (List ℕ → List ℕ) → List ℕ → List ℕ → ℕ → List ℕ
blocks_of s iv text j = cbc_block s iv text (suc j)

-- the first k blocks of a text are sealed, and the rest is as it was
pub record Sealed (s : List ℕ → List ℕ) (iv orig now : List ℕ) (k : ℕ) : Type 0 where
  pub made : now ≡ joined (blocks_of s iv orig) k ++ drop (16 * k) orig
  pub long : length now ≡ length orig
