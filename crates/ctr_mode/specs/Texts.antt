-- What a text on its way under CTR holds.
use Rattle.std.specs.Prelude.{◌≡◌, ℕ, ◌+◌, ◌%◌, ◌^◌, List, length}
use Rattle.std_defs.specs.Blocks.{block_number, block_bytes}
use Rattle.std_defs.specs.Modes.{ctr}
use Rattle.ctr_mode.specs.Streams.{IsOn}
use Rattle.ctr_mode.specs.declared.text.CtrText.{CtrText}

-- the counter blocks from one on
abbrev pub row : ℕ → ℕ → List ℕ
row x m = block_bytes ((x + m) % 2 ^ 128)

-- behind the first counter block these bytes came, and their ciphertext went out
abbrev pub Holds : (List ℕ → List ℕ) → List ℕ → List ℕ → List ℕ → CtrText → Type 0
Holds sealed first text made s = IsOn (row (block_number first)) 0 (length text) (row s.stream.0.next) s.stream.1 × (made ≡ ctr sealed first text)
