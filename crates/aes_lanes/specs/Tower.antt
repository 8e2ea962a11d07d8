-- the bytes for which elements of the tower stand while blocks are unsealed
use Rattle.std.specs.Prelude.{ℕ, [], ◌∷◌, bit_xor}
use Rattle.aes_lanes.specs.Lookup.{look, low, high}

-- the byte of a term: a sum of terms is one of the sum of their bytes
unfoldable pub term_byte : ℕ → ℕ
term_byte y = bit_xor (look (0 ∷ 36 ∷ 223 ∷ 251 ∷ 4 ∷ 32 ∷ 219 ∷ 255 ∷ 248 ∷ 220 ∷ 39 ∷ 3 ∷ 252 ∷ 216 ∷ 35 ∷ 7 ∷ []) (low y)) (look (0 ∷ 47 ∷ 25 ∷ 54 ∷ 41 ∷ 6 ∷ 48 ∷ 31 ∷ 171 ∷ 132 ∷ 178 ∷ 157 ∷ 130 ∷ 173 ∷ 155 ∷ 180 ∷ []) (high y))

-- the byte of an element of a state: it is 0 at the element 0xe8
unfoldable pub state_byte : ℕ → ℕ
state_byte y = term_byte (bit_xor y 0xe8)
