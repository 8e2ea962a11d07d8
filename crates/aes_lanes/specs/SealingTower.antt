-- the bytes for which elements of the tower stand while blocks are sealed
use Rattle.std.specs.Prelude.{ℕ, List, [], ◌∷◌, map, bit_xor}
use Rattle.std.specs.Fn.{iterate}
use Rattle.std_defs.specs.Aes.{sbox, shift_rows}
use Rattle.aes_lanes.specs.Lookup.{look, low, high}

-- the byte of an element: a sum of elements is one of the sum of their bytes
unfoldable pub tower_byte : ℕ → ℕ
tower_byte y = bit_xor (look (0 ∷ 96 ∷ 182 ∷ 214 ∷ 41 ∷ 73 ∷ 159 ∷ 255 ∷ 8 ∷ 104 ∷ 190 ∷ 222 ∷ 33 ∷ 65 ∷ 151 ∷ 247 ∷ []) (low y)) (look (0 ∷ 236 ∷ 188 ∷ 80 ∷ 81 ∷ 189 ∷ 237 ∷ 1 ∷ 224 ∷ 12 ∷ 92 ∷ 176 ∷ 177 ∷ 93 ∷ 13 ∷ 225 ∷ []) (high y))

-- the S-box, less the constant that it adds
unfoldable pub less_sbox : ℕ → ℕ
less_sbox x = bit_xor (sbox x) 0x63

-- the bytes of the elements y, put in order by ShiftRows r times
abbrev pub ordered : ℕ → List ℕ → List ℕ
ordered r y = iterate shift_rows r (map tower_byte y)
