-- The S-box and its inverse by look-ups of half bytes, as the lanes of a vector compute them.
use Rattle.std.specs.Prelude.{ℕ, ◌/◌, ◌^◌, ◌||◌, nat_lt, nat_le, Bool, cond, List, [], ◌∷◌, IsTrue, slice_index, bit_and, bit_xor, All}

-- a place in a table of sixteen, or a number from 128 on, at which 0 is found
abbrev pub is_index : ℕ → Bool
is_index j = nat_lt j 16 || nat_le 128 j

abbrev pub AreIndices : List ℕ → Type 0
AreIndices js = All (λ j. IsTrue (is_index j)) js

abbrev pub look : List ℕ → ℕ → ℕ
look t j = cond (nat_le 128 j) 0 (slice_index t j)

abbrev pub low : ℕ → ℕ
low x = bit_and x 15

abbrev pub high : ℕ → ℕ
high x = x / 2 ^ 4

-- ---- the inverse of an element y of the tower

abbrev pub inv : ℕ → ℕ
inv j = look (128 ∷ 1 ∷ 8 ∷ 13 ∷ 15 ∷ 6 ∷ 5 ∷ 14 ∷ 2 ∷ 12 ∷ 11 ∷ 10 ∷ 9 ∷ 3 ∷ 7 ∷ 4 ∷ []) j

abbrev pub ratio : ℕ → ℕ
ratio y = look (128 ∷ 7 ∷ 11 ∷ 15 ∷ 6 ∷ 10 ∷ 4 ∷ 1 ∷ 9 ∷ 8 ∷ 5 ∷ 2 ∷ 12 ∷ 14 ∷ 13 ∷ 3 ∷ []) (low y)

abbrev pub both : ℕ → ℕ
both y = bit_xor (high y) (low y)

abbrev pub p_of : ℕ → ℕ
p_of y = bit_xor (inv (high y)) (ratio y)

abbrev pub q_of : ℕ → ℕ
q_of y = bit_xor (inv (both y)) (ratio y)

abbrev pub first_part : ℕ → ℕ
first_part y = bit_xor (inv (p_of y)) (both y)

abbrev pub second_part : ℕ → ℕ
second_part y = bit_xor (inv (q_of y)) (high y)

-- ---- between bytes and the tower

abbrev pub inverse_to_tower : ℕ → ℕ
inverse_to_tower x = bit_xor (look (232 ∷ 183 ∷ 188 ∷ 227 ∷ 236 ∷ 179 ∷ 184 ∷ 231 ∷ 242 ∷ 173 ∷ 166 ∷ 249 ∷ 246 ∷ 169 ∷ 162 ∷ 253 ∷ []) (low x)) (look (0 ∷ 101 ∷ 5 ∷ 96 ∷ 230 ∷ 131 ∷ 227 ∷ 134 ∷ 148 ∷ 241 ∷ 145 ∷ 244 ∷ 114 ∷ 23 ∷ 119 ∷ 18 ∷ []) (high x))

abbrev pub inverse_from_tower : ℕ → ℕ → ℕ
inverse_from_tower r s = bit_xor (look (0 ∷ 64 ∷ 249 ∷ 126 ∷ 83 ∷ 234 ∷ 135 ∷ 19 ∷ 45 ∷ 62 ∷ 148 ∷ 212 ∷ 185 ∷ 109 ∷ 170 ∷ 199 ∷ []) r) (look (0 ∷ 29 ∷ 68 ∷ 147 ∷ 15 ∷ 86 ∷ 215 ∷ 18 ∷ 156 ∷ 142 ∷ 197 ∷ 216 ∷ 89 ∷ 129 ∷ 75 ∷ 202 ∷ []) s)
