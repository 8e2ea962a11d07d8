-- two blocks side by side
use Rattle.std.specs.Prelude.{ℕ, ◌+◌, ◌*◌, ◌/◌, ◌%◌, List, [], ◌∷◌, ◌++◌, map, take, drop, slice_index}
use Rattle.std_defs.specs.Aes.{places}

-- f of each of the two
abbrev pub each_half : (List ℕ → List ℕ) → List ℕ → List ℕ
each_half f x = f (take 16 x) ++ f (drop 16 x)

-- byte i of a block becomes the one n below it in its column, from the top again behind the last
abbrev pub turned : ℕ → List ℕ → List ℕ
turned n s = map (λ i. slice_index s (4 * (i / 4) + (i + n) % 4)) places

-- the blocks of pairs, in a row
abbrev pub blocks_of : List (List ℕ) → List (List ℕ)
blocks_of [] = []
blocks_of (x ∷ xs) = take 16 x ∷ drop 16 x ∷ blocks_of xs
