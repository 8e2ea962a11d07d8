-- A line of words, one more at a time.
use Rattle.std.specs.Prelude.{ℕ, List, [], ◌∷◌, ◌++◌}

-- a text with further words behind it, each behind a blank
abbrev pub with_words : List ℕ → List (List ℕ) → List ℕ
with_words text [] = text
with_words text (word ∷ words) = with_words (text ++ 32 ∷ word) words

-- words with a blank between each two
abbrev pub spaced : List (List ℕ) → List ℕ
spaced [] = []
spaced (first ∷ words) = with_words first words
