-- The parts of a script for several clients.
use Rattle.std.specs.Prelude.{ℕ, zero, suc, ◌-◌, Bool, false, ◌||◌, ◌==◌, nat_lt, if◌then◌else◌, List, [], ◌∷◌, ◌++◌, length, codes}
use Rattle.std.specs.Str.{bytes_eq}
use Rattle.script_text.specs.Lines.{lines_of, ends_with, without_last, without_return}
use Rattle.script_text.specs.Tokens.{is_blank, tokens_of}

abbrev pub is_mark_token : List (List ℕ) → Bool
is_mark_token (token ∷ []) = bytes_eq token (codes "%%")
is_mark_token tokens = false

-- whether the first byte of a text allows that it is a mark
abbrev pub may_be_mark : List ℕ → Bool
may_be_mark [] = false
may_be_mark (b ∷ bs) = (b == 37) || is_blank b

-- by its text, and by how many bytes it has before its line feed
abbrev pub is_mark_text : ℕ → List ℕ → Bool
is_mark_text count text = if nat_lt 65536 count then false else is_mark_token (tokens_of text)

-- A line whose only token is `%%`. One that is too long is none.
abbrev pub is_mark : List ℕ → Bool
is_mark line =
    if ends_with 10 line then is_mark_text (length line - 1) (without_return (without_last line))
    else is_mark_text (length line) line

-- what stands in lines before the first mark, and the lines behind it
abbrev pub before_mark : List (List ℕ) → List ℕ
before_mark [] = []
before_mark (line ∷ lines) = if is_mark line then [] else line ++ before_mark lines

abbrev pub behind_mark : List (List ℕ) → List (List ℕ)
behind_mark [] = []
behind_mark (line ∷ lines) = if is_mark line then lines else behind_mark lines

abbrev pub all_bytes : List (List ℕ) → List ℕ
all_bytes [] = []
all_bytes (line ∷ lines) = line ++ all_bytes lines

-- Lines cut at the first marks, so many at most. A part that isn't there is empty.
abbrev pub cut_lines : ℕ → List (List ℕ) → List (List ℕ)
cut_lines zero lines = all_bytes lines ∷ []
cut_lines (suc marks) lines = before_mark lines ∷ cut_lines marks (behind_mark lines)

-- the first part, and one for each of so many clients
abbrev pub parts_of : ℕ → List ℕ → List (List ℕ)
parts_of clients input = cut_lines clients (lines_of input)
