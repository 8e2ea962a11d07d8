-- The lines that a line feed ends.
use Rattle.std.specs.Prelude.{◌≡◌, ◌++◌, ℕ, List, [], map, take, filter, Contains}
use Rattle.script_text.specs.Lines.{lines_of, ends_with}
use Rattle.script_text.specs.Script.{line_of}
use Rattle.script_text.specs.declared.commands.Line.{Line}

-- what the lines say whose line feed stands in these bytes
abbrev pub whole_script : List ℕ → List Line
whole_script bytes = map line_of (filter (ends_with 10) (lines_of bytes))

-- these lines are the first of those
abbrev pub AreFirst : List Line → List Line → Type 0
AreFirst first lines = (later : List Line) × (lines ≡ first ++ later)

-- the whole lines of a front are the first of the whole lines
abbrev pub WholeLinesStay : Type 0
WholeLinesStay = (bytes : List ℕ) (n : ℕ) → AreFirst (whole_script (take n bytes)) (whole_script bytes)

-- without a line feed there is none
abbrev pub NoWholeLine : Type 0
NoWholeLine = (bytes : List ℕ) → (Contains bytes 10 → ⊥) → whole_script bytes ≡ []
