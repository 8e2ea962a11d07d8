-- A text is read line by line.
use Rattle.std.specs.Prelude.{◌≡◌, ℕ, not, ◌==◌, true, List, [], ◌∷◌, ◌++◌, Option, Some, None}
use Rattle.std.specs.List.{list_all}
use denote.Ref.{Bor}
use Rattle.trace_check.specs.declared.trace_reader.Reading.{Reading as Outcome}
use Rattle.trace_check.specs.declared.trace_reader.Reading.TheVariants as outcome
use Rattle.trace_check.specs.Verdicts.{IsTraceOf, IsFirstBad}

-- no line feed is in it
abbrev pub IsOneLine : List ℕ → Type 0
IsOneLine text = list_all (λ b. not (b == 10)) text ≡ true

-- the first line with its line feed, and what follows it; None where no line feed stands
abbrev pub IsCut : List ℕ → Option (Bor (List ℕ) × Bor (List ℕ)) → Type 0
IsCut text None = IsOneLine text
IsCut text (Some cut) = (body : List ℕ) × IsOneLine body × (cut.0.now ≡ body ++ 10 ∷ []) × (text ≡ cut.0.now ++ cut.1.now)

abbrev pub IsReading : List ℕ → Outcome → Type 0
IsReading text (outcome.Trace events) = IsTraceOf text events.registry.items events.board.items
IsReading text (outcome.Bad line) = IsFirstBad text line
