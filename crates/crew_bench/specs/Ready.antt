-- What a caller knows of its pass and its pad.
use Rattle.std.specs.Prelude.{◌≡◌, ℕ, false}
use Rattle.turn_lock.specs.Turns.{Known}
use Rattle.board.specs.declared.entry.BoardEntry.{BoardEntry}
use Rattle.board.specs.Shapes.{is_pad}
use Rattle.board.specs.Legal.{is_shut}
use Rattle.board.specs.PipelineHistory.{IsOpenFor}

-- the first pass of a board that isn't shut
abbrev pub IsFirst : {A : Type 0} → Known (BoardEntry A) → Type 0
IsFirst k = (k.number ≡ 0) × (is_shut k.seen ≡ false)

-- it is so afterwards, where it was before
abbrev pub StaysFirst : {A : Type 0} → Known (BoardEntry A) → Known (BoardEntry A) → Type 0
StaysFirst k l = IsFirst k → IsFirst l

-- the pad is open, and the pass manages it
abbrev pub Ready : {A : Type 0} → ℕ → Known (BoardEntry A) → Type 0
Ready pipe k = IsOpenFor is_pad k.seen pipe k.number
