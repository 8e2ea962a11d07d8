-- What the laws of a board say, as far as a caller with one pad needs it.
use Rattle.std.specs.Prelude.{ℕ, Bool, List}
use Rattle.turn_lock.specs.Turns.{Known}
use Rattle.board.specs.declared.entry.Shape.{Shape}
use Rattle.board.specs.declared.entry.BoardEntry.{BoardEntry}
use Rattle.board.specs.PipelineHistory.{Opens, StaysOpen, StaysManaged, Joins}
use Rattle.board.specs.Others.{WorkLeavesOwn}
use Rattle.shared_board.specs.Knowledge.{WhatIsKnownHolds}

pub record BoardLaws {A O : Type 0} (meaning : A → O) : Type 0 where
  pub holds : (k : Known (BoardEntry A)) (h : List (BoardEntry A)) → WhatIsKnownHolds meaning k h
  pub own : (h es : List (BoardEntry A)) (caller : ℕ) → WorkLeavesOwn h es caller
  pub born : (such : Shape → Bool) (h : List (BoardEntry A)) (caller p : ℕ) (shape : Shape) → Opens such h caller p shape
  pub stays_open : (such : Shape → Bool) (h : List (BoardEntry A)) (e : BoardEntry A) (p : ℕ) → StaysOpen such h e p
  pub managed : (h : List (BoardEntry A)) (e : BoardEntry A) (p caller : ℕ) → StaysManaged h e p caller
  pub joins : (h : List (BoardEntry A)) (e : BoardEntry A) (p : ℕ) → Joins h e p
