-- The passes of a board.
use Rattle.turn_lock.specs.declared.lock.Pass.{Pass}
use Rattle.turn_lock.specs.Passes.{IsPassOf}
use Rattle.board.specs.declared.entry.BoardEntry.{BoardEntry}
use Rattle.shared_board.specs.declared.shared.SharedBoard.{SharedBoard}

-- the pass is one of the board's
abbrev pub IsPassOn : {W A O : Type 0} → SharedBoard W A O → Pass (BoardEntry A) → Type 0
IsPassOn board pass = IsPassOf board.lock pass
