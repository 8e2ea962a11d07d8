-- When a board's history has no work left.
use Rattle.std.specs.Prelude.{◌≡◌, ◌⊎◌, ℕ, true, false, List, [], ◌∷◌, ◌++◌, length}
use Rattle.std.specs.List.{list_all}
use Rattle.board.specs.declared.entry.BoardEntry.{BoardEntry}
use Rattle.board.specs.declared.entry.BoardEntry.TheVariants.{Shut}
use Rattle.board.specs.Entries.{entries_of, submissions, front, is_closed, caller_of}
use Rattle.board.specs.Legal.{IsRight, LegalBoard, MayManage}
use Rattle.board.specs.PipelineHistory.{is_work}
use Rattle.turn_lock.specs.Turns.{Each}

module _ {A : Type 0} where
  -- each request of each pipeline is finished
  abbrev pub IsAllFinished : List (BoardEntry A) → Type 0
  IsAllFinished h = (p : ℕ) → front (entries_of p h) ≡ length (submissions (entries_of p h))

  -- A pipeline that is closed is finished. So each is where the only caller beside workers closed or finished all that
  -- it made.
  abbrev pub AllIsFinished : List (BoardEntry A) → ℕ → Type 0
  AllIsFinished h caller =
      LegalBoard h → Each (λ e. (caller_of e ≡ caller) ⊎ (is_work e ≡ true)) h
      → ((p : ℕ) → MayManage (entries_of p h) caller → is_closed (entries_of p h) ≡ false → front (entries_of p h) ≡ length (submissions (entries_of p h)))
      → IsAllFinished h

  -- then no take and no finish of a job may come next
  abbrev pub NoWorkIsRight : List (BoardEntry A) → BoardEntry A → Type 0
  NoWorkIsRight h e = LegalBoard h → IsAllFinished h → is_work e ≡ true → IsRight h e → ⊥

  -- and a shut beside workers is the last entry
  abbrev pub ShutIsLast : List (BoardEntry A) → ℕ → List (BoardEntry A) → Type 0
  ShutIsLast h caller es =
      LegalBoard (h ++ Shut caller ∷ es) → IsAllFinished h → list_all is_work es ≡ true → es ≡ []
