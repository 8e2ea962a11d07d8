-- What stays of a pipeline that is shared, whoever goes on; and when several makers have finished what they made.
use Rattle.std.specs.Prelude.{◌≡◌, ℕ, Bool, true, false, List, ◌++◌, length}
use Rattle.board.specs.declared.entry.Shape.{Shape}
use Rattle.board.specs.declared.entry.BoardEntry.{BoardEntry}
use Rattle.board.specs.Entries.{entries_of, submissions, front, is_closed, is_shared, mask}
use Rattle.board.specs.Legal.{IsOpenAs, MaySubmit, MayManage, LegalBoard}
use Rattle.board.specs.Ends.{IsAllFinished}

module _ {A : Type 0} where
  -- It is shared, open as before, has the same mask, and who might submit still may.
  pub record StaysShared (such : Shape → Bool) (h after : List (BoardEntry A)) (p : ℕ) : Type 0 where
    pub shared : is_shared (entries_of p after) ≡ true
    pub opened : IsOpenAs such (entries_of p after)
    pub masked : mask (entries_of p after) ≡ mask (entries_of p h)
    pub submits : (caller : ℕ) → MaySubmit (entries_of p h) caller → MaySubmit (entries_of p after) caller

  -- nobody closes or masks a pipeline that is shared
  abbrev pub SharedStays : (Shape → Bool) → List (BoardEntry A) → List (BoardEntry A) → ℕ → Type 0
  SharedStays such h es p =
      LegalBoard (h ++ es) → is_shared (entries_of p h) ≡ true → IsOpenAs such (entries_of p h) → StaysShared such h (h ++ es) p

  -- all is finished where each pipeline's maker closed it, or had it finished
  abbrev pub MakersFinish : List (BoardEntry A) → Type 0
  MakersFinish h =
      LegalBoard h
      → ((p caller : ℕ) → MayManage (entries_of p h) caller → is_closed (entries_of p h) ≡ false → front (entries_of p h) ≡ length (submissions (entries_of p h)))
      → IsAllFinished h
