-- What a caller knows of a chain after a call, by the board's laws.
use Rattle.std.proofs.Common.{◌≡◌, ℕ, Bool, true, false, List, [], ◌∷◌, ◌++◌, inl}
use Rattle.std.specs.Prelude.{MatchBool}
use Rattle.board.specs.declared.entry.Shape.{Shape}
use Rattle.board.specs.declared.entry.BoardEntry.{BoardEntry}
use Rattle.board.specs.Shapes.{has_queue, is_chain}
use Rattle.board.specs.Entries.{entries_of, pass_entry}
use Rattle.board.specs.Legal.{Is}
use Rattle.board.specs.PipelineHistory.{StaysOpen, StaysManaged, PassingIsWork, IsOpenFor}
use Rattle.pipeline_tests.proofs.Staying.{open_after}

module _ {A : Type 0} (managed : (h : List (BoardEntry A)) (e : BoardEntry A) (p caller : ℕ) → StaysManaged h e p caller) (open_ : (such : Shape → Bool) (h : List (BoardEntry A)) (e : BoardEntry A) (p : ℕ) → StaysOpen such h e p) where
  pub passed_after : (passing : (h : List (BoardEntry A)) (caller p : ℕ) → PassingIsWork h caller p) (b : Bool) (old new : List (BoardEntry A)) (by p caller : ℕ) (P : Type 0) → MatchBool b ((q : ℕ) × Is is_chain (entries_of q old) × (new ≡ old ++ pass_entry old by q ∷ [])) (P × (new ≡ old)) → IsOpenFor has_queue old p caller → IsOpenFor has_queue new p caller
  passed_after passing true old new by p caller P m o = open_after has_queue managed (open_ has_queue) old new (pass_entry old by m.0) p caller (inl m.2) (passing old by m.0).2 o
  passed_after passing false old new by p caller P m o = rw m.1 o
