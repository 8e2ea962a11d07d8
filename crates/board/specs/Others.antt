-- What entries of others, and work of one's own, leave of what a caller knows.
use Rattle.std.specs.Prelude.{◌≡◌, ℕ, Bool, true, false, List, [], ◌++◌}
use Rattle.std.specs.List.{list_all}
use Rattle.turn_lock.specs.Turns.{of}
use Rattle.board.specs.declared.entry.Shape.{Shape}
use Rattle.board.specs.declared.entry.BoardEntry.{BoardEntry}
use Rattle.board.specs.Entries.{entries_of, submissions, collected, is_held, is_shared, mask, caller_of}
use Rattle.board.specs.Legal.{IsOpenAs, MaySubmit, MayManage, MayFinish, is_shut, LegalBoard}
use Rattle.board.specs.Order.{handed_out}
use Rattle.board.specs.PipelineHistory.{IsDrained, is_work}
use Rattle.board.specs.Allowance.{accepted_by}

-- entries of others than this caller come after a history
abbrev pub OthersCome : {A : Type 0} → List (BoardEntry A) → List (BoardEntry A) → ℕ → Type 0
OthersCome h es caller = LegalBoard (h ++ es) × (of caller_of caller es ≡ [])

-- entries come after a history of which those of this caller are work
abbrev pub WorkComes : {A : Type 0} → List (BoardEntry A) → List (BoardEntry A) → ℕ → Type 0
WorkComes h es caller = LegalBoard (h ++ es) × (list_all is_work (of caller_of caller es) ≡ true)

abbrev pub OthersAlone : {A : Type 0} → List (BoardEntry A) → List (BoardEntry A) → ℕ → Type 0
OthersAlone h es caller = OthersCome h es caller → WorkComes h es caller

-- A pipeline of which this caller is the maker: who manages it, whether it is open, held and shared, its mask, and what
-- was collected from it, are as before; and where it isn't shared, what it accepted.
pub record StaysKnown {A : Type 0} (h after : List (BoardEntry A)) (p caller : ℕ) : Type 0 where
  pub managed : MayManage (entries_of p after) caller
  pub opened : (such : Shape → Bool) → IsOpenAs such (entries_of p h) → IsOpenAs such (entries_of p after)
  pub held : is_held (entries_of p after) ≡ is_held (entries_of p h)
  pub shared : is_shared (entries_of p after) ≡ is_shared (entries_of p h)
  pub masked : mask (entries_of p after) ≡ mask (entries_of p h)
  pub collected : collected (entries_of p after) ≡ collected (entries_of p h)
  pub handed : handed_out (entries_of p after) ≡ handed_out (entries_of p h)
  pub accepted : is_shared (entries_of p h) ≡ false → submissions (entries_of p after) ≡ submissions (entries_of p h)

abbrev pub WorkLeavesKnown : {A : Type 0} → List (BoardEntry A) → List (BoardEntry A) → ℕ → ℕ → Type 0
WorkLeavesKnown h es p caller = WorkComes h es caller → MayManage (entries_of p h) caller → StaysKnown h (h ++ es) p caller

-- a pipeline that is drained and not shared stays so
abbrev pub WorkLeavesDrained : {A : Type 0} → List (BoardEntry A) → List (BoardEntry A) → ℕ → ℕ → Type 0
WorkLeavesDrained h es p caller =
    WorkComes h es caller → MayManage (entries_of p h) caller → is_shared (entries_of p h) ≡ false → IsDrained (entries_of p h)
    → IsDrained (entries_of p (h ++ es))

-- what was accepted from a caller is as before, and caller 0 alone shuts the board
abbrev pub WorkLeavesOwn : {A : Type 0} → List (BoardEntry A) → List (BoardEntry A) → ℕ → Type 0
WorkLeavesOwn h es caller =
    WorkComes h es caller
    → (accepted_by caller (h ++ es) ≡ accepted_by caller h) × (caller ≡ 0 → is_shut (h ++ es) ≡ is_shut h)

-- who may submit to an open pipeline may do so later
abbrev pub OthersLeaveOpen : {A : Type 0} → List (BoardEntry A) → List (BoardEntry A) → ℕ → ℕ → Type 0
OthersLeaveOpen h es p caller =
    OthersCome h es caller → MaySubmit (entries_of p h) caller
    → MaySubmit (entries_of p (h ++ es)) caller
    × ((such : Shape → Bool) → IsOpenAs such (entries_of p h) → IsOpenAs such (entries_of p (h ++ es)))

-- who took a job may finish it
abbrev pub OthersLeaveSlips : {A O : Type 0} → (A → O) → List (BoardEntry A) → List (BoardEntry A) → ℕ → ℕ → ℕ → O → Type 0
OthersLeaveSlips meaning h es p caller n out =
    OthersCome h es caller → MayFinish meaning (entries_of p h) caller n out → MayFinish meaning (entries_of p (h ++ es)) caller n out
