-- What a call does to the board's history at its turn. k is what the pass knew before, l what it knows then, and h the
-- history that it meets.
use Rattle.std.specs.Prelude.{◌≡◌, ℕ, List, length, slice_get, Some, Result, MatchResult}
use Rattle.std.specs.Arc.{arc_value}
use Rattle.std.specs.declared.sync.Arc.{Arc}
use Rattle.std.specs.declared.alloc.Global.{Global as GlobalMemory}
use Rattle.turn_lock.specs.Turns.{Known}
use Rattle.turn_lock.specs.PassLaws.{AtTurn, Enters, Leaves}
use Rattle.board.specs.declared.entry.Shape.{Shape}
use Rattle.board.specs.declared.entry.BoardEntry.{BoardEntry}
use Rattle.board.specs.declared.entry.BoardEntry.TheVariants.{Born, Collect}
use Rattle.board.specs.declared.board_core.BoardErr.{BoardErr}
use Rattle.board.specs.declared.board_core.BoardErr.TheVariants.{Memory}
use Rattle.board.specs.Entries.{entries_of, submissions, told, take_entry, caller_of}
use Rattle.board.specs.Legal.{MayFinish, pipelines, LegalBoard}

module _ {A : Type 0} where
  -- this holds of the history that the pass meets
  abbrev pub AtBoard : Known (BoardEntry A) → (List (BoardEntry A) → Type 0) → Type 0
  AtBoard k P = AtTurn caller_of (λ xs. LegalBoard xs) k P

  -- the pass adds this entry to h
  abbrev pub Adds : Known (BoardEntry A) → List (BoardEntry A) → BoardEntry A → Known (BoardEntry A) → Type 0
  Adds k h e l = Enters (λ xs. LegalBoard xs) k h e l

  -- the same, of an entry with an ask in it, which is this one
  abbrev pub AddsAsk : Known (BoardEntry A) → List (BoardEntry A) → A → (Arc A GlobalMemory → BoardEntry A) → Known (BoardEntry A) → Type 0
  AddsAsk k h asked e l = (ask : Arc A GlobalMemory) × (arc_value ask ≡ asked) × Adds k h (e ask) l

  -- the pass takes a job of the pipeline, and may finish it with what its ask means
  abbrev pub TakesJob : {O : Type 0} → (A → O) → Known (BoardEntry A) → List (BoardEntry A) → ℕ → ℕ → A → Known (BoardEntry A) → Type 0
  TakesJob meaning k h pipe number asked l =
      (slice_get (submissions (entries_of pipe h)) number ≡ Some asked)
      × Adds k h (take_entry h k.number pipe number) l
      × MayFinish meaning (entries_of pipe l.seen) k.number number (meaning asked)

  -- the pass collects all that the pipeline has told
  abbrev pub Collects : Known (BoardEntry A) → List (BoardEntry A) → ℕ → Known (BoardEntry A) → Type 0
  Collects k h pipe l = Adds k h (Collect k.number pipe (length (told (entries_of pipe h)))) l

  -- the call records this entry, which may depend on h
  abbrev pub Records : Known (BoardEntry A) → (List (BoardEntry A) → BoardEntry A) → Known (BoardEntry A) → Type 0
  Records k e l = AtBoard k (λ h. Adds k h (e h) l)

  -- the call records nothing
  abbrev pub RecordsNothing : Known (BoardEntry A) → Known (BoardEntry A) → Type 0
  RecordsNothing k l = AtBoard k (λ h. Leaves k h l)

  -- the call records this entry, or nothing where memory was refused
  abbrev pub RecordsUnlessMemory : {X : Type 0} → Known (BoardEntry A) → Result X BoardErr → BoardEntry A → Known (BoardEntry A) → Type 0
  RecordsUnlessMemory k r entry l = AtBoard k (λ h. MatchResult r (λ _. Adds k h entry l) (λ e. (e ≡ Memory) × Leaves k h l))

  -- the call makes a pipeline of this shape, and answers its number, or records nothing where memory was refused
  abbrev pub Makes : Known (BoardEntry A) → Result ℕ BoardErr → Shape → Known (BoardEntry A) → Type 0
  Makes k r shape l =
      AtBoard k (λ h. MatchResult r (λ pipe. (pipe ≡ pipelines h) × Adds k h (Born k.number pipe shape) l) (λ e. (e ≡ Memory) × Leaves k h l))
