-- What a pass knows of a board holds at its turn.
use Rattle.std.specs.Prelude.{◌≡◌, ℕ, false, List}
use Rattle.turn_lock.specs.Turns.{Known}
use Rattle.turn_lock.specs.PassLaws.{Meets}
use Rattle.board.specs.declared.entry.BoardEntry.{BoardEntry}
use Rattle.board.specs.Entries.{entries_of, caller_of, is_shared}
use Rattle.board.specs.Legal.{MaySubmit, MayManage, MayFinish, IsOpenPad, IsOpenQueue, IsOpen, is_shut, LegalBoard}
use Rattle.board.specs.PipelineHistory.{IsDrained}
use Rattle.board.specs.Others.{StaysKnown}

-- what this pass knows holds of this history
pub record HoldsAt {A O : Type 0} (meaning : A → O) (k : Known (BoardEntry A)) (h : List (BoardEntry A)) : Type 0 where
  -- of a pipeline that it made: what it accepted, handed out and is
  pub known : (p : ℕ) → MayManage (entries_of p k.seen) k.number → StaysKnown k.seen h p k.number
  pub open_ : (p : ℕ) → MayManage (entries_of p k.seen) k.number → IsOpen (entries_of p k.seen) → IsOpen (entries_of p h)
  pub drained : (p : ℕ) → MayManage (entries_of p k.seen) k.number → IsOpen (entries_of p k.seen) → is_shared (entries_of p k.seen) ≡ false → IsDrained (entries_of p k.seen) → IsDrained (entries_of p h)
  -- of one to which it may submit, that it may, and that it is open
  pub submits : (p : ℕ) → MaySubmit (entries_of p k.seen) k.number → MaySubmit (entries_of p h) k.number
  pub pad : (p : ℕ) → MaySubmit (entries_of p k.seen) k.number → IsOpenPad (entries_of p k.seen) → IsOpenPad (entries_of p h)
  pub queue : (p : ℕ) → MaySubmit (entries_of p k.seen) k.number → IsOpenQueue (entries_of p k.seen) → IsOpenQueue (entries_of p h)
  -- the jobs that it took
  pub slip : (p n : ℕ) (out : O) → MayFinish meaning (entries_of p k.seen) k.number n out → MayFinish meaning (entries_of p h) k.number n out
  -- for caller 0, that the board isn't shut
  pub unshut : k.number ≡ 0 → is_shut k.seen ≡ false → is_shut h ≡ false

-- whatever a pass meets at its turn
abbrev pub WhatIsKnownHolds : {A O : Type 0} → (A → O) → Known (BoardEntry A) → List (BoardEntry A) → Type 0
WhatIsKnownHolds {A} meaning k h = Meets caller_of (λ (xs : List (BoardEntry A)). LegalBoard xs) k h → HoldsAt meaning k h
