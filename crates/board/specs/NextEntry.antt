-- What one more entry is to a history, what it leaves, and how a pipeline's requests are numbered.
use Rattle.std.specs.Prelude.{◌≡◌, ◌≢◌, ℕ, ◌+◌, ◌<◌, ◌≤◌, true, false, List, [], ◌∷◌, ◌++◌, length, map, None, is_some}
use Rattle.board.specs.declared.entry.BoardEntry.{BoardEntry}
use Rattle.board.specs.Shapes.{is_serial}
use Rattle.board.specs.Entries.{is_of, entries_of, birth, accepted_in, submissions, dequeued_in, dequeues, dequeued, passed_on, taken_in, takers, finished_in, finished, has, front, is_close, is_closed, is_share, is_shared, collected_in, collected}
use Rattle.board.specs.Legal.{IsRight, IsRightFor, Is, LegalBoard, is_shut_entry, is_shut}
use Rattle.board.specs.Order.{AreRightForAfter, numbers_below}

-- a legal history goes on by an entry that is right
abbrev pub GoesOn : {A : Type 0} → List (BoardEntry A) → BoardEntry A → Type 0
GoesOn h e = LegalBoard h → IsRight h e → LegalBoard (h ++ e ∷ [])

-- and its last entry was right after a legal history
abbrev pub EndsRight : {A : Type 0} → List (BoardEntry A) → BoardEntry A → Type 0
EndsRight h e = LegalBoard (h ++ e ∷ []) → LegalBoard h × IsRight h e

-- an entry of a pipeline that is right is right after that pipeline's own entries
abbrev pub IsRightAlone : {A : Type 0} → List (BoardEntry A) → BoardEntry A → ℕ → Type 0
IsRightAlone h e p = is_of p e ≡ true → IsRight h e → IsRightFor (entries_of p h) e

-- so of a legal history each pipeline's own entries are right, each after those before it
abbrev pub AreRightAlone : {A : Type 0} → List (BoardEntry A) → ℕ → Type 0
AreRightAlone h p = LegalBoard h → AreRightForAfter [] (entries_of p h)

-- an entry is of one pipeline at most
abbrev pub IsOfOne : {A : Type 0} → BoardEntry A → ℕ → ℕ → Type 0
IsOfOne e p q = is_of p e ≡ true → q ≢ p → is_of q e ≡ false

-- What an entry that is no such one leaves of the entries before it.

abbrev pub LeavesBirth : {A : Type 0} → List (BoardEntry A) → BoardEntry A → Type 0
LeavesBirth es e = is_some (birth es) ≡ true → birth (es ++ e ∷ []) ≡ birth es

abbrev pub LeavesClosed : {A : Type 0} → List (BoardEntry A) → BoardEntry A → Type 0
LeavesClosed es e = is_close e ≡ false → is_closed (es ++ e ∷ []) ≡ is_closed es

abbrev pub LeavesShared : {A : Type 0} → List (BoardEntry A) → BoardEntry A → Type 0
LeavesShared es e = is_share e ≡ false → is_shared (es ++ e ∷ []) ≡ is_shared es

abbrev pub LeavesCollected : {A : Type 0} → List (BoardEntry A) → BoardEntry A → Type 0
LeavesCollected es e = collected_in e ≡ None → collected (es ++ e ∷ []) ≡ collected es

abbrev pub LeavesSubmissions : {A : Type 0} → List (BoardEntry A) → BoardEntry A → Type 0
LeavesSubmissions es e = accepted_in e ≡ None → submissions (es ++ e ∷ []) ≡ submissions es

abbrev pub LeavesFinished : {A : Type 0} → List (BoardEntry A) → BoardEntry A → Type 0
LeavesFinished es e = finished_in e ≡ None → finished (es ++ e ∷ []) ≡ finished es

abbrev pub LeavesFront : {A : Type 0} → List (BoardEntry A) → BoardEntry A → Type 0
LeavesFront es e = accepted_in e ≡ None → finished_in e ≡ None → front (es ++ e ∷ []) ≡ front es

abbrev pub LeavesTakers : {A : Type 0} → List (BoardEntry A) → BoardEntry A → ℕ → Type 0
LeavesTakers es e n = is_some (birth es) ≡ true → dequeued_in e ≡ None → taken_in e ≡ None → takers n (es ++ e ∷ []) ≡ takers n es

abbrev pub LeavesShut : {A : Type 0} → List (BoardEntry A) → BoardEntry A → Type 0
LeavesShut h e = is_shut_entry e ≡ false → is_shut (h ++ e ∷ []) ≡ is_shut h

-- How a pipeline's requests are numbered.

-- what left the queue are the numbers 0, 1, 2 and so on, of accepted requests
abbrev pub LeaveInOrder : {A : Type 0} → List (BoardEntry A) → ℕ → Type 0
LeaveInOrder h p =
    LegalBoard h
    → (map (λ (t : ℕ × ℕ). t.0) (dequeues (entries_of p h)) ≡ numbers_below (dequeued (entries_of p h)))
    × (dequeued (entries_of p h) ≤ length (submissions (entries_of p h)))

-- only what is past the queue is finished
abbrev pub FinishesPassed : {A : Type 0} → List (BoardEntry A) → ℕ → ℕ → Type 0
FinishesPassed h p n = LegalBoard h → has n (finished (entries_of p h)) ≡ true → n < passed_on (entries_of p h)

-- the front is past the queue too
abbrev pub FrontIsPassed : {A : Type 0} → List (BoardEntry A) → ℕ → Type 0
FrontIsPassed h p = LegalBoard h → front (entries_of p h) ≤ passed_on (entries_of p h)

-- a queue finishes in order, and at most one of its jobs runs
abbrev pub RunsOneByOne : {A : Type 0} → List (BoardEntry A) → ℕ → Type 0
RunsOneByOne h q =
    LegalBoard h → Is is_serial (entries_of q h)
    → (finished (entries_of q h) ≡ numbers_below (length (finished (entries_of q h))))
    × (length (finished (entries_of q h)) ≤ dequeued (entries_of q h))
    × (dequeued (entries_of q h) ≤ length (finished (entries_of q h)) + 1)
