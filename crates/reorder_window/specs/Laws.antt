use Rattle.std.specs.Prelude.{◌≡◌, ℕ, zero, suc, true, ◌+◌, ◌<◌, ◌≤◌, List, [], ◌∷◌, ◌++◌, length, map, take}
use Rattle.reorder_window.specs.Windows.{Kind, born}
use Rattle.reorder_window.specs.History.{Event, Legal, StandsFrom, IsDone, phase, submissions, takings, polls, numbered}

-- What was handed out is a front of what was submitted, in order: number 0 with the first request, 1 with the second
-- and so on, each once.
abbrev pub PollsInOrder : {R : Type 0} → Kind → ℕ → List (Event R) → Type 0
PollsInOrder kind first h = Legal kind first h → polls h ≡ take (length (polls h)) (numbered 0 (submissions h))

-- Each of these was finished before.
abbrev pub WaitsForEach : {R : Type 0} → Kind → ℕ → List (Event R) → ℕ → Type 0
WaitsForEach kind first h n = Legal kind first h → n < length (polls h) → phase n h ≡ IsDone

-- At most as many as there is room for are in flight.
abbrev pub IsBounded : {R : Type 0} → Kind → ℕ → List (Event R) → Type 0
IsBounded kind first h = Legal kind first h → length (submissions h) ≤ length (polls h) + kind.room

abbrev pub numbers_below : ℕ → List ℕ
numbers_below zero = []
numbers_below (suc n) = numbers_below n ++ n ∷ []

-- The numbers 0, 1, 2 and so on were taken, in order, each once.
abbrev pub TakesInOrder : {R : Type 0} → Kind → ℕ → List (Event R) → Type 0
TakesInOrder kind first h = Legal kind first h → map (λ t. t.0) (takings h) ≡ numbers_below (length (takings h))

-- In a serial window all that were taken are finished, but for the last.
abbrev pub RunsOneAtATime : {R : Type 0} → Kind → ℕ → List (Event R) → ℕ → Type 0
RunsOneAtATime kind first h n = Legal kind first h → kind.serial ≡ true → suc n < length (takings h) → phase n h ≡ IsDone

-- A window that was just made stands for the history without an event.
abbrev pub Begins : (R : Type 0) → Kind → ℕ → Type 0
Begins R kind first = StandsFrom {R = R} first (born kind first) []
