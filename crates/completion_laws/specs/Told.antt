-- What the maker of a pipeline is told of its requests, over a whole history.
use Rattle.std.specs.Prelude.{◌≡◌, ◌==◌, ℕ, if◌then◌else◌, Bool, true, false, List, [], ◌∷◌, ◌++◌, filter, map, take}
use Rattle.board.specs.declared.entry.BoardEntry.{BoardEntry}
use Rattle.board.specs.declared.entry.BoardEntry.TheVariants.{Collect}
use Rattle.std.specs.List.{filter_map}
use Rattle.board.specs.Entries.{entries_of, submissions, front, told, collected, callback_of, IsMaker}
use Rattle.board.specs.Legal.{LegalBoard}
use Rattle.transforms.specs.declared.ask.Ask.{Ask}
use Rattle.dialogues.specs.BoardCalls.{Notice, Started, Completed, BoardCall, Collects, board_calls, notice_of, collected_to, origin_of, outcome}

-- what a call tells of a pipeline: a collect its notices, as the script prints them
abbrev pub notices_in : ℕ → BoardCall → List Notice
notices_in p (Collects pipe collected) = if pipe == p then collected.notices else []
notices_in p _ = []

-- and calls, one after another
abbrev pub notices_of : ℕ → List BoardCall → List Notice
notices_of p [] = []
notices_of p (call ∷ calls) = notices_in p call ++ notices_of p calls

-- The notices are completions, and with a queue also that requests have started.
abbrev pub is_completed : Notice → Bool
is_completed (Completed of finished) = true
is_completed (Started of) = false

-- the completions of a pipeline that its maker was told, one after another
abbrev pub completions_told : ℕ → ℕ → List (BoardEntry Ask) → List Notice
completions_told caller p h = filter is_completed (notices_of p (board_calls caller h))

-- what each request is to come to: its own line, and the value of its own ask
abbrev pub completion_of : Ask → Notice
completion_of ask = Completed (origin_of ask) (outcome ask)

-- those of all requests that the pipeline accepted, in the order of their submission
abbrev pub completions_due : ℕ → List (BoardEntry Ask) → List Notice
completions_due p h = map completion_of (submissions (entries_of p h))

-- Whatever the history: the maker was told the completions of the first k requests, in the order of their submission,
-- each once, with its own line and the value of its own ask.
abbrev pub TellsTheFirst : List (BoardEntry Ask) → ℕ → ℕ → Type 0
TellsTheFirst h caller p =
    LegalBoard h → IsMaker (entries_of p h) caller → (k : ℕ) × (completions_told caller p h ≡ take k (completions_due p h))

-- After a collect k is the first that is not finished.
abbrev pub TellsAllFinished : List (BoardEntry Ask) → ℕ → ℕ → ℕ → Type 0
TellsAllFinished h caller p to =
    LegalBoard (h ++ Collect caller p to ∷ [])
    → completions_told caller p (h ++ Collect caller p to ∷ []) ≡ take (front (entries_of p h)) (completions_due p h)

-- After one before which all was done, as a drain's is, it is all of them.
abbrev pub TellsAll : List (BoardEntry Ask) → ℕ → ℕ → ℕ → Type 0
TellsAll h caller p to =
    LegalBoard (h ++ Collect caller p to ∷ []) → (collected_to (entries_of p h) to).all_done ≡ true
    → completions_told caller p (h ++ Collect caller p to ∷ []) ≡ completions_due p h

-- Of all notices, also that requests have started: they are what the pipeline told up to the last collect, each with
-- the line, and a completion with the value, of the request that it speaks of.
abbrev pub TellsWhatWasTold : List (BoardEntry Ask) → ℕ → ℕ → Type 0
TellsWhatWasTold h caller p =
    LegalBoard h → IsMaker (entries_of p h) caller
    → notices_of p (board_calls caller h)
    ≡ map (notice_of (submissions (entries_of p h))) (filter_map (callback_of outcome (submissions (entries_of p h))) (take (collected (entries_of p h)) (told (entries_of p h))))
