use Rattle.std.specs.Prelude.{◌≡◌, ℕ, zero, suc, ◌<◌, ◌≤◌, ◌==◌, true, false, List, [], ◌∷◌, ◌++◌, length, filter, take, drop, Option, Some, None, slice_get}
use Rattle.std.specs.List.{filter_map}
use Rattle.board.specs.declared.entry.BoardEntry.{BoardEntry}
use Rattle.board.specs.declared.entry.Entered.TheVariants.{Busy}
use Rattle.board.specs.declared.entry.BoardEntry.TheVariants.{Enq, Deq, Done, Collect}
use Rattle.board.specs.Shapes.{is_pad, is_serial}
use Rattle.board.specs.Entries.{Notice, Starts, Completes, entries_of, finished, has, completes_from, front, submissions, told, collected}
use Rattle.board.specs.Legal.{Is, IsRightFor, LegalBoard}

-- what an entry hands out
abbrev pub handed_in : {A : Type 0} → List (BoardEntry A) → BoardEntry A → List Notice
handed_in es (Collect caller pipe to) = drop (collected es) (take to (told es))
handed_in es _ = []

abbrev pub handed_after : {A : Type 0} → List (BoardEntry A) → List (BoardEntry A) → List Notice
handed_after before [] = []
handed_after before (e ∷ es) = handed_in before e ++ handed_after (before ++ e ∷ []) es

-- all that the collects of a pipeline handed out, one after another
abbrev pub handed_out : {A : Type 0} → List (BoardEntry A) → List Notice
handed_out es = handed_after [] es

-- the entries of one pipeline are right, each after those before it
abbrev pub AreRightForAfter : {A : Type 0} → List (BoardEntry A) → List (BoardEntry A) → Type 0
AreRightForAfter before [] = Unit {0}
AreRightForAfter before (e ∷ es) = IsRightFor before e × AreRightForAfter (before ++ e ∷ []) es

-- the numbers of the completions among these notices
abbrev pub completed_in : Notice → Option ℕ
completed_in (Starts n) = None
completed_in (Completes n) = Some n

abbrev pub completed : List Notice → List ℕ
completed notices = filter_map completed_in notices

abbrev pub numbers_below : ℕ → List ℕ
numbers_below zero = []
numbers_below (suc n) = numbers_below n ++ n ∷ []

-- what a pipeline tells are the completions of 0, 1, 2 and so on, each once, up to the first that is not finished
abbrev pub KeepsOrder : {A : Type 0} → List (BoardEntry A) → ℕ → Type 0
KeepsOrder h p = LegalBoard h → completed (told (entries_of p h)) ≡ numbers_below (front (entries_of p h))

-- its collects handed out a front of what it told
abbrev pub HandsOutTold : {A : Type 0} → List (BoardEntry A) → ℕ → Type 0
HandsOutTold h p = LegalBoard h → handed_out (entries_of p h) ≡ take (collected (entries_of p h)) (told (entries_of p h))

-- so the completions that they handed out are those of 0, 1, 2 and so on, each once
abbrev pub HandsOutInOrder : {A : Type 0} → List (BoardEntry A) → ℕ → Type 0
HandsOutInOrder h p =
    LegalBoard h → completed (handed_out (entries_of p h)) ≡ numbers_below (length (completed (handed_out (entries_of p h))))

-- and of finished numbers alone, up to the first that is not
abbrev pub WaitsForEach : {A : Type 0} → List (BoardEntry A) → ℕ → Type 0
WaitsForEach h p = LegalBoard h → length (completed (handed_out (entries_of p h))) ≤ front (entries_of p h)

abbrev pub AreAllFinished : {A : Type 0} → List (BoardEntry A) → Type 0
AreAllFinished es = (n : ℕ) → n < length (submissions es) → has n (finished es) ≡ true

-- after a collect before which every number is finished they are the completions of all requests
abbrev pub HandsOutAll : {A : Type 0} → List (BoardEntry A) → ℕ → ℕ → ℕ → Type 0
HandsOutAll h p caller to =
    LegalBoard (h ++ Collect caller p to ∷ []) → AreAllFinished (entries_of p h)
    → completed (handed_out (entries_of p (h ++ Collect caller p to ∷ []))) ≡ numbers_below (length (submissions (entries_of p h)))

-- every number below the front is finished
abbrev pub FrontIsFinished : {A : Type 0} → List (BoardEntry A) → ℕ → Type 0
FrontIsFinished es n = n < front es → has n (finished es) ≡ true

-- and the front itself is not, where it was submitted: it is the greatest such number
abbrev pub FrontIsGreatest : {A : Type 0} → List (BoardEntry A) → Type 0
FrontIsGreatest es = front es < length (submissions es) → has (front es) (finished es) ≡ false

-- where it is at all submissions, each request is finished
abbrev pub FrontIsAll : {A : Type 0} → List (BoardEntry A) → Type 0
FrontIsAll es = front es ≡ length (submissions es) → AreAllFinished es

-- a pad tells the completions up to its front
abbrev pub PadTellsFront : {A : Type 0} → List (BoardEntry A) → ℕ → Type 0
PadTellsFront h p = LegalBoard h → Is is_pad (entries_of p h) → told (entries_of p h) ≡ completes_from 0 (front (entries_of p h))

-- and a queue what its steps tell
abbrev pub step_tells : {A : Type 0} → BoardEntry A → Option Notice
step_tells (Deq caller pipe number (Some started)) = Some (Starts started)
step_tells (Done caller pipe number) = Some (Completes number)
step_tells _ = None

abbrev pub QueueTellsSteps : {A : Type 0} → List (BoardEntry A) → ℕ → Type 0
QueueTellsSteps h q = LegalBoard h → Is is_serial (entries_of q h) → told (entries_of q h) ≡ filter_map step_tells (entries_of q h)

-- the numbers that a queue accepted into its backlog
abbrev pub backlogged_in : {A : Type 0} → BoardEntry A → Option ℕ
backlogged_in (Enq caller pipe ask backlog (Busy number)) = Some number
backlogged_in _ = None

abbrev pub backlogged : {A : Type 0} → List (BoardEntry A) → List ℕ
backlogged es = filter_map backlogged_in es

-- the numbers that are told to have started among these notices
abbrev pub started_in : Notice → Option ℕ
started_in (Starts n) = Some n
started_in (Completes n) = None

abbrev pub started : List Notice → List ℕ
started notices = filter_map started_in notices

-- how often a number is in a list
abbrev pub times : ℕ → List ℕ → ℕ
times n ns = length (filter (λ m. m == n) ns)

-- a pipeline tells of backlogged requests alone that they have started
abbrev pub StartsBackloggedAlone : {A : Type 0} → List (BoardEntry A) → ℕ → ℕ → Type 0
StartsBackloggedAlone h p n =
    LegalBoard h → has n (started (told (entries_of p h))) ≡ true → has n (backlogged (entries_of p h)) ≡ true

-- of each at most once
abbrev pub StartsEachOnce : {A : Type 0} → List (BoardEntry A) → ℕ → ℕ → Type 0
StartsEachOnce h p n = LegalBoard h → times n (started (told (entries_of p h))) ≤ 1

-- and before the completion of a backlogged request it has told just once that this request started
abbrev pub StartsBeforeCompletion : {A : Type 0} → List (BoardEntry A) → ℕ → ℕ → ℕ → Type 0
StartsBeforeCompletion h p n k =
    LegalBoard h → has n (backlogged (entries_of p h)) ≡ true
    → slice_get (told (entries_of p h)) k ≡ Some (Completes n) → times n (started (take k (told (entries_of p h)))) ≡ 1
