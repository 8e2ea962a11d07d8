-- Work on a board can go on while there is any, and how much of it there is.
use Rattle.std.specs.Prelude.{◌≡◌, ◌⊎◌, ℕ, ◌+◌, ◌*◌, ◌<◌, ◌≤◌, true, false, not, List, ◌++◌, length, filter, Some}
use Rattle.std.specs.List.{list_all, filter_map}
use Rattle.board.specs.declared.entry.BoardEntry.{BoardEntry}
use Rattle.board.specs.Shapes.{lists_born}
use Rattle.board.specs.Entries.{pipe_of, entries_of, birth, accepted_in, submissions, passed_on, front, is_held, MayTake, take_entry, finish_entry, pass_entry}
use Rattle.board.specs.Legal.{IsRight, LegalBoard}
use Rattle.board.specs.PipelineHistory.{is_work}

module _ {A : Type 0} where
  -- the pipeline's front request was accepted, and is past the queue or isn't kept in it by a hold
  abbrev pub HasWork : List (BoardEntry A) → Type 0
  HasWork es = (front es < length (submissions es)) × ((is_held es ≡ false) ⊎ (front es < passed_on es))

  -- everybody serves a queue; off a pad or chain take its maker, its submitters and the workers in its mask
  abbrev pub MayServe : List (BoardEntry A) → ℕ → Type 0
  MayServe es caller = lists_born (birth es) ≡ true → MayTake es caller

  -- who took the front request may finish it
  abbrev pub IsOut : List (BoardEntry A) → ℕ → Type 0
  IsOut h p = (who : ℕ) × IsRight h (finish_entry h who p (front (entries_of p h)))

  -- this caller may take it, or pass on the request that is next in a chain's queue
  abbrev pub CanServe : List (BoardEntry A) → ℕ → ℕ → Type 0
  CanServe h p caller = IsRight h (take_entry h caller p (front (entries_of p h))) ⊎ IsRight h (pass_entry h caller p)

  -- Where a pipeline has work, its front request is out with who took it, or each caller that may serve it can go on.
  abbrev pub WorkGoesOn : List (BoardEntry A) → ℕ → Type 0
  WorkGoesOn h p =
      LegalBoard h → HasWork (entries_of p h) → IsOut h p ⊎ ((caller : ℕ) → MayServe (entries_of p h) caller → CanServe h p caller)

  -- somebody may always serve: who made the pipeline
  abbrev pub SomeServes : List (BoardEntry A) → ℕ → Type 0
  SomeServes h p = LegalBoard h → HasWork (entries_of p h) → (caller : ℕ) × MayServe (entries_of p h) caller

  -- no take, finish or passing on may come next
  abbrev pub NoWorkLeft : List (BoardEntry A) → Type 0
  NoWorkLeft h = (e : BoardEntry A) → is_work e ≡ true → IsRight h e → ⊥

  -- all requests are finished; of a pipeline that is held, those past its queue
  abbrev pub IsDone : List (BoardEntry A) → Type 0
  IsDone es = (front es ≡ length (submissions es)) ⊎ ((is_held es ≡ true) × (front es ≡ passed_on es))

  -- so where no work is right, all that isn't held is finished
  abbrev pub WorkStopsDone : List (BoardEntry A) → ℕ → Type 0
  WorkStopsDone h p = LegalBoard h → NoWorkLeft h → IsDone (entries_of p h)

  -- And work on a pipeline is right only where the pipeline has work.
  abbrev pub WorkIsWanted : List (BoardEntry A) → BoardEntry A → ℕ → Type 0
  WorkIsWanted h e p = LegalBoard h → is_work e ≡ true → pipe_of e ≡ Some p → IsRight h e → HasWork (entries_of p h)

  -- how many entries are work, and how many requests all the pipelines accepted
  abbrev pub works : List (BoardEntry A) → ℕ
  works h = length (filter is_work h)

  abbrev pub accepted : List (BoardEntry A) → ℕ
  accepted h = length (filter_map accepted_in h)

  -- a pipeline has three entries of work at most for each of its requests, and so has a board
  abbrev pub WorksFew : List (BoardEntry A) → ℕ → Type 0
  WorksFew h p = LegalBoard h → works (entries_of p h) ≤ 3 * length (submissions (entries_of p h))

  abbrev pub BoardWorksFew : List (BoardEntry A) → Type 0
  BoardWorksFew h = LegalBoard h → works h ≤ 3 * accepted h

  -- and besides it has the calls that aren't work
  abbrev pub calls : List (BoardEntry A) → ℕ
  calls h = length (filter (λ e. not (is_work e)) h)

  abbrev pub BoardIsShort : List (BoardEntry A) → Type 0
  BoardIsShort h = LegalBoard h → length h ≤ calls h + 3 * accepted h

  -- so work alone, in whatever order, comes to an end
  abbrev pub WorkAloneEnds : List (BoardEntry A) → List (BoardEntry A) → Type 0
  WorkAloneEnds h es = LegalBoard (h ++ es) → list_all is_work es ≡ true → works h + length es ≤ 3 * accepted h
