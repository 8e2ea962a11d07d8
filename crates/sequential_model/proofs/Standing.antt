-- When the plain pipelines are those of a board's history.
use Rattle.std.specs.Prelude.{ℕ, zero, suc, ◌+◌, ◌≡◌, ◌≤◌, ◌⊎◌, Bool, true, ◌||◌, ◌==◌, nat_lt, if◌then◌else◌, List, [], ◌∷◌, ◌++◌, length, map, drop, slice_get, Option, Some, None}
use Rattle.std.specs.List.{filter_map}
use Rattle.board.specs.declared.entry.BoardEntry.{BoardEntry}
use Rattle.board.specs.declared.entry.Shape.{Shape}
use Rattle.board.specs.Shapes.{is_chain, is_born, queue_born, has_queue_born, max_born}
use Rattle.board.specs.Entries.{Notice, Starts, Completes, entries_of, birth, submissions, dequeued, finished, front, collected, is_held, caller_of}
use Rattle.board.specs.Legal.{pipelines}
use Rattle.board.specs.Order.{handed_out, completed, backlogged, step_tells}
use Rattle.board.specs.PipelineHistory.{is_work}
use Rattle.transforms.specs.declared.ask.Ask.{Ask}
use Rattle.dialogues.specs.AllocAndFree.{bound_of}
use Rattle.dialogues.specs.BoardCalls.{asked_by}
use Rattle.sequential_model.specs.Pipelines.{Pipeline}

abbrev pub bound_born : Option (ℕ × Shape) → Option ℕ
bound_born (Some born) = bound_of born.1
bound_born None = None

-- ---- what a queue has told that wasn't collected

-- what the request of the number has told as it left, where so many were accepted
abbrev pub starts_of : ℕ → ℕ → ℕ → List Notice
starts_of max total n = if nat_lt (n + max) total then Starts (n + max) ∷ [] else []

-- what so many requests told from a number on
abbrev pub notices : ℕ → ℕ → ℕ → ℕ → List Notice
notices max total n zero = []
notices max total n (suc k) = starts_of max total n ++ Completes n ∷ notices max total (n + 1) k

-- these are the notices of the requests from the first up to those that are done, and of the one that is being done, if
-- one is
pub record IsUntold (max total first done taken : ℕ) (ns : List Notice) : Type 0 where
  pub many : ℕ
  pub up_to : first + many ≡ done
  pub last : List Notice
  pub said : ns ≡ notices max total first many ++ last
  pub now : ((taken ≡ done) × (last ≡ [])) ⊎ ((taken ≡ done + 1) × (last ≡ starts_of max total done))

-- ---- pipelines

-- The plain pipeline is the one with these entries. A chain accepted no more than fit its queue behind what was handed
-- out, and nothing into its backlog.
pub record IsPipelineOf (pipeline : Pipeline) (es : List (BoardEntry Ask)) : Type 0 where
  pub chained : is_born is_chain (birth es) ≡ pipeline.chained
  pub bound : bound_born (birth es) ≡ pipeline.bound
  pub handed : length (completed (handed_out es)) ≡ pipeline.delivered
  pub within : pipeline.delivered ≤ length (submissions es)
  pub asks : map asked_by (drop pipeline.delivered (submissions es)) ≡ pipeline.undelivered
  pub untold : queue_born (birth es) ≡ true
      → IsUntold (max_born (birth es)) (length (submissions es)) pipeline.delivered (length (finished es)) (dequeued es) (drop (collected es) (filter_map step_tells es))
  pub calm : pipeline.chained ≡ true → (length (submissions es) ≤ pipeline.delivered + max_born (birth es)) × (backlogged es ≡ [])
  pub steady : pipeline.held_throughout ≡ true → (has_queue_born (birth es) ≡ true) × (is_held es ≡ true) × (dequeued es ≡ pipeline.delivered)

-- the plain pipelines are those of the history, by their numbers
pub record ArePipelinesOf (plain : List Pipeline) (b : List (BoardEntry Ask)) : Type 0 where
  pub count : length plain ≡ pipelines b
  pub each : (p : ℕ) (pipeline : Pipeline) → slice_get plain p ≡ Some pipeline → IsPipelineOf pipeline (entries_of p b)
  pub bare : (p : ℕ) → length plain ≤ p → entries_of p b ≡ []

-- the entry is work, whoever does it, or the script's
abbrev pub is_ours : BoardEntry Ask → Bool
is_ours e = is_work e || caller_of e == 0

-- each request that the pipeline accepted is done
abbrev pub is_all_done : List (BoardEntry Ask) → Bool
is_all_done es = front es == length (submissions es)
