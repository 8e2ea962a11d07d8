-- What a drain tells of the requests that it hands out, by their numbers.
use Rattle.std.specs.Prelude.{ℕ, ◌+◌, nat_le, if◌then◌else◌, List, [], ◌∷◌, ◌++◌, length, Option, Some, None}
use Rattle.kc_base.specs.declared.callback_list.Callback.{Callback}
use Rattle.kc_base.specs.declared.callback_list.Callback.TheVariants.{Started, Done}
use Rattle.transforms.specs.declared.request.Finished.{Finished}
use Rattle.transforms.specs.Finish.{finished_of}
use Rattle.dialogues.specs.BoardCalls.{Asked}
use Rattle.dialogues.specs.RequestCommands.{value_of}
use Rattle.sequential_model.specs.Pipelines.{Pipeline}

-- the request that is told to have started when the one of this number leaves a queue with so many behind it
abbrev pub starts_at : ℕ → ℕ → Option ℕ → List (Callback Finished)
starts_at number behind (Some max) = if nat_le max behind then Started (number + max) ∷ [] else []
starts_at number behind None = []

-- of requests the first of which has this number
abbrev pub drained : Option ℕ → ℕ → List Asked → List (Callback Finished)
drained bound number [] = []
drained bound number (asked ∷ later) = starts_at number (length later) bound ++ Done number (finished_of (value_of asked)) ∷ drained bound (number + 1) later

abbrev pub drained_from : Pipeline → List (Callback Finished)
drained_from pipeline = drained pipeline.bound pipeline.delivered pipeline.undelivered
