-- A pipeline and a transform that an `alloc` made.
use Rattle.std.specs.Prelude.{ℕ, ◌≡◌, false, List, [], Option, Some, None}
use Rattle.alg_registry.specs.declared.spec.Spec.{Spec}
use Rattle.board.specs.declared.entry.BoardEntry.{BoardEntry}
use Rattle.board.specs.declared.entry.Shape.{Shape}
use Rattle.templates.specs.declared.driver_plans.Plan.{Plan}
use Rattle.transforms.specs.declared.ask.Ask.{Ask}
use Rattle.turn_lock.specs.Turns.{Known}
use Rattle.dialogues.specs.AllocAndFree.{is_chained, shape_for, new_pipe, new_live}
use Rattle.dialogues.specs.ScriptState.{Live, PipelineState}
use Rattle.recorded_calls.specs.Pipelines.{Opened}

-- nothing was asked of it
abbrev pub unasked : ℕ → Option ℕ → PipelineState
unasked number bound = record { number = number; bound = bound; held = false; mask_is_empty = false; lines = []; delivered = 0 }

-- The caller made a pipeline of the shape, where there is one; without one it called nothing.
abbrev pub Created : Option Shape → Option PipelineState → Known (BoardEntry Ask) → Known (BoardEntry Ask) → Type 0
Created None pipe k l = (pipe ≡ None) × (l ≡ k)
Created (Some shape) pipe k l = (number : ℕ) × (pipe ≡ Some (new_pipe number shape)) × Opened k l number shape

-- The caller made the pipeline of an entry's transform, where it has one, and this is the transform.
abbrev pub CreatedLive : ℕ → List ℕ → Option ℕ → ℕ → Spec → Plan → Live → Known (BoardEntry Ask) → Known (BoardEntry Ask) → Type 0
CreatedLive workers label len id spec plan live k l =
    (pipe : Option PipelineState) × (live ≡ new_live label id plan pipe) × Created (shape_for workers (is_chained spec.driver) spec.wrap len) pipe k l
