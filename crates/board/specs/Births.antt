-- A pipeline that was just made.
use Rattle.std.specs.Prelude.{◌≡◌, ℕ, ◌-◌, ◌^◌, false, []}
use Rattle.padata_core.specs.Pad.{Pad}
use Rattle.cryptd.specs.Server.{Server}
use Rattle.board.specs.declared.entry.Shape.{Shape}
use Rattle.board.specs.declared.entry.Shape.TheVariants as shape
use Rattle.board.specs.declared.stage.Stage.{Stage}
use Rattle.board.specs.declared.stage.Stage.TheVariants as stage
use Rattle.board.specs.Shapes.{lists_of, IsShape}

abbrev pub new_server : {J O : Type 0} → ℕ → Server J O
new_server max = record { queue = record { max = max; served = 0; waiting = []; spare = 0 }; held = false; busy = false; passed = 0; pending = []; spare = 0 }

abbrev pub new_pad : {J O : Type 0} → ℕ → Pad J O
new_pad lists = record { lists = lists; collected = 0; outcomes = []; waiting = []; spare = 0 }

-- what stands behind a pipeline of this shape that has accepted nothing
abbrev pub new_stage : {J O : Type 0} → Shape → Stage J O
new_stage (shape.Pad lists) = stage.Pad (new_pad lists)
new_stage (shape.Queue max) = stage.Queue (new_server max)
new_stage (shape.Chain max lists) = stage.Chain (record { server = new_server max; pad = new_pad lists })

-- an empty stage of a shape, under a full mask
abbrev pub IsNew : {J O : Type 0} → Stage J O → Shape → ℕ → Type 0
IsNew s form mask = IsShape form × (s ≡ new_stage form) × (mask ≡ 2 ^ lists_of form - 1)
