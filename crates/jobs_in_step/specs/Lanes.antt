-- What stands in a lane.
use Rattle.std.specs.Prelude.{◌≡◌, ◌<◌, ⊤, ℕ, Option, Some, None, MatchOption, List, [], length, slice_index_or}
use Rattle.std.specs.Arc.{arc_value}
use Rattle.std.specs.Global.{Global, Vec}
use Rattle.std.specs.Option.{option_map}
use Rattle.std.specs.declared.sync.Arc.{Arc}
use Rattle.in_step.specs.Texts as in_step
use Rattle.std_defs.specs.Value.{Value}
use Rattle.std_defs.specs.Value.Value.{bytes}
use Rattle.templates.specs.declared.driver_plans.Plan.{Plan}
use Rattle.transforms.specs.AskValue.{ask_room, ask_value, IsFit}
use Rattle.transforms.specs.Finish.{finished_value}
use Rattle.transforms.specs.declared.ask.Ask.{Ask}
use Rattle.transforms.specs.declared.job.Job.{Job}
use Rattle.transforms.specs.declared.request.Finished.{Finished}
use Rattle.transforms.specs.declared.request.Request.{Request}
use Rattle.jobs_in_step.specs.Steps.{Fits}

-- the bytes of a lane's text
abbrev pub items_of : Vec ℕ → List ℕ
items_of text = text.items

abbrev pub text_in : List (Vec ℕ) → ℕ → List ℕ
text_in texts lane = in_step.text_in items_of texts lane

-- the ask of its job, where there is one
abbrev pub Asked : Type 0
Asked = Option (Arc Ask Global)

abbrev pub text_length : Asked → ℕ
text_length None = 0
text_length (Some a) = length (arc_value a).request.text.text

abbrev pub aad_in : Asked → List ℕ
aad_in None = []
aad_in (Some a) = (arc_value a).request.aad

-- the value of a lane's job
abbrev pub job_value : Job → Value
job_value j = ask_value (arc_value j.ask)

-- each lane's answer is the value of its job, and there is one where there is a job
abbrev pub AreValues : List (Option Finished) → List (Option Job) → Type 0
AreValues answers jobs =
    (n : ℕ) → n < 8 → option_map finished_value (slice_index_or answers n None) ≡ option_map job_value (slice_index_or jobs n None)

-- the lane's job, where there is one, is a sealing under this key, and fits
abbrev pub FitsKey : Plan × List ℕ → Option Job → Type 0
FitsKey key job = MatchOption job ⊤ (λ j. (arc_value (arc_value j.ask).keyed ≡ key) × Fits (arc_value j.ask))

-- the lane's job taken apart: its ask, and what its buffer begins with
abbrev pub IsPart : Option Job → Asked → List ℕ → Type 0
IsPart None asked text = (asked ≡ None) × (text ≡ [])
IsPart (Some j) asked text = (asked ≡ Some j.ask) × (text ≡ ask_room (arc_value j.ask)) × IsFit (arc_value j.ask)

-- the lane holds no job, or one that fits, with the room for its answer as its text
abbrev pub IsReady : (ℕ → Request → List ℕ) → Asked → List ℕ → Type 0
IsReady room None text = text ≡ []
IsReady room (Some a) text = Fits (arc_value a) × (text ≡ room (arc_value a).authsize (arc_value a).request) × IsFit (arc_value a)

-- the text is the value of the lane's ask, where there is one
abbrev pub IsAnswer : (ℕ → Request → Value) → Asked → List ℕ → Type 0
IsAnswer value None text = ⊤
IsAnswer value (Some a) text = bytes text ≡ value (arc_value a).authsize (arc_value a).request
