-- The key that a transform holds, and the jobs that it makes under it.
use Rattle.std.specs.Prelude.{ℕ, ◌+◌, ◌≤◌, ◌≡◌, Bool, true, false, List, [], ◌∷◌, ◌++◌, length, Option, Some, None, ⊤}
use Rattle.std.specs.Option.{option_map}
use Rattle.std.specs.Arc.{arc_value}
use Rattle.std.specs.declared.sync.Arc.{Arc}
use Rattle.templates.specs.declared.driver_plans.Plan.{Plan}
use Rattle.transforms.specs.declared.request.Request.{Request}
use Rattle.transforms.specs.Asked.{takes}
use Rattle.transforms.specs.declared.tfm_err.TfmErr.{TfmErr}
use Rattle.transforms.specs.declared.tfm_err.TfmErr.TheVariants.{Inval, Memory}
use Rattle.reply_text.specs.declared.origin.Origin.{Origin}
use Rattle.dialogues.specs.BoardCalls.{Asked}
use Rattle.dialogues.specs.ScriptState.{Live, PipelineState}

module _ {Z : Type 0} where
  -- the bytes of the key
  abbrev pub key_in : Option (Arc (Plan × List ℕ) Z) → Option (List ℕ)
  key_in (Some keyed) = Some (arc_value keyed).1
  key_in None = None

  -- it was set for this plan
  abbrev pub IsKeyedBy : Plan → Option (Arc (Plan × List ℕ) Z) → Type 0
  IsKeyedBy plan (Some keyed) = (arc_value keyed).0 ≡ plan
  IsKeyedBy plan None = ⊤

-- a request that is taken, and what its job asks under a key
abbrev pub asked_by_client : ℕ → ℕ → Live → List ℕ → Request → Asked
asked_by_client client n live key request = record { plan = live.plan; key = key; tag_size = live.tag_size; request = request; client = client; line = n }

abbrev pub IsJobUnder : ℕ → ℕ → Live → Request → Asked → Option (List ℕ) → Type 0
IsJobUnder client n live request asked None = ⊥
IsJobUnder client n live request asked (Some key) = (takes live.plan live.tag_size request ≡ true) × (asked ≡ asked_by_client client n live key request)

abbrev pub IsJob : ℕ → ℕ → Live → Request → Asked → Type 0
IsJob client n live request asked = IsJobUnder client n live request asked live.key

abbrev pub IsNotTaken : Live → Request → Option (List ℕ) → Type 0
IsNotTaken live request None = ⊥
IsNotTaken live request (Some key) = takes live.plan live.tag_size request ≡ false

-- why there is no job under a key
abbrev pub IsNoJob : Live → Request → TfmErr → Type 0
IsNoJob live request Inval = IsNotTaken live request live.key
IsNoJob live request Memory = ⊤

-- ---- changes of its pipeline, if it has one

abbrev pub on_pipe : (PipelineState → PipelineState) → Live → Live
on_pipe f live = record live { pipe = option_map f live.pipe }

-- it accepted a request of this line
abbrev pub with_line : Live → Origin → Live
with_line live of = on_pipe (λ pipe. record pipe { lines = pipe.lines ++ of ∷ [] }) live

-- it is held, or let go
abbrev pub held_as : Live → Bool → Live
held_as live held = on_pipe (λ pipe. record pipe { held = held }) live

-- some worker may take from it, or none
abbrev pub manned_as : Live → Bool → Live
manned_as live mask_is_empty = on_pipe (λ pipe. record pipe { mask_is_empty = mask_is_empty }) live

-- it handed so many completions out
abbrev pub delivering : Live → ℕ → Live
delivering live count = on_pipe (λ pipe. record pipe { delivered = pipe.delivered + count }) live

-- with them it handed out no more than it accepted
abbrev pub MayDeliver : ℕ → Option PipelineState → Type 0
MayDeliver count None = ⊤
MayDeliver count (Some pipe) = pipe.delivered + count ≤ length pipe.lines
