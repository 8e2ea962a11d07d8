-- What a script has made so far: its live transforms, and what its pipelines have accepted.
use Rattle.std.specs.Prelude.{ℕ, Bool, if◌then◌else◌, List, [], ◌∷◌, find, Option, Some, None}
use Rattle.std.specs.Str.{bytes_eq}
use Rattle.reply_text.specs.declared.origin.Origin.{Origin}
use Rattle.templates.specs.declared.driver_plans.Plan.{Plan}

-- A pipeline: its number on the board; how many requests may wait in a queue before it is full (none for a pad);
-- whether it is held; whether no worker may take from it, which is so of a pad whose mask is empty; which requests of
-- the script it accepted, by their lines; and how many of their completions it has handed out.
pub record PipelineState : Type 0 where
  pub number : ℕ
  pub bound : Option ℕ
  pub held : Bool
  pub mask_is_empty : Bool
  pub lines : List Origin
  pub delivered : ℕ

-- A live transform: its label, the entry on which it stands, what it computes, the key that was set last, and its tag
-- size. Under `pcrypt` or `cryptd` it has a pipeline, which takes its requests; otherwise they are done at their line.
pub record Live : Type 0 where
  pub label : List ℕ
  pub id : ℕ
  pub plan : Plan
  pub key : Option (List ℕ)
  pub tag_size : ℕ
  pub pipe : Option PipelineState

-- As which client the script runs; the live transforms that it shares with others, which none of them changes; its own,
-- in order of allocation; and of all its requests that pipelines accepted, how many and of how many bytes.
pub record ScriptState : Type 0 where
  pub client : ℕ
  pub shared : List Live
  pub lives : List Live
  pub requests : ℕ
  pub bytes : ℕ

-- before the first line, beside others with whom it shares these transforms
abbrev pub start_beside : ℕ → List Live → ScriptState
start_beside client shared = record { client = client; shared = shared; lives = []; requests = 0; bytes = 0 }

-- before the first line of a script that shares none
abbrev pub start : ℕ → ScriptState
start client = start_beside client []

abbrev pub is_of : List ℕ → Live → Bool
is_of label live = bytes_eq live.label label

-- its own live transform of the label
abbrev pub live_of : ScriptState → List ℕ → Option Live
live_of script_state label = find (is_of label) script_state.lives

-- and the shared one
abbrev pub shared_of : ScriptState → List ℕ → Option Live
shared_of script_state label = find (is_of label) script_state.shared

abbrev pub either : Option Live → Option Live → Option Live
either (Some own) shared = Some own
either None shared = shared

-- its own, or else the shared one
abbrev pub either_of : ScriptState → List ℕ → Option Live
either_of script_state label = either (live_of script_state label) (shared_of script_state label)

-- the transform of the same label is now this one
abbrev pub replaced : Live → List Live → List Live
replaced live [] = []
replaced live (other ∷ others) = if is_of live.label other then live ∷ others else other ∷ replaced live others

abbrev pub with_live : ScriptState → Live → ScriptState
with_live script_state live = record script_state { lives = replaced live script_state.lives }

-- the transform's pipeline is now this one
abbrev pub with_pipe : ScriptState → Live → PipelineState → ScriptState
with_pipe script_state live pipe = with_live script_state (record live { pipe = Some pipe })

-- the transform of the label is gone
abbrev pub removed : List ℕ → List Live → List Live
removed label [] = []
removed label (other ∷ others) = if is_of label other then others else other ∷ removed label others

abbrev pub without : ScriptState → List ℕ → ScriptState
without script_state label = record script_state { lives = removed label script_state.lives }
