-- Requests of lines, under the key that was set last.
use Rattle.std.proofs.Common.{◌≡◌, ℕ, Bool, List, Option, Some, None, sym, ap, ◌∙◌}
use Rattle.std.specs.Prelude.{if◌then◌else◌, not}
use Rattle.kc_base.specs.declared.error_numbers.Errno.TheVariants.{EINVAL, ENOKEY}
use Rattle.transforms.specs.declared.request.Request.{Request}
use Rattle.dialogues.specs.BoardCalls.{Asked, origin_by}
use Rattle.dialogues.specs.Dialogues.{Dialogue, answers_errno}
use Rattle.dialogues.specs.RequestCommands.{requests_in, requests_under, asked_of}
use Rattle.dialogues.specs.ScriptState.{ScriptState, Live}
use Rattle.script_session.specs.Keyed.{IsJobUnder, IsNotTaken, asked_by_client}

abbrev if_takes : ScriptState → ℕ → Live → Request → Bool → List ℕ → Bool → Dialogue
if_takes script_state n live request backlog key taken = if not taken then answers_errno script_state n EINVAL else requests_in script_state n live (asked_of script_state n live key request) backlog live.pipe

pub no-key : (script_state : ScriptState) (n : ℕ) (live : Live) (request : Request) (backlog : Bool) → live.key ≡ None → requests_under script_state n live request backlog live.key ≡ answers_errno script_state n ENOKEY
no-key script_state n live request backlog none = ap (requests_under script_state n live request backlog) none

pub not-taken : (script_state : ScriptState) (n : ℕ) (live : Live) (request : Request) (backlog : Bool) (key : Option (List ℕ)) → IsNotTaken live request key → requests_under script_state n live request backlog key ≡ answers_errno script_state n EINVAL
not-taken script_state n live request backlog None no_job = absurd no_job
not-taken script_state n live request backlog (Some key) refused = ap (if_takes script_state n live request backlog key) refused

-- the job is of this line of the client's script
pub job-origin : (n client : ℕ) (live : Live) (request : Request) (asked : Asked) (key : Option (List ℕ)) → IsJobUnder client n live request asked key → origin_by asked ≡ record { client = client; line = n }
job-origin n client live request asked None job = absurd job
job-origin n client live request asked (Some key) job = ap origin_by job.1

pub job-asks : (script_state : ScriptState) (n client : ℕ) (live : Live) (request : Request) (asked : Asked) (backlog : Bool) (key : Option (List ℕ)) → script_state.client ≡ client → IsJobUnder client n live request asked key
    → requests_under script_state n live request backlog key ≡ requests_in script_state n live asked backlog live.pipe
job-asks script_state n client live request asked backlog None same job = absurd job
job-asks script_state n client live request asked backlog (Some key) same job =
    ap (if_takes script_state n live request backlog key) job.0
    ∙ ap (λ a. requests_in script_state n live a backlog live.pipe) (ap (λ c. asked_by_client c n live key request) same ∙ sym job.1)
