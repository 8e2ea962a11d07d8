-- The lines `aes`, `key` and `authsize`, which ask nothing, and the requests `enc`, `dec` and `mac`.
use Rattle.std.specs.Prelude.{ℕ, ◌+◌, ◌^◌, ◌==◌, Bool, not, ◌&&◌, ◌||◌, nat_le, nat_lt, if◌then◌else◌, List, [], ◌∷◌, ◌++◌, length, Option, Some, None}
use Rattle.kc_base.specs.declared.error_numbers.Errno.TheVariants.{E2BIG, EBADMSG, EBUSY, EINVAL, ENOSPC, EINPROGRESS, ENOKEY}
use Rattle.std_defs.specs.Aes.{seal}
use Rattle.std_defs.specs.Value.{Value}
use Rattle.std_defs.specs.Value.Value.{bytes, bad_message, invalid}
use Rattle.sg_walk.specs.Segments.{Segmented}
use Rattle.board.specs.declared.entry.Entered.{Entered}
use Rattle.board.specs.declared.entry.Entered.TheVariants.{InProgress, Busy, NoSpace}
use Rattle.transforms.specs.declared.request.Dir.{Dir}
use Rattle.transforms.specs.declared.request.Request.{Request}
use Rattle.transforms.specs.Asked.{takes}
use Rattle.transforms.specs.Drivers.{driver_of}
use Rattle.transforms.specs.Plans.{takes_key, takes_tag}
use Rattle.transforms.specs.RequestValue.{request_value}
use Rattle.reply_text.specs.declared.answers.Answer.{Answer}
use Rattle.reply_text.specs.declared.answers.Answer.TheVariants as said
use Rattle.dialogues.specs.BoardCalls.{Asked, origin_by}
use Rattle.dialogues.specs.Questions.{Submit, Enqueue}
use Rattle.dialogues.specs.Dialogues.{Dialogue, Posts, says, answers_errno, unless, with_label, with_either}
use Rattle.dialogues.specs.ScriptState.{ScriptState, Live, PipelineState, with_live, with_pipe}

-- ---- `aes KEY BLOCK`

abbrev pub is_key_length : ℕ → Bool
is_key_length n = (n == 16) || (n == 24) || (n == 32)

abbrev pub aes_said : ℕ → List ℕ → List ℕ → Answer
aes_said n key block = if is_key_length (length key) && (length block == 16) then said.Value n (seal key block) else said.Refused n EINVAL

abbrev pub aes : ScriptState → ℕ → List ℕ → List ℕ → Dialogue
aes script_state n key block = says script_state (aes_said n key block)

-- ---- `key T HEX`

abbrev pub set_key : ScriptState → ℕ → List ℕ → List ℕ → Dialogue
set_key script_state n label key = with_label script_state n label λ live.
    unless script_state n ((not (takes_key live.plan key), EINVAL) ∷ [])
    (says (with_live script_state (record live { key = Some key })) (said.Ok n))

-- ---- `authsize T NUM`

abbrev pub set_tag_size : ScriptState → ℕ → List ℕ → ℕ → Dialogue
set_tag_size script_state n label size = with_label script_state n label λ live.
    unless script_state n ((not (takes_tag live.plan size), EINVAL) ∷ [])
    (says (with_live script_state (record live { tag_size = size })) (said.Ok n))

-- ---- `enc T IV AAD TEXT [backlog]`, `dec T IV AAD TEXT [backlog]` and `mac T TEXT [backlog]`

abbrev pub request_of : Dir → List ℕ → List ℕ → Segmented → Request
request_of dir iv aad text = record { dir = dir; iv = iv; aad = aad; text = text }

abbrev pub value_said : ℕ → Value → Answer
value_said n (bytes made) = said.Value n made
value_said n bad_message = said.Refused n EBADMSG
value_said n invalid = said.Refused n EINVAL

-- what a request asks of a transform under a key
abbrev pub asked_of : ScriptState → ℕ → Live → List ℕ → Request → Asked
asked_of script_state n live key request = record { plan = live.plan; key = key; tag_size = live.tag_size; request = request; client = script_state.client; line = n }

-- the value of the request by the transform's driver
abbrev pub value_of : Asked → Value
value_of asked = request_value (driver_of asked.plan) asked.key asked.tag_size asked.request

-- its bytes, however the text is cut
abbrev pub size_of : Request → ℕ
size_of request = length request.iv + length request.aad + length request.text.text

-- pipelines accept 2^20 requests of a script, and 2^26 bytes of them
abbrev pub is_too_big : ScriptState → Request → Bool
is_too_big script_state request = nat_le (2 ^ 20) script_state.requests || nat_lt (2 ^ 26) (script_state.bytes + size_of request)

-- the pipeline has accepted a request
abbrev pub accepting : ScriptState → Live → PipelineState → Asked → ScriptState
accepting script_state live pipe asked =
    record (with_pipe script_state live (record pipe { lines = pipe.lines ++ origin_by asked ∷ [] })) { requests = script_state.requests + 1; bytes = script_state.bytes + size_of asked.request }

abbrev pub entered : ScriptState → ℕ → Live → PipelineState → Asked → Entered → Dialogue
entered script_state n live pipe asked (InProgress number) = answers_errno (accepting script_state live pipe asked) n EINPROGRESS
entered script_state n live pipe asked (Busy number) = answers_errno (accepting script_state live pipe asked) n EBUSY
entered script_state n live pipe asked NoSpace = answers_errno script_state n ENOSPC

-- to a pad each request, and to a queue what it has room for
abbrev pub hands_in : ScriptState → ℕ → Live → PipelineState → Asked → Bool → Option ℕ → Dialogue
hands_in script_state n live pipe asked backlog None =
    Posts (Submit pipe.number asked) λ number. answers_errno (accepting script_state live pipe asked) n EINPROGRESS
hands_in script_state n live pipe asked backlog (Some max) =
    Posts (Enqueue pipe.number asked backlog) λ answer. entered script_state n live pipe asked answer

-- A transform without a pipeline answers at once. One that no worker serves takes nothing.
abbrev pub requests_in : ScriptState → ℕ → Live → Asked → Bool → Option PipelineState → Dialogue
requests_in script_state n live asked backlog None = says script_state (value_said n (value_of asked))
requests_in script_state n live asked backlog (Some pipe) =
    unless script_state n ((pipe.mask_is_empty, EINVAL) ∷ (is_too_big script_state asked.request, E2BIG) ∷ []) (hands_in script_state n live pipe asked backlog pipe.bound)

abbrev pub requests_under : ScriptState → ℕ → Live → Request → Bool → Option (List ℕ) → Dialogue
requests_under script_state n live request backlog None = answers_errno script_state n ENOKEY
requests_under script_state n live request backlog (Some key) =
    unless script_state n ((not (takes live.plan live.tag_size request), EINVAL) ∷ [])
    (requests_in script_state n live (asked_of script_state n live key request) backlog live.pipe)

abbrev pub request : ScriptState → ℕ → List ℕ → Request → Bool → Dialogue
request script_state n label asked backlog = with_either script_state n label λ live. requests_under script_state n live asked backlog live.key
