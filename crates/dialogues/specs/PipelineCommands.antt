-- The lines that ask pipelines alone, `mask`, `hold`, `go`, `poll` and `drain`, and the end of input.
use Rattle.std.specs.Prelude.{ℕ, ◌+◌, ◌^◌, ◌%◌, Bool, true, false, ◌==◌, if◌then◌else◌, List, [], ◌∷◌, ◌++◌, length, filter, map, Option, Some, None}
use Rattle.kc_base.specs.declared.error_numbers.Errno.TheVariants.{EINVAL, EBADMSG}
use Rattle.transforms.specs.declared.request.Finished.{Finished}
use Rattle.transforms.specs.declared.request.Finished.TheVariants.{Bytes, BadMsg, Invalid}
use Rattle.reply_text.specs.declared.answers.Answer.{Answer}
use Rattle.reply_text.specs.declared.answers.Answer.TheVariants as said
use Rattle.reply_text.specs.declared.origin.Origin.{Origin}
use Rattle.dialogues.specs.BoardCalls.{Notice, Started, Completed}
use Rattle.dialogues.specs.AllocAndFree.{lists_beside}
use Rattle.dialogues.specs.Questions.{Mask, Hold, Go, Poll, Drain, Shut}
use Rattle.dialogues.specs.Dialogues.{Dialogue, Ends, Says, Posts, says, answers_errno, unless, with_label}
use Rattle.dialogues.specs.ScriptState.{ScriptState, Live, PipelineState, with_pipe}

-- ---- what is told

abbrev pub completion_said : Origin → Finished → Answer
completion_said of (Bytes made) = said.Done of made
completion_said of BadMsg = said.Failed of EBADMSG
completion_said of Invalid = said.Failed of EINVAL

abbrev pub notice_said : Notice → Answer
notice_said (Started of) = said.Started of
notice_said (Completed of finished) = completion_said of finished

abbrev pub is_completion : Notice → Bool
is_completion (Started of) = false
is_completion (Completed of finished) = true

-- how many completions are among these
abbrev pub completions : List Notice → ℕ
completions notices = length (filter is_completion notices)

-- ---- `mask T MASK`

-- only a pad is masked: one has no bound
abbrev pub if_pad : ScriptState → ℕ → Option ℕ → Dialogue → Dialogue
if_pad script_state n None rest = rest
if_pad script_state n (Some max) rest = answers_errno script_state n EINVAL

abbrev pub with_pad : ScriptState → ℕ → Option PipelineState → (PipelineState → Dialogue) → Dialogue
with_pad script_state n None rest = answers_errno script_state n EINVAL
with_pad script_state n (Some pipe) rest = if_pad script_state n pipe.bound (rest pipe)

-- the bits of the workers that there are
abbrev pub kept_bits : ℕ → ℕ → ℕ
kept_bits workers bits = bits % 2 ^ lists_beside workers

abbrev pub masks : ℕ → ScriptState → ℕ → ℕ → Live → PipelineState → Dialogue
masks workers script_state n bits live pipe =
    Posts (Mask pipe.number (kept_bits workers bits)) λ done.
    says (with_pipe script_state live (record pipe { mask_is_empty = kept_bits workers bits == 0 })) (said.Ok n)

abbrev pub mask : ℕ → ScriptState → ℕ → List ℕ → ℕ → Dialogue
mask workers script_state n label bits = with_label script_state n label λ live. with_pad script_state n live.pipe (masks workers script_state n bits live)

-- ---- `hold T` and `go T`

-- only a queue or a chain is held and let go: one has a bound
abbrev pub if_queue : ScriptState → ℕ → Option ℕ → Dialogue → Dialogue
if_queue script_state n None rest = answers_errno script_state n EINVAL
if_queue script_state n (Some max) rest = rest

abbrev pub with_queue : ScriptState → ℕ → Option PipelineState → (PipelineState → Dialogue) → Dialogue
with_queue script_state n None rest = answers_errno script_state n EINVAL
with_queue script_state n (Some pipe) rest = if_queue script_state n pipe.bound (rest pipe)

abbrev pub hold : ScriptState → ℕ → List ℕ → Dialogue
hold script_state n label =
    with_label script_state n label λ live. with_queue script_state n live.pipe λ pipe.
    Posts (Hold pipe.number) λ done. says (with_pipe script_state live (record pipe { held = true })) (said.Ok n)

abbrev pub go : ScriptState → ℕ → List ℕ → Dialogue
go script_state n label =
    with_label script_state n label λ live. with_queue script_state n live.pipe λ pipe.
    Posts (Go pipe.number) λ done. says (with_pipe script_state live (record pipe { held = false })) (said.Ok n)

-- ---- `poll T` and `drain T`

-- what the pipeline tells, and then an answer
abbrev pub tells : ScriptState → Live → PipelineState → List Notice → Answer → Dialogue
tells script_state live pipe notices end =
    Says (map notice_said notices ++ end ∷ [])
    (Ends (with_pipe script_state live (record pipe { delivered = pipe.delivered + completions notices })))

abbrev pub polls_in : ScriptState → ℕ → Live → Option PipelineState → Dialogue
polls_in script_state n live None = says script_state (said.Polled n 0)
polls_in script_state n live (Some pipe) =
    Posts (Poll pipe.number) λ told. tells script_state live pipe told.notices (said.Polled n (completions told.notices))

abbrev pub poll : ScriptState → ℕ → List ℕ → Dialogue
poll script_state n label = with_label script_state n label λ live. polls_in script_state n live live.pipe

abbrev pub drains_in : ScriptState → ℕ → Live → Option PipelineState → Dialogue
drains_in script_state n live None = says script_state (said.Drained n 0)
drains_in script_state n live (Some pipe) =
    unless script_state n ((pipe.held, EINVAL) ∷ [])
    (Posts (Drain pipe.number) λ notices. tells script_state live pipe notices (said.Drained n (completions notices)))

abbrev pub drain : ScriptState → ℕ → List ℕ → Dialogue
drain script_state n label = with_label script_state n label λ live. drains_in script_state n live live.pipe

-- ---- the end of input

-- a held queue is let go
abbrev pub lets_go : Option PipelineState → Dialogue → Dialogue
lets_go None rest = rest
lets_go (Some pipe) rest = if pipe.held then (Posts (Go pipe.number) λ done. rest) else rest

-- how many completions a transform's last callbacks have, where there is one
abbrev pub end_said : List ℕ → ℕ → List Answer
end_said label count = if count == 0 then [] else said.End label count ∷ []

-- what is told, and then how many completions are among it, if any
abbrev pub said_at_end : List ℕ → List Notice → List Answer
said_at_end label notices = map notice_said notices ++ end_said label (completions notices)

abbrev pub drains_at_end : List ℕ → Option PipelineState → Dialogue → Dialogue
drains_at_end label None rest = rest
drains_at_end label (Some pipe) rest = Posts (Drain pipe.number) λ notices. Says (said_at_end label notices) rest

-- the same for each of these transforms, in order
abbrev pub let_all_go : List Live → Dialogue → Dialogue
let_all_go [] rest = rest
let_all_go (live ∷ lives) rest = lets_go live.pipe (let_all_go lives rest)

abbrev pub drain_all : List Live → Dialogue → Dialogue
drain_all [] rest = rest
drain_all (live ∷ lives) rest = drains_at_end live.label live.pipe (drain_all lives rest)

-- Held queues are let go, and each of the script's own live transforms is drained, in order of allocation.
abbrev pub drains_own : ScriptState → Dialogue → Dialogue
drains_own script_state rest = let_all_go script_state.lives (drain_all script_state.lives rest)

-- and then the board is shut
abbrev pub end : ScriptState → Dialogue
end script_state = drains_own script_state (Posts Shut λ done. Ends script_state)

-- where others go on, it stays open
abbrev pub end_beside : ScriptState → Dialogue
end_beside script_state = drains_own script_state (Ends script_state)
