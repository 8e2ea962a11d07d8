-- A line submits at most one request, as its client and under its number; so a script's requests are in the order of
-- its lines.
use Rattle.std.proofs.Common.{◌≡◌, ℕ, ◌+◌, ◌≤◌, Bool, true, false, not, List, [], ◌∷◌, ◌++◌, length, Option, Some, None, is_some, refl, sym, ap, subst, ◌∙◌, arith, inl, inr, ◌⊎◌}
use Rattle.std.specs.Prelude.{if◌then◌else◌, nat_le, nat_lt, Result, Ok, Err, ⊤}
use Rattle.std.specs.List.{filter_map, cons_option}
use Rattle.kc_base.specs.declared.error_numbers.Errno.{Errno}
use Rattle.kc_base.specs.declared.error_numbers.Errno.TheVariants.{EEXIST, EINVAL, EMFILE, ENOENT}
use Rattle.alg_names.specs.Name.{Tree}
use Rattle.alg_registry.specs.declared.spec.Spec.{Spec}
use Rattle.board.specs.declared.entry.Entered.{Entered}
use Rattle.board.specs.declared.entry.Entered.TheVariants.{InProgress, Busy, NoSpace}
use Rattle.board.specs.declared.entry.Shape.{Shape}
use Rattle.templates.specs.declared.driver_plans.Plan.{Plan}
use Rattle.templates.specs.LookResults.{Found, Entry, Fault}
use Rattle.transforms.specs.declared.request.Request.{Request}
use Rattle.transforms.specs.Asked.{takes}
use Rattle.transforms.specs.Plans.{takes_key, takes_tag}
use Rattle.script_text.specs.declared.commands.Command.{Command}
use Rattle.script_text.specs.declared.commands.Command.TheVariants as command
use Rattle.script_text.specs.declared.commands.Line.{Line}
use Rattle.script_text.specs.declared.commands.Line.TheVariants as line
use Rattle.dialogues.specs.AllocAndFree.{is_chained, shape_for, fault_of, creates, binds, binds_plan, alloc, closes}
use Rattle.dialogues.specs.BoardCalls.{BoardCall, Asked, Submits, Enqueues}
use Rattle.dialogues.specs.Dialogues.{Dialogue, Ends, Says, Asks, Posts, followed, unless, for_live, missing}
use Rattle.dialogues.specs.Lines.{command_dialogue, line_dialogue, lines_dialogue}
use Rattle.dialogues.specs.Names.{name_read, is_queue_length, plan_for, driver_spec}
use Rattle.dialogues.specs.PipelineCommands.{if_pad, with_pad, if_queue, with_queue, polls_in, drains_in, lets_go, drains_at_end, let_all_go, drain_all, end_beside}
use Rattle.dialogues.specs.Probe.{found_said, looks_up, looks_all}
use Rattle.dialogues.specs.Questions.{RegQuestion, RegAnswer, reg_call, reg_answer, BoardQuestion, BoardAnswer, board_call, board_answer, Create, Submit, Enqueue, Hold, Go, Poll, Drain, Close, Share, Mask, Shut}
use Rattle.dialogues.specs.RegistryCommands.{enlist_spec}
use Rattle.dialogues.specs.RegistryCalls.{RegCall}
use Rattle.dialogues.specs.RequestCommands.{is_too_big, entered, hands_in, requests_in, requests_under, request, asked_of}
use Rattle.dialogues.specs.SharedTransforms.{shares, share_all, closing}
use Rattle.dialogues.specs.Transcripts.{Transcript, broken, asking, posting, transcript_of}
use Rattle.dialogues.specs.ScriptState.{ScriptState, Live, PipelineState, live_of, shared_of, either}

-- ---- what calls submit

-- the request that a question hands in
abbrev asked_in : BoardQuestion → Option Asked
asked_in (Submit pipe asked) = Some asked
asked_in (Enqueue pipe asked backlog) = Some asked
asked_in question = None

abbrev entered_ask : Asked → Entered → Option Asked
entered_ask asked (InProgress number) = Some asked
entered_ask asked (Busy number) = Some asked
entered_ask asked NoSpace = None

-- the request that a call handed in, where it was accepted
abbrev pub accepted_call : BoardCall → Option Asked
accepted_call (Submits pipe number asked) = Some asked
accepted_call (Enqueues pipe asked backlog answer) = entered_ask asked answer
accepted_call call = None

abbrev pub accepted_calls : List BoardCall → List Asked
accepted_calls calls = filter_map accepted_call calls

-- of one client, each of a later line than the one before
abbrev pub Ascends : ℕ → ℕ → List Asked → Type 0
Ascends c n [] = ⊤
Ascends c n (asked ∷ later) = (asked.client ≡ c) × (n ≤ asked.line) × Ascends c (asked.line + 1) later

pub ascends-below : (c m n : ℕ) (asks : List Asked) → m ≤ n → Ascends c n asks → Ascends c m asks
ascends-below c m n [] le up = tt
ascends-below c m n (asked ∷ later) le up = (up.0, omega (arith, le, up.1), up.2)

-- ---- dialogues

-- whatever comes of its questions, it hands nothing in, and its client stays
abbrev Quiet : ℕ → Dialogue → Type 0
Quiet c (Ends after) = after.client ≡ c
Quiet c (Says answers next) = Quiet c next
Quiet c (Asks question next) = (answer : RegAnswer question) → Quiet c (next answer)
Quiet c (Posts question next) = (asked_in question ≡ None) × ((answer : BoardAnswer question) → Quiet c (next answer))

-- where a question hands a request in, that is of this client and line, and the rest hands nothing in
abbrev Posted : ℕ → ℕ → Option Asked → Type 0 → Type 0 → Type 0
Posted c n None quiet once = once
Posted c n (Some asked) quiet once = (asked.client ≡ c) × (asked.line ≡ n) × quiet

-- it hands at most one request in, of this client and line
abbrev Once : ℕ → ℕ → Dialogue → Type 0
Once c n (Ends after) = after.client ≡ c
Once c n (Says answers next) = Once c n next
Once c n (Asks question next) = (answer : RegAnswer question) → Once c n (next answer)
Once c n (Posts question next) =
    Posted c n (asked_in question) ((answer : BoardAnswer question) → Quiet c (next answer)) ((answer : BoardAnswer question) → Once c n (next answer))

abbrev Up : ℕ → ℕ → Transcript → Type 0
Up c n turn = Ascends c n (accepted_calls turn.board)

-- what its turns hand in is of this client, from a line on
abbrev pub IsAscending : ℕ → ℕ → Dialogue → Type 0
IsAscending c n d = (r : List RegCall) (b : List BoardCall) → Ascends c n (accepted_calls (transcript_of d r b).board)

accepted-more : (c n : ℕ) (o : Option Asked) (calls : List Asked) → o ≡ None → Ascends c n calls → Ascends c n (cons_option o calls)
accepted-more c n None calls none up = up
accepted-more c n (Some asked) calls none up = absurd cc

-- a call that a question is, with its answer: it hands in what the question does, or nothing
hands-in : (question : BoardQuestion) (answer : BoardAnswer question) → (accepted_call (board_call question answer) ≡ None) ⊎ (accepted_call (board_call question answer) ≡ asked_in question)
hands-in (Create shape) answer = inl refl
hands-in (Submit pipe asked) answer = inr refl
hands-in (Enqueue pipe asked backlog) (InProgress number) = inr refl
hands-in (Enqueue pipe asked backlog) (Busy number) = inr refl
hands-in (Enqueue pipe asked backlog) NoSpace = inl refl
hands-in (Hold pipe) answer = inl refl
hands-in (Go pipe) answer = inl refl
hands-in (Poll pipe) answer = inl refl
hands-in (Drain pipe) answer = inl refl
hands-in (Close pipe) answer = inl refl
hands-in (Share pipe) answer = inl refl
hands-in (Mask pipe bits) answer = inl refl
hands-in Shut answer = inl refl

quiet-call : (question : BoardQuestion) (answer : BoardAnswer question) → asked_in question ≡ None → accepted_call (board_call question answer) ≡ None
quiet-call question answer none = elim (hands-in question answer) [ inl e ↦ e | inr e ↦ e ∙ none ]

posting-quiet : (c n : ℕ) (question : BoardQuestion) (answer : BoardAnswer question) (turn : Transcript) → asked_in question ≡ None
    → Ascends c n (accepted_calls turn.board) → Ascends c n (accepted_calls (posting (board_call question answer) turn).board)
posting-quiet c n question answer turn none up =
    accepted-more c n (accepted_call (board_call question answer)) (accepted_calls turn.board) (quiet-call question answer none) up

asks-ascend : (c n : ℕ) (question : RegQuestion) (next : RegAnswer question → Dialogue) → ((answer : RegAnswer question) → IsAscending c n (next answer)) → IsAscending c n (Asks question next)
asks-ascend c n question next each [] b = tt
asks-ascend c n question next each (call ∷ r) b = at (reg_answer question call)
  where
    at : (o : Option (RegAnswer question)) → Up c n (elim o [ Some answer ↦ asking (reg_call question answer) (transcript_of (next answer) r b) | None ↦ broken ])
    at None = tt
    at (Some answer) = each answer r b

posts-quiet : (c n : ℕ) (question : BoardQuestion) (next : BoardAnswer question → Dialogue) → asked_in question ≡ None
    → ((answer : BoardAnswer question) → IsAscending c n (next answer)) → IsAscending c n (Posts question next)
posts-quiet c n question next none each r [] = tt
posts-quiet c n question next none each r (call ∷ b) = at (board_answer question call)
  where
    at : (o : Option (BoardAnswer question)) → Up c n (elim o [ Some answer ↦ posting (board_call question answer) (transcript_of (next answer) r b) | None ↦ broken ])
    at None = tt
    at (Some answer) = posting-quiet c n question answer (transcript_of (next answer) r b) none (each answer r b)

followed-quiet : (c n : ℕ) (d : Dialogue) (later : ScriptState → Dialogue) → Quiet c d → ((script_state : ScriptState) → script_state.client ≡ c → IsAscending c n (later script_state)) → IsAscending c n (followed d later)
followed-quiet c n (Ends after) later quiet rest = rest after quiet
followed-quiet c n (Says answers next) later quiet rest = λ r b. followed-quiet c n next later quiet rest r b
followed-quiet c n (Asks question next) later quiet rest =
    asks-ascend c n question (λ answer. followed (next answer) later) (λ answer. followed-quiet c n (next answer) later (quiet answer) rest)
followed-quiet c n (Posts question next) later quiet rest =
    posts-quiet c n question (λ answer. followed (next answer) later) quiet.0 (λ answer. followed-quiet c n (next answer) later (quiet.1 answer) rest)

-- the question hands a request in, and nothing follows within the line
posted-some : (c n : ℕ) (asked : Asked) (o : Option Asked) (calls : List Asked) → (o ≡ None) ⊎ (o ≡ Some asked) → asked.client ≡ c → asked.line ≡ n
    → Ascends c (n + 1) calls → Ascends c n (cons_option o calls)
posted-some c n asked None calls which client line up = ascends-below c n (n + 1) calls (omega arith) up
posted-some c n asked (Some x) calls which client line up =
    let same : x ≡ asked = elim which [ inl e ↦ absurd cc | inr e ↦ cc ] in
    let line' : x.line ≡ n = ap (λ (a : Asked). a.line) same ∙ line in
    (ap (λ (a : Asked). a.client) same ∙ client, omega (arith, line'), subst (λ m. Ascends c (m + 1) calls) (sym line') up)

posts-some : (c n : ℕ) (question : BoardQuestion) (next : BoardAnswer question → Dialogue) (asked : Asked) → asked_in question ≡ Some asked → asked.client ≡ c → asked.line ≡ n
    → ((answer : BoardAnswer question) → IsAscending c (n + 1) (next answer)) → IsAscending c n (Posts question next)
posts-some c n question next asked some client line each r [] = tt
posts-some c n question next asked some client line each r (call ∷ b) = at (board_answer question call)
  where
    at : (o : Option (BoardAnswer question)) → Up c n (elim o [ Some answer ↦ posting (board_call question answer) (transcript_of (next answer) r b) | None ↦ broken ])
    at None = tt
    at (Some answer) =
        posted-some c n asked (accepted_call (board_call question answer)) (accepted_calls (transcript_of (next answer) r b).board)
        (elim (hands-in question answer) [ inl e ↦ inl e | inr e ↦ inr (e ∙ some) ]) client line (each answer r b)

-- either way
posts-once : (c n : ℕ) (question : BoardQuestion) (next follow : BoardAnswer question → Dialogue) (o : Option Asked) → asked_in question ≡ o
    → ((answer : BoardAnswer question) → Quiet c (next answer) → IsAscending c (n + 1) (follow answer))
    → ((answer : BoardAnswer question) → Once c n (next answer) → IsAscending c n (follow answer))
    → Posted c n o ((answer : BoardAnswer question) → Quiet c (next answer)) ((answer : BoardAnswer question) → Once c n (next answer))
    → IsAscending c n (Posts question follow)
posts-once c n question next follow None none quietly onward once = posts-quiet c n question follow none (λ answer. onward answer (once answer))
posts-once c n question next follow (Some asked) some quietly onward once =
    posts-some c n question follow asked some once.0 once.1 (λ answer. quietly answer (once.2 answer))

followed-once : (c n : ℕ) (d : Dialogue) (later : ScriptState → Dialogue) → Once c n d → ((script_state : ScriptState) → script_state.client ≡ c → IsAscending c (n + 1) (later script_state)) → IsAscending c n (followed d later)
followed-once c n (Ends after) later once rest = λ r b. ascends-below c n (n + 1) _ (omega arith) (rest after once r b)
followed-once c n (Says answers next) later once rest = λ r b. followed-once c n next later once rest r b
followed-once c n (Asks question next) later once rest =
    asks-ascend c n question (λ answer. followed (next answer) later) (λ answer. followed-once c n (next answer) later (once answer) rest)
followed-once c n (Posts question next) later once rest =
    posts-once c n question next (λ answer. followed (next answer) later) (asked_in question) refl
    (λ answer quiet. followed-quiet c (n + 1) (next answer) later quiet rest) (λ answer once'. followed-once c n (next answer) later once' rest) once

-- ---- commands

if_once : (c n : ℕ) (b : Bool) (d e : Dialogue) → Once c n d → Once c n e → Once c n (if b then d else e)
if_once c n true d e first second = first
if_once c n false d e first second = second

unless_once : (script_state : ScriptState) (n : ℕ) (refusals : List (Bool × Errno)) (rest : Dialogue) → Once script_state.client n rest → Once script_state.client n (unless script_state n refusals rest)
unless_once script_state n [] rest once = once
unless_once script_state n (refusal ∷ refusals) rest once = if_once script_state.client n refusal.0 _ _ refl (unless_once script_state n refusals rest once)

live_once : (script_state : ScriptState) (n : ℕ) (o : Option Live) (errno : Errno) (rest : Live → Dialogue) → ((live : Live) → Once script_state.client n (rest live)) → Once script_state.client n (for_live script_state n o errno rest)
live_once script_state n None errno rest once = refl
live_once script_state n (Some live) errno rest once = once live

register_once : (script_state : ScriptState) (n priority : ℕ) (spec : Option Spec) → Once script_state.client n (enlist_spec script_state n priority spec)
register_once script_state n priority None = refl
register_once script_state n priority (Some spec) = if_once script_state.client n (nat_lt 100000 priority) _ _ refl (λ answer. refl)

look_once : (c n : ℕ) (name : List ℕ) (read : Result Tree Errno) (rest : Found → Dialogue) → ((found : Found) → Once c n (rest found)) → Once c n (looks_up name read rest)
look_once c n name (Ok tree) rest once = once
look_once c n name (Err errno) rest once = once (Fault errno)

looks_once : (c m n : ℕ) (names : List (List ℕ)) (rest : _ → Dialogue) → ((answers : _) → Once c m (rest answers)) → Once c m (looks_all n names rest)
looks_once c m n [] rest once = once []
looks_once c m n (name ∷ names) rest once =
    look_once c m name (name_read name) _ (λ found. looks_once c m n names (λ answers. rest (found_said n name found ∷ answers)) (λ answers. once (found_said n name found ∷ answers)))

creates_once : (c n : ℕ) (shape : Option Shape) (rest : Option PipelineState → Dialogue) → ((pipe : Option PipelineState) → Once c n (rest pipe)) → Once c n (creates shape rest)
creates_once c n None rest once = once None
creates_once c n (Some shape) rest once = λ number. once (Some _)

plan_once : (workers : ℕ) (script_state : ScriptState) (n : ℕ) (label : List ℕ) (len : Option ℕ) (id : ℕ) (spec : Spec) (plan : Option Plan) → Once script_state.client n (binds_plan workers script_state n label len id spec plan)
plan_once workers script_state n label len id spec None = refl
plan_once workers script_state n label len id spec (Some plan) =
    λ ok. if_once script_state.client n (not ok) _ _ refl (creates_once script_state.client n (shape_for workers (is_chained spec.driver) spec.wrap len) _ (λ pipe. refl))

binds_once : (workers : ℕ) (script_state : ScriptState) (n : ℕ) (label : List ℕ) (len : Option ℕ) (found : Found) → Once script_state.client n (binds workers script_state n label len found)
binds_once workers script_state n label len (Fault errno) = refl
binds_once workers script_state n label len (Entry id spec) = plan_once workers script_state n label len id spec (plan_for spec len)

alloc_once : (workers : ℕ) (script_state : ScriptState) (n : ℕ) (label name : List ℕ) (len : Option ℕ) → Once script_state.client n (alloc workers script_state n label name len)
alloc_once workers script_state n label name len =
    unless_once script_state n
    ((is_some (either (live_of script_state label) (shared_of script_state label)), EEXIST) ∷ (nat_le 4096 (length script_state.lives), EMFILE) ∷ fault_of (name_read name) ++ (not (is_queue_length len), EINVAL) ∷ [])
    _ (λ found. binds_once workers script_state n label len found)

closes_once : (script_state : ScriptState) (n : ℕ) (live : Live) (pipe : Option PipelineState) → Once script_state.client n (closes script_state n live pipe)
closes_once script_state n live None = λ done. refl
closes_once script_state n live (Some pipe) = if_once script_state.client n (nat_lt pipe.delivered (length pipe.lines)) _ _ refl (λ closed done. refl)

entered_quiet : (script_state : ScriptState) (n : ℕ) (live : Live) (pipe : PipelineState) (asked : Asked) (answer : Entered) → Quiet script_state.client (entered script_state n live pipe asked answer)
entered_quiet script_state n live pipe asked (InProgress number) = refl
entered_quiet script_state n live pipe asked (Busy number) = refl
entered_quiet script_state n live pipe asked NoSpace = refl

hands_once : (script_state : ScriptState) (n : ℕ) (live : Live) (pipe : PipelineState) (asked : Asked) (backlog : Bool) (bound : Option ℕ) → asked.client ≡ script_state.client → asked.line ≡ n
    → Once script_state.client n (hands_in script_state n live pipe asked backlog bound)
hands_once script_state n live pipe asked backlog None client line = (client, line, λ number. refl)
hands_once script_state n live pipe asked backlog (Some max) client line = (client, line, λ answer. entered_quiet script_state n live pipe asked answer)

requests_once : (script_state : ScriptState) (n : ℕ) (live : Live) (asked : Asked) (backlog : Bool) (pipe : Option PipelineState) → asked.client ≡ script_state.client → asked.line ≡ n
    → Once script_state.client n (requests_in script_state n live asked backlog pipe)
requests_once script_state n live asked backlog None client line = refl
requests_once script_state n live asked backlog (Some pipe) client line =
    if_once script_state.client n pipe.mask_is_empty _ _ refl (if_once script_state.client n (is_too_big script_state asked.request) _ _ refl (hands_once script_state n live pipe asked backlog pipe.bound client line))

key_once : (script_state : ScriptState) (n : ℕ) (live : Live) (asked : Request) (backlog : Bool) (key : Option (List ℕ)) → Once script_state.client n (requests_under script_state n live asked backlog key)
key_once script_state n live asked backlog None = refl
key_once script_state n live asked backlog (Some key) =
    if_once script_state.client n (not (takes live.plan live.tag_size asked)) _ _ refl (requests_once script_state n live (asked_of script_state n live key asked) backlog live.pipe refl refl)

request_once : (script_state : ScriptState) (n : ℕ) (label : List ℕ) (asked : Request) (backlog : Bool) → Once script_state.client n (request script_state n label asked backlog)
request_once script_state n label asked backlog = live_once script_state n (either (live_of script_state label) (shared_of script_state label)) ENOENT _ (λ live. key_once script_state n live asked backlog live.key)

own_once : (script_state : ScriptState) (n : ℕ) (label : List ℕ) (rest : Live → Dialogue) → ((live : Live) → Once script_state.client n (rest live))
    → Once script_state.client n (for_live script_state n (live_of script_state label) (missing (shared_of script_state label)) rest)
own_once script_state n label rest once = live_once script_state n (live_of script_state label) (missing (shared_of script_state label)) rest once

if_pad_once : (script_state : ScriptState) (n : ℕ) (bound : Option ℕ) (rest : Dialogue) → Once script_state.client n rest → Once script_state.client n (if_pad script_state n bound rest)
if_pad_once script_state n None rest once = once
if_pad_once script_state n (Some max) rest once = refl

pad_once : (script_state : ScriptState) (n : ℕ) (pipe : Option PipelineState) (rest : PipelineState → Dialogue) → ((pipe : PipelineState) → Once script_state.client n (rest pipe)) → Once script_state.client n (with_pad script_state n pipe rest)
pad_once script_state n None rest once = refl
pad_once script_state n (Some pipe) rest once = if_pad_once script_state n pipe.bound (rest pipe) (once pipe)

if_queue_once : (script_state : ScriptState) (n : ℕ) (bound : Option ℕ) (rest : Dialogue) → Once script_state.client n rest → Once script_state.client n (if_queue script_state n bound rest)
if_queue_once script_state n None rest once = refl
if_queue_once script_state n (Some max) rest once = once

queue_once : (script_state : ScriptState) (n : ℕ) (pipe : Option PipelineState) (rest : PipelineState → Dialogue) → ((pipe : PipelineState) → Once script_state.client n (rest pipe)) → Once script_state.client n (with_queue script_state n pipe rest)
queue_once script_state n None rest once = refl
queue_once script_state n (Some pipe) rest once = if_queue_once script_state n pipe.bound (rest pipe) (once pipe)

polls_once : (script_state : ScriptState) (n : ℕ) (live : Live) (pipe : Option PipelineState) → Once script_state.client n (polls_in script_state n live pipe)
polls_once script_state n live None = refl
polls_once script_state n live (Some pipe) = λ told. refl

drains_once : (script_state : ScriptState) (n : ℕ) (live : Live) (pipe : Option PipelineState) → Once script_state.client n (drains_in script_state n live pipe)
drains_once script_state n live None = refl
drains_once script_state n live (Some pipe) = if_once script_state.client n pipe.held _ _ refl (λ notices. refl)

command_once : (workers : ℕ) (script_state : ScriptState) (n : ℕ) (c : Command) → Once script_state.client n (command_dialogue workers script_state n c)
command_once workers script_state n (command.Aes key block) = refl
command_once workers script_state n (command.Register driver priority) = register_once script_state n priority (driver_spec driver priority)
command_once workers script_state n (command.Unregister driver) = λ id. refl
command_once workers script_state n (command.Probe names) = looks_once script_state.client n n names _ (λ answers. refl)
command_once workers script_state n (command.Alloc label name len) = alloc_once workers script_state n label name len
command_once workers script_state n (command.Key label key) = own_once script_state n label _ (λ live. if_once script_state.client n (not (takes_key live.plan key)) _ _ refl refl)
command_once workers script_state n (command.Authsize label size) = own_once script_state n label _ (λ live. if_once script_state.client n (not (takes_tag live.plan size)) _ _ refl refl)
command_once workers script_state n (command.Enc label iv aad text backlog) = request_once script_state n label _ backlog
command_once workers script_state n (command.Dec label iv aad text backlog) = request_once script_state n label _ backlog
command_once workers script_state n (command.Mac label text backlog) = request_once script_state n label _ backlog
command_once workers script_state n (command.Bulk label size seed) = live_once script_state n (either (live_of script_state label) (shared_of script_state label)) ENOENT _ (λ live. refl)
command_once workers script_state n (command.Mask label bits) = own_once script_state n label _ (λ live. pad_once script_state n live.pipe _ (λ pipe done. refl))
command_once workers script_state n (command.Hold label) = own_once script_state n label _ (λ live. queue_once script_state n live.pipe _ (λ pipe done. refl))
command_once workers script_state n (command.Go label) = own_once script_state n label _ (λ live. queue_once script_state n live.pipe _ (λ pipe done. refl))
command_once workers script_state n (command.Poll label) = own_once script_state n label _ (λ live. polls_once script_state n live live.pipe)
command_once workers script_state n (command.Drain label) = own_once script_state n label _ (λ live. drains_once script_state n live live.pipe)
command_once workers script_state n (command.Free label) = own_once script_state n label _ (λ live. closes_once script_state n live live.pipe)
command_once workers script_state n (command.Refs driver) = λ answer. refl
command_once workers script_state n command.List = λ rows. refl

line_once : (workers : ℕ) (script_state : ScriptState) (n : ℕ) (next : Line) → Once script_state.client n (line_dialogue workers script_state n next)
line_once workers script_state n line.Nothing = refl
line_once workers script_state n line.Malformed = refl
line_once workers script_state n (line.Cmd c) = command_once workers script_state n c

-- a script's lines, where what follows on them submits none
pub lines-ascend : (workers c : ℕ) (script_state : ScriptState) (n : ℕ) (lines : List Line) (rest : ScriptState → Dialogue) → script_state.client ≡ c → ((script_state : ScriptState) (n : ℕ) → script_state.client ≡ c → IsAscending c n (rest script_state))
    → IsAscending c n (lines_dialogue workers script_state n lines rest)
lines-ascend workers c script_state n [] rest client last = last script_state n client
lines-ascend workers c script_state n (next ∷ lines) rest client last =
    followed-once c n (line_dialogue workers script_state n next) _ (subst (λ k. Once k n (line_dialogue workers script_state n next)) client (line_once workers script_state n next))
    (λ after same. lines-ascend workers c after (n + 1) lines rest same last)

-- ---- the end

pub followed-ends : (d : Dialogue) → followed d Ends ≡ d
followed-ends (Ends after) = refl
followed-ends (Says answers next) = ap (Says answers) (followed-ends next)
followed-ends (Asks question next) = λ i. Asks question (λ answer. followed-ends (next answer) i)
followed-ends (Posts question next) = λ i. Posts question (λ answer. followed-ends (next answer) i)

-- it hands nothing in
ascends-none : (c n : ℕ) (d : Dialogue) → Quiet c d → IsAscending c n d
ascends-none c n d quiet = λ r b.
    subst (λ x. Ascends c n (accepted_calls (transcript_of x r b).board)) (followed-ends d) (followed-quiet c n d Ends quiet (λ script_state same r' b'. tt) r b)

if_quiet : (c : ℕ) (b : Bool) (d e : Dialogue) → Quiet c d → Quiet c e → Quiet c (if b then d else e)
if_quiet c true d e first second = first
if_quiet c false d e first second = second

go_quiet : (c : ℕ) (pipe : Option PipelineState) (rest : Dialogue) → Quiet c rest → Quiet c (lets_go pipe rest)
go_quiet c None rest quiet = quiet
go_quiet c (Some pipe) rest quiet = if_quiet c pipe.held _ _ (refl, λ done. quiet) quiet

all_go_quiet : (c : ℕ) (lives : List Live) (rest : Dialogue) → Quiet c rest → Quiet c (let_all_go lives rest)
all_go_quiet c [] rest quiet = quiet
all_go_quiet c (live ∷ lives) rest quiet = go_quiet c live.pipe (let_all_go lives rest) (all_go_quiet c lives rest quiet)

last_quiet : (c : ℕ) (label : List ℕ) (pipe : Option PipelineState) (rest : Dialogue) → Quiet c rest → Quiet c (drains_at_end label pipe rest)
last_quiet c label None rest quiet = quiet
last_quiet c label (Some pipe) rest quiet = (refl, λ notices. quiet)

drain_all_quiet : (c : ℕ) (lives : List Live) (rest : Dialogue) → Quiet c rest → Quiet c (drain_all lives rest)
drain_all_quiet c [] rest quiet = quiet
drain_all_quiet c (live ∷ lives) rest quiet = last_quiet c live.label live.pipe (drain_all lives rest) (drain_all_quiet c lives rest quiet)

shares_quiet : (c : ℕ) (pipe : Option PipelineState) (rest : Dialogue) → Quiet c rest → Quiet c (shares pipe rest)
shares_quiet c None rest quiet = quiet
shares_quiet c (Some pipe) rest quiet = (refl, λ done. quiet)

share_all_quiet : (c : ℕ) (lives : List Live) (rest : Dialogue) → Quiet c rest → Quiet c (share_all lives rest)
share_all_quiet c [] rest quiet = quiet
share_all_quiet c (live ∷ lives) rest quiet = shares_quiet c live.pipe (share_all lives rest) (share_all_quiet c lives rest quiet)

pub end-beside-ascends : (c n : ℕ) (script_state : ScriptState) → script_state.client ≡ c → IsAscending c n (end_beside script_state)
end-beside-ascends c n script_state client = ascends-none c n (end_beside script_state) (all_go_quiet c script_state.lives _ (drain_all_quiet c script_state.lives _ client))

pub closing-ascends : (c n : ℕ) (script_state : ScriptState) → script_state.client ≡ c → IsAscending c n (closing script_state)
closing-ascends c n script_state client =
    ascends-none c n (closing script_state) (share_all_quiet c script_state.lives _ (all_go_quiet c script_state.lives _ (drain_all_quiet c script_state.lives _ (refl, λ done. client))))
