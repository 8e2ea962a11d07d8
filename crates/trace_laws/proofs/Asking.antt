-- What a script asks the registry of drivers, it asks of words, where its lines name words.
use Rattle.std.proofs.Common.{◌≡◌, ℕ, ◌+◌, Bool, true, false, not, List, [], ◌∷◌, ◌++◌, length, Option, Some, None, is_some}
use Rattle.std.specs.Prelude.{◌==◌, if◌then◌else◌, nat_le, nat_lt, Result, Ok, Err, ⊤}
use Rattle.std.specs.List.{All}
use Rattle.std.proofs.lemmas.Bool.{eq-eqb}
use Rattle.std.proofs.lemmas.List.Elements.{All-nil, All-cons, All-head, All-tail}
use Rattle.kc_base.specs.declared.error_numbers.Errno.{Errno}
use Rattle.kc_base.specs.declared.error_numbers.Errno.TheVariants.{ENOENT, EEXIST, EINVAL, EMFILE}
use Rattle.alg_names.specs.Name.{Tree}
use Rattle.alg_registry.specs.declared.entry.RegEntry.{RegEntry}
use Rattle.alg_registry.specs.declared.entry.RegEntry.TheVariants as entry
use Rattle.alg_registry.specs.declared.spec.Spec.{Spec}
use Rattle.board.specs.declared.entry.Entered.{Entered}
use Rattle.board.specs.declared.entry.Entered.TheVariants.{InProgress, Busy, NoSpace}
use Rattle.board.specs.declared.entry.Shape.{Shape}
use Rattle.templates.specs.declared.driver_plans.Plan.{Plan}
use Rattle.templates.specs.LookResults.{Found, Entry, Fault}
use Rattle.transforms.specs.declared.request.Request.{Request}
use Rattle.transforms.specs.Asked.{takes}
use Rattle.transforms.specs.Plans.{takes_key, takes_tag}
use Rattle.trace_text.specs.Trace.{is_word}
use Rattle.script_text.specs.declared.commands.Command.{Command}
use Rattle.script_text.specs.declared.commands.Command.TheVariants as command
use Rattle.script_text.specs.declared.commands.Line.{Line}
use Rattle.script_text.specs.declared.commands.Line.TheVariants as line
use Rattle.dialogues.specs.AllocAndFree.{is_chained, shape_for, fault_of, creates, binds, binds_plan, alloc, closes}
use Rattle.dialogues.specs.BoardCalls.{BoardCall, Asked}
use Rattle.dialogues.specs.Dialogues.{Dialogue, Ends, Says, Asks, Posts, followed, unless, for_live, missing}
use Rattle.dialogues.specs.Lines.{command_dialogue, line_dialogue, lines_dialogue, script, script_beside}
use Rattle.dialogues.specs.Names.{name_read, is_queue_length, plan_for, driver_spec}
use Rattle.dialogues.specs.PipelineCommands.{if_pad, with_pad, if_queue, with_queue, polls_in, drains_in, lets_go, drains_at_end, let_all_go, drain_all, end, end_beside}
use Rattle.dialogues.specs.Probe.{found_said, looks_up, looks_all}
use Rattle.dialogues.specs.Questions.{RegAnswer, reg_call, reg_answer, BoardAnswer, board_call, board_answer}
use Rattle.dialogues.specs.RegistryCommands.{enlist_spec}
use Rattle.dialogues.specs.RegistryCalls.{RegCall, Unlists, Counts, reg_call_of, reg_calls, reg_calls_from, prepend}
use Rattle.dialogues.specs.RequestCommands.{is_too_big, entered, hands_in, requests_in, requests_under, request}
use Rattle.dialogues.specs.SharedTransforms.{shares, share_all, closing}
use Rattle.dialogues.specs.Transcripts.{Transcript, broken, asking, posting, transcript_of}
use Rattle.dialogues.specs.ScriptState.{ScriptState, Live, PipelineState, live_of, shared_of, either}
use Rattle.trace_laws.specs.DriverNames.{NamesWords, AsksOfWord}

-- ---- dialogues

-- whatever comes of its questions, those of drivers are of words
abbrev AsksWords : Dialogue → Type 0
AsksWords (Ends after) = ⊤
AsksWords (Says answers next) = AsksWords next
AsksWords (Asks question next) = (answer : RegAnswer question) → AsksOfWord (reg_call question answer) × AsksWords (next answer)
AsksWords (Posts question next) = (answer : BoardAnswer question) → AsksWords (next answer)

abbrev CallsWords : Transcript → Type 0
CallsWords turn = All AsksOfWord turn.registry

turn_calls_words : (d : Dialogue) (r : List RegCall) (b : List BoardCall) → AsksWords d → CallsWords (transcript_of d r b)
turn_calls_words (Ends after) r b words = All-nil AsksOfWord
turn_calls_words (Says answers next) r b words = turn_calls_words next r b words
turn_calls_words (Asks question next) [] b words = All-nil AsksOfWord
turn_calls_words (Asks question next) (call ∷ r) b words = by (reg_answer question call) (λ answer. turn_calls_words (next answer) r b (words answer).1)
  where
    by : (o : Option (RegAnswer question)) → ((answer : RegAnswer question) → CallsWords (transcript_of (next answer) r b))
        → CallsWords (elim o [ Some answer ↦ asking (reg_call question answer) (transcript_of (next answer) r b) | None ↦ broken ])
    by None later = All-nil AsksOfWord
    by (Some answer) later = All-cons AsksOfWord (reg_call question answer) (transcript_of (next answer) r b).registry (words answer).0 (later answer)
turn_calls_words (Posts question next) r [] words = All-nil AsksOfWord
turn_calls_words (Posts question next) r (call ∷ b) words = by (board_answer question call) (λ answer. turn_calls_words (next answer) r b (words answer))
  where
    by : (o : Option (BoardAnswer question)) → ((answer : BoardAnswer question) → CallsWords (transcript_of (next answer) r b))
        → CallsWords (elim o [ Some answer ↦ posting (board_call question answer) (transcript_of (next answer) r b) | None ↦ broken ])
    by None later = All-nil AsksOfWord
    by (Some answer) later = later answer

followed_words : (d : Dialogue) (later : ScriptState → Dialogue) → AsksWords d → ((after : ScriptState) → AsksWords (later after)) → AsksWords (followed d later)
followed_words (Ends after) later words rest = rest after
followed_words (Says answers next) later words rest = followed_words next later words rest
followed_words (Asks question next) later words rest = λ answer. ((words answer).0, followed_words (next answer) later (words answer).1 rest)
followed_words (Posts question next) later words rest = λ answer. followed_words (next answer) later (words answer) rest

if_words : (c : Bool) (d e : Dialogue) → AsksWords d → AsksWords e → AsksWords (if c then d else e)
if_words true d e first second = first
if_words false d e first second = second

unless_words : (script_state : ScriptState) (n : ℕ) (refusals : List (Bool × Errno)) (rest : Dialogue) → AsksWords rest → AsksWords (unless script_state n refusals rest)
unless_words script_state n [] rest words = words
unless_words script_state n (refusal ∷ refusals) rest words = if_words refusal.0 _ _ tt (unless_words script_state n refusals rest words)

label_words : (script_state : ScriptState) (n : ℕ) (o : Option Live) (errno : Errno) (rest : Live → Dialogue) → ((live : Live) → AsksWords (rest live)) → AsksWords (for_live script_state n o errno rest)
label_words script_state n None errno rest words = tt
label_words script_state n (Some live) errno rest words = words live

-- ---- commands

register_words : (script_state : ScriptState) (n priority : ℕ) (spec : Option Spec) → AsksWords (enlist_spec script_state n priority spec)
register_words script_state n priority None = tt
register_words script_state n priority (Some spec) = if_words (nat_lt 100000 priority) _ _ tt (λ answer. (tt, tt))

look_words : (name : List ℕ) (read : Result Tree Errno) (rest : Found → Dialogue) → ((found : Found) → AsksWords (rest found)) → AsksWords (looks_up name read rest)
look_words name (Ok tree) rest words = λ found. (tt, words found)
look_words name (Err errno) rest words = words (Fault errno)

looks_words : (n : ℕ) (names : List (List ℕ)) (rest : _ → Dialogue) → ((answers : _) → AsksWords (rest answers)) → AsksWords (looks_all n names rest)
looks_words n [] rest words = words []
looks_words n (name ∷ names) rest words =
    look_words name (name_read name) _ (λ found. looks_words n names (λ answers. rest (found_said n name found ∷ answers)) (λ answers. words (found_said n name found ∷ answers)))

creates_words : (shape : Option Shape) (rest : Option PipelineState → Dialogue) → ((pipe : Option PipelineState) → AsksWords (rest pipe)) → AsksWords (creates shape rest)
creates_words None rest words = words None
creates_words (Some shape) rest words = λ number. words (Some _)

plan_words : (workers : ℕ) (script_state : ScriptState) (n : ℕ) (label : List ℕ) (len : Option ℕ) (id : ℕ) (spec : Spec) (plan : Option Plan) → AsksWords (binds_plan workers script_state n label len id spec plan)
plan_words workers script_state n label len id spec None = tt
plan_words workers script_state n label len id spec (Some plan) = λ ok. (tt, if_words (not ok) _ _ tt (creates_words (shape_for workers (is_chained spec.driver) spec.wrap len) _ (λ pipe. tt)))

binds_words : (workers : ℕ) (script_state : ScriptState) (n : ℕ) (label : List ℕ) (len : Option ℕ) (found : Found) → AsksWords (binds workers script_state n label len found)
binds_words workers script_state n label len (Fault errno) = tt
binds_words workers script_state n label len (Entry id spec) = plan_words workers script_state n label len id spec (plan_for spec len)

alloc_words : (workers : ℕ) (script_state : ScriptState) (n : ℕ) (label name : List ℕ) (len : Option ℕ) → AsksWords (alloc workers script_state n label name len)
alloc_words workers script_state n label name len =
    unless_words script_state n
    ((is_some (either (live_of script_state label) (shared_of script_state label)), EEXIST) ∷ (nat_le 4096 (length script_state.lives), EMFILE) ∷ fault_of (name_read name) ++ (not (is_queue_length len), EINVAL) ∷ [])
    _ (λ found. (tt, binds_words workers script_state n label len found))

closes_words : (script_state : ScriptState) (n : ℕ) (live : Live) (pipe : Option PipelineState) → AsksWords (closes script_state n live pipe)
closes_words script_state n live None = λ done. (tt, tt)
closes_words script_state n live (Some pipe) = if_words (nat_lt pipe.delivered (length pipe.lines)) _ _ tt (λ closed done. (tt, tt))

entered_words : (script_state : ScriptState) (n : ℕ) (live : Live) (pipe : PipelineState) (asked : Asked) (answer : Entered) → AsksWords (entered script_state n live pipe asked answer)
entered_words script_state n live pipe asked (InProgress number) = tt
entered_words script_state n live pipe asked (Busy number) = tt
entered_words script_state n live pipe asked NoSpace = tt

hands_words : (script_state : ScriptState) (n : ℕ) (live : Live) (pipe : PipelineState) (asked : Asked) (backlog : Bool) (bound : Option ℕ) → AsksWords (hands_in script_state n live pipe asked backlog bound)
hands_words script_state n live pipe asked backlog None = λ number. tt
hands_words script_state n live pipe asked backlog (Some max) = λ answer. entered_words script_state n live pipe asked answer

requests_words : (script_state : ScriptState) (n : ℕ) (live : Live) (asked : Asked) (backlog : Bool) (pipe : Option PipelineState) → AsksWords (requests_in script_state n live asked backlog pipe)
requests_words script_state n live asked backlog None = tt
requests_words script_state n live asked backlog (Some pipe) = if_words pipe.mask_is_empty _ _ tt (if_words (is_too_big script_state asked.request) _ _ tt (hands_words script_state n live pipe asked backlog pipe.bound))

key_words : (script_state : ScriptState) (n : ℕ) (live : Live) (request : Request) (backlog : Bool) (key : Option (List ℕ)) → AsksWords (requests_under script_state n live request backlog key)
key_words script_state n live request backlog None = tt
key_words script_state n live request backlog (Some key) = if_words (not (takes live.plan live.tag_size request)) _ _ tt (requests_words script_state n live _ backlog live.pipe)

request_words : (script_state : ScriptState) (n : ℕ) (label : List ℕ) (asked : Request) (backlog : Bool) → AsksWords (request script_state n label asked backlog)
request_words script_state n label asked backlog = label_words script_state n (either (live_of script_state label) (shared_of script_state label)) ENOENT _ (λ live. key_words script_state n live asked backlog live.key)

if_pad_words : (script_state : ScriptState) (n : ℕ) (bound : Option ℕ) (rest : Dialogue) → AsksWords rest → AsksWords (if_pad script_state n bound rest)
if_pad_words script_state n None rest words = words
if_pad_words script_state n (Some max) rest words = tt

pad_words : (script_state : ScriptState) (n : ℕ) (pipe : Option PipelineState) (rest : PipelineState → Dialogue) → ((pipe : PipelineState) → AsksWords (rest pipe)) → AsksWords (with_pad script_state n pipe rest)
pad_words script_state n None rest words = tt
pad_words script_state n (Some pipe) rest words = if_pad_words script_state n pipe.bound (rest pipe) (words pipe)

if_queue_words : (script_state : ScriptState) (n : ℕ) (bound : Option ℕ) (rest : Dialogue) → AsksWords rest → AsksWords (if_queue script_state n bound rest)
if_queue_words script_state n None rest words = tt
if_queue_words script_state n (Some max) rest words = words

queue_words : (script_state : ScriptState) (n : ℕ) (pipe : Option PipelineState) (rest : PipelineState → Dialogue) → ((pipe : PipelineState) → AsksWords (rest pipe)) → AsksWords (with_queue script_state n pipe rest)
queue_words script_state n None rest words = tt
queue_words script_state n (Some pipe) rest words = if_queue_words script_state n pipe.bound (rest pipe) (words pipe)

polls_words : (script_state : ScriptState) (n : ℕ) (live : Live) (pipe : Option PipelineState) → AsksWords (polls_in script_state n live pipe)
polls_words script_state n live None = tt
polls_words script_state n live (Some pipe) = λ told. tt

drains_words : (script_state : ScriptState) (n : ℕ) (live : Live) (pipe : Option PipelineState) → AsksWords (drains_in script_state n live pipe)
drains_words script_state n live None = tt
drains_words script_state n live (Some pipe) = if_words pipe.held _ _ tt (λ notices. tt)

command_words : (workers : ℕ) (script_state : ScriptState) (n : ℕ) (c : Command) → NamesWords (line.Cmd c) → AsksWords (command_dialogue workers script_state n c)
command_words workers script_state n (command.Aes key block) word = tt
command_words workers script_state n (command.Register driver priority) word = register_words script_state n priority (driver_spec driver priority)
command_words workers script_state n (command.Unregister driver) word = λ id. (word, tt)
command_words workers script_state n (command.Probe names) word = looks_words n names _ (λ answers. tt)
command_words workers script_state n (command.Alloc label name len) word = alloc_words workers script_state n label name len
command_words workers script_state n (command.Key label key) word = label_words script_state n (live_of script_state label) (missing (shared_of script_state label)) _ (λ live. if_words (not (takes_key live.plan key)) _ _ tt tt)
command_words workers script_state n (command.Authsize label size) word = label_words script_state n (live_of script_state label) (missing (shared_of script_state label)) _ (λ live. if_words (not (takes_tag live.plan size)) _ _ tt tt)
command_words workers script_state n (command.Enc label iv aad text backlog) word = request_words script_state n label _ backlog
command_words workers script_state n (command.Dec label iv aad text backlog) word = request_words script_state n label _ backlog
command_words workers script_state n (command.Mac label text backlog) word = request_words script_state n label _ backlog
command_words workers script_state n (command.Bulk label size seed) word = label_words script_state n (either (live_of script_state label) (shared_of script_state label)) ENOENT _ (λ live. tt)
command_words workers script_state n (command.Mask label bits) word = label_words script_state n (live_of script_state label) (missing (shared_of script_state label)) _ (λ live. pad_words script_state n live.pipe _ (λ pipe done. tt))
command_words workers script_state n (command.Hold label) word = label_words script_state n (live_of script_state label) (missing (shared_of script_state label)) _ (λ live. queue_words script_state n live.pipe _ (λ pipe done. tt))
command_words workers script_state n (command.Go label) word = label_words script_state n (live_of script_state label) (missing (shared_of script_state label)) _ (λ live. queue_words script_state n live.pipe _ (λ pipe done. tt))
command_words workers script_state n (command.Poll label) word = label_words script_state n (live_of script_state label) (missing (shared_of script_state label)) _ (λ live. polls_words script_state n live live.pipe)
command_words workers script_state n (command.Drain label) word = label_words script_state n (live_of script_state label) (missing (shared_of script_state label)) _ (λ live. drains_words script_state n live live.pipe)
command_words workers script_state n (command.Free label) word = label_words script_state n (live_of script_state label) (missing (shared_of script_state label)) _ (λ live. closes_words script_state n live live.pipe)
command_words workers script_state n (command.Refs driver) word = λ answer. (word, tt)
command_words workers script_state n command.List word = λ rows. (tt, tt)

-- ---- scripts

line_words : (workers : ℕ) (script_state : ScriptState) (n : ℕ) (next : Line) → NamesWords next → AsksWords (line_dialogue workers script_state n next)
line_words workers script_state n line.Nothing words = tt
line_words workers script_state n line.Malformed words = tt
line_words workers script_state n (line.Cmd c) words = command_words workers script_state n c words

go_words : (pipe : Option PipelineState) (rest : Dialogue) → AsksWords rest → AsksWords (lets_go pipe rest)
go_words None rest words = words
go_words (Some pipe) rest words = if_words pipe.held _ _ (λ done. words) words

all_go_words : (lives : List Live) (rest : Dialogue) → AsksWords rest → AsksWords (let_all_go lives rest)
all_go_words [] rest words = words
all_go_words (live ∷ lives) rest words = go_words live.pipe (let_all_go lives rest) (all_go_words lives rest words)

last_words : (label : List ℕ) (pipe : Option PipelineState) (rest : Dialogue) → AsksWords rest → AsksWords (drains_at_end label pipe rest)
last_words label None rest words = words
last_words label (Some pipe) rest words = λ notices. words

drain_all_words : (lives : List Live) (rest : Dialogue) → AsksWords rest → AsksWords (drain_all lives rest)
drain_all_words [] rest words = words
drain_all_words (live ∷ lives) rest words = last_words live.label live.pipe (drain_all lives rest) (drain_all_words lives rest words)

end_words : (script_state : ScriptState) → AsksWords (end script_state)
end_words script_state = all_go_words script_state.lives _ (drain_all_words script_state.lives _ (λ done. tt))

end_beside_words : (script_state : ScriptState) → AsksWords (end_beside script_state)
end_beside_words script_state = all_go_words script_state.lives _ (drain_all_words script_state.lives _ tt)

shares_words : (pipe : Option PipelineState) (rest : Dialogue) → AsksWords rest → AsksWords (shares pipe rest)
shares_words None rest words = words
shares_words (Some pipe) rest words = λ done. words

share_all_words : (lives : List Live) (rest : Dialogue) → AsksWords rest → AsksWords (share_all lives rest)
share_all_words [] rest words = words
share_all_words (live ∷ lives) rest words = shares_words live.pipe (share_all lives rest) (share_all_words lives rest words)

-- lines, and then what names words
lines_words : (workers : ℕ) (script_state : ScriptState) (n : ℕ) (lines : List Line) (rest : ScriptState → Dialogue) → ((script_state : ScriptState) → AsksWords (rest script_state)) → All NamesWords lines → AsksWords (lines_dialogue workers script_state n lines rest)
lines_words workers script_state n [] rest last words = last script_state
lines_words workers script_state n (next ∷ lines) rest last words =
    followed_words (line_dialogue workers script_state n next) _ (line_words workers script_state n next (All-head NamesWords next lines words))
    (λ after. lines_words workers after (n + 1) lines rest last (All-tail NamesWords next lines words))

-- the calls that a script makes of its registry name words
pub script_asks_of_words : (workers : ℕ) (script_state : ScriptState) (lines : List Line) (r : List RegCall) (b : List BoardCall) → All NamesWords lines
    → All AsksOfWord (transcript_of (script workers script_state lines) r b).registry
script_asks_of_words workers script_state lines r b words = turn_calls_words (script workers script_state lines) r b (lines_words workers script_state 1 lines end end_words words)

-- beside others, and a first part with what follows on it
pub beside_asks_of_words : (workers : ℕ) (script_state : ScriptState) (lines : List Line) (r : List RegCall) (b : List BoardCall) → All NamesWords lines
    → All AsksOfWord (transcript_of (script_beside workers script_state lines) r b).registry
beside_asks_of_words workers script_state lines r b words = turn_calls_words (script_beside workers script_state lines) r b (lines_words workers script_state 1 lines end_beside end_beside_words words)

pub part_asks_of_words : (workers : ℕ) (script_state : ScriptState) (lines : List Line) (r : List RegCall) (b : List BoardCall) → All NamesWords lines
    → All AsksOfWord (transcript_of (lines_dialogue workers script_state 1 lines Ends) r b).registry
part_asks_of_words workers script_state lines r b words = turn_calls_words (lines_dialogue workers script_state 1 lines Ends) r b (lines_words workers script_state 1 lines Ends (λ after. tt) words)

pub closing_asks_of_words : (script_state : ScriptState) (r : List RegCall) (b : List BoardCall) → All AsksOfWord (transcript_of (closing script_state) r b).registry
closing_asks_of_words script_state r b = turn_calls_words (closing script_state) r b (share_all_words script_state.lives _ (end_words script_state))

-- ---- histories

-- what an entry of the caller asks of a driver, it asks of a word
abbrev pub EntryOf : ℕ → RegEntry → Type 0
EntryOf caller (entry.Unlist by driver answer) = by ≡ caller → is_word driver ≡ true
EntryOf caller (entry.Refs by driver) = by ≡ caller → is_word driver ≡ true
EntryOf caller _ = ⊤

first_call : (own : Bool) (call : RegCall) (rest : List RegCall) → All AsksOfWord (prepend (if own then Some call else None) rest) → own ≡ true → AsksOfWord call
first_call true call rest words is = All-head AsksOfWord call rest words
first_call false call rest words is = absurd cc

later_calls : (o : Option RegCall) (rest : List RegCall) → All AsksOfWord (prepend o rest) → All AsksOfWord rest
later_calls None rest words = words
later_calls (Some call) rest words = All-tail AsksOfWord call rest words

entry_of_calls : (h : List RegEntry) (caller : ℕ) (before : List RegEntry) (e : RegEntry) (rest : List RegCall) → All AsksOfWord (prepend (reg_call_of h caller before e) rest) → EntryOf caller e
entry_of_calls h caller before (entry.Unlist by driver answer) rest words = λ own. first_call (by == caller) (Unlists driver answer) rest words (eq-eqb by caller own)
entry_of_calls h caller before (entry.Refs by driver) rest words = λ own. first_call (by == caller) (Counts driver _) rest words (eq-eqb by caller own)
entry_of_calls h caller before _ rest words = tt

entries_from : (h : List RegEntry) (caller : ℕ) (before entries : List RegEntry) → All AsksOfWord (reg_calls_from h caller before entries) → All (EntryOf caller) entries
entries_from h caller before [] words = All-nil (EntryOf caller)
entries_from h caller before (e ∷ es) words =
    let rest : List RegCall = reg_calls_from h caller (before ++ e ∷ []) es in
    All-cons (EntryOf caller) e es (entry_of_calls h caller before e rest words)
    (entries_from h caller (before ++ e ∷ []) es (later_calls (reg_call_of h caller before e) rest words))

-- so does each entry of the caller in a history whose calls are these
pub entries_of_calls : (caller : ℕ) (h : List RegEntry) → All AsksOfWord (reg_calls caller h) → All (EntryOf caller) h
unfolding reg_calls
entries_of_calls caller h words = entries_from h caller [] h words
