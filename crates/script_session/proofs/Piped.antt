-- What lines do with the pipeline of one transform.
use Rattle.std.proofs.Common.{◌≡◌, ◌⊎◌, inl, inr, ℕ, suc, ◌+◌, ◌^◌, ◌<◌, ◌≤◌, Bool, true, false, cond, List, [], ◌∷◌, ◌++◌, length, map, Option, Some, None, Result, Ok, Err, refl, sym, ap, subst, ◌∙◌, append-nil, add-zero, zero-add, arith}
use Rattle.std.specs.Prelude.{MatchResult, ◌==◌, is_some, find, if◌then◌else◌, ◌&&◌, ◌||◌, nat_le, nat_lt, not}
use Rattle.std.specs.Option.{option_map}
use Rattle.kc_base.specs.Handed.{Handed}
use Rattle.kc_base.specs.declared.callback_list.Callback.{Callback}
use Rattle.kc_base.specs.declared.callback_list.Callback.TheVariants as callback
use Rattle.kc_base.specs.declared.error_numbers.Errno.{Errno}
use Rattle.kc_base.specs.declared.error_numbers.Errno.TheVariants.{EINVAL, E2BIG, EBUSY, EINPROGRESS, ENOSPC}
use Rattle.board.specs.declared.entry.BoardEntry.{BoardEntry}
use Rattle.board.specs.Entries.{entries_of, submissions}
use Rattle.board.specs.HandedOut.{HandsOutAtMost, completions}
use Rattle.board.specs.Legal.{LegalBoard}
use Rattle.board.specs.declared.board_core.BoardErr.{BoardErr}
use Rattle.board.specs.declared.board_core.BoardErr.TheVariants as board_err
use Rattle.transforms.specs.declared.ask.Ask.{Ask}
use Rattle.transforms.specs.declared.request.Finished.{Finished}
use Rattle.reply_text.specs.declared.answers.Answer.{Answer}
use Rattle.reply_text.specs.declared.answers.Answer.TheVariants as said
use Rattle.reply_text.specs.declared.origin.Origin.{Origin}
use Rattle.std.proofs.lemmas.List.{length-map}
use Rattle.turn_lock.specs.Turns.{Known}
use Rattle.std.proofs.lemmas.Bool.{ltb-false, lt-leb, le-ltb, leb-false}
use Rattle.board.specs.Allowance.{IsAllowed}
use Rattle.board.specs.declared.entry.Entered.{Entered}
use Rattle.board.specs.declared.entry.Entered.TheVariants.{InProgress, Busy, NoSpace}
use Rattle.transforms.specs.AskValue.{ask_size}
use Rattle.dialogues.specs.BoardCalls.{Asked, asked_by, origin_of, Collects, Submits, Enqueues, Masks, BoardCall}
use Rattle.dialogues.specs.RequestCommands.{set_key, set_tag_size, value_said, requests_in, hands_in, is_too_big, accepting, value_of}
use Rattle.script_session.specs.Keyed.{manned_as, held_as, delivering, with_line, MayDeliver}
use Rattle.script_session.specs.ReplyText.{collects, collected_said}
use Rattle.script_session.specs.Settings.{holds_or_goes, hold_call, sets}
use Rattle.script_session.specs.declared.settings.Setting.{Setting}
use Rattle.script_session.specs.declared.settings.Setting.TheVariants as set
use Rattle.script_session.specs.Offers.{IsAnswerOf, Offered, offer_call, entered_said}
use Rattle.recorded_calls.specs.Pipelines.{IsPad, IsQueue, Polled, entered_pipe, entered_asks, with_ask, Unchanged, Changed, notice_by, Drained}
use Rattle.transforms.specs.Plans.{takes_key, takes_tag}
use Rattle.transforms.specs.declared.tfm_err.TfmErr.{TfmErr}
use Rattle.transforms.specs.declared.tfm_err.TfmErr.TheVariants.{Inval, Memory as OfMemory}
use Rattle.script_session.specs.CallbackText.{callback_said}
use Rattle.dialogues.specs.Dialogues.{Dialogue, says, answers_errno, for_live, missing, with_label, Posts}
use Rattle.dialogues.specs.Questions.{Drain, Hold, Go}
use Rattle.dialogues.specs.PipelineCommands.{mask, masks, kept_bits, with_pad, if_pad, with_queue, if_queue, poll, polls_in, notice_said, tells, drain, drains_in, completions as completed_in}
use Rattle.dialogues.specs.Transcripts.{Transcript, IsTranscript}
use Rattle.dialogues.specs.ScriptState.{ScriptState, Live, PipelineState, is_of, live_of, shared_of, with_live, with_pipe, replaced}
use Rattle.script_session.specs.States.{HasPipe, PipelinesMatch, is_at}
use Rattle.script_session.specs.TransformChanges.{PerformsFor, StopsFor, counting}
use Rattle.recorded_calls.proofs.Boarding.{kept-same}
use Rattle.script_session.proofs.Changing.{changes-pipe, changes-kept}
use Rattle.script_session.proofs.Stopping.{for-held}

-- ---- the state with a transform as it was

replaced-first : (live x : Live) (xs : List Live) (b : Bool) → cond b (Some x) (find (is_of live.label) xs) ≡ Some live → (find (is_of live.label) xs ≡ Some live → replaced live xs ≡ xs) → cond b (live ∷ xs) (x ∷ replaced live xs) ≡ x ∷ xs
replaced-first live x xs true e go = (let same : x ≡ live = cc in ap (λ l. l ∷ xs) (sym same))
replaced-first live x xs false e go = ap (λ ls. x ∷ ls) (go e)

replaced-same : (live : Live) (lives : List Live) → find (is_of live.label) lives ≡ Some live → replaced live lives ≡ lives
replaced-same live [] e = refl
replaced-same live (x ∷ xs) e = replaced-first live x xs (is_of live.label x) e (replaced-same live xs)

pub counting-none : (script_state : ScriptState) → counting script_state [] ≡ script_state
counting-none script_state = ap (λ n. record script_state { requests = n; bytes = script_state.bytes + 0 }) (add-zero script_state.requests) ∙ ap (λ n. record script_state { bytes = n }) (add-zero script_state.bytes)

pub kept-live : (script_state : ScriptState) (live : Live) → live_of script_state live.label ≡ Some live → counting (with_live script_state live) [] ≡ script_state
kept-live script_state live found = counting-none (with_live script_state live) ∙ ap (λ ls. record script_state { lives = ls }) (replaced-same live script_state.lives found)

-- ---- nothing is asked

abbrev pub answered : ScriptState → Answer → Transcript
answered script_state answer = record { registry = []; board = []; answers = answer ∷ []; after = Some script_state }

pub says-for : (d : ScriptState → Dialogue) (live : Live) (k : Known (BoardEntry Ask)) (answer : Answer) (answers answers' : List Answer) → HasPipe k live.pipe → LegalBoard k.seen
    → ((script_state : ScriptState) → live_of script_state live.label ≡ Some live → PipelinesMatch script_state k → d script_state ≡ says script_state answer) → answers' ≡ answers ++ answer ∷ [] → PerformsFor d live live k k [] answers answers'
says-for d live k answer answers answers' on legal is e =
    record {
      calls = [];
      said = answer ∷ [];
      changes = changes-kept live k k on (kept-same k legal);
      is = λ script_state found posted.
          subst (λ w. IsTranscript (d script_state) (answered w answer)) (sym (kept-live script_state live found)) (subst (λ x. IsTranscript x (answered script_state answer)) (sym (is script_state found posted)) refl);
      says = e;
    }

-- ---- what is told

pub said-is : (lines : List Origin) (callbacks : List (Callback Finished)) → map notice_said (map (notice_by lines) callbacks) ≡ map (callback_said lines) callbacks
said-is lines [] = refl
said-is lines (callback.Started n ∷ xs) = ap (λ rest. callback_said lines (callback.Started n) ∷ rest) (said-is lines xs)
said-is lines (callback.Done n f ∷ xs) = ap (λ rest. callback_said lines (callback.Done n f) ∷ rest) (said-is lines xs)

pub count-is : (lines : List Origin) (callbacks : List (Callback Finished)) → completed_in (map (notice_by lines) callbacks) ≡ completions callbacks
count-is lines [] = refl
count-is lines (callback.Started n ∷ xs) = count-is lines xs
count-is lines (callback.Done n f ∷ xs) = ap (λ n. suc n) (count-is lines xs)

-- it handed these out
pub delivered-live : (live live' : Live) (pipe : PipelineState) (count : ℕ) (callbacks : List (Callback Finished)) → live.pipe ≡ Some pipe → count ≡ completions callbacks → live' ≡ delivering live count
    → live' ≡ record live { pipe = Some (record pipe { delivered = pipe.delivered + completions callbacks }) }
delivered-live live live' pipe count callbacks has counts is =
    is ∙ (ap (λ o. record live { pipe = option_map (λ (p : PipelineState). record p { delivered = p.delivered + count }) o }) has ∙ ap (λ c. record live { pipe = Some (record pipe { delivered = pipe.delivered + c }) }) counts)

-- ---- `drain T` and `poll T`

pub drain-at : (script_state : ScriptState) (n : ℕ) (live : Live) → live_of script_state live.label ≡ Some live → drain script_state n live.label ≡ drains_in script_state n live live.pipe
drain-at script_state n live found = ap (λ o. for_live script_state n o (missing (shared_of script_state live.label)) (λ (l : Live). drains_in script_state n l l.pipe)) found

pub poll-at : (script_state : ScriptState) (n : ℕ) (live : Live) → live_of script_state live.label ≡ Some live → poll script_state n live.label ≡ polls_in script_state n live live.pipe
poll-at script_state n live found = ap (λ o. for_live script_state n o (missing (shared_of script_state live.label)) (λ (l : Live). polls_in script_state n l l.pipe)) found

-- without a pipeline there is nothing to collect
pub collect-none : (waits : Bool) (script_state : ScriptState) (n : ℕ) (live : Live) → live.pipe ≡ None → live_of script_state live.label ≡ Some live → collects waits script_state n live.label ≡ says script_state (collected_said n waits 0)
collect-none true script_state n live none found = drain-at script_state n live found ∙ ap (drains_in script_state n live) none
collect-none false script_state n live none found = poll-at script_state n live found ∙ ap (polls_in script_state n live) none

abbrev if_held : ScriptState → ℕ → Live → PipelineState → Bool → Dialogue
if_held script_state n live pipe held = if held then answers_errno script_state n EINVAL else (Posts (Drain pipe.number) λ notices. tells script_state live pipe notices (said.Drained n (completed_in notices)))

drain-asks : (script_state : ScriptState) (n : ℕ) (live : Live) (pipe : PipelineState) (held : Bool) → live.pipe ≡ Some pipe → pipe.held ≡ held → live_of script_state live.label ≡ Some live → drain script_state n live.label ≡ if_held script_state n live pipe held
drain-asks script_state n live pipe held has is found = drain-at script_state n live found ∙ (ap (drains_in script_state n live) has ∙ ap (if_held script_state n live pipe) is)

-- a held queue isn't drained
pub collect-held : (waits : Bool) (script_state : ScriptState) (n : ℕ) (live : Live) (pipe : PipelineState) → live.pipe ≡ Some pipe → (waits && pipe.held) ≡ true → live_of script_state live.label ≡ Some live → collects waits script_state n live.label ≡ answers_errno script_state n EINVAL
collect-held true script_state n live pipe has held found = drain-asks script_state n live pipe true has held found
collect-held false script_state n live pipe has held found = absurd cc

drain-holds : (k l : Known (BoardEntry Ask)) (live live' : Live) (pipe : PipelineState) (n count : ℕ) (callbacks : List (Callback Finished)) (answers answers' : List Answer)
    → live.pipe ≡ Some pipe → pipe.held ≡ false → Drained k l pipe callbacks → count ≡ completions callbacks → live' ≡ delivering live count
    → answers' ≡ answers ++ (map (callback_said pipe.lines) callbacks ++ said.Drained n count ∷ []) → PerformsFor (λ script_state. drain script_state n live.label) live live' k l [] answers answers'
drain-holds k l live live' pipe n count callbacks answers answers' has free drained counts live_is e =
    let notices = map (notice_by pipe.lines) callbacks in
    let pipe' : PipelineState = record pipe { delivered = pipe.delivered + completions callbacks } in
    let new : Live = record live { pipe = Some pipe' } in
    let call : BoardCall = Collects pipe.number (record { notices = notices; all_done = true }) in
    let live-is : live' ≡ new = delivered-live live live' pipe count callbacks has counts live_is in
    subst (λ x. PerformsFor (λ script_state. drain script_state n live.label) live x k l [] answers answers') (sym live-is) (record {
      calls = call ∷ [];
      said = (map notice_said notices ++ said.Drained n (completed_in notices) ∷ []) ++ [];
      changes = changes-pipe live k l pipe pipe' (call ∷ []) [] has drained;
      is = λ script_state found posted.
          subst (λ d. IsTranscript d (record { registry = []; board = call ∷ []; answers = (map notice_said notices ++ said.Drained n (completed_in notices) ∷ []) ++ []; after = Some (counting (with_live script_state new) []) })) (sym (drain-asks script_state n live pipe false has free found))
          (subst (λ w. IsTranscript (Posts (Drain pipe.number) λ notices. tells script_state live pipe notices (said.Drained n (completed_in notices))) (record { registry = []; board = call ∷ []; answers = (map notice_said notices ++ said.Drained n (completed_in notices) ∷ []) ++ []; after = Some w })) (sym (counting-none (with_live script_state new)))
          (ap (λ c. record { registry = []; board = call ∷ []; answers = (map notice_said notices ++ said.Drained n (completed_in notices) ∷ []) ++ []; after = Some (with_pipe script_state live (record pipe { delivered = pipe.delivered + c })) }) (count-is pipe.lines callbacks)));
      says =
          e ∙ ap (λ x. answers ++ x)
          (ap (λ x. x ++ said.Drained n count ∷ []) (sym (said-is pipe.lines callbacks))
          ∙ (ap (λ c. map notice_said notices ++ said.Drained n c ∷ []) (counts ∙ sym (count-is pipe.lines callbacks)) ∙ sym (append-nil (map notice_said notices ++ said.Drained n (completed_in notices) ∷ []))));
    })

-- ---- requests

-- nothing is asked, while others go on
pub says-kept : (d : ScriptState → Dialogue) (live : Live) (k l : Known (BoardEntry Ask)) (answer : Answer) (answers answers' : List Answer) → HasPipe k live.pipe → Unchanged k l
    → ((script_state : ScriptState) → PipelinesMatch script_state k → d script_state ≡ says script_state answer) → answers' ≡ answers ++ answer ∷ [] → PerformsFor d live live k l [] answers answers'
says-kept d live k l answer answers answers' on kept is e =
    record {
      calls = [];
      said = answer ∷ [];
      changes = changes-kept live k l on kept;
      is = λ script_state found posted.
          subst (λ w. IsTranscript (d script_state) (answered w answer)) (sym (kept-live script_state live found)) (subst (λ x. IsTranscript x (answered script_state answer)) (sym (is script_state posted)) refl);
      says = e;
    }

pub request-plain : (script_state : ScriptState) (n : ℕ) (live : Live) (asked : Asked) (backlog : Bool) → live.pipe ≡ None → requests_in script_state n live asked backlog live.pipe ≡ says script_state (value_said n (value_of asked))
request-plain script_state n live asked backlog none = ap (requests_in script_state n live asked backlog) none

fits : (requests bytes size : ℕ) → requests < 2 ^ 20 → bytes + size ≤ 2 ^ 26 → (nat_le (2 ^ 20) requests || nat_lt (2 ^ 26) (bytes + size)) ≡ false
fits requests bytes size few short = ap (λ t. t || nat_lt (2 ^ 26) (bytes + size)) (lt-leb (2 ^ 20) requests few) ∙ le-ltb (2 ^ 26) (bytes + size) short

fits_not : (requests bytes size : ℕ) (many long : Bool) → nat_le (2 ^ 20) requests ≡ many → nat_lt (2 ^ 26) (bytes + size) ≡ long → ((requests < 2 ^ 20) × (bytes + size ≤ 2 ^ 26) → ⊥) → (many || long) ≡ true
fits_not requests bytes size true long m l never = refl
fits_not requests bytes size false true m l never = refl
fits_not requests bytes size false false m l never = absurd (never (leb-false (2 ^ 20) requests m, ltb-false (2 ^ 26) (bytes + size) l))

not-big : (script_state : ScriptState) (k : Known (BoardEntry Ask)) (ask : Ask) → PipelinesMatch script_state k → IsAllowed ask_size k.seen k.number ask → is_too_big script_state ask.request ≡ false
not-big script_state k ask posted allowed = fits script_state.requests script_state.bytes (ask_size ask) (subst (λ n. n < 2 ^ 20) posted.requests allowed.0) (subst (λ n. n + ask_size ask ≤ 2 ^ 26) posted.bytes allowed.1)

big : (script_state : ScriptState) (k : Known (BoardEntry Ask)) (ask : Ask) → PipelinesMatch script_state k → (IsAllowed ask_size k.seen k.number ask → ⊥) → is_too_big script_state ask.request ≡ true
big script_state k ask posted never =
    fits_not script_state.requests script_state.bytes (ask_size ask) (nat_le (2 ^ 20) script_state.requests) (nat_lt (2 ^ 26) (script_state.bytes + ask_size ask)) refl refl
    (λ fit. never (subst (λ n. n < 2 ^ 20) (sym posted.requests) fit.0, subst (λ n. n + ask_size ask ≤ 2 ^ 26) (sym posted.bytes) fit.1))

abbrev if_big : ScriptState → ℕ → Live → PipelineState → Asked → Bool → Bool → Dialogue
if_big script_state n live pipe asked backlog test = if test then answers_errno script_state n E2BIG else hands_in script_state n live pipe asked backlog pipe.bound

abbrev if_mask_is_empty : ScriptState → ℕ → Live → PipelineState → Asked → Bool → Bool → Dialogue
if_mask_is_empty script_state n live pipe asked backlog mask_is_empty = if mask_is_empty then answers_errno script_state n EINVAL else if_big script_state n live pipe asked backlog (is_too_big script_state asked.request)

-- no worker may take from the pipeline
pub request-mask_is_empty : (script_state : ScriptState) (n : ℕ) (live : Live) (pipe : PipelineState) (asked : Asked) (backlog : Bool) → live.pipe ≡ Some pipe → pipe.mask_is_empty ≡ true → requests_in script_state n live asked backlog live.pipe ≡ answers_errno script_state n EINVAL
request-mask_is_empty script_state n live pipe asked backlog has mask_is_empty = ap (requests_in script_state n live asked backlog) has ∙ ap (if_mask_is_empty script_state n live pipe asked backlog) mask_is_empty

request-manned : (script_state : ScriptState) (n : ℕ) (live : Live) (pipe : PipelineState) (asked : Asked) (backlog : Bool) → live.pipe ≡ Some pipe → pipe.mask_is_empty ≡ false
    → requests_in script_state n live asked backlog live.pipe ≡ if_big script_state n live pipe asked backlog (is_too_big script_state asked.request)
request-manned script_state n live pipe asked backlog has manned = ap (requests_in script_state n live asked backlog) has ∙ ap (if_mask_is_empty script_state n live pipe asked backlog) manned

pub request-big : (script_state : ScriptState) (k : Known (BoardEntry Ask)) (n : ℕ) (live : Live) (pipe : PipelineState) (ask : Ask) (backlog : Bool) → live.pipe ≡ Some pipe → pipe.mask_is_empty ≡ false → (IsAllowed ask_size k.seen k.number ask → ⊥) → PipelinesMatch script_state k
    → requests_in script_state n live (asked_by ask) backlog live.pipe ≡ answers_errno script_state n E2BIG
request-big script_state k n live pipe ask backlog has manned never posted = request-manned script_state n live pipe (asked_by ask) backlog has manned ∙ ap (if_big script_state n live pipe (asked_by ask) backlog) (big script_state k ask posted never)

pub request-enters : (script_state : ScriptState) (k : Known (BoardEntry Ask)) (n : ℕ) (live : Live) (pipe : PipelineState) (ask : Ask) (backlog : Bool) → live.pipe ≡ Some pipe → pipe.mask_is_empty ≡ false → IsAllowed ask_size k.seen k.number ask → PipelinesMatch script_state k
    → requests_in script_state n live (asked_by ask) backlog live.pipe ≡ hands_in script_state n live pipe (asked_by ask) backlog pipe.bound
request-enters script_state k n live pipe ask backlog has manned allowed posted = request-manned script_state n live pipe (asked_by ask) backlog has manned ∙ ap (if_big script_state n live pipe (asked_by ask) backlog) (not-big script_state k ask posted allowed)

counting-one : (script_state : ScriptState) (ask : Ask) → record script_state { requests = script_state.requests + 1; bytes = script_state.bytes + ask_size ask } ≡ counting script_state (ask ∷ [])
counting-one script_state ask = ap (λ n. record script_state { requests = script_state.requests + 1; bytes = script_state.bytes + n }) (sym (zero-add (ask_size ask)))

abbrev pub turn_with : BoardCall → Answer → ScriptState → Transcript
turn_with call answer after = record { registry = []; board = call ∷ []; answers = answer ∷ []; after = Some after }

pub accepted-is : (script_state : ScriptState) (n : ℕ) (live : Live) (pipe : PipelineState) (ask : Ask) (call : BoardCall) (errno : Errno)
    → turn_with call (said.Refused n errno) (accepting script_state live pipe (asked_by ask)) ≡ turn_with call (said.Refused n errno) (counting (with_live script_state (record live { pipe = Some (with_ask pipe ask) })) (ask ∷ []))
accepted-is script_state n live pipe ask call errno =
    ap (turn_with call (said.Refused n errno)) (counting-one (with_live script_state (record live { pipe = Some (with_ask pipe ask) })) ask)

-- the turn of a request that a pipeline answered
enters-is : (script_state : ScriptState) (n : ℕ) (live : Live) (pipe : PipelineState) (ask : Ask) (backlog : Bool) (answer : Entered) (bound : Option ℕ) → IsAnswerOf bound answer → live_of script_state live.label ≡ Some live → live.pipe ≡ Some pipe
    → IsTranscript (hands_in script_state n live pipe (asked_by ask) backlog bound) (turn_with (offer_call pipe ask backlog answer bound) (entered_said n answer) (counting (with_live script_state (record live { pipe = Some (entered_pipe pipe ask answer) })) (entered_asks ask answer)))
enters-is script_state n live pipe ask backlog (InProgress number) None ok found has = accepted-is script_state n live pipe ask (Submits pipe.number number (asked_by ask)) EINPROGRESS
enters-is script_state n live pipe ask backlog (InProgress number) (Some max) ok found has = accepted-is script_state n live pipe ask (Enqueues pipe.number (asked_by ask) backlog (InProgress number)) EINPROGRESS
enters-is script_state n live pipe ask backlog (Busy number) (Some max) ok found has = accepted-is script_state n live pipe ask (Enqueues pipe.number (asked_by ask) backlog (Busy number)) EBUSY
enters-is script_state n live pipe ask backlog NoSpace (Some max) ok found has =
    ap (λ w. turn_with (Enqueues pipe.number (asked_by ask) backlog NoSpace) (said.Refused n ENOSPC) w) (sym (ap (λ l. counting (with_live script_state l) []) (ap (λ o. record live { pipe = o }) (sym has)) ∙ kept-live script_state live found))
enters-is script_state n live pipe ask backlog (Busy number) None ok found has = absurd ok
enters-is script_state n live pipe ask backlog NoSpace None ok found has = absurd ok

pub request-holds : (k l : Known (BoardEntry Ask)) (live live' : Live) (pipe : PipelineState) (n : ℕ) (ask : Ask) (backlog : Bool) (answer : Entered) (answers answers' : List Answer)
    → live.pipe ≡ Some pipe → pipe.mask_is_empty ≡ false → Offered k l pipe ask backlog answer → IsAllowed ask_size k.seen k.number ask → live' ≡ record live { pipe = Some (entered_pipe pipe ask answer) } → answers' ≡ answers ++ entered_said n answer ∷ []
    → PerformsFor (λ script_state. requests_in script_state n live (asked_by ask) backlog live.pipe) live live' k l (entered_asks ask answer) answers answers'
request-holds k l live live' pipe n ask backlog answer answers answers' has manned offered allowed live_is e =
    let new : Live = record live { pipe = Some (entered_pipe pipe ask answer) } in
    subst (λ x. PerformsFor (λ script_state. requests_in script_state n live (asked_by ask) backlog live.pipe) live x k l (entered_asks ask answer) answers answers') (sym live_is) (record {
      calls = offer_call pipe ask backlog answer pipe.bound ∷ [];
      said = entered_said n answer ∷ [];
      changes = changes-pipe live k l pipe (entered_pipe pipe ask answer) (offer_call pipe ask backlog answer pipe.bound ∷ []) (entered_asks ask answer) has offered.1;
      is = λ script_state found posted.
          subst (λ d. IsTranscript d (turn_with (offer_call pipe ask backlog answer pipe.bound) (entered_said n answer) (counting (with_live script_state new) (entered_asks ask answer)))) (sym (request-enters script_state k n live pipe ask backlog has manned allowed posted))
          (enters-is script_state n live pipe ask backlog answer pipe.bound offered.0 found has);
      says = e;
    })

-- it was answered, but memory was wanting for what is said
pub request-stopped : (k l : Known (BoardEntry Ask)) (live : Live) (pipe : PipelineState) (n : ℕ) (ask : Ask) (backlog : Bool) (answer : Entered)
    → live.pipe ≡ Some pipe → pipe.mask_is_empty ≡ false → Offered k l pipe ask backlog answer → IsAllowed ask_size k.seen k.number ask
    → StopsFor (λ script_state. requests_in script_state n live (asked_by ask) backlog live.pipe) live k l
request-stopped k l live pipe n ask backlog answer has manned offered allowed =
    let new : Live = record live { pipe = Some (entered_pipe pipe ask answer) } in
    for-held (λ script_state. requests_in script_state n live (asked_by ask) backlog live.pipe) live new k l (entered_asks ask answer) [] (entered_said n answer ∷ [])
    (request-holds k l live new pipe n ask backlog answer [] (entered_said n answer ∷ []) has manned offered allowed refl refl)

pub accepted-live : (live live' : Live) (pipe : PipelineState) (ask : Ask) (of : Origin) → live.pipe ≡ Some pipe → origin_of ask ≡ of → live' ≡ with_line live of → live' ≡ record live { pipe = Some (with_ask pipe ask) }
accepted-live live live' pipe ask of has same is =
    is
    ∙ (ap (λ o. record live { pipe = option_map (λ (p : PipelineState). record p { lines = p.lines ++ of ∷ [] }) o }) has
    ∙ ap (λ at. record live { pipe = Some (record pipe { lines = pipe.lines ++ at ∷ [] }) }) (sym same))

-- ---- lines that set what a transform computes with

-- nothing is asked, and the transform changes, but not its pipeline
pub says-changed : (d : ScriptState → Dialogue) (live live' : Live) (k : Known (BoardEntry Ask)) (answer : Answer) (answers answers' : List Answer) → HasPipe k live.pipe → LegalBoard k.seen
    → live'.label ≡ live.label → live'.id ≡ live.id → live'.pipe ≡ live.pipe → ((script_state : ScriptState) → live_of script_state live.label ≡ Some live → d script_state ≡ says (with_live script_state live') answer) → answers' ≡ answers ++ answer ∷ []
    → PerformsFor d live live' k k [] answers answers'
says-changed d live live' k answer answers answers' on legal label id pipe is e =
    let none = changes-kept live k k on (kept-same k legal) in
    record {
      calls = [];
      said = answer ∷ [];
      changes = record {
        label = label;
        id = id;
        same = λ n. ap (is_at n) pipe;
        called = none.called;
        legal = none.legal;
        pipe = subst (HasPipe k) (sym pipe) on;
        others = none.others;
        owned = none.owned;
        accepted = none.accepted;
        unshut = none.unshut;
      };
      is = λ script_state found posted.
          subst (λ w. IsTranscript (d script_state) (answered w answer)) (sym (counting-none (with_live script_state live'))) (subst (λ x. IsTranscript x (answered (with_live script_state live') answer)) (sym (is script_state found)) refl);
      says = e;
    }

abbrev if_taken : ScriptState → ℕ → Live → List ℕ → Bool → Dialogue
if_taken script_state n live key taken = if not taken then answers_errno script_state n EINVAL else says (with_live script_state (record live { key = Some key })) (said.Ok n)

key-at : (script_state : ScriptState) (n : ℕ) (live : Live) (key : List ℕ) (taken : Bool) → takes_key live.plan key ≡ taken → live_of script_state live.label ≡ Some live → set_key script_state n live.label key ≡ if_taken script_state n live key taken
key-at script_state n live key taken is found = ap (λ o. for_live script_state n o (missing (shared_of script_state live.label)) (λ (l : Live). if_taken script_state n l key (takes_key l.plan key))) found ∙ ap (if_taken script_state n live key) is

pub key-taken : (live live' : Live) (k : Known (BoardEntry Ask)) (n : ℕ) (key : List ℕ) (answers answers' : List Answer) → takes_key live.plan key ≡ true → live' ≡ record live { key = Some key }
    → answers' ≡ answers ++ said.Ok n ∷ [] → HasPipe k live.pipe → LegalBoard k.seen → PerformsFor (λ script_state. set_key script_state n live.label key) live live' k k [] answers answers'
key-taken live live' k n key answers answers' taken is e on legal =
    subst (λ x. PerformsFor (λ script_state. set_key script_state n live.label key) live x k k [] answers answers') (sym is)
    (says-changed (λ script_state. set_key script_state n live.label key) live (record live { key = Some key }) k (said.Ok n) answers answers' on legal refl refl refl (λ script_state found. key-at script_state n live key true taken found) e)

pub key-refused : (live live' : Live) (k : Known (BoardEntry Ask)) (n : ℕ) (key : List ℕ) (error : TfmErr) (answers answers' : List Answer) → error ≡ Inval
    → ((error ≡ OfMemory) ⊎ ((error ≡ Inval) × (takes_key live.plan key ≡ false))) × (live' ≡ live)
    → answers' ≡ answers ++ said.Refused n EINVAL ∷ [] → HasPipe k live.pipe → LegalBoard k.seen → PerformsFor (λ script_state. set_key script_state n live.label key) live live' k k [] answers answers'
key-refused live live' k n key error answers answers' inval why e on legal =
    subst (λ x. PerformsFor (λ script_state. set_key script_state n live.label key) live x k k [] answers answers') (sym why.1)
    (says-for (λ script_state. set_key script_state n live.label key) live k (said.Refused n EINVAL) answers answers' on legal (λ script_state found posted. key-at script_state n live key false (not_taken why.0) found) e)
  where
    not_taken : (error ≡ OfMemory) ⊎ ((error ≡ Inval) × (takes_key live.plan key ≡ false)) → takes_key live.plan key ≡ false
    not_taken (inl memory) = absurd (let bad : Inval ≡ OfMemory = sym inval ∙ memory in cc)
    not_taken (inr refused) = refused.1

abbrev if_sized : ScriptState → ℕ → Live → ℕ → Bool → Dialogue
if_sized script_state n live size taken = if not taken then answers_errno script_state n EINVAL else says (with_live script_state (record live { tag_size = size })) (said.Ok n)

size-at : (script_state : ScriptState) (n : ℕ) (live : Live) (size : ℕ) (taken : Bool) → takes_tag live.plan size ≡ taken → live_of script_state live.label ≡ Some live → set_tag_size script_state n live.label size ≡ if_sized script_state n live size taken
size-at script_state n live size taken is found = ap (λ o. for_live script_state n o (missing (shared_of script_state live.label)) (λ (l : Live). if_sized script_state n l size (takes_tag l.plan size))) found ∙ ap (if_sized script_state n live size) is

pub size-taken : (live live' : Live) (k : Known (BoardEntry Ask)) (n size : ℕ) (answers answers' : List Answer) → takes_tag live.plan size ≡ true → live' ≡ record live { tag_size = size }
    → answers' ≡ answers ++ said.Ok n ∷ [] → HasPipe k live.pipe → LegalBoard k.seen → PerformsFor (λ script_state. set_tag_size script_state n live.label size) live live' k k [] answers answers'
size-taken live live' k n size answers answers' taken is e on legal =
    subst (λ x. PerformsFor (λ script_state. set_tag_size script_state n live.label size) live x k k [] answers answers') (sym is)
    (says-changed (λ script_state. set_tag_size script_state n live.label size) live (record live { tag_size = size }) k (said.Ok n) answers answers' on legal refl refl refl (λ script_state found. size-at script_state n live size true taken found) e)

pub size-refused : (live live' : Live) (k : Known (BoardEntry Ask)) (n size : ℕ) (errno : Errno) (answers answers' : List Answer)
    → (errno ≡ EINVAL) × (takes_tag live.plan size ≡ false) × (live' ≡ live)
    → answers' ≡ answers ++ said.Refused n errno ∷ [] → HasPipe k live.pipe → LegalBoard k.seen → PerformsFor (λ script_state. set_tag_size script_state n live.label size) live live' k k [] answers answers'
size-refused live live' k n size errno answers answers' why e on legal =
    subst (λ x. PerformsFor (λ script_state. set_tag_size script_state n live.label size) live x k k [] answers answers') (sym why.2)
    (says-for (λ script_state. set_tag_size script_state n live.label size) live k (said.Refused n EINVAL) answers answers' on legal (λ script_state found posted. size-at script_state n live size false why.1 found)
    (e ∙ ap (λ x. answers ++ said.Refused n x ∷ []) why.0))

-- ---- `hold T` and `go T`

pub none-of : (o : Option ℕ) → is_some o ≡ false → o ≡ None
none-of None e = refl
none-of (Some n) e = absurd cc

pub queue-of : (o : Option ℕ) → is_some o ≡ true → IsQueue o
queue-of None e = absurd cc
queue-of (Some n) e = tt

-- what is done with a queue
abbrev switches : ScriptState → ℕ → Live → Bool → PipelineState → Dialogue
switches script_state n live true pipe = Posts (Hold pipe.number) λ done. says (with_pipe script_state live (record pipe { held = true })) (said.Ok n)
switches script_state n live false pipe = Posts (Go pipe.number) λ done. says (with_pipe script_state live (record pipe { held = false })) (said.Ok n)

hold-at : (held : Bool) (script_state : ScriptState) (n : ℕ) (live : Live) → live_of script_state live.label ≡ Some live → holds_or_goes script_state n live.label held ≡ with_queue script_state n live.pipe (switches script_state n live held)
hold-at true script_state n live found = ap (λ o. for_live script_state n o (missing (shared_of script_state live.label)) (λ (l : Live). with_queue script_state n l.pipe (switches script_state n l true))) found
hold-at false script_state n live found = ap (λ o. for_live script_state n o (missing (shared_of script_state live.label)) (λ (l : Live). with_queue script_state n l.pipe (switches script_state n l false))) found

-- only a queue is held and let go
pub hold-none : (held : Bool) (script_state : ScriptState) (n : ℕ) (live : Live) → live.pipe ≡ None → live_of script_state live.label ≡ Some live → holds_or_goes script_state n live.label held ≡ answers_errno script_state n EINVAL
hold-none held script_state n live none found = hold-at held script_state n live found ∙ ap (λ o. with_queue script_state n o (switches script_state n live held)) none

pub hold-pad : (held : Bool) (script_state : ScriptState) (n : ℕ) (live : Live) (pipe : PipelineState) → live.pipe ≡ Some pipe → pipe.bound ≡ None → live_of script_state live.label ≡ Some live → holds_or_goes script_state n live.label held ≡ answers_errno script_state n EINVAL
hold-pad held script_state n live pipe has none found =
    hold-at held script_state n live found ∙ (ap (λ o. with_queue script_state n o (switches script_state n live held)) has ∙ ap (λ o. if_queue script_state n o (switches script_state n live held pipe)) none)

queue-bound : (script_state : ScriptState) (n : ℕ) (live : Live) (pipe : PipelineState) (bound : Option ℕ) (rest : PipelineState → Dialogue) → live.pipe ≡ Some pipe → pipe.bound ≡ bound → IsQueue bound → with_queue script_state n live.pipe rest ≡ rest pipe
queue-bound script_state n live pipe None rest has is queue = absurd queue
queue-bound script_state n live pipe (Some max) rest has is queue = ap (λ o. with_queue script_state n o rest) has ∙ ap (λ o. if_queue script_state n o (rest pipe)) is

-- a call on the pipeline of a transform, and then an answer
call-holds : (k l : Known (BoardEntry Ask)) (live live' : Live) (pipe pipe' : PipelineState) (n : ℕ) (call : BoardCall) (d rest : ScriptState → Dialogue) (answers answers' : List Answer)
    → live.pipe ≡ Some pipe → ((script_state : ScriptState) → live_of script_state live.label ≡ Some live → d script_state ≡ rest script_state) → Changed k l pipe pipe' (call ∷ []) []
    → ((script_state : ScriptState) → IsTranscript (rest script_state) (record { registry = []; board = call ∷ []; answers = said.Ok n ∷ []; after = Some (with_pipe script_state live pipe') }))
    → live' ≡ record live { pipe = Some pipe' } → answers' ≡ answers ++ said.Ok n ∷ [] → PerformsFor d live live' k l [] answers answers'
call-holds k l live live' pipe pipe' n call d rest answers answers' has opens changed turns live_is e =
    let new : Live = record live { pipe = Some pipe' } in
    subst (λ x. PerformsFor d live x k l [] answers answers') (sym live_is) (record {
      calls = call ∷ [];
      said = said.Ok n ∷ [];
      changes = changes-pipe live k l pipe pipe' (call ∷ []) [] has changed;
      is = λ script_state found posted.
          subst (λ x. IsTranscript x (record { registry = []; board = call ∷ []; answers = said.Ok n ∷ []; after = Some (counting (with_live script_state new) []) })) (sym (opens script_state found))
          (subst (λ w. IsTranscript (rest script_state) (record { registry = []; board = call ∷ []; answers = said.Ok n ∷ []; after = Some w })) (sym (counting-none (with_live script_state new))) (turns script_state));
      says = e;
    })

pub held-live : (live live' : Live) (pipe : PipelineState) (held : Bool) → live.pipe ≡ Some pipe → live' ≡ held_as live held → live' ≡ record live { pipe = Some (record pipe { held = held }) }
held-live live live' pipe held has is = is ∙ ap (λ o. record live { pipe = option_map (λ (p : PipelineState). record p { held = held }) o }) has

switched : (held : Bool) (script_state : ScriptState) (n : ℕ) (live : Live) (pipe : PipelineState)
    → IsTranscript (switches script_state n live held pipe) (record { registry = []; board = hold_call held pipe.number ∷ []; answers = said.Ok n ∷ []; after = Some (with_pipe script_state live (record pipe { held = held })) })
switched true script_state n live pipe = refl
switched false script_state n live pipe = refl

pub hold-holds : (held : Bool) (k l : Known (BoardEntry Ask)) (live live' : Live) (pipe : PipelineState) (n : ℕ) (answers answers' : List Answer)
    → live.pipe ≡ Some pipe → IsQueue pipe.bound → Changed k l pipe (record pipe { held = held }) (hold_call held pipe.number ∷ []) []
    → live' ≡ held_as live held → answers' ≡ answers ++ said.Ok n ∷ [] → PerformsFor (λ script_state. holds_or_goes script_state n live.label held) live live' k l [] answers answers'
hold-holds held k l live live' pipe n answers answers' has queue changed live_is e =
    call-holds k l live live' pipe (record pipe { held = held }) n (hold_call held pipe.number) (λ script_state. holds_or_goes script_state n live.label held) (λ script_state. switches script_state n live held pipe) answers answers' has
    (λ script_state found. hold-at held script_state n live found ∙ queue-bound script_state n live pipe pipe.bound (switches script_state n live held) has refl queue) changed (λ script_state. switched held script_state n live pipe)
    (held-live live live' pipe held has live_is) e

pub hold-stops : (held : Bool) (k l : Known (BoardEntry Ask)) (live : Live) (pipe : PipelineState) (n : ℕ) → live.pipe ≡ Some pipe → IsQueue pipe.bound → Changed k l pipe (record pipe { held = held }) (hold_call held pipe.number ∷ []) []
    → StopsFor (λ script_state. holds_or_goes script_state n live.label held) live k l
hold-stops held k l live pipe n has queue changed =
    for-held (λ script_state. holds_or_goes script_state n live.label held) live (held_as live held) k l [] [] (said.Ok n ∷ [])
    (hold-holds held k l live (held_as live held) pipe n [] (said.Ok n ∷ []) has queue changed refl refl)

-- the call that holds a queue, or lets it go
pub held-changed : {A : Type 0} (result : Result A BoardErr) (k l : Known (BoardEntry Ask)) (pipe : PipelineState) (given held : Bool) → given ≡ held
    → MatchResult result (λ _. Changed k l pipe (record pipe { held = held }) (hold_call held pipe.number ∷ []) []) (λ e. (e ≡ board_err.Memory) × Unchanged k l)
    → MatchResult result (λ _. Changed k l pipe (record pipe { held = given }) (hold_call given pipe.number ∷ []) []) (λ _. Unchanged k l)
held-changed (Ok done) k l pipe given held is changed = subst (λ x. Changed k l pipe (record pipe { held = x }) (hold_call x pipe.number ∷ []) []) (sym is) changed
held-changed (Err e) k l pipe given held is kept = kept.1

-- ---- `mask T MASK`

mask-at : (workers : ℕ) (script_state : ScriptState) (n bits : ℕ) (live : Live) → live_of script_state live.label ≡ Some live → mask workers script_state n live.label bits ≡ with_pad script_state n live.pipe (masks workers script_state n bits live)
mask-at workers script_state n bits live found = ap (λ o. for_live script_state n o (missing (shared_of script_state live.label)) (λ (l : Live). with_pad script_state n l.pipe (masks workers script_state n bits l))) found

-- only a pad is masked
pub mask-none : (workers : ℕ) (script_state : ScriptState) (n bits : ℕ) (live : Live) → live.pipe ≡ None → live_of script_state live.label ≡ Some live → mask workers script_state n live.label bits ≡ answers_errno script_state n EINVAL
mask-none workers script_state n bits live none found = mask-at workers script_state n bits live found ∙ ap (λ o. with_pad script_state n o (masks workers script_state n bits live)) none

pub mask-queue : (workers : ℕ) (script_state : ScriptState) (n bits : ℕ) (live : Live) (pipe : PipelineState) → live.pipe ≡ Some pipe → is_some pipe.bound ≡ true → live_of script_state live.label ≡ Some live → mask workers script_state n live.label bits ≡ answers_errno script_state n EINVAL
mask-queue workers script_state n bits live pipe has some found = mask-at workers script_state n bits live found ∙ (ap (λ o. with_pad script_state n o (masks workers script_state n bits live)) has ∙ by_bound pipe.bound some)
  where
    by_bound : (bound : Option ℕ) → is_some bound ≡ true → if_pad script_state n bound (masks workers script_state n bits live pipe) ≡ answers_errno script_state n EINVAL
    by_bound None e = absurd cc
    by_bound (Some max) e = refl

pub pad-of : (o : Option ℕ) → is_some o ≡ false → IsPad o
pad-of None e = tt
pad-of (Some n) e = absurd cc

pub mask-holds : (k l : Known (BoardEntry Ask)) (live live' : Live) (pipe : PipelineState) (workers n bits kept : ℕ) (answers answers' : List Answer)
    → live.pipe ≡ Some pipe → is_some pipe.bound ≡ false → kept ≡ kept_bits workers bits → Changed k l pipe (record pipe { mask_is_empty = kept == 0 }) (Masks pipe.number kept ∷ []) []
    → live' ≡ record live { pipe = Some (record pipe { mask_is_empty = kept == 0 }) } → answers' ≡ answers ++ said.Ok n ∷ [] → PerformsFor (λ script_state. mask workers script_state n live.label bits) live live' k l [] answers answers'
mask-holds k l live live' pipe workers n bits kept answers answers' has none is changed live_is e =
    call-holds k l live live' pipe (record pipe { mask_is_empty = kept == 0 }) n (Masks pipe.number kept) (λ script_state. mask workers script_state n live.label bits) (λ script_state. masks workers script_state n bits live pipe) answers answers' has
    (λ script_state found. mask-at workers script_state n bits live found ∙ (ap (λ o. with_pad script_state n o (masks workers script_state n bits live)) has ∙ ap (λ o. if_pad script_state n o (masks workers script_state n bits live pipe)) (none-of pipe.bound none)))
    changed
    (λ script_state. subst (λ m. IsTranscript (masks workers script_state n bits live pipe) (record { registry = []; board = Masks pipe.number m ∷ []; answers = said.Ok n ∷ []; after = Some (with_pipe script_state live (record pipe { mask_is_empty = m == 0 })) })) (sym is) refl)
    live_is e

pub mask-stops : (k l : Known (BoardEntry Ask)) (live : Live) (pipe : PipelineState) (workers n bits kept : ℕ) → live.pipe ≡ Some pipe → is_some pipe.bound ≡ false → kept ≡ kept_bits workers bits
    → Changed k l pipe (record pipe { mask_is_empty = kept == 0 }) (Masks pipe.number kept ∷ []) [] → StopsFor (λ script_state. mask workers script_state n live.label bits) live k l
mask-stops k l live pipe workers n bits kept has none is changed =
    let new : Live = record live { pipe = Some (record pipe { mask_is_empty = kept == 0 }) } in
    for-held (λ script_state. mask workers script_state n live.label bits) live new k l [] [] (said.Ok n ∷ [])
    (mask-holds k l live new pipe workers n bits kept [] (said.Ok n ∷ []) has none is changed refl refl)

pub manned-live : (live live' : Live) (pipe : PipelineState) (mask_is_empty : Bool) → live.pipe ≡ Some pipe → live' ≡ manned_as live mask_is_empty → live' ≡ record live { pipe = Some (record pipe { mask_is_empty = mask_is_empty }) }
manned-live live live' pipe mask_is_empty has is = is ∙ ap (λ o. record live { pipe = option_map (λ (p : PipelineState). record p { mask_is_empty = mask_is_empty }) o }) has

-- ---- `poll T`

poll-holds : (k l : Known (BoardEntry Ask)) (live live' : Live) (pipe : PipelineState) (n count : ℕ) (callbacks : List (Callback Finished)) (all : Bool) (answers answers' : List Answer)
    → live.pipe ≡ Some pipe → Polled k l pipe callbacks all → count ≡ completions callbacks → live' ≡ delivering live count
    → answers' ≡ answers ++ (map (callback_said pipe.lines) callbacks ++ said.Polled n count ∷ []) → PerformsFor (λ script_state. poll script_state n live.label) live live' k l [] answers answers'
poll-holds k l live live' pipe n count callbacks all answers answers' has polled counts live_is e =
    let notices = map (notice_by pipe.lines) callbacks in
    let pipe' : PipelineState = record pipe { delivered = pipe.delivered + completions callbacks } in
    let new : Live = record live { pipe = Some pipe' } in
    let call : BoardCall = Collects pipe.number (record { notices = notices; all_done = all }) in
    let live-is : live' ≡ new = delivered-live live live' pipe count callbacks has counts live_is in
    subst (λ x. PerformsFor (λ script_state. poll script_state n live.label) live x k l [] answers answers') (sym live-is) (record {
      calls = call ∷ [];
      said = (map notice_said notices ++ said.Polled n (completed_in notices) ∷ []) ++ [];
      changes = changes-pipe live k l pipe pipe' (call ∷ []) [] has polled;
      is = λ script_state found posted.
          subst (λ d. IsTranscript d (record { registry = []; board = call ∷ []; answers = (map notice_said notices ++ said.Polled n (completed_in notices) ∷ []) ++ []; after = Some (counting (with_live script_state new) []) })) (sym (poll-at script_state n live found ∙ ap (polls_in script_state n live) has))
          (subst (λ w. IsTranscript (polls_in script_state n live (Some pipe)) (record { registry = []; board = call ∷ []; answers = (map notice_said notices ++ said.Polled n (completed_in notices) ∷ []) ++ []; after = Some w })) (sym (counting-none (with_live script_state new)))
          (ap (λ c. record { registry = []; board = call ∷ []; answers = (map notice_said notices ++ said.Polled n (completed_in notices) ∷ []) ++ []; after = Some (with_pipe script_state live (record pipe { delivered = pipe.delivered + c })) }) (count-is pipe.lines callbacks)));
      says =
          e ∙ ap (λ x. answers ++ x)
          (ap (λ x. x ++ said.Polled n count ∷ []) (sym (said-is pipe.lines callbacks))
          ∙ (ap (λ c. map notice_said notices ++ said.Polled n c ∷ []) (counts ∙ sym (count-is pipe.lines callbacks)) ∙ sym (append-nil (map notice_said notices ++ said.Polled n (completed_in notices) ∷ []))));
    })

pub collect-holds : (waits : Bool) (k l : Known (BoardEntry Ask)) (live live' : Live) (pipe : PipelineState) (n count : ℕ) (callbacks : List (Callback Finished)) (all : Bool) (answers answers' : List Answer)
    → live.pipe ≡ Some pipe → (waits && pipe.held) ≡ false → (waits ≡ true → all ≡ true) → Polled k l pipe callbacks all → count ≡ completions callbacks → live' ≡ delivering live count
    → answers' ≡ answers ++ (map (callback_said pipe.lines) callbacks ++ collected_said n waits count ∷ []) → PerformsFor (λ script_state. collects waits script_state n live.label) live live' k l [] answers answers'
collect-holds true k l live live' pipe n count callbacks all answers answers' has free whole polled counts live_is e =
    drain-holds k l live live' pipe n count callbacks answers answers' has free (subst (Polled k l pipe callbacks) (whole refl) polled) counts live_is e
collect-holds false k l live live' pipe n count callbacks all answers answers' has free whole polled counts live_is e =
    poll-holds k l live live' pipe n count callbacks all answers answers' has polled counts live_is e

-- it hands out no more than it accepted
pub may-deliver-polled : ((h : List (BoardEntry Ask)) (p : ℕ) → HandsOutAtMost h p) → (k l : Known (BoardEntry Ask)) (live : Live) (pipe : PipelineState) (count : ℕ) (callbacks : List (Callback Finished)) (all : Bool) → live.pipe ≡ Some pipe → Polled k l pipe callbacks all → count ≡ completions callbacks → MayDeliver count live.pipe
may-deliver-polled law k l live pipe count callbacks all has polled counts =
    let es = entries_of pipe.number l.seen in
    let most = law l.seen pipe.number polled.legal in
    let given = polled.now.delivered in
    let had : length (submissions es) ≡ length pipe.lines = sym (length-map (submissions es) origin_of) ∙ ap length polled.now.lines in
    let le : pipe.delivered + count ≤ length pipe.lines = omega (arith, most, given, had, counts) in
    subst (MayDeliver count) (sym has) le

-- what is added to nothing is all
pub from-empty : (into : Handed Finished) (more xs : List (Callback Finished)) → into ≡ record { list = []; spare = 0 } → xs ≡ into.list ++ more → xs ≡ more
from-empty into more xs new e = e ∙ ap (λ (handed : Handed Finished). handed.list ++ more) new

-- ---- whatever a line sets

-- a label that no transform has
label-free : (script_state : ScriptState) (n : ℕ) (label : List ℕ) (rest : Live → Dialogue) (errno : Errno) → live_of script_state label ≡ None → errno ≡ missing (shared_of script_state label) → with_label script_state n label rest ≡ answers_errno script_state n errno
label-free script_state n label rest errno none why = ap (λ o. for_live script_state n o (missing (shared_of script_state label)) rest) none ∙ ap (λ e. answers_errno script_state n e) (sym why)

pub set-free : (workers : ℕ) (script_state : ScriptState) (n : ℕ) (label : List ℕ) (setting : Setting) (errno : Errno) → live_of script_state label ≡ None → errno ≡ missing (shared_of script_state label) → sets workers script_state n label setting ≡ answers_errno script_state n errno
set-free workers script_state n label (set.Key key) errno none why = label-free script_state n label (λ live. if_taken script_state n live key (takes_key live.plan key)) errno none why
set-free workers script_state n label (set.TagSize size) errno none why = label-free script_state n label (λ live. if_sized script_state n live size (takes_tag live.plan size)) errno none why
set-free workers script_state n label (set.Mask bits) errno none why = label-free script_state n label (λ live. with_pad script_state n live.pipe (masks workers script_state n bits live)) errno none why
set-free workers script_state n label (set.Held true) errno none why = label-free script_state n label (λ live. with_queue script_state n live.pipe (switches script_state n live true)) errno none why
set-free workers script_state n label (set.Held false) errno none why = label-free script_state n label (λ live. with_queue script_state n live.pipe (switches script_state n live false)) errno none why

pub collect-free : (waits : Bool) (script_state : ScriptState) (n : ℕ) (label : List ℕ) (errno : Errno) → live_of script_state label ≡ None → errno ≡ missing (shared_of script_state label) → collects waits script_state n label ≡ answers_errno script_state n errno
collect-free true script_state n label errno none why = label-free script_state n label (λ live. drains_in script_state n live live.pipe) errno none why
collect-free false script_state n label errno none why = label-free script_state n label (λ live. polls_in script_state n live live.pipe) errno none why

pub setting-arm : {S A : Type 0} (result : Result A S) (workers n : ℕ) (live live' : Live) (k l : Known (BoardEntry Ask)) (setting given : Setting) (answers answers' : List Answer) → setting ≡ given
    → MatchResult result (λ _. PerformsFor (λ script_state. sets workers script_state n live.label given) live live' k l [] answers answers') (λ _. StopsFor (λ script_state. sets workers script_state n live.label given) live k l)
    → MatchResult result (λ _. PerformsFor (λ script_state. sets workers script_state n live.label setting) live live' k l [] answers answers') (λ _. StopsFor (λ script_state. sets workers script_state n live.label setting) live k l)
setting-arm result workers n live live' k l setting given answers answers' is held =
    subst (λ x. MatchResult result (λ _. PerformsFor (λ script_state. sets workers script_state n live.label x) live live' k l [] answers answers') (λ _. StopsFor (λ script_state. sets workers script_state n live.label x) live k l)) (sym is) held
