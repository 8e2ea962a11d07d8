-- What a caller's calls submit are the requests that were accepted from it, and those of one pipeline are among them.
use Rattle.std.proofs.Common.{◌≡◌, ℕ, ◌+◌, ◌≤◌, Bool, true, false, cond, List, [], ◌∷◌, ◌++◌, append-nil, map, filter, Option, Some, None, refl, sym, ap, subst, ◌∙◌, arith}
use Rattle.std.specs.Prelude.{◌==◌, if◌then◌else◌}
use Rattle.std.specs.Arc.{arc_value}
use Rattle.std.specs.List.{cons_option}
use Rattle.std.specs.Option.{option_map}
use Rattle.std.proofs.lemmas.List.Elements.{filter_map-append}
use Rattle.alg_registry.specs.declared.entry.RegEntry.{RegEntry}
use Rattle.board.specs.Allowance.{accepted_from, accepted_by}
use Rattle.board.specs.declared.entry.BoardEntry.{BoardEntry}
use Rattle.board.specs.declared.entry.BoardEntry.TheVariants.{Born, Submit, Take, Finish, Enq, Deq, Done, Hold, Go, Collect, Close, Share, Mask, Shut}
use Rattle.board.specs.declared.entry.Entered.TheVariants.{InProgress, Busy, NoSpace}
use Rattle.board.specs.Entries.{entries_of, is_of}
use Rattle.script_text.specs.declared.commands.Line.{Line}
use Rattle.transforms.specs.declared.ask.Ask.{Ask}
use Rattle.dialogues.specs.BoardCalls.{Asked, asked_by, BoardCall, Creates, Submits, Enqueues, Holds, Goes, Collects, Closes, Shares, Masks, Shuts, board_call_of, board_calls, board_calls_from}
use Rattle.dialogues.specs.Dialogues.{Ends}
use Rattle.dialogues.specs.RegistryCalls.{prepend, reg_calls}
use Rattle.dialogues.specs.Texts.{IsClientText, AreFirstTexts}
use Rattle.dialogues.specs.Transcripts.{Transcript}
use Rattle.dialogues.specs.ScriptState.{ScriptState, Live, start, start_beside}
use Rattle.client_texts.specs.OneList.{AreInOrder}
use Rattle.client_texts.proofs.Submitting.{accepted_call, accepted_calls, Ascends, lines-ascend, end-beside-ascends, closing-ascends}

-- ---- one entry

own-call : (own : Bool) (call : BoardCall) (o : Option Ask) (rest : List BoardCall) → accepted_call call ≡ option_map asked_by o
    → accepted_calls (prepend (if own then Some call else None) rest) ≡ cons_option (option_map asked_by (if own then o else None)) (accepted_calls rest)
own-call true call o rest is = ap (λ x. cons_option x (accepted_calls rest)) is
own-call false call o rest is = refl

no-call : (own : Bool) (rest : List BoardCall) → accepted_calls rest ≡ cons_option (option_map asked_by (if own then None else None)) (accepted_calls rest)
no-call true rest = refl
no-call false rest = refl

entry-call : (caller : ℕ) (before : List (BoardEntry Ask)) (e : BoardEntry Ask) (rest : List BoardCall)
    → accepted_calls (prepend (board_call_of caller before e) rest) ≡ cons_option (option_map asked_by (accepted_from caller e)) (accepted_calls rest)
entry-call caller before (Born by pipe shape) rest = own-call (by == caller) (Creates pipe shape) None rest refl
entry-call caller before (Submit by pipe number ask) rest = own-call (by == caller) (Submits pipe number (asked_by (arc_value ask))) (Some (arc_value ask)) rest refl
entry-call caller before (Enq by pipe ask backlog (InProgress number)) rest = own-call (by == caller) (Enqueues pipe (asked_by (arc_value ask)) backlog (InProgress number)) (Some (arc_value ask)) rest refl
entry-call caller before (Enq by pipe ask backlog (Busy number)) rest = own-call (by == caller) (Enqueues pipe (asked_by (arc_value ask)) backlog (Busy number)) (Some (arc_value ask)) rest refl
entry-call caller before (Enq by pipe ask backlog NoSpace) rest = own-call (by == caller) (Enqueues pipe (asked_by (arc_value ask)) backlog NoSpace) None rest refl
entry-call caller before (Hold by pipe) rest = own-call (by == caller) (Holds pipe) None rest refl
entry-call caller before (Go by pipe) rest = own-call (by == caller) (Goes pipe) None rest refl
entry-call caller before (Collect by pipe to) rest = own-call (by == caller) (Collects pipe _) None rest refl
entry-call caller before (Close by pipe) rest = own-call (by == caller) (Closes pipe) None rest refl
entry-call caller before (Share by pipe) rest = own-call (by == caller) (Shares pipe) None rest refl
entry-call caller before (Mask by pipe mask) rest = own-call (by == caller) (Masks pipe mask) None rest refl
entry-call caller before (Shut by) rest = own-call (by == caller) Shuts None rest refl
entry-call caller before (Take by pipe number) rest = no-call (by == caller) rest
entry-call caller before (Finish by pipe number) rest = no-call (by == caller) rest
entry-call caller before (Deq by pipe number started) rest = no-call (by == caller) rest
entry-call caller before (Done by pipe number) rest = no-call (by == caller) rest

-- ---- all of them

map-cons : (o : Option Ask) (asks : List Ask) → map asked_by (cons_option o asks) ≡ cons_option (option_map asked_by o) (map asked_by asks)
map-cons None asks = refl
map-cons (Some ask) asks = refl

calls-from : (caller : ℕ) (before es : List (BoardEntry Ask)) → accepted_calls (board_calls_from caller before es) ≡ map asked_by (accepted_by caller es)
calls-from caller before [] = refl
calls-from caller before (e ∷ es) =
    entry-call caller before e (board_calls_from caller (before ++ e ∷ []) es)
    ∙ (ap (cons_option (option_map asked_by (accepted_from caller e))) (calls-from caller (before ++ e ∷ []) es) ∙ sym (map-cons (accepted_from caller e) (accepted_by caller es)))

calls-are : (caller : ℕ) (b : List (BoardEntry Ask)) → accepted_calls (board_calls caller b) ≡ map asked_by (accepted_by caller b)
unfolding board_calls
calls-are caller b = calls-from caller [] b

in-order : (c n : ℕ) (asks : List Ask) → Ascends c n (map asked_by asks) → AreInOrder c n asks
in-order c n [] up = tt
in-order c n (ask ∷ asks) up = (up.0, up.1, in-order c (ask.line + 1) asks up.2)

order-below : (c m n : ℕ) (asks : List Ask) → m ≤ n → AreInOrder c n asks → AreInOrder c m asks
order-below c m n [] le up = tt
order-below c m n (ask ∷ asks) le up = (up.0, omega (arith, le, up.1), up.2)

-- those of some of the entries are in order too
one-more : (c n caller : ℕ) (e : BoardEntry Ask) (all some : List (BoardEntry Ask)) (kept : Bool) (o : Option Ask) → accepted_from caller e ≡ o
    → ((m : ℕ) → AreInOrder c m (accepted_by caller all) → AreInOrder c m (accepted_by caller some))
    → AreInOrder c n (cons_option o (accepted_by caller all)) → AreInOrder c n (accepted_by caller (cond kept (e ∷ some) some))
one-more c n caller e all some true None is each up = subst (λ o. AreInOrder c n (cons_option o (accepted_by caller some))) (sym is) (each n up)
one-more c n caller e all some true (Some ask) is each up =
    subst (λ o. AreInOrder c n (cons_option o (accepted_by caller some))) (sym is) (up.0, up.1, each (ask.line + 1) up.2)
one-more c n caller e all some false None is each up = each n up
one-more c n caller e all some false (Some ask) is each up = order-below c n (ask.line + 1) _ (omega (arith, up.1)) (each (ask.line + 1) up.2)

some-order : (c n caller : ℕ) (such : BoardEntry Ask → Bool) (es : List (BoardEntry Ask)) → AreInOrder c n (accepted_by caller es) → AreInOrder c n (accepted_by caller (filter such es))
some-order c n caller such [] up = up
some-order c n caller such (e ∷ es) up =
    one-more c n caller e es (filter such es) (such e) (accepted_from caller e) refl (λ m. some-order c m caller such es) up

of-calls : (c n caller : ℕ) (b : List (BoardEntry Ask)) (p : ℕ) (calls : List BoardCall) → calls ≡ board_calls caller b → Ascends c n (accepted_calls calls) → AreInOrder c n (accepted_by caller (entries_of p b))
of-calls c n caller b p calls are up =
    some-order c n caller (is_of p) b (in-order c n (accepted_by caller b) (subst (Ascends c n) (ap accepted_calls are ∙ calls-are caller b) up))

-- ---- scripts

pub client-in-order : (workers client : ℕ) (shared : List Live) (lines : List Line) (r : List RegEntry) (b : List (BoardEntry Ask)) (text : List ℕ) (p : ℕ)
    → IsClientText workers client shared lines r b text → AreInOrder client 1 (accepted_by (16 + client) (entries_of p b))
client-in-order workers client shared lines r b text p is =
    of-calls client 1 (16 + client) b p _ is.board
    (lines-ascend workers client (start_beside client shared) 1 lines _ refl (λ script_state n same. end-beside-ascends client n script_state same) (reg_calls (16 + client) r) (board_calls (16 + client) b))

-- what ascends from everywhere is nothing
nothing-ascends : (c : ℕ) (asks : List Asked) → ((n : ℕ) → Ascends c n asks) → asks ≡ []
nothing-ascends c [] up = refl
nothing-ascends c (asked ∷ asks) up = absurd (omega (arith, (up (asked.line + 1)).1))

pub first-in-order : (workers : ℕ) (lines : List Line) (script_state : ScriptState) (r : List RegEntry) (b : List (BoardEntry Ask)) (opening ending : List ℕ) (p : ℕ)
    → AreFirstTexts workers lines script_state r b opening ending → AreInOrder 0 1 (accepted_by 0 (entries_of p b))
first-in-order workers lines script_state r b opening ending p is =
    let first : Ascends 0 1 (accepted_calls is.first.board) =
    subst (λ (t : Transcript). Ascends 0 1 (accepted_calls t.board)) is.is_first
    (lines-ascend workers 0 (start 0) 1 lines Ends refl (λ w n same r b. tt) is.first.registry is.first.board) in
    let last : accepted_calls is.last.board ≡ [] =
    nothing-ascends script_state.client (accepted_calls is.last.board)
    (λ n. subst (λ (t : Transcript). Ascends script_state.client n (accepted_calls t.board)) is.is_last (closing-ascends script_state.client n script_state refl is.last.registry is.last.board)) in
    of-calls 0 1 0 b p _ is.board
    (subst (Ascends 0 1) (sym (filter_map-append accepted_call is.first.board is.last.board ∙ (ap (λ l. accepted_calls is.first.board ++ l) last ∙ append-nil (accepted_calls is.first.board)))) first)
