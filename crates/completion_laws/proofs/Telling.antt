-- What the maker of a pipeline is told of its requests.
use Rattle.std.proofs.Common.{◌≡◌, ℕ, zero, suc, ◌<◌, Bool, true, false, cond, Option, Some, None, List, [], ◌∷◌, ◌++◌, length, map, take, drop, slice_get, refl, sym, ◌∙◌, ap, subst, arith, append-nil, append_assoc}
use Rattle.std.specs.Prelude.{◌==◌, filter}
use Rattle.std.specs.List.{filter_map, cons_option}
use Rattle.std.specs.Option.{option_map}
use Rattle.std.proofs.lemmas.Bool.{eq-eqb, eqb-true}
use Rattle.std.proofs.lemmas.Option.{slice_get-map}
use Rattle.std.proofs.lemmas.List.{take_all, length-map}
use Rattle.std.proofs.lemmas.List.Elements.{filter-append, filter_map-append}
use Rattle.board.specs.declared.entry.Shape.{Shape}
use Rattle.board.specs.declared.entry.BoardEntry.{BoardEntry}
use Rattle.board.specs.declared.entry.BoardEntry.TheVariants.{Born, Submit, Take, Finish, Enq, Deq, Done, Hold, Go, Collect, Close, Share, Mask, Shut}
use Rattle.board.specs.Entries.{is_of, entries_of, birth_in, first, maker_is, IsMaker, accepted_in, submissions, completion, meaning_at, callback_of, front, told, collected}
use Rattle.board.specs.Entries.{Notice as Told, Starts, Completes}
use Rattle.board.specs.Legal.{IsRight, AreRightAfter, LegalBoard}
use Rattle.board.specs.Order.{handed_out, AreRightForAfter, completed, numbers_below}
use Rattle.board.proofs.Transfer.{each_right, right_for, entries-more, entries-same, before_last, right_last}
use Rattle.board.proofs.Handing.{handed_in_order}
use Rattle.board.proofs.Keeping.{orderly}
use Rattle.board.proofs.KeptEntering.{meaning-more}
use Rattle.kc_base.specs.declared.callback_list.Callback.{Callback}
use Rattle.transforms.specs.declared.request.Finished.{Finished}
use Rattle.transforms.specs.declared.ask.Ask.{Ask}
use Rattle.dialogues.specs.RegistryCalls.{prepend}
use Rattle.dialogues.specs.BoardCalls.{Notice, Started, Completed, BoardCall, notice_of, origin_in, collected_to, board_call_of, board_calls, board_calls_from, outcome}
use Rattle.completion_laws.specs.Told.{notices_in, notices_of, is_completed, completions_told, completion_of, completions_due, TellsTheFirst, TellsAllFinished, TellsAll, TellsWhatWasTold}
use Rattle.collect_laws.proofs.Reading.{Stays, read_in, read_after, reads_all, collect_tells, first_of}

-- ---- who is told

makers_same : (ms more : List (ℕ × Shape)) (a b : ℕ) → maker_is (first ms) a → maker_is (first (ms ++ more)) b → a ≡ b
makers_same [] more a b x y = absurd x
makers_same ((maker, shape) ∷ ms) more a b x y = sym x ∙ y

-- a pipeline's maker stays
maker_stays : (es more : List (BoardEntry Ask)) (a b : ℕ) → IsMaker es a → IsMaker (es ++ more) b → a ≡ b
maker_stays es more a b x y =
    makers_same (filter_map birth_in es) (filter_map birth_in more) a b x (subst (λ ms. maker_is (first ms) b) (filter_map-append birth_in es more) y)

-- so who collects from it is its maker
abbrev collect : ℕ → ℕ → ℕ → BoardEntry Ask
collect by pipe to = Collect by pipe to

collector : (before h : List (BoardEntry Ask)) (by pipe to p caller : ℕ) → is_of p (collect by pipe to) ≡ true → IsRight before (Collect by pipe to) → IsMaker (entries_of p (before ++ Collect by pipe to ∷ h)) caller → by ≡ caller
collector before h by pipe to p caller s r m =
    let right = right_for before p (Collect by pipe to) s r in
    maker_stays (entries_of p before) (entries_of p (Collect by pipe to ∷ h)) by caller right.0.1
    (subst (λ es. IsMaker es caller) (filter-append (is_of p) before (Collect by pipe to ∷ h)) m)

-- ---- the notices of a pipeline, by its own entries

abbrev notices_by : List (BoardEntry Ask) → BoardEntry Ask → List Notice
notices_by es (Collect caller pipe to) = (collected_to es to).notices
notices_by es _ = []

abbrev notices_after : List (BoardEntry Ask) → List (BoardEntry Ask) → List Notice
notices_after before [] = []
notices_after before (e ∷ es) = notices_by before e ++ notices_after (before ++ e ∷ []) es

quiet : (p : ℕ) (b : Bool) (call : BoardCall) (calls : List BoardCall) → notices_in p call ≡ [] → notices_of p (prepend (cond b (Some call) None) calls) ≡ notices_of p calls
quiet p true call calls q = ap (λ ns. ns ++ notices_of p calls) q
quiet p false call calls q = refl

own_call : (p pipe by caller to : ℕ) (before : List (BoardEntry Ask)) (calls : List BoardCall) → pipe ≡ p → by ≡ caller → notices_of p (prepend (board_call_of caller before (Collect by pipe to)) calls) ≡ (collected_to (entries_of p before) to).notices ++ notices_of p calls
own_call p pipe by caller to before calls same own =
    rw (same, own, eq-eqb caller caller refl, eq-eqb p p refl) refl

other_call : (p pipe : ℕ) (notices : List Notice) → (pipe == p) ≡ false → cond (pipe == p) notices [] ≡ []
other_call p pipe notices other = ap (λ b. cond b notices []) other

tells_here : (caller p : ℕ) (before h : List (BoardEntry Ask)) (e : BoardEntry Ask) (calls : List BoardCall) → is_of p e ≡ true → IsRight before e → IsMaker (entries_of p (before ++ e ∷ h)) caller → notices_of p (prepend (board_call_of caller before e) calls) ≡ notices_by (entries_of p before) e ++ notices_of p calls
tells_here caller p before h (Collect by pipe to) calls s r m = own_call p pipe by caller to before calls (eqb-true pipe p s) (collector before h by pipe to p caller s r m)
tells_here caller p before h (Born by pipe shape) calls s r m = quiet p _ _ calls refl
tells_here caller p before h (Submit by pipe number ask) calls s r m = quiet p _ _ calls refl
tells_here caller p before h (Take by pipe number) calls s r m = refl
tells_here caller p before h (Finish by pipe number) calls s r m = refl
tells_here caller p before h (Enq by pipe ask backlog answer) calls s r m = quiet p _ _ calls refl
tells_here caller p before h (Deq by pipe number started) calls s r m = refl
tells_here caller p before h (Done by pipe number) calls s r m = refl
tells_here caller p before h (Hold by pipe) calls s r m = quiet p _ _ calls refl
tells_here caller p before h (Go by pipe) calls s r m = quiet p _ _ calls refl
tells_here caller p before h (Close by pipe) calls s r m = quiet p _ _ calls refl
tells_here caller p before h (Share by pipe) calls s r m = quiet p _ _ calls refl
tells_here caller p before h (Mask by pipe bits) calls s r m = quiet p _ _ calls refl
tells_here caller p before h (Shut by) calls s r m = cc

tells_elsewhere : (caller p : ℕ) (before : List (BoardEntry Ask)) (e : BoardEntry Ask) (calls : List BoardCall) → is_of p e ≡ false → notices_of p (prepend (board_call_of caller before e) calls) ≡ notices_of p calls
tells_elsewhere caller p before (Collect by pipe to) calls s = quiet p _ _ calls (other_call p pipe _ s)
tells_elsewhere caller p before (Born by pipe shape) calls s = quiet p _ _ calls refl
tells_elsewhere caller p before (Submit by pipe number ask) calls s = quiet p _ _ calls refl
tells_elsewhere caller p before (Take by pipe number) calls s = refl
tells_elsewhere caller p before (Finish by pipe number) calls s = refl
tells_elsewhere caller p before (Enq by pipe ask backlog answer) calls s = quiet p _ _ calls refl
tells_elsewhere caller p before (Deq by pipe number started) calls s = refl
tells_elsewhere caller p before (Done by pipe number) calls s = refl
tells_elsewhere caller p before (Hold by pipe) calls s = quiet p _ _ calls refl
tells_elsewhere caller p before (Go by pipe) calls s = quiet p _ _ calls refl
tells_elsewhere caller p before (Close by pipe) calls s = quiet p _ _ calls refl
tells_elsewhere caller p before (Share by pipe) calls s = quiet p _ _ calls refl
tells_elsewhere caller p before (Mask by pipe bits) calls s = quiet p _ _ calls refl
tells_elsewhere caller p before (Shut by) calls s = quiet p _ _ calls refl

calls_step : (caller p : ℕ) (before h : List (BoardEntry Ask)) (e : BoardEntry Ask) (b : Bool) → is_of p e ≡ b → IsRight before e → IsMaker (entries_of p (before ++ e ∷ h)) caller
    → notices_of p (board_calls_from caller (before ++ e ∷ []) h) ≡ notices_after (entries_of p (before ++ e ∷ [])) (entries_of p h)
    → notices_of p (prepend (board_call_of caller before e) (board_calls_from caller (before ++ e ∷ []) h)) ≡ notices_after (entries_of p before) (cond b (e ∷ entries_of p h) (entries_of p h))
calls_step caller p before h e true s r m rest =
    let calls = board_calls_from caller (before ++ e ∷ []) h in
    tells_here caller p before h e calls s r m
    ∙ ap (λ ns. notices_by (entries_of p before) e ++ ns) (rest ∙ ap (λ es. notices_after es (entries_of p h)) (entries-more before p e s))
calls_step caller p before h e false s r m rest =
    tells_elsewhere caller p before e (board_calls_from caller (before ++ e ∷ []) h) s
    ∙ (rest ∙ ap (λ es. notices_after es (entries_of p h)) (entries-same before p e s))

-- the maker's calls tell what the pipeline's own entries tell
calls_tell : (caller p : ℕ) (before h : List (BoardEntry Ask)) → AreRightAfter before h → IsMaker (entries_of p (before ++ h)) caller → notices_of p (board_calls_from caller before h) ≡ notices_after (entries_of p before) (entries_of p h)
calls_tell caller p before [] r m = refl
calls_tell caller p before (e ∷ h) r m =
    calls_step caller p before h e (is_of p e) refl r.0 m
    (calls_tell caller p (before ++ e ∷ []) h r.1 (subst (λ xs. IsMaker (entries_of p xs) caller) (sym (append_assoc before (e ∷ []) h)) m))

-- ---- each notice, by what was told

-- what a notice of the pipeline is to the script
abbrev said : List Ask → Told → Option Notice
said asks x = option_map (notice_of asks) (callback_of outcome asks x)

get-left : {X : Type 0} (xs ys : List X) (n : ℕ) → n < length xs → slice_get (xs ++ ys) n ≡ slice_get xs n
get-left [] ys n l = absurd (omega arith)
get-left (x ∷ xs) ys zero l = refl
get-left (x ∷ xs) ys (suc n) l = get-left xs ys n (omega arith)

said_same : (asks more : List Ask) (n : ℕ) (o : Option Finished) → slice_get more n ≡ slice_get asks n → option_map (notice_of more) (completion n o) ≡ option_map (notice_of asks) (completion n o)
said_same asks more n None e = refl
said_same asks more n (Some out) e = ap (λ a. Some (Completed (origin_in a) out)) e

said_stays : Stays said
said_stays asks more (Starts n) l = ap (λ a. Some (Started (origin_in a))) (get-left asks more n l)
said_stays asks more (Completes n) l =
    ap (λ o. option_map (notice_of (asks ++ more)) (completion n o)) (meaning-more outcome asks more n l)
    ∙ said_same asks (asks ++ more) n (meaning_at outcome asks n) (get-left asks more n l)

said_step : (asks : List Ask) (o : Option (Callback Finished)) (cs : List (Callback Finished)) (ns : List Notice) → map (notice_of asks) cs ≡ ns → map (notice_of asks) (cons_option o cs) ≡ cons_option (option_map (notice_of asks) o) ns
said_step asks None cs ns e = e
said_step asks (Some c) cs ns e = ap (λ xs. notice_of asks c ∷ xs) e

said_each : (asks : List Ask) (ns : List Told) → map (notice_of asks) (filter_map (callback_of outcome asks) ns) ≡ filter_map (said asks) ns
said_each asks [] = refl
said_each asks (x ∷ ns) = said_step asks (callback_of outcome asks x) (filter_map (callback_of outcome asks) ns) (filter_map (said asks) ns) (said_each asks ns)

said_by : (es : List (BoardEntry Ask)) (e : BoardEntry Ask) → notices_by es e ≡ read_in said es e
said_by es (Collect caller pipe to) = said_each (submissions es) (drop (collected es) (take to (told es)))
said_by es (Born caller pipe shape) = refl
said_by es (Submit caller pipe number ask) = refl
said_by es (Take caller pipe number) = refl
said_by es (Finish caller pipe number) = refl
said_by es (Enq caller pipe ask backlog answer) = refl
said_by es (Deq caller pipe number started) = refl
said_by es (Done caller pipe number) = refl
said_by es (Hold caller pipe) = refl
said_by es (Go caller pipe) = refl
said_by es (Close caller pipe) = refl
said_by es (Share caller pipe) = refl
said_by es (Mask caller pipe bits) = refl
said_by es (Shut caller) = refl

said_after : (before es : List (BoardEntry Ask)) → notices_after before es ≡ read_after said before es
said_after before [] = refl
said_after before (e ∷ es) =
    ap (λ ns. ns ++ notices_after (before ++ e ∷ []) es) (said_by before e)
    ∙ ap (λ ns. read_in said before e ++ ns) (said_after (before ++ e ∷ []) es)

pub notices_are : (h : List (BoardEntry Ask)) (caller p : ℕ) → TellsWhatWasTold h caller p
unfolding board_calls
notices_are h caller p legal m =
    let es = entries_of p h in
    calls_tell caller p [] h legal m
    ∙ (said_after [] es ∙ (reads_all said said_stays es (each_right [] h p legal) ∙ sym (said_each (submissions es) (take (collected es) (told es)))))

-- ---- the completions among them

-- the completion of a number
abbrev completion_at : List Ask → ℕ → Option Notice
completion_at asks n = slice_get (map completion_of asks) n

completes_one : (asks : List Ask) (n : ℕ) (o : Option Ask) (ns : List Told) → slice_get asks n ≡ o
    → filter is_completed (map (notice_of asks) (filter_map (callback_of outcome asks) ns)) ≡ filter_map (completion_at asks) (completed ns)
    → filter is_completed (map (notice_of asks) (cons_option (completion n (option_map outcome o)) (filter_map (callback_of outcome asks) ns)))
    ≡ cons_option (option_map completion_of o) (filter_map (completion_at asks) (completed ns))
completes_one asks n None ns e rest = rest
completes_one asks n (Some ask) ns e rest =
    ap (λ o. Completed (origin_in o) (outcome ask) ∷ filter is_completed (map (notice_of asks) (filter_map (callback_of outcome asks) ns))) e
    ∙ ap (λ xs. completion_of ask ∷ xs) rest

completions_in : (asks : List Ask) (ns : List Told) → filter is_completed (map (notice_of asks) (filter_map (callback_of outcome asks) ns)) ≡ filter_map (completion_at asks) (completed ns)
completions_in asks [] = refl
completions_in asks (Starts n ∷ ns) = completions_in asks ns
completions_in asks (Completes n ∷ ns) =
    rw (slice_get-map outcome asks n, slice_get-map completion_of asks n) (completes_one asks n (slice_get asks n) ns refl (completions_in asks ns))

-- ---- the law

told_is : (h : List (BoardEntry Ask)) (caller p : ℕ) → LegalBoard h → IsMaker (entries_of p h) caller → completions_told caller p h ≡ filter_map (completion_at (submissions (entries_of p h))) (completed (take (collected (entries_of p h)) (told (entries_of p h))))
told_is h caller p legal m =
    ap (filter is_completed) (notices_are h caller p legal m) ∙ completions_in (submissions (entries_of p h)) (take (collected (entries_of p h)) (told (entries_of p h)))

-- where the numbers below k are handed out, the first k are told
told_first : (h : List (BoardEntry Ask)) (caller p k : ℕ) → LegalBoard h → IsMaker (entries_of p h) caller → completed (take (collected (entries_of p h)) (told (entries_of p h))) ≡ numbers_below k → completions_told caller p h ≡ take k (completions_due p h)
told_first h caller p k legal m is =
    told_is h caller p legal m ∙ (ap (filter_map (completion_at (submissions (entries_of p h)))) is ∙ first_of (completions_due p h) k)

pub tells_first : (h : List (BoardEntry Ask)) (caller p : ℕ) → TellsTheFirst h caller p
tells_first h caller p legal m =
    let es = entries_of p h in
    let right = each_right [] h p legal in
    let k = length (completed (handed_out es)) in
    (k, told_first h caller p k legal m (ap completed (sym (orderly es right).telling.front_of) ∙ handed_in_order es right))

maker_more : (ms more : List (ℕ × Shape)) (a : ℕ) → maker_is (first ms) a → maker_is (first (ms ++ more)) a
maker_more [] more a x = absurd x
maker_more ((maker, shape) ∷ ms) more a x = x

pub tells_finished : (h : List (BoardEntry Ask)) (caller p to : ℕ) → TellsAllFinished h caller p to
tells_finished h caller p to legal =
    let es = entries_of p h in
    let e : BoardEntry Ask = Collect caller p to in
    let more : entries_of p (h ++ e ∷ []) ≡ es ++ e ∷ [] = entries-more h p e (eq-eqb p p refl) in
    let right : AreRightForAfter [] (es ++ e ∷ []) = subst (λ xs. AreRightForAfter [] xs) more (each_right [] (h ++ e ∷ []) p legal) in
    let by : IsMaker es caller = (right_last [] es e right).0.1 in
    let made : IsMaker (entries_of p (h ++ e ∷ [])) caller =
    subst (λ xs. IsMaker xs caller) (sym more) (subst (λ ms. maker_is (first ms) caller) (sym (filter_map-append birth_in es (e ∷ []))) (maker_more (filter_map birth_in es) (filter_map birth_in (e ∷ [])) caller by)) in
    let same : completions_due p (h ++ e ∷ []) ≡ completions_due p h =
    ap (λ xs. map completion_of (submissions xs)) more ∙ ap (map completion_of) (filter_map-append accepted_in es (e ∷ []) ∙ append-nil (submissions es)) in
    told_first (h ++ e ∷ []) caller p (front es) legal made
    (ap (λ xs. completed (take (collected xs) (told xs))) more ∙ collect_tells es caller p to right (each_right [] h p (before_last [] h e legal)))
    ∙ ap (take (front es)) same

pub tells_all : (h : List (BoardEntry Ask)) (caller p to : ℕ) → TellsAll h caller p to
tells_all h caller p to legal done =
    let asks = submissions (entries_of p h) in
    let all : front (entries_of p h) ≡ length asks = eqb-true (front (entries_of p h)) (length asks) done in
    tells_finished h caller p to legal
    ∙ take_all (front (entries_of p h)) (completions_due p h) (let l = length-map asks completion_of in omega arith)
