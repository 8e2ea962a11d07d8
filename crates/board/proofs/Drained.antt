-- What collects hand out, entry by entry, and when all is handed out.
use Rattle.std.proofs.Common.{◌≡◌, ℕ, zero, suc, ◌+◌, ◌-◌, ◌<◌, ◌≤◌, Bool, true, false, cond, ◌||◌, List, [], ◌∷◌, ◌++◌, length, map, take, drop, Option, Some, None, refl, sym, ◌∙◌, ap, subst, arith, append-nil, append_assoc, length-append, inl, inr, ◌⊎◌}
use Rattle.std.specs.Prelude.{◌==◌, slice_get}
use Rattle.std.specs.List.{filter_map}
use Rattle.std.proofs.lemmas.Bool.{eq-eqb, or_left, or_right, or_cases, cases_lt}
use Rattle.std.proofs.lemmas.List.{take-append-le}
use Rattle.std.proofs.lemmas.List.Elements.{filter_map-append}
use Rattle.std.specs.declared.sync.Arc.{Arc}
use Rattle.std.specs.declared.alloc.Global.{Global}
use Rattle.std.specs.Arc.{arc_value}
use Rattle.board.specs.declared.entry.Shape.{Shape}
use Rattle.board.specs.declared.entry.Entered.{Entered}
use Rattle.board.specs.declared.entry.Entered.TheVariants.{InProgress, Busy, NoSpace}
use Rattle.board.specs.declared.entry.BoardEntry.{BoardEntry}
use Rattle.board.specs.declared.entry.BoardEntry.TheVariants.{Born, Submit, Take, Finish, Enq, Deq, Done, Hold, Go, Collect, Close, Share, Mask, Shut}
use Rattle.board.specs.Shapes.{has_queue_born, pad_born}
use Rattle.board.specs.Entries.{Notice, Starts, Completes, is_of, entries_of, birth_in, birth, first, accepted_in, submissions, dequeued_in, dequeues, dequeued, passed_on, finished_in, finished, has, front, completes_from, tells, told, collected, callback_of}
use Rattle.board.specs.Legal.{IsRightFor}
use Rattle.board.specs.Order.{handed_in, handed_after, handed_out, AreRightForAfter, completed_in, completed}
use Rattle.board.specs.PipelineHistory.{Joins, LeavesOthers, BeginsAlone, IsDrained}
use Rattle.board.specs.HandedOut.{is_collect, HandsNothing, HandsOutAtMost, completions, CollectHandsOut, AllHandedOutIsDrained}
use Rattle.board.proofs.Transfer.{before_last, entries-more, entries-same, each_right}
use Rattle.board.proofs.Lists.{filter_map-none, filter_map-some, length-numbers}
use Rattle.board.proofs.Fronts.{unbroken-le, front_grows, completes_on}
use Rattle.board.proofs.Keeping.{IsOrderly, orderly_start, orderly_step, orderly, passed-le, told-more, front-same, front-accepted}
use Rattle.board.proofs.Starting.{front_passed, pad_no_queue}
use Rattle.board.proofs.Handing.{handed_below}
use Rattle.board.proofs.KeptEntering.{completed_low}
use Rattle.board.proofs.Staying.{last_right}

-- ---- only a collect hands out

handed_last : {A : Type 0} (before es : List (BoardEntry A)) (e : BoardEntry A) → handed_after before (es ++ e ∷ []) ≡ handed_after before es ++ handed_in (before ++ es) e
handed_last before [] e = append-nil (handed_in before e) ∙ ap (λ b. handed_in b e) (sym (append-nil before))
handed_last before (x ∷ es) e =
    ap (λ ns. handed_in before x ++ ns) (handed_last (before ++ x ∷ []) es e ∙ ap (λ b. handed_after (before ++ x ∷ []) es ++ handed_in b e) (append_assoc before (x ∷ []) es))
    ∙ sym (append_assoc (handed_in before x) (handed_after (before ++ x ∷ []) es) (handed_in (before ++ x ∷ es) e))

hands_none : {A : Type 0} (es : List (BoardEntry A)) (e : BoardEntry A) → is_collect e ≡ false → handed_in es e ≡ []
hands_none es (Born caller pipe shape) c = refl
hands_none es (Submit caller pipe number ask) c = refl
hands_none es (Take caller pipe number) c = refl
hands_none es (Finish caller pipe number) c = refl
hands_none es (Enq caller pipe ask backlog answer) c = refl
hands_none es (Deq caller pipe number started) c = refl
hands_none es (Done caller pipe number) c = refl
hands_none es (Hold caller pipe) c = refl
hands_none es (Go caller pipe) c = refl
hands_none es (Collect caller pipe to) c = cc
hands_none es (Close caller pipe) c = refl
hands_none es (Share caller pipe) c = refl
hands_none es (Mask caller pipe bits) c = refl
hands_none es (Shut caller) c = refl

nothing_cases : {A : Type 0} (h : List (BoardEntry A)) (e : BoardEntry A) (p : ℕ) (b : Bool) → is_of p e ≡ b → HandsNothing h e p
nothing_cases h e p true s c =
    ap handed_out (entries-more h p e s)
    ∙ (handed_last [] (entries_of p h) e ∙ (ap (λ ns. handed_out (entries_of p h) ++ ns) (hands_none (entries_of p h) e c) ∙ append-nil (handed_out (entries_of p h))))
nothing_cases h e p false s c = ap handed_out (entries-same h p e s)

pub hands_nothing : {A : Type 0} (h : List (BoardEntry A)) (e : BoardEntry A) (p : ℕ) → HandsNothing h e p
hands_nothing h e p = nothing_cases h e p (is_of p e) refl

-- ---- the completions among what is handed out

drop_among : (c : ℕ) (ns : List Notice) (n : ℕ) → has n (completed (drop c ns)) ≡ true → has n (completed ns) ≡ true
drop_among zero [] n h = h
drop_among zero (x ∷ ns) n h = h
drop_among (suc c) [] n h = h
drop_among (suc c) (Starts m ∷ ns) n h = drop_among c ns n h
drop_among (suc c) (Completes m ∷ ns) n h = or_right (m == n) (has n (completed ns)) (drop_among c ns n h)

take_cases : {b c d : Bool} → (b ≡ true) ⊎ (c ≡ true) → (c ≡ true → d ≡ true) → (b || d) ≡ true
take_cases {b} {c} {d} (inl h) ih = or_left b d h
take_cases {b} {c} {d} (inr h) ih = or_right b d (ih h)

take_among : (c : ℕ) (ns : List Notice) (n : ℕ) → has n (completed (take c ns)) ≡ true → has n (completed ns) ≡ true
take_among zero [] n h = h
take_among zero (x ∷ ns) n h = cc
take_among (suc c) [] n h = h
take_among (suc c) (Starts m ∷ ns) n h = take_among c ns n h
take_among (suc c) (Completes m ∷ ns) n h = take_cases (or_cases (m == n) (has n (completed (take c ns))) h) (take_among c ns n)

at_within : {X : Type 0} (xs : List X) (n : ℕ) → n < length xs → (x : X) × (slice_get xs n ≡ Some x)
at_within [] n l = absurd (omega arith)
at_within (x ∷ xs) zero l = (x, refl)
at_within (x ∷ xs) (suc n) l = at_within xs n (omega arith)

length-meanings : {A O : Type 0} (meaning : A → O) (asks : List A) → length (map meaning asks) ≡ length asks
length-meanings meaning [] = refl
length-meanings meaning (a ∷ asks) = ap suc (length-meanings meaning asks)

-- notices of submitted requests have as many completions as their callbacks
completions-same : {A O : Type 0} (meaning : A → O) (asks : List A) (ns : List Notice) → ((n : ℕ) → has n (completed ns) ≡ true → n < length asks) → length (completed ns) ≡ completions (filter_map (callback_of meaning asks) ns)
completions-same meaning asks [] low = refl
completions-same meaning asks (Starts m ∷ ns) low = completions-same meaning asks ns low
completions-same meaning asks (Completes m ∷ ns) low =
    let within : m < length (map meaning asks) = (let l = low m (or_left (m == m) (has m (completed ns)) (eq-eqb m m refl)) in let e = length-meanings meaning asks in omega arith) in
    let out = at_within (map meaning asks) m within in
    let ih = completions-same meaning asks ns (λ n h. low n (or_right (m == n) (has n (completed ns)) h)) in
    rw out.1 (ap suc ih)

pub collect_hands_out : {A O : Type 0} (meaning : A → O) (h : List (BoardEntry A)) (caller p to : ℕ) → CollectHandsOut meaning h caller p to
collect_hands_out {A} meaning h caller p to legal =
    let e : BoardEntry A = Collect caller p to in
    let es : List (BoardEntry A) = entries_of p h in
    let new : List Notice = drop (collected es) (take to (told es)) in
    let more : entries_of p (h ++ e ∷ []) ≡ es ++ e ∷ [] = entries-more h p e (eq-eqb p p refl) in
    let before = orderly es (each_right [] h p (before_last [] h e legal)) in
    let low = λ (n : ℕ) (among : has n (completed new) ≡ true). completed_low es _ before n (take_among to (told es) n (drop_among (collected es) (take to (told es)) n among)) in
    ap (λ xs. length (completed (handed_out xs))) more
    ∙ (ap (λ ns. length (completed ns)) (handed_last [] es e)
    ∙ (ap length (filter_map-append completed_in (handed_out es) new)
    ∙ (length-append (completed (handed_out es)) (completed new) ∙ ap (λ n. length (completed (handed_out es)) + n) (completions-same meaning (submissions es) new low))))

pub most_handed_out : {A : Type 0} (h : List (BoardEntry A)) (p : ℕ) → HandsOutAtMost h p
most_handed_out h p legal =
    let es = entries_of p h in
    let f = handed_below es (each_right [] h p legal) in
    let l = unbroken-le (finished es) 0 (length (submissions es)) in
    omega arith

-- ---- all is handed out

-- these notices end with a completion, if there are any
abbrev EndsDone : List Notice → Type 0
EndsDone ns = (ns ≡ []) ⊎ ((ms : List Notice) × (n : ℕ) × (ns ≡ ms ++ Completes n ∷ []))

-- what a pipeline told of which all that is past the queue is finished
abbrev IsEnding : {A : Type 0} → List (BoardEntry A) → Type 0
IsEnding es = front es ≡ passed_on es → EndsDone (told es)

birth_left : {A : Type 0} (es : List (BoardEntry A)) (e : BoardEntry A) → birth_in e ≡ None → birth (es ++ e ∷ []) ≡ birth es
birth_left es e b = ap first (filter_map-none birth_in es e b)

told_left : {A : Type 0} (es : List (BoardEntry A)) (e : BoardEntry A) → tells es e ≡ [] → told (es ++ e ∷ []) ≡ told es
told_left es e t = told-more es e ∙ (ap (λ ns. told es ++ ns) t ∙ append-nil (told es))

ending_quiet : {A : Type 0} (es : List (BoardEntry A)) (e : BoardEntry A) → IsEnding es → birth_in e ≡ None → accepted_in e ≡ None → dequeued_in e ≡ None → finished_in e ≡ None → tells es e ≡ [] → IsEnding (es ++ e ∷ [])
ending_quiet es e o b a d f t all =
    let be = birth_left es e b in
    let subs : submissions (es ++ e ∷ []) ≡ submissions es = filter_map-none accepted_in es e a in
    let deqs : dequeues (es ++ e ∷ []) ≡ dequeues es = filter_map-none dequeued_in es e d in
    let pass : passed_on (es ++ e ∷ []) ≡ passed_on es = rw (be, deqs, subs) refl in
    subst EndsDone (sym (told_left es e t)) (o (sym (front-same es e a f) ∙ (all ∙ pass)))

ending_accepted : {A : Type 0} (es : List (BoardEntry A)) (e : BoardEntry A) (a : A) (given : List Notice) → IsEnding es → IsOrderly es given → has_queue_born (birth es) ≡ true → birth_in e ≡ None → accepted_in e ≡ Some a → dequeued_in e ≡ None → finished_in e ≡ None → tells es e ≡ [] → IsEnding (es ++ e ∷ [])
ending_accepted es e a given o v l b ac d f t all =
    let be = birth_left es e b in
    let deqs : dequeues (es ++ e ∷ []) ≡ dequeues es = filter_map-none dequeued_in es e d in
    let pass : passed_on (es ++ e ∷ []) ≡ passed_on es = rw (be, l, deqs) refl in
    subst EndsDone (sym (told_left es e t)) (o (sym (front-accepted es e a v.numbered ac f) ∙ (all ∙ pass)))

ending_submit : {A : Type 0} (es : List (BoardEntry A)) (caller pipe number : ℕ) (ask : Arc A Global) (given : List Notice) → IsOrderly es given → pad_born (birth es) ≡ true → IsEnding (es ++ Submit caller pipe number ask ∷ [])
ending_submit {A} es caller pipe number ask given v p all =
    let e : BoardEntry A = Submit caller pipe number ask in
    let be = birth_left es e refl in
    let none = pad_no_queue (birth es) p in
    let subs : length (submissions (es ++ e ∷ [])) ≡ length (submissions es) + 1 = ap length (filter_map-some accepted_in es e (arc_value ask) refl) ∙ length-append (submissions es) (arc_value ask ∷ []) in
    let now : passed_on es ≡ length (submissions es) = ap (λ c. cond c (dequeued es) (length (submissions es))) none in
    let then : passed_on (es ++ e ∷ []) ≡ length (submissions (es ++ e ∷ [])) = ap (λ c. cond c (dequeued (es ++ e ∷ [])) (length (submissions (es ++ e ∷ [])))) (ap has_queue_born be ∙ none) in
    let f = front-accepted es e (arc_value ask) v.numbered refl refl in
    let l = front_passed es v.numbered in
    absurd (omega arith)

ending_deq : {A : Type 0} (es : List (BoardEntry A)) (caller pipe number : ℕ) (started : Option ℕ) (given : List Notice) → IsOrderly es given → has_queue_born (birth es) ≡ true → IsEnding (es ++ Deq caller pipe number started ∷ [])
ending_deq {A} es caller pipe number started given v server all =
    let e : BoardEntry A = Deq caller pipe number started in
    let be = birth_left es e refl in
    let deqs : dequeued (es ++ e ∷ []) ≡ dequeued es + 1 = ap length (filter_map-some dequeued_in es e (number, caller) refl) ∙ length-append (dequeues es) ((number, caller) ∷ []) in
    let now : passed_on es ≡ dequeued es = ap (λ c. cond c (dequeued es) (length (submissions es))) server in
    let then : passed_on (es ++ e ∷ []) ≡ dequeued (es ++ e ∷ []) = ap (λ c. cond c (dequeued (es ++ e ∷ [])) (length (submissions (es ++ e ∷ [])))) (ap has_queue_born be ∙ server) in
    let f = front-same es e refl refl in
    let l = front_passed es v.numbered in
    absurd (omega arith)

many_done : (before : List Notice) (f many : ℕ) → (many ≡ 0 → EndsDone before) → EndsDone (before ++ completes_from f many)
many_done before f zero h = subst EndsDone (sym (append-nil before)) (h refl)
many_done before f (suc many) h =
    let last : completes_from f (suc many) ≡ completes_from f many ++ Completes (f + many) ∷ [] = (let q : many + 1 ≡ suc many = omega arith in ap (completes_from f) (sym q) ∙ sym (completes_on f many 1)) in
    inr (before ++ completes_from f many, f + many, ap (λ ns. before ++ ns) last ∙ sym (append_assoc before (completes_from f many) (Completes (f + many) ∷ [])))

ending_finish : {A : Type 0} (es : List (BoardEntry A)) (caller pipe number : ℕ) → IsEnding es → IsEnding (es ++ Finish caller pipe number ∷ [])
ending_finish {A} es caller pipe number o all =
    let e : BoardEntry A = Finish caller pipe number in
    let be = birth_left es e refl in
    let subs : submissions (es ++ e ∷ []) ≡ submissions es = filter_map-none accepted_in es e refl in
    let deqs : dequeues (es ++ e ∷ []) ≡ dequeues es = filter_map-none dequeued_in es e refl in
    let pass : passed_on (es ++ e ∷ []) ≡ passed_on es = rw (be, deqs, subs) refl in
    let g = front_grows es e in
    subst EndsDone (sym (told-more es e)) (many_done (told es) (front es) (front (es ++ e ∷ []) - front es) (λ z. o (let q : front es ≡ passed_on es = omega arith in q)))

ending_enq : {A : Type 0} (es : List (BoardEntry A)) (answer : Entered) (caller pipe : ℕ) (ask : Arc A Global) (backlog : Bool) (given : List Notice) → IsEnding es → IsOrderly es given → has_queue_born (birth es) ≡ true → IsEnding (es ++ Enq caller pipe ask backlog answer ∷ [])
ending_enq es (InProgress n) caller pipe ask backlog given o v l = ending_accepted es (Enq caller pipe ask backlog (InProgress n)) (arc_value ask) given o v l refl refl refl refl refl
ending_enq es (Busy n) caller pipe ask backlog given o v l = ending_accepted es (Enq caller pipe ask backlog (Busy n)) (arc_value ask) given o v l refl refl refl refl refl
ending_enq es NoSpace caller pipe ask backlog given o v l = ending_quiet es (Enq caller pipe ask backlog NoSpace) o refl refl refl refl refl

ending_step : {A : Type 0} (es : List (BoardEntry A)) (e : BoardEntry A) (given : List Notice) → IsEnding es → IsOrderly es given → IsRightFor es e → IsEnding (es ++ e ∷ [])
ending_step es (Born caller pipe shape) given o v r = λ all. rw r.1 (inl refl)
ending_step es (Submit caller pipe number ask) given o v r = ending_submit es caller pipe number ask given v r.1.0
ending_step es (Take caller pipe number) given o v r = ending_quiet es (Take caller pipe number) o refl refl refl refl refl
ending_step es (Finish caller pipe number) given o v r = ending_finish es caller pipe number o
ending_step es (Enq caller pipe ask backlog answer) given o v r = ending_enq es answer caller pipe ask backlog given o v r.1.0
ending_step es (Deq caller pipe number started) given o v r = ending_deq es caller pipe number started given v r.0.0
ending_step es (Done caller pipe number) given o v r = λ all. inr (told es, number, told-more es (Done caller pipe number))
ending_step es (Hold caller pipe) given o v r = ending_quiet es (Hold caller pipe) o refl refl refl refl refl
ending_step es (Go caller pipe) given o v r = ending_quiet es (Go caller pipe) o refl refl refl refl refl
ending_step es (Collect caller pipe to) given o v r = ending_quiet es (Collect caller pipe to) o refl refl refl refl refl
ending_step es (Close caller pipe) given o v r = ending_quiet es (Close caller pipe) o refl refl refl refl refl
ending_step es (Share caller pipe) given o v r = ending_quiet es (Share caller pipe) o refl refl refl refl refl
ending_step es (Mask caller pipe bits) given o v r = ending_quiet es (Mask caller pipe bits) o refl refl refl refl refl
ending_step es (Shut caller) given o v r = absurd r

ending_run : {A : Type 0} (before es : List (BoardEntry A)) (given : List Notice) → IsEnding before → IsOrderly before given → AreRightForAfter before es → IsEnding (before ++ es)
ending_run before [] given o v r = subst (λ es. IsEnding es) (sym (append-nil before)) o
ending_run before (e ∷ es) given o v r = subst (λ es. IsEnding es) (append_assoc before (e ∷ []) es) (ending_run (before ++ e ∷ []) es (given ++ handed_in before e) (ending_step before e given o v r.0) (orderly_step before e given v r.0) r.1)

completed-take-le : (c : ℕ) (ns : List Notice) → length (completed (take c ns)) ≤ length (completed ns)
completed-take-le zero [] = omega arith
completed-take-le zero (x ∷ ns) = omega arith
completed-take-le (suc c) [] = omega arith
completed-take-le (suc c) (Starts m ∷ ns) = completed-take-le c ns
completed-take-le (suc c) (Completes m ∷ ns) = (let l = completed-take-le c ns in omega arith)

whole_cases : (ns ms : List Notice) (n c : ℕ) → ns ≡ ms ++ Completes n ∷ [] → c ≤ length ns → length (completed (take c ns)) ≡ length (completed ns) → (length ms < c) ⊎ (c ≤ length ms) → c ≡ length ns
whole_cases ns ms n c e l all (inl g) = (let m : length ns ≡ length ms + 1 = ap length e ∙ length-append ms (Completes n ∷ []) in omega arith)
whole_cases ns ms n c e l all (inr g) =
    let m : length (completed ns) ≡ length (completed ms) + 1 = ap (λ xs. length (completed xs)) e ∙ (ap length (filter_map-append completed_in ms (Completes n ∷ [])) ∙ length-append (completed ms) (n ∷ [])) in
    let t : length (completed (take c ns)) ≡ length (completed (take c ms)) = ap (λ xs. length (completed xs)) (ap (take c) e ∙ take-append-le c ms (Completes n ∷ []) g) in
    let few = completed-take-le c ms in
    absurd (omega arith)

-- a front with all completions of what ends with a completion is all of it
whole : (ns : List Notice) (c : ℕ) → EndsDone ns → c ≤ length ns → length (completed (take c ns)) ≡ length (completed ns) → c ≡ length ns
whole ns c (inl e) l all = (let n = ap length e in omega arith)
whole ns c (inr (ms, n, e)) l all = whole_cases ns ms n c e l all (cases_lt (length ms) c)

all_out : {A : Type 0} (es : List (BoardEntry A)) → AreRightForAfter [] es → length (completed (handed_out es)) ≡ length (submissions es) → IsDrained es
all_out {A} es r all =
    let o = orderly es r in
    let b = handed_below es r in
    let l = unbroken-le (finished es) 0 (length (submissions es)) in
    let p = passed-le es o.numbered.queued in
    let m = front_passed es o.numbered in
    let f : front es ≡ length (submissions es) = omega arith in
    let said : length (completed (told es)) ≡ front es = ap length o.telling.said ∙ length-numbers (front es) in
    let handed : length (completed (handed_out es)) ≡ length (completed (take (collected es) (told es))) = ap (λ ns. length (completed ns)) o.telling.front_of in
    let ending : EndsDone (told es) = ending_run {A = A} [] es [] (λ q. inl refl) orderly_start r (omega arith) in
    (f, whole (told es) (collected es) ending o.telling.within (omega arith))

pub all_handed_out : {A : Type 0} (h : List (BoardEntry A)) (p : ℕ) → AllHandedOutIsDrained h p
all_handed_out h p legal all = all_out (entries_of p h) (each_right [] h p legal) all

-- ---- whose entries one more joins

pub joins : {A : Type 0} (h : List (BoardEntry A)) (e : BoardEntry A) (p : ℕ) → Joins h e p
joins h e p s = entries-more h p e s

pub leaves_others : {A : Type 0} (h : List (BoardEntry A)) (e : BoardEntry A) (p : ℕ) → LeavesOthers h e p
leaves_others h e p s = entries-same h p e s

pub begins_alone : {A : Type 0} (h : List (BoardEntry A)) (caller p : ℕ) (shape : Shape) → BeginsAlone h caller p shape
begins_alone h caller p shape legal = (last_right [] h (Born caller p shape) legal).1.1
