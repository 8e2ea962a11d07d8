-- A request that is accepted, and an entry that changes nothing, leave a pipeline as its entries say.
use Rattle.std.proofs.Common.{◌≡◌, ℕ, zero, suc, ◌+◌, ◌<◌, ◌≤◌, Bool, true, false, cond, List, [], ◌∷◌, ◌++◌, length, map, drop, Some, None, is_some, refl, sym, ◌∙◌, ap, subst, arith, append-nil, length-append}
use Rattle.std.specs.Prelude.{◌==◌, nat_lt, slice_get}
use Rattle.std.specs.List.{filter_map, cons_option}
use Rattle.std.proofs.lemmas.Bool.{eq-eqb, or_left, or_right}
use Rattle.std.proofs.lemmas.List.{length-map, drop-append-le, take-append-le, take_all, map-append}
use Rattle.kc_base.specs.declared.callback_list.Callback.TheVariants as callback
use Rattle.padata_core.specs.Pad.{Pad, taken_of}
use Rattle.request_queue.specs.BoundedQueue.{number_at_bound}
use Rattle.cryptd.specs.Server.{Server}
use Rattle.board.specs.declared.entry.BoardEntry.{BoardEntry}
use Rattle.board.specs.Shapes.{max_born, has_queue_born}
use Rattle.board.specs.Entries.{Notice, Starts, Completes, birth, accepted_in, submissions, dequeued_in, dequeues, dequeued, passed_on, taken_in, finished_in, finished, has, front, starts, tells, told, held_in, is_held, last_or, callback_of, completion, meaning_at}
use Rattle.board.specs.Order.{completed}
use Rattle.board.specs.Kept.{IsKeptServer, IsKeptPad}
use Rattle.board.proofs.Lists.{filter_map-none, filter_map-some, has_only_below}
use Rattle.board.proofs.Fronts.{unbroken-le}
use Rattle.board.proofs.Keeping.{birth_stays, told-more, IsOrderly}
use Rattle.board.proofs.KeptPad.{takers-same}

slice_get-left : {X : Type 0} (xs ys : List X) (i : ℕ) → i < length xs → slice_get (xs ++ ys) i ≡ slice_get xs i
slice_get-left [] ys i l = absurd (omega arith)
slice_get-left (x ∷ xs) ys zero l = refl
slice_get-left (x ∷ xs) ys (suc i) l = slice_get-left xs ys i (omega arith)

pub meaning-more : {A O : Type 0} (meaning : A → O) (asks more : List A) (n : ℕ) → n < length asks → meaning_at meaning (asks ++ more) n ≡ meaning_at meaning asks n
meaning-more meaning asks more n l =
    ap (λ xs. slice_get xs n) (map-append meaning asks more) ∙ slice_get-left (map meaning asks) (map meaning more) n (let h = length-map asks meaning in omega arith)

callbacks_all : {A O : Type 0} (meaning : A → O) (asks more : List A) (ns : List Notice) → ((n : ℕ) → has n (completed ns) ≡ true → n < length asks) → filter_map (callback_of meaning (asks ++ more)) ns ≡ filter_map (callback_of meaning asks) ns
callbacks_all meaning asks more [] h = refl
callbacks_all meaning asks more (Starts n ∷ ns) h = ap (λ cs. callback.Started n ∷ cs) (callbacks_all meaning asks more ns h)
callbacks_all meaning asks more (Completes n ∷ ns) h =
    let l : n < length asks = h n (or_left (n == n) (has n (completed ns)) (eq-eqb n n refl)) in
    ap (λ o. cons_option (completion n o) (filter_map (callback_of meaning (asks ++ more)) ns)) (meaning-more meaning asks more n l)
    ∙ ap (cons_option (completion n (meaning_at meaning asks n))) (callbacks_all meaning asks more ns (λ m g. h m (or_right (n == m) (has m (completed ns)) g)))

-- the callbacks of completed requests stay as more requests come
pub callbacks_more : {A O : Type 0} (meaning : A → O) (asks more : List A) (c : ℕ) (ns : List Notice) → ((n : ℕ) → has n (completed ns) ≡ true → n < length asks) → filter_map (callback_of meaning (asks ++ more)) (drop c ns) ≡ filter_map (callback_of meaning asks) (drop c ns)
callbacks_more meaning asks more zero [] h = refl
callbacks_more meaning asks more (suc c) [] h = refl
callbacks_more meaning asks more zero (n ∷ ns) h = callbacks_all meaning asks more (n ∷ ns) h
callbacks_more meaning asks more (suc c) (Starts n ∷ ns) h = callbacks_more meaning asks more c ns h
callbacks_more meaning asks more (suc c) (Completes n ∷ ns) h = callbacks_more meaning asks more c ns (λ m g. h m (or_right (n == m) (has m (completed ns)) g))

bound_cases : (max s w n : ℕ) (b : Bool) → nat_lt max w ≡ b → n ≡ s + w → nat_lt (s + max) n ≡ b
bound_cases max s w n true h e = (let l : max < w = grind arith in grind arith)
bound_cases max s w n false h e = (let l : w ≤ max = grind arith in grind arith)

-- which number starts where the first leaves the queue
pub starts_is : {J O A : Type 0} (asked : J → A) (meaning : A → O) (server : Server J O) (es : List (BoardEntry A)) (place : ℕ) → IsKeptServer asked meaning server place es → number_at_bound server.queue ≡ starts es server.queue.served
starts_is asked meaning server es place k =
    rw (k.bound, bound_cases server.queue.max server.queue.served (length server.queue.waiting) (length (submissions es)) (nat_lt server.queue.max (length server.queue.waiting)) refl k.submitted) refl

-- what is told completes accepted requests alone
pub completed_low : {A : Type 0} (es : List (BoardEntry A)) (given : List Notice) → IsOrderly es given → (n : ℕ) → has n (completed (told es)) ≡ true → n < length (submissions es)
completed_low es given o n h =
    let l = has_only_below (front es) n (subst (λ ns. has n ns ≡ true) o.telling.said h) in
    let f = unbroken-le (finished es) 0 (length (submissions es)) in
    omega arith

-- a queue after an entry that neither accepts, lets out, tells nor holds
pub server_quiet : {J O A : Type 0} (asked : J → A) (meaning : A → O) (server : Server J O) (es : List (BoardEntry A)) (e : BoardEntry A) (place : ℕ) → IsKeptServer asked meaning server place es → is_some (birth es) ≡ true → accepted_in e ≡ None → dequeued_in e ≡ None → tells es e ≡ [] → held_in e ≡ None → IsKeptServer asked meaning server place (es ++ e ∷ [])
server_quiet asked meaning server es e place k b a d t h =
    let be = birth_stays es e b in
    let subs : submissions (es ++ e ∷ []) ≡ submissions es = filter_map-none accepted_in es e a in
    let deqs : dequeues (es ++ e ∷ []) ≡ dequeues es = filter_map-none dequeued_in es e d in
    let held : is_held (es ++ e ∷ []) ≡ is_held es = ap (last_or false) (filter_map-none held_in es e h) in
    let same : told (es ++ e ∷ []) ≡ told es = told-more es e ∙ (ap (λ ns. told es ++ ns) t ∙ append-nil (told es)) in
    record {
      bound = ap max_born be ∙ k.bound;
      holding = held ∙ k.holding;
      submitted = ap length subs ∙ k.submitted;
      served = ap length deqs ∙ k.served;
      waiting = rw subs k.waiting;
      telling = ap length same ∙ k.telling;
      pending = rw (same, subs) k.pending;
    }

-- a queue that accepted a request
pub server_accepted : {J O A : Type 0} (asked : J → A) (meaning : A → O) (server : Server J O) (es : List (BoardEntry A)) (e : BoardEntry A) (place : ℕ) (job : J) (given : List Notice) → IsKeptServer asked meaning server place es → IsOrderly es given → is_some (birth es) ≡ true → accepted_in e ≡ Some (asked job) → dequeued_in e ≡ None → tells es e ≡ [] → held_in e ≡ None
    → IsKeptServer asked meaning (record server { queue = record server.queue { waiting = server.queue.waiting ++ job ∷ [] } }) place (es ++ e ∷ [])
server_accepted asked meaning server es e place job given k o b a d t h =
    let be = birth_stays es e b in
    let subs : submissions (es ++ e ∷ []) ≡ submissions es ++ asked job ∷ [] = filter_map-some accepted_in es e (asked job) a in
    let deqs : dequeues (es ++ e ∷ []) ≡ dequeues es = filter_map-none dequeued_in es e d in
    let held : is_held (es ++ e ∷ []) ≡ is_held es = ap (last_or false) (filter_map-none held_in es e h) in
    let same : told (es ++ e ∷ []) ≡ told es = told-more es e ∙ (ap (λ ns. told es ++ ns) t ∙ append-nil (told es)) in
    let sub = k.submitted in
    let lw = length-append server.queue.waiting (job ∷ []) in
    let ls = length-append (submissions es) (asked job ∷ []) in
    let z = ap length subs in
    let le : server.queue.served ≤ length (submissions es) = omega arith in
    record {
      bound = ap max_born be ∙ k.bound;
      holding = held ∙ k.holding;
      submitted = omega arith;
      served = ap length deqs ∙ k.served;
      waiting = rw (subs, drop-append-le server.queue.served (submissions es) (asked job ∷ []) le, ← k.waiting) (map-append asked server.queue.waiting (job ∷ []));
      telling = ap length same ∙ k.telling;
      pending = rw (same, subs) (k.pending ∙ sym (callbacks_more meaning (submissions es) (asked job ∷ []) place (told es) (completed_low es given o)));
    }

-- a pad after an entry that neither accepts, lets out, takes nor finishes
pub pad_quiet : {J O A : Type 0} (asked : J → A) (meaning : A → O) (pad : Pad J O) (es : List (BoardEntry A)) (e : BoardEntry A) → IsKeptPad asked meaning pad es → is_some (birth es) ≡ true → accepted_in e ≡ None → dequeued_in e ≡ None → taken_in e ≡ None → finished_in e ≡ None → IsKeptPad asked meaning pad (es ++ e ∷ [])
pad_quiet asked meaning pad es e k b a d t f =
    let be = birth_stays es e b in
    let subs : submissions (es ++ e ∷ []) ≡ submissions es = filter_map-none accepted_in es e a in
    let deqs : dequeues (es ++ e ∷ []) ≡ dequeues es = filter_map-none dequeued_in es e d in
    let pass : passed_on (es ++ e ∷ []) ≡ passed_on es = rw (be, deqs, subs) refl in
    let fins : finished (es ++ e ∷ []) ≡ finished es = filter_map-none finished_in es e f in
    let tk = takers-same es e be d t in
    record {
      submitted = pass ∙ k.submitted;
      waiting = rw (pass, subs) k.waiting;
      taken = λ m l. rw (tk m) (k.taken m l);
      untaken = λ m l. tk m ∙ k.untaken m l;
      outcomes = λ m q l. rw (subs, fins) (k.outcomes m q l);
      passed = λ m l. rw fins (k.passed m l);
      running = λ m l. rw fins (k.running m l);
    }

-- the pad within a chain, whose queue accepted a request
pub within_accepted : {J O A : Type 0} (asked : J → A) (meaning : A → O) (pad : Pad J O) (es : List (BoardEntry A)) (e : BoardEntry A) (a : A) → IsKeptPad asked meaning pad es → is_some (birth es) ≡ true → has_queue_born (birth es) ≡ true → passed_on es ≤ length (submissions es) → accepted_in e ≡ Some a → dequeued_in e ≡ None → taken_in e ≡ None → finished_in e ≡ None → IsKeptPad asked meaning pad (es ++ e ∷ [])
within_accepted asked meaning pad es e a k b lb le ac d t f =
    let be = birth_stays es e b in
    let subs : submissions (es ++ e ∷ []) ≡ submissions es ++ a ∷ [] = filter_map-some accepted_in es e a ac in
    let deqs : dequeues (es ++ e ∷ []) ≡ dequeues es = filter_map-none dequeued_in es e d in
    let pass : passed_on (es ++ e ∷ []) ≡ passed_on es = rw (be, lb, deqs) refl in
    let fins : finished (es ++ e ∷ []) ≡ finished es = filter_map-none finished_in es e f in
    let tk = takers-same es e be d t in
    let s = k.submitted in
    record {
      submitted = pass ∙ k.submitted;
      waiting = rw (pass, subs, take-append-le (passed_on es) (submissions es) (a ∷ []) le) k.waiting;
      taken = λ m l. rw (tk m) (k.taken m l);
      untaken = λ m l. tk m ∙ k.untaken m l;
      outcomes = λ m q l.
          (let z : pad.collected + m < length (submissions es) = omega arith in
          rw (subs, fins, meaning-more meaning (submissions es) (a ∷ []) (pad.collected + m) z) (k.outcomes m q l));
      passed = λ m l. rw fins (k.passed m l);
      running = λ m l. rw fins (k.running m l);
    }

-- a pad that accepted a request
pub submit_kept : {J O A : Type 0} (asked : J → A) (meaning : A → O) (pad : Pad J O) (es : List (BoardEntry A)) (e : BoardEntry A) (job : J) (spare : ℕ) → IsKeptPad asked meaning pad es → is_some (birth es) ≡ true → has_queue_born (birth es) ≡ false → accepted_in e ≡ Some (asked job) → dequeued_in e ≡ None → taken_in e ≡ None → finished_in e ≡ None
    → IsKeptPad asked meaning (record pad { waiting = pad.waiting ++ job ∷ []; spare = spare }) (es ++ e ∷ [])
submit_kept asked meaning pad es e job spare k b lb a d t f =
    let be = birth_stays es e b in
    let subs : submissions (es ++ e ∷ []) ≡ submissions es ++ asked job ∷ [] = filter_map-some accepted_in es e (asked job) a in
    let fins : finished (es ++ e ∷ []) ≡ finished es = filter_map-none finished_in es e f in
    let now : passed_on es ≡ length (submissions es) = ap (λ c. cond c (dequeued es) (length (submissions es))) lb in
    let then : passed_on (es ++ e ∷ []) ≡ length (submissions (es ++ e ∷ [])) = ap (λ c. cond c (dequeued (es ++ e ∷ [])) (length (submissions (es ++ e ∷ [])))) (ap has_queue_born be ∙ lb) in
    let ls = length-append (submissions es) (asked job ∷ []) in
    let z = ap length subs in
    let s = k.submitted in
    let lw = length-append pad.waiting (job ∷ []) in
    let tk = takers-same es e be d t in
    let le : taken_of pad ≤ length (submissions es) = omega arith in
    let whole : map asked pad.waiting ≡ drop (taken_of pad) (submissions es) = k.waiting ∙ ap (drop (taken_of pad)) (take_all (passed_on es) (submissions es) (omega arith)) in
    record {
      submitted = (let q : passed_on (es ++ e ∷ []) ≡ taken_of pad + length (pad.waiting ++ job ∷ []) = omega arith in q);
      waiting =
          map-append asked pad.waiting (job ∷ [])
          ∙ (ap (λ xs. xs ++ asked job ∷ []) whole
          ∙ (sym (drop-append-le (taken_of pad) (submissions es) (asked job ∷ []) le)
          ∙ (ap (drop (taken_of pad)) (sym subs)
          ∙ ap (drop (taken_of pad)) (sym (take_all (passed_on (es ++ e ∷ [])) (submissions (es ++ e ∷ [])) (omega arith))))));
      taken = λ m l. rw (tk m) (k.taken m l);
      untaken = λ m l. tk m ∙ k.untaken m l;
      outcomes = λ m q l.
          (let w : pad.collected + m < length (submissions es) = omega arith in
          rw (subs, fins, meaning-more meaning (submissions es) (asked job ∷ []) (pad.collected + m) w) (k.outcomes m q l));
      passed = λ m l. rw fins (k.passed m l);
      running = λ m l. rw fins (k.running m l);
    }
