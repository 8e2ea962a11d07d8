-- What a take does to the board.
use Rattle.std.proofs.Common.{◌≡◌, ℕ, zero, suc, ◌+◌, ◌*◌, ◌<◌, ◌≤◌, Bool, true, false, cond, ◌||◌, List, [], ◌∷◌, ◌++◌, length, map, take, Option, Some, None, is_some, refl, sym, ◌∙◌, ap, subst, arith, inl, inr, ◌⊎◌, length-append}
use Rattle.std.specs.Prelude.{◌==◌, slice_get}
use Rattle.std.specs.List.{filter, filter_map}
use Rattle.std.specs.Option.{option_map}
use Rattle.std.proofs.lemmas.Bool.{cases_lt, eq-eqb, false_from_ne_true}
use Rattle.std.proofs.lemmas.Option.{slice_get-map}
use Rattle.std.proofs.lemmas.List.{map-append}
use Rattle.std.proofs.lemmas.List.Elements.{filter-append}
use Rattle.padata_core.specs.Pad.{Pad, taken_of, ready, running_of}
use Rattle.padata_core.proofs.Tables.{running-more}
use Rattle.request_queue.specs.BoundedQueue.{number_at_bound}
use Rattle.cryptd.specs.Server.{Server}
use Rattle.board.specs.declared.entry.Shape.{Shape}
use Rattle.board.specs.declared.entry.Shape.TheVariants as shape
use Rattle.board.specs.declared.entry.BoardEntry.{BoardEntry}
use Rattle.board.specs.declared.entry.BoardEntry.TheVariants.{Take, Deq}
use Rattle.board.specs.declared.pipeline.Pipeline.{Pipeline}
use Rattle.board.specs.declared.stage.Stage.{Stage}
use Rattle.board.specs.declared.stage.Stage.TheVariants as stage
use Rattle.board.specs.Shapes.{queue_born, has_queue_born, lists_born, width_born}
use Rattle.board.specs.Stages.{is_queue, jobs_of, next_of, started_by, MayServe, MayPass, without_first}
use Rattle.board.specs.Entries.{is_of, entries_of, birth_in, birth, accepted_in, submissions, dequeued_in, dequeues, dequeued, passed_on, taken_in, takings, takers, finished_in, finished, has, is_close, is_closed, is_share, masked_in, submitter_in, collected_in, take_entry, MayTake, AllTaken, IsHeldBusyOrEmpty, NoneFor}
use Rattle.board.specs.Legal.{IsRight, IsRightFor, MayFinish, LegalBoard, is_shut_entry}
use Rattle.board.specs.Places.{Places, places}
use Rattle.board.specs.Kept.{shape_of, IsKeptPad, IsKeptStage, IsKeptPipe, IsKeptBoard, work_owed, owed_by}
use Rattle.board.specs.RunQueue.{HasJob, Admits, NoneIs}
use Rattle.board.proofs.Lists.{filter_map-none, filter_map-some, has_only_below}
use Rattle.board.proofs.Transfer.{entries-more, each_right}
use Rattle.board.proofs.Keeping.{birth_stays, AreNumbered, passed-le, orderly}
use Rattle.board.proofs.Kept.{Pipes, IsSet, place_step}
use Rattle.board.proofs.Closed.{ended_taken, ended_server}
use Rattle.board.proofs.KeptMarks.{stage_more}
use Rattle.board.proofs.Admitting.{queue_kept, may_take, admitted}
use Rattle.board.proofs.KeptPassing.{drop_head}
use Rattle.board.proofs.KeptTaking.{takers-taken, take_kept}
use Rattle.board.proofs.KeptEntering.{server_quiet, starts_is}
use Rattle.board.proofs.KeptQueue.{queue_taken}
use Rattle.board.proofs.KeptLists.{first_lists}

-- the entry by which the first job of a pipeline is taken
abbrev pub first_taken : {J O A : Type 0} → Stage J O → ℕ → ℕ → BoardEntry A
first_taken s caller p = cond (is_queue s) (Deq caller p (next_of s) (started_by s)) (Take caller p (next_of s))

-- ---- lists

take_get : {X : Type 0} (xs : List X) (k n : ℕ) (x : X) → slice_get (take k xs) n ≡ Some x → slice_get xs n ≡ Some x
take_get [] zero n x h = cc
take_get [] (suc k) n x h = h
take_get (y ∷ xs) zero n x h = cc
take_get (y ∷ xs) (suc k) zero x h = h
take_get (y ∷ xs) (suc k) (suc n) x h = take_get xs k n x h

ready_more : {O : Type 0} (outs : List (Option O)) → ready outs ≡ [] → ready (outs ++ None ∷ []) ≡ []
ready_more [] h = refl
ready_more (None ∷ outs) h = refl
ready_more (Some x ∷ outs) h = cc

none_step : (b : Bool) (t : ℕ × ℕ) (ts : List (ℕ × ℕ)) (h : Bool) → (b || h) ≡ false → (h ≡ false → map (λ (u : ℕ × ℕ). u.1) ts ≡ []) → map (λ (u : ℕ × ℕ). u.1) (cond b (t ∷ ts) ts) ≡ []
none_step true t ts h e rest = cc
none_step false t ts h e rest = rest e

-- a number that is not among those taken has nobody who took it
none_took : (ts : List (ℕ × ℕ)) (n : ℕ) → has n (map (λ (t : ℕ × ℕ). t.0) ts) ≡ false → map (λ (t : ℕ × ℕ). t.1) (filter (λ (t : ℕ × ℕ). t.0 == n) ts) ≡ []
none_took [] n h = refl
none_took (t ∷ ts) n h = none_step (t.0 == n) t (filter (λ (u : ℕ × ℕ). u.0 == n) ts) (has n (map (λ (u : ℕ × ℕ). u.0) ts)) h (none_took ts n)

-- ---- what holds of the next number of a queue

not_among : {A : Type 0} (es : List (BoardEntry A)) (n : ℕ) → AreNumbered es → dequeued es ≤ n → has n (map (λ (t : ℕ × ℕ). t.0) (dequeues es)) ≡ false
not_among es n o l = false_from_ne_true (has n (map (λ (t : ℕ × ℕ). t.0) (dequeues es))) (λ h. (let b = has_only_below (dequeued es) n (subst (λ ns. has n ns ≡ true) o.numbers h) in absurd (omega arith)))

serial_takings : {A : Type 0} (es : List (BoardEntry A)) → queue_born (birth es) ≡ true → takings es ≡ dequeues es
serial_takings es q = ap (λ b. cond b (dequeues es) (filter_map taken_in es)) q

-- nobody took a number that didn't leave the queue
pub queue_untaken : {A : Type 0} (es : List (BoardEntry A)) (n : ℕ) → AreNumbered es → queue_born (birth es) ≡ true → dequeued es ≤ n → takers n es ≡ []
queue_untaken es n o q l = ap (λ ts. map (λ (t : ℕ × ℕ). t.1) (filter (λ (t : ℕ × ℕ). t.0 == n) ts)) (serial_takings es q) ∙ none_took (dequeues es) n (not_among es n o l)

unfinished_beyond : {A : Type 0} (es : List (BoardEntry A)) (n : ℕ) → AreNumbered es → passed_on es ≤ n → has n (finished es) ≡ false
unfinished_beyond es n o l = false_from_ne_true (has n (finished es)) (λ h. (let b = o.done n h in absurd (omega arith)))

-- who lets a queue's next request out has taken it
pub takers-let : {A : Type 0} (es : List (BoardEntry A)) (p n caller : ℕ) (o : Option ℕ) → is_some (birth es) ≡ true → queue_born (birth es) ≡ true → takers n es ≡ [] → takers n (es ++ Deq caller p n o ∷ []) ≡ caller ∷ []
takers-let {A} es p n caller o b q none =
    let e : BoardEntry A = Deq caller p n o in
    let be = birth_stays es e b in
    let now = serial_takings es q in
    let then : takings (es ++ e ∷ []) ≡ takings es ++ (n, caller) ∷ [] = serial_takings (es ++ e ∷ []) (ap queue_born be ∙ q) ∙ (filter_map-some dequeued_in es e (n, caller) refl ∙ ap (λ ts. ts ++ (n, caller) ∷ []) (sym now)) in
    ap (λ ts. map (λ (t : ℕ × ℕ). t.1) (filter (λ (t : ℕ × ℕ). t.0 == n) ts)) then
    ∙ (ap (map (λ (t : ℕ × ℕ). t.1)) (filter-append (λ (t : ℕ × ℕ). t.0 == n) (takings es) ((n, caller) ∷ []))
    ∙ (map-append (λ (t : ℕ × ℕ). t.1) (filter (λ (t : ℕ × ℕ). t.0 == n) (takings es)) (cond (n == n) ((n, caller) ∷ []) [])
    ∙ (ap (λ c. takers n es ++ map (λ (t : ℕ × ℕ). t.1) (cond c ((n, caller) ∷ []) [])) (eq-eqb n n refl)
    ∙ ap (λ xs. xs ++ caller ∷ []) none)))

takers-off : {A : Type 0} (es : List (BoardEntry A)) (p n caller : ℕ) → is_some (birth es) ≡ true → queue_born (birth es) ≡ false → takers n es ≡ [] → takers n (es ++ Take caller p n ∷ []) ≡ caller ∷ []
takers-off es p n caller b q none =
    takers-taken es p n caller n b q
    ∙ (ap (λ c. takers n es ++ map (λ (t : ℕ × ℕ). t.1) (cond c ((n, caller) ∷ []) [])) (eq-eqb n n refl)
    ∙ ap (λ xs. xs ++ caller ∷ []) none)

-- who just took a number may finish it
may_finish : {A O : Type 0} (meaning : A → O) (es : List (BoardEntry A)) (e : BoardEntry A) (caller n : ℕ) (a : A) → takers n (es ++ e ∷ []) ≡ caller ∷ [] → accepted_in e ≡ None → finished_in e ≡ None → has n (finished es) ≡ false → slice_get (submissions es) n ≡ Some a → MayFinish meaning (es ++ e ∷ []) caller n (meaning a)
may_finish meaning es e caller n a t s f running ask =
    let fe : finished (es ++ e ∷ []) ≡ finished es = filter_map-none finished_in es e f in
    let se : submissions (es ++ e ∷ []) ≡ submissions es = filter_map-none accepted_in es e s in
    (t, rw fe running, rw se (slice_get-map meaning (submissions es) n ∙ ap (option_map meaning) ask))

-- ---- taking the first job: what is kept, that it is right, what it leaves owed, and the ask

record IsTakenOf {J O A : Type 0} (asked : J → A) (meaning : A → O) (s : Stage J O) (es : List (BoardEntry A)) (place caller p : ℕ) (job : J) (rest : List J) : Type 0 where
  kept : IsKeptStage asked meaning (without_first s rest) place (es ++ first_taken s caller p ∷ [])
  right : IsRightFor es (first_taken s caller p)
  pays : work_owed (without_first s rest) + 1 ≡ work_owed s
  ask : slice_get (submissions es) (next_of s) ≡ Some (asked job)
  finishing : MayFinish meaning (es ++ first_taken s caller p ∷ []) caller (next_of s) (meaning (asked job))

pad_ask : {J O A : Type 0} (asked : J → A) (meaning : A → O) (pad : Pad J O) (es : List (BoardEntry A)) (job : J) (rest : List J) → IsKeptPad asked meaning pad es → pad.waiting ≡ job ∷ rest → slice_get (submissions es) (taken_of pad) ≡ Some (asked job)
pad_ask asked meaning pad es job rest k w =
    let h = drop_head (take (passed_on es) (submissions es)) (taken_of pad) (asked job) (map asked rest) (sym k.waiting ∙ ap (map asked) w) in
    take_get (submissions es) (passed_on es) (taken_of pad) (asked job) h.0

pad_low : {J O A : Type 0} (asked : J → A) (meaning : A → O) (pad : Pad J O) (es : List (BoardEntry A)) (job : J) (rest : List J) → IsKeptPad asked meaning pad es → pad.waiting ≡ job ∷ rest → taken_of pad < passed_on es
pad_low asked meaning pad es job rest k w = (let l = ap length w in let s = k.submitted in omega arith)

taken_pays : {J O : Type 0} (pad : Pad J O) (job : J) (rest : List J) → pad.waiting ≡ job ∷ rest → 2 * length rest + running_of (pad.outcomes ++ None ∷ []) + 1 ≡ 2 * length pad.waiting + running_of pad.outcomes
taken_pays pad job rest w = (let l = ap length w in let r = running-more pad.outcomes in omega arith)

not_busy : (b : Bool) (f s : ℕ) → b ≡ false → f + cond b 1 0 ≡ s → f ≡ s
not_busy true f s h e = cc
not_busy false f s h e = omega arith

stage_taken : {J O A : Type 0} (asked : J → A) (meaning : A → O) (s : Stage J O) (es : List (BoardEntry A)) (place caller p maker lists : ℕ) (job : J) (rest : List J) → IsKeptStage asked meaning s place es → birth es ≡ Some (maker, shape_of s lists) → AreNumbered es → is_closed es ≡ false → (is_queue s ≡ false → MayTake es caller) → MayServe s → jobs_of s ≡ job ∷ rest → IsTakenOf asked meaning s es place caller p job rest
stage_taken {J} {O} {A} asked meaning (stage.Pad pad) es place caller p maker lists job rest k b o open_ may m w =
    let some = ap is_some b in
    let q = ap queue_born b in
    let n = taken_of pad in
    let e : BoardEntry A = Take caller p n in
    let low = pad_low asked meaning pad es job rest k.0 w in
    let none = k.0.untaken n (omega arith) in
    let ask = pad_ask asked meaning pad es job rest k.0 w in
    record {
      kept = (take_kept asked meaning pad es p caller job rest k.0 some q (passed-le es o.queued) w, k.1);
      right = ((ap lists_born b, open_), low, none, may refl);
      pays = taken_pays pad job rest w;
      ask = ask;
      finishing = may_finish meaning es e caller n (asked job) (takers-off es p n caller some q none) refl refl (k.0.running n (omega arith)) ask;
    }
stage_taken {J} {O} {A} asked meaning (stage.Queue server) es place caller p maker lists job rest k b o open_ may m w =
    let some = ap is_some b in
    let q = ap queue_born b in
    let n = server.queue.served in
    let e : BoardEntry A = Deq caller p n (number_at_bound server.queue) in
    let sv = k.0.served in
    let sub = k.0.submitted in
    let lw = ap length w in
    let idle = not_busy server.busy (length (finished es)) server.queue.served m.1 k.1 in
    let pass : passed_on es ≡ dequeued es = ap (λ c. cond c (dequeued es) (length (submissions es))) (ap has_queue_born b) in
    let none = queue_untaken es n o q (omega arith) in
    let ask = (drop_head (submissions es) n (asked job) (map asked rest) (sym k.0.waiting ∙ ap (map asked) w)).0 in
    record {
      kept = queue_taken asked meaning server es place p caller job rest k some m.1 w;
      right = ((ap has_queue_born b, open_), k.0.holding ∙ m.0, (λ h. omega arith), omega arith, sym sv, starts_is asked meaning server es place k.0);
      pays = rw m.1 (omega arith);
      ask = ask;
      finishing = may_finish meaning es e caller n (asked job) (takers-let es p n caller (number_at_bound server.queue) some q none) refl refl (unfinished_beyond es n o (omega arith)) ask;
    }
stage_taken {J} {O} {A} asked meaning (stage.Chain c) es place caller p maker lists job rest k b o open_ may m w =
    let some = ap is_some b in
    let q = ap queue_born b in
    let n = taken_of c.pad in
    let e : BoardEntry A = Take caller p n in
    let low = pad_low asked meaning c.pad es job rest k.1 w in
    let none = k.1.untaken n (omega arith) in
    let ask = pad_ask asked meaning c.pad es job rest k.1 w in
    let lw = ap length w in
    let lo = length-append c.pad.outcomes (None ∷ []) in
    let pays = taken_pays c.pad job rest w in
    let j = k.2 in
    record {
      kept = (
        server_quiet asked meaning c.server es e place k.0 some refl refl refl refl,
        take_kept asked meaning c.pad es p caller job rest k.1 some q (passed-le es o.queued) w,
        (j.0, (let z = j.1 in omega arith)),
        k.3,
        ready_more c.pad.outcomes k.4,
        k.5,
      );
      right = ((ap lists_born b, open_), low, none, may refl);
      pays = omega arith;
      ask = ask;
      finishing = may_finish meaning es e caller n (asked job) (takers-off es p n caller some q none) refl refl (k.1.running n (omega arith)) ask;
    }

-- no Close, Share, Mask, request or collect
pub record ChangesStage {A : Type 0} (e : BoardEntry A) : Type 0 where
  pub close : is_close e ≡ false
  pub share : is_share e ≡ false
  pub mask : masked_in e ≡ None
  pub submitter : submitter_in e ≡ None
  pub collect : collected_in e ≡ None

first_changes : {J O : Type 0} (A : Type 0) (s : Stage J O) (caller p : ℕ) → ChangesStage {A = A} (first_taken s caller p)
first_changes A (stage.Pad pad) caller p = record { close = refl; share = refl; mask = refl; submitter = refl; collect = refl }
first_changes A (stage.Queue server) caller p = record { close = refl; share = refl; mask = refl; submitter = refl; collect = refl }
first_changes A (stage.Chain c) caller p = record { close = refl; share = refl; mask = refl; submitter = refl; collect = refl }

first_shape : {J O : Type 0} (s : Stage J O) (rest : List J) (lists : ℕ) → shape_of (without_first s rest) lists ≡ shape_of s lists
first_shape (stage.Pad pad) rest lists = refl
first_shape (stage.Queue server) rest lists = refl
first_shape (stage.Chain c) rest lists = refl

pub first_of : {J O : Type 0} (A : Type 0) (s : Stage J O) (caller p : ℕ) → (is_of {A = A} p (first_taken s caller p) ≡ true) × (birth_in {A = A} (first_taken s caller p) ≡ None)
first_of A (stage.Pad pad) caller p = (eq-eqb p p refl, refl)
first_of A (stage.Queue server) caller p = (eq-eqb p p refl, refl)
first_of A (stage.Chain c) caller p = (eq-eqb p p refl, refl)

first_right : {J O A : Type 0} (log : List (BoardEntry A)) (s : Stage J O) (caller p : ℕ) → IsRightFor (entries_of p log) (first_taken s caller p) → IsRight log (first_taken s caller p)
first_right log (stage.Pad pad) caller p r = (tt, r)
first_right log (stage.Queue server) caller p r = (tt, r)
first_right log (stage.Chain c) caller p r = (tt, r)

-- the entries of a pipeline are numbered
pub numbered_here : {A : Type 0} (log : List (BoardEntry A)) (p : ℕ) → LegalBoard log → AreNumbered (entries_of p log)
numbered_here log p l = (orderly (entries_of p log) (each_right [] log p l)).numbered

pub take_step : {J O A : Type 0} (asked : J → A) (meaning : A → O) (pipes : Pipes J O) (born : ℕ) (log : List (BoardEntry A)) (p caller : ℕ) (pipe : Pipeline J O) (after : Stage J O) (job : J) (next : Pipes J O) → IsKeptBoard asked meaning (places pipes) born log → IsSet pipes next p pipe (record pipe { stage = after })
    → HasJob pipe → Admits pipe caller → jobs_of pipe.stage ≡ job ∷ jobs_of after → after ≡ without_first pipe.stage (jobs_of after)
    → IsKeptBoard asked meaning (places next) born (log ++ first_taken pipe.stage caller p ∷ [])
    × (owed_by next + 1 ≡ owed_by pipes)
    × (slice_get (submissions (entries_of p log)) (next_of pipe.stage) ≡ Some (asked job))
    × MayFinish meaning (entries_of p (log ++ first_taken pipe.stage caller p ∷ [])) caller (next_of pipe.stage) (meaning (asked job))
take_step {J} {O} {A} asked meaning pipes born log p caller pipe after job next k set m a w e =
    let es = entries_of p log in
    let rest = jobs_of after in
    let en : BoardEntry A = first_taken pipe.stage caller p in
    let kp = k.each p pipe set.here in
    let t = stage_taken asked meaning pipe.stage es pipe.collected caller p pipe.maker (width_born (birth es)) job rest kp.stage kp.born (numbered_here log p k.legal) kp.closing (λ q. may_take asked meaning pipe es caller kp q a) m w in
    let ch = first_changes A pipe.stage caller p in
    let f = first_of A pipe.stage caller p in
    let moved = stage_more asked meaning pipe (without_first pipe.stage rest) es en kp (first_shape pipe.stage rest) (first_lists pipe.stage rest) ch.close ch.share ch.mask ch.submitter ch.collect t.kept in
    let kept : IsKeptPipe asked meaning (record pipe { stage = after }) (es ++ en ∷ []) = subst (λ s. IsKeptPipe asked meaning (record pipe { stage = s }) (es ++ en ∷ [])) (sym e) moved in
    let s = place_step asked meaning pipes next born log p pipe (record pipe { stage = after }) en k set f.0 f.1 (first_right log pipe.stage caller p t.right) kept in
    let pays : work_owed after + 1 ≡ work_owed pipe.stage = subst (λ x. work_owed x + 1 ≡ work_owed pipe.stage) (sym e) t.pays in
    (s.0, omega (arith, s.1, pays), t.ask, rw (entries-more log p en f.0) t.finishing)

-- the entry that a take adds, as the history names it
named_cases : {J O A : Type 0} (asked : J → A) (meaning : A → O) (log : List (BoardEntry A)) (s : Stage J O) (caller p place : ℕ) → IsKeptStage asked meaning s place (entries_of p log) → queue_born (birth (entries_of p log)) ≡ is_queue s → first_taken s caller p ≡ take_entry log caller p (next_of s)
named_cases asked meaning log (stage.Pad pad) caller p place k q = rw q refl
named_cases asked meaning log (stage.Queue server) caller p place k q = rw q (ap (λ o. Deq caller p server.queue.served o) (starts_is asked meaning server (entries_of p log) place k.0))
named_cases asked meaning log (stage.Chain c) caller p place k q = rw q refl

pub take_entry_is : {J O A : Type 0} (asked : J → A) (meaning : A → O) (log : List (BoardEntry A)) (pipe : Pipeline J O) (caller p : ℕ) → IsKeptPipe asked meaning pipe (entries_of p log) → first_taken pipe.stage caller p ≡ take_entry log caller p (next_of pipe.stage)
take_entry_is asked meaning log pipe caller p k = named_cases asked meaning log pipe.stage caller p pipe.collected k.stage (queue_kept asked meaning pipe (entries_of p log) k)

-- ---- where no job may be taken

no_job : {X : Type 0} (xs : List X) → (0 < length xs → ⊥) → length xs ≡ 0
no_job [] h = refl
no_job (x ∷ xs) h = absurd (h (omega arith))

pad_taken : {J O A : Type 0} (asked : J → A) (meaning : A → O) (pad : Pad J O) (es : List (BoardEntry A)) → IsKeptPad asked meaning pad es → (0 < length pad.waiting → ⊥) → AllTaken es
pad_taken asked meaning pad es k z n l = k.taken n (let s = k.submitted in let w = no_job pad.waiting z in omega arith)

busy_less : (b : Bool) (f s d : ℕ) → b ≡ true → f + cond b 1 0 ≡ s → d ≡ s → f < d
busy_less true f s d h e g = omega arith
busy_less false f s d h e g = cc

quiet_queue : {J O A : Type 0} (asked : J → A) (meaning : A → O) (server : Server J O) (es : List (BoardEntry A)) (place : ℕ) (held busy : Bool) → held ≡ server.held → busy ≡ server.busy → IsKeptStage asked meaning (stage.Queue server) place es → ((held ≡ false) × (busy ≡ false) × (0 < length server.queue.waiting) → ⊥) → IsHeldBusyOrEmpty es
quiet_queue asked meaning server es place true busy eh eb k z = inl (k.0.holding ∙ sym eh)
quiet_queue asked meaning server es place false true eh eb k z = inr (inl (busy_less server.busy (length (finished es)) server.queue.served (dequeued es) (sym eb) k.1 k.0.served))
quiet_queue asked meaning server es place false false eh eb k z =
    let w = no_job server.queue.waiting (λ l. z (refl, refl, l)) in
    inr (inr (let s = k.0.submitted in let d = k.0.served in omega arith))

quiet_stage : {J O A : Type 0} (asked : J → A) (meaning : A → O) (s : Stage J O) (es : List (BoardEntry A)) (place caller maker lists : ℕ) → IsKeptStage asked meaning s place es → birth es ≡ Some (maker, shape_of s lists) → ((is_queue s ≡ true) ⊎ MayTake es caller → MayServe s → ⊥)
    → (lists_born (birth es) ≡ true → MayTake es caller → AllTaken es) × (queue_born (birth es) ≡ true → IsHeldBusyOrEmpty es)
quiet_stage asked meaning (stage.Pad pad) es place caller maker lists k b z = (λ h t. pad_taken asked meaning pad es k.0 (z (inr t)), λ h. (let g = ap queue_born b in cc))
quiet_stage asked meaning (stage.Queue server) es place caller maker lists k b z = (λ h t. (let g = ap lists_born b in cc), λ h. quiet_queue asked meaning server es place server.held server.busy refl refl k (z (inl refl)))
quiet_stage asked meaning (stage.Chain c) es place caller maker lists k b z = (λ h t. pad_taken asked meaning c.pad es k.1 (z (inr t)), λ h. (let g = ap queue_born b in cc))

admits_of : {J O A : Type 0} (asked : J → A) (meaning : A → O) (pipe : Pipeline J O) (es : List (BoardEntry A)) (caller : ℕ) → IsKeptPipe asked meaning pipe es → (is_queue pipe.stage ≡ true) ⊎ MayTake es caller → Admits pipe caller
admits_of asked meaning pipe es caller k (inl q) = inl q
admits_of asked meaning pipe es caller k (inr t) = admitted asked meaning pipe es caller k t

queue_server : (b : Option (ℕ × Shape)) → queue_born b ≡ true → has_queue_born b ≡ true
queue_server None h = cc
queue_server (Some (maker, shape.Pad lists)) h = cc
queue_server (Some (maker, shape.Queue max)) h = refl
queue_server (Some (maker, shape.Chain max lists)) h = refl

at_cases : {J O A : Type 0} (asked : J → A) (meaning : A → O) (pipes : Places (Pipeline J O)) (born : ℕ) (log : List (BoardEntry A)) (caller : ℕ) → IsKeptBoard asked meaning pipes born log → NoneIs (λ (pipe : Pipeline J O). HasJob pipe × Admits pipe caller) pipes → (p : ℕ) → (p < born) ⊎ (born ≤ p) → (o : Option (Pipeline J O)) → pipes p ≡ o
    → (lists_born (birth (entries_of p log)) ≡ true → MayTake (entries_of p log) caller → AllTaken (entries_of p log)) × (queue_born (birth (entries_of p log)) ≡ true → IsHeldBusyOrEmpty (entries_of p log))
at_cases asked meaning pipes born log caller k z p (inl below) None at =
    let es = entries_of p log in
    let r = each_right [] log p k.legal in
    let shut = k.others p below at in
    (λ h m. ended_taken es r shut, λ h. inr (inr (ended_server es r shut (queue_server (birth es) h))))
at_cases asked meaning pipes born log caller k z p (inl below) (Some pipe) at =
    let kp = k.each p pipe at in
    quiet_stage asked meaning pipe.stage (entries_of p log) pipe.collected caller pipe.maker (width_born (birth (entries_of p log))) kp.stage kp.born (λ t m. z p pipe at (m, admits_of asked meaning pipe (entries_of p log) caller kp t))
at_cases asked meaning pipes born log caller k z p (inr above) o at = rw (k.beyond p above) (λ h t. cc, λ h. cc)

pub take_none : {J O A : Type 0} (asked : J → A) (meaning : A → O) (pipes : Places (Pipeline J O)) (born : ℕ) (log : List (BoardEntry A)) (caller : ℕ) → IsKeptBoard asked meaning pipes born log → NoneIs (λ (pipe : Pipeline J O). HasJob pipe × Admits pipe caller) pipes → NoneFor log caller
take_none asked meaning pipes born log caller k z p = at_cases asked meaning pipes born log caller k z p (cases_lt p born) (pipes p) refl

-- no Shut, and no acceptance, is among the entries of work
pub first_quiet : {J O : Type 0} (A : Type 0) (s : Stage J O) (caller p : ℕ) → (is_shut_entry {A = A} (first_taken s caller p) ≡ false) × (accepted_in {A = A} (first_taken s caller p) ≡ None)
first_quiet A (stage.Pad pad) caller p = (refl, refl)
first_quiet A (stage.Queue server) caller p = (refl, refl)
first_quiet A (stage.Chain c) caller p = (refl, refl)

-- a take lets nothing more be passed on
first_passes : {J O : Type 0} (s : Stage J O) (rest : List J) → MayPass (without_first s rest) → MayPass s
first_passes (stage.Pad pad) rest m = m
first_passes (stage.Queue server) rest m = m
first_passes (stage.Chain c) rest m = m

pub take_passes : {J O : Type 0} (s after : Stage J O) (rest : List J) → after ≡ without_first s rest → MayPass after → MayPass s
take_passes s after rest e m = first_passes s rest (subst MayPass e m)

pub first_is_queue : {J O : Type 0} (s : Stage J O) (rest : List J) → is_queue (without_first s rest) ≡ is_queue s
first_is_queue (stage.Pad pad) rest = refl
first_is_queue (stage.Queue server) rest = refl
first_is_queue (stage.Chain c) rest = refl

-- the entry that the call makes
pub first_made : {J O A : Type 0} (s : Stage J O) (caller p number : ℕ) (started : Option ℕ) (queue : Bool) → queue ≡ is_queue s → number ≡ next_of s → started ≡ started_by s → cond {A = BoardEntry A} queue (Deq caller p number started) (Take caller p number) ≡ first_taken s caller p
first_made s caller p number started queue a b c = rw (a, b, c) refl
