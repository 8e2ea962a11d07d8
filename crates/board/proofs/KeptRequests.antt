-- What a request that is accepted, or refused, does to the board.
use Rattle.std.proofs.Common.{◌≡◌, ◌≢◌, ℕ, ◌+◌, ◌<◌, ◌≤◌, Bool, true, false, cond, ◌||◌, List, [], ◌∷◌, ◌++◌, length, Some, None, is_some, refl, sym, ◌∙◌, ap, subst, arith, length-append}
use Rattle.std.specs.Prelude.{◌==◌, ◌&&◌, nat_lt}
use Rattle.std.specs.Arc.{arc_value}
use Rattle.std.specs.declared.sync.Arc.{Arc}
use Rattle.std.specs.declared.alloc.Global.{Global}
use Rattle.std.specs.declared.collections.BTreeMap.{BTreeMap}
use Rattle.std.specs.Global.{Global as Memory}
use Rattle.std.proofs.Math.Bool.{or-false}
use Rattle.std.proofs.lemmas.Bool.{eq-eqb}
use Rattle.request_queue.specs.BoundedQueue.{accepted}
use Rattle.cryptd.specs.Server.{Server}
use Rattle.board.specs.declared.allowance.Used.{Used}
use Rattle.board.specs.declared.entry.Entered.{Entered}
use Rattle.board.specs.declared.entry.Entered.TheVariants.{InProgress, Busy, NoSpace}
use Rattle.board.specs.declared.entry.BoardEntry.{BoardEntry}
use Rattle.board.specs.declared.entry.BoardEntry.TheVariants.{Submit, Enq}
use Rattle.board.specs.declared.pipeline.Pipeline.{Pipeline}
use Rattle.board.specs.declared.stage.Chained.{Chained}
use Rattle.board.specs.declared.stage.Stage.{Stage}
use Rattle.board.specs.declared.stage.Stage.TheVariants as stage
use Rattle.board.specs.Shapes.{pad_born, has_queue_born, width_born}
use Rattle.board.specs.Stages.{is_pad, has_queue, IsPlaced, without_room, accepted_of, answer_of, entered_on, after_entered, with_job, MayPass}
use Rattle.board.specs.Pipelines.{IsSame, NotesCaller, is_accepted, accepts, work_each, work_after}
use Rattle.board.specs.Entries.{Notice, is_of, entries_of, birth, accepted_in, submissions, dequeued_in, dequeued, passed_on, waiting, verdict, taken_in, finished_in, tells, held_in, mask, has, submitters}
use Rattle.board.specs.Legal.{IsRight, MaySubmit, IsOpenPad, IsOpenQueue}
use Rattle.board.specs.Allowance.{used_at, IsKeptUsed}
use Rattle.board.specs.Places.{places}
use Rattle.board.specs.RunQueue.{IsNoQueue}
use Rattle.board.specs.Kept.{IsKeptServer, IsKeptStage, IsKeptPipe, IsKeptBoard, shape_of, work_owed, owed_by}
use Rattle.board.proofs.Lists.{filter_map-none}
use Rattle.board.proofs.Keeping.{IsOrderly, orderly, passed-le}
use Rattle.board.proofs.Starting.{pad_no_queue}
use Rattle.board.proofs.Counting.{filter_map-at_most, filter-at_most}
use Rattle.board.proofs.Kept.{Pipes, IsSet, place_step, closed-same, shared-same, collected-same}
use Rattle.board.proofs.KeptUsed.{used_same, used_more}
use Rattle.board.proofs.KeptMarks.{mask-same, noted_same, noted_more, pipe_more}
use Rattle.board.proofs.KeptRoom.{IsKeptCore, core_same, stage_same, is_pad_same, placed_pad, accepted_same, shape_same, owed_same, each_same, pass_same}
use Rattle.board.proofs.KeptEntering.{server_quiet, pad_quiet, server_accepted, within_accepted, submit_kept}
use Rattle.board.proofs.KeptCalls.{pad_kept, server_kept, right_here}
use Rattle.board.proofs.KeptLists.{lists_like, lists_same, job_lists, entered_lists}

-- a pipeline has no more submissions than there are entries
pub few_submissions : {A : Type 0} (p : ℕ) (log : List (BoardEntry A)) → length (submissions (entries_of p log)) ≤ length log
few_submissions p log = (let a = filter_map-at_most accepted_in (entries_of p log) in let b = filter-at_most (is_of p) log in omega arith)

pad_all : {A : Type 0} (es : List (BoardEntry A)) → pad_born (birth es) ≡ true → passed_on es ≡ length (submissions es)
pad_all es b = ap (λ c. cond c (dequeued es) (length (submissions es))) (pad_no_queue (birth es) b)

-- what a queue answers is the history's verdict
server_verdict : {J O A : Type 0} (asked : J → A) (meaning : A → O) (server : Server J O) (place : ℕ) (es : List (BoardEntry A)) (backlog : Bool) → IsKeptServer asked meaning server place es → entered_on server backlog ≡ verdict es backlog
server_verdict asked meaning server place es backlog k =
    let s = k.submitted in
    let d = k.served in
    let w : waiting es ≡ length server.queue.waiting = omega arith in
    rw (w, k.bound, k.submitted) refl

accepted_cases : (b backlog : Bool) (n : ℕ) → (b || backlog) ≡ is_accepted (cond b (InProgress n) (cond backlog (Busy n) NoSpace))
accepted_cases true backlog n = refl
accepted_cases false true n = refl
accepted_cases false false n = refl

pub accepts_is : {J O : Type 0} (s : Stage J O) (backlog : Bool) → accepts s backlog ≡ is_accepted (answer_of s backlog)
accepts_is (stage.Pad x) backlog = refl
accepts_is (stage.Queue x) backlog = accepted_cases (nat_lt (length x.queue.waiting) x.queue.max) backlog (accepted x.queue)
accepts_is (stage.Chain x) backlog = accepted_cases (nat_lt (length x.server.queue.waiting) x.server.queue.max) backlog (accepted x.server.queue)

-- what an answer adds to what its caller has used
pub used_answer : {A : Type 0} (weight : A → ℕ) (used after : BTreeMap ℕ Used Memory) (h : List (BoardEntry A)) (caller p : ℕ) (ask : Arc A Global) (backlog : Bool) (answer : Entered) (a : A) (size : ℕ) → arc_value ask ≡ a → size ≡ weight a → IsKeptUsed weight used h
    → ((c : ℕ) → used_at after c ≡ cond {A = Used} (is_accepted answer) (cond {A = Used} (c == caller) (record { requests = (used_at used caller).requests + 1; bytes = (used_at used caller).bytes + size }) (used_at used c)) (used_at used c))
    → IsKeptUsed weight after (h ++ Enq caller p ask backlog answer ∷ [])
used_answer weight used after h caller p ask backlog (InProgress n) a size v z k s = used_more weight used after h (Enq caller p ask backlog (InProgress n)) a size (ap Some v) z k s
used_answer weight used after h caller p ask backlog (Busy n) a size v z k s = used_more weight used after h (Enq caller p ask backlog (Busy n)) a size (ap Some v) z k s
used_answer weight used after h caller p ask backlog NoSpace a size v z k s = λ c. s c ∙ used_same weight used h (Enq caller p ask backlog NoSpace) refl k c

pub few_entries : {J O : Type 0} (s : Stage J O) (answer : Entered) → work_after s answer ≤ 3
few_entries (stage.Pad x) (InProgress n) = omega arith
few_entries (stage.Pad x) (Busy n) = omega arith
few_entries (stage.Pad x) NoSpace = omega arith
few_entries (stage.Queue x) (InProgress n) = omega arith
few_entries (stage.Queue x) (Busy n) = omega arith
few_entries (stage.Queue x) NoSpace = omega arith
few_entries (stage.Chain x) (InProgress n) = omega arith
few_entries (stage.Chain x) (Busy n) = omega arith
few_entries (stage.Chain x) NoSpace = omega arith

job_shape : {J O : Type 0} (s : Stage J O) (job : J) (w : ℕ) → shape_of (with_job s job) w ≡ shape_of s w
job_shape (stage.Pad x) job w = refl
job_shape (stage.Queue x) job w = refl
job_shape (stage.Chain x) job w = refl

job_owed : {J O : Type 0} (s : Stage J O) (job : J) → is_pad s ≡ true → work_owed (with_job s job) ≡ work_owed s + 2
job_owed (stage.Pad x) job h = (let l = length-append x.waiting (job ∷ []) in omega arith)
job_owed (stage.Queue x) job h = cc
job_owed (stage.Chain x) job h = cc

job_pad : {J O : Type 0} (s : Stage J O) (job : J) → is_pad (with_job s job) ≡ is_pad s
job_pad (stage.Pad x) job = refl
job_pad (stage.Queue x) job = refl
job_pad (stage.Chain x) job = refl

entered_shape : {J O : Type 0} (s : Stage J O) (job : J) (answer : Entered) (w : ℕ) → shape_of (after_entered s job answer) w ≡ shape_of s w
entered_shape (stage.Pad x) job answer w = refl
entered_shape (stage.Queue x) job (InProgress n) w = refl
entered_shape (stage.Queue x) job (Busy n) w = refl
entered_shape (stage.Queue x) job NoSpace w = refl
entered_shape (stage.Chain x) job (InProgress n) w = refl
entered_shape (stage.Chain x) job (Busy n) w = refl
entered_shape (stage.Chain x) job NoSpace w = refl

entered_owed : {J O : Type 0} (s : Stage J O) (job : J) (answer : Entered) → has_queue s ≡ true → work_owed (after_entered s job answer) ≡ work_owed s + work_after s answer
entered_owed (stage.Pad x) job answer h = cc
entered_owed (stage.Queue x) job (InProgress n) h = (let l = length-append x.queue.waiting (job ∷ []) in omega arith)
entered_owed (stage.Queue x) job (Busy n) h = (let l = length-append x.queue.waiting (job ∷ []) in omega arith)
entered_owed (stage.Queue x) job NoSpace h = omega arith
entered_owed (stage.Chain x) job (InProgress n) h = (let l = length-append x.server.queue.waiting (job ∷ []) in omega arith)
entered_owed (stage.Chain x) job (Busy n) h = (let l = length-append x.server.queue.waiting (job ∷ []) in omega arith)
entered_owed (stage.Chain x) job NoSpace h = omega arith

-- how many entries an answer is followed by doesn't hang on it
entered_each : {J O : Type 0} (s : Stage J O) (job : J) (answer : Entered) → work_each (after_entered s job answer) ≡ work_each s
entered_each (stage.Pad x) job answer = refl
entered_each (stage.Queue x) job answer = refl
entered_each (stage.Chain x) job answer = refl

pub work_same : {J O : Type 0} (after s : Stage J O) (job : J) (answer : Entered) → without_room after ≡ without_room (after_entered s job answer) → work_after after answer ≡ work_after s answer
work_same after s job answer e = ap (λ n. cond (is_accepted answer) n 0) (each_same after (after_entered s job answer) e ∙ entered_each s job answer)

job_waits : {J O : Type 0} (s : Stage J O) (job : J) → MayPass (with_job s job) → MayPass s
job_waits (stage.Pad x) job m = m
job_waits (stage.Queue x) job m = m
job_waits (stage.Chain x) job m = m

-- a job for a pad passes no request on
pub job_passes : {J O : Type 0} (s after : Stage J O) (job : J) → without_room after ≡ without_room (with_job s job) → MayPass after → MayPass s
job_passes s after job e m = job_waits s job (pass_same after (with_job s job) e m)

module _ {J O A : Type 0} (asked : J → A) (meaning : A → O) where
  accepted_kept : (s : Stage J O) (es : List (BoardEntry A)) (place w m : ℕ) → IsKeptStage asked meaning s place es → birth es ≡ Some (m, shape_of s w) → accepted_of s ≡ length (submissions es)
  accepted_kept (stage.Pad x) es place w m k b = sym k.0.submitted ∙ pad_all es (ap pad_born b)
  accepted_kept (stage.Queue x) es place w m k b = sym k.0.submitted
  accepted_kept (stage.Chain x) es place w m k b = sym k.0.submitted

  job_kept : (s : Stage J O) (es : List (BoardEntry A)) (place p n caller : ℕ) (ask : Arc A Global) (job : J) → IsKeptStage asked meaning s place es → is_pad s ≡ true → is_some (birth es) ≡ true → has_queue_born (birth es) ≡ false → arc_value ask ≡ asked job
      → IsKeptStage asked meaning (with_job s job) place (es ++ Submit caller p n ask ∷ [])
  job_kept (stage.Pad x) es place p n caller ask job k h b lb a = (submit_kept asked meaning x es (Submit caller p n ask) job x.spare k.0 b lb (ap Some a) refl refl refl, k.1)
  job_kept (stage.Queue x) es place p n caller ask job k h b lb a = cc
  job_kept (stage.Chain x) es place p n caller ask job k h b lb a = cc

  answer_verdict : (s : Stage J O) (es : List (BoardEntry A)) (place : ℕ) (backlog : Bool) → IsKeptStage asked meaning s place es → has_queue s ≡ true → answer_of s backlog ≡ verdict es backlog
  answer_verdict (stage.Pad x) es place backlog k h = cc
  answer_verdict (stage.Queue x) es place backlog k h = server_verdict asked meaning x place es backlog k.0
  answer_verdict (stage.Chain x) es place backlog k h = server_verdict asked meaning x.server place es backlog k.0

  -- a request that the queue took in
  queue_entered : (x : Server J O) (es : List (BoardEntry A)) (e : BoardEntry A) (place : ℕ) (job : J) (given : List Notice) → IsKeptStage asked meaning (stage.Queue x) place es → IsOrderly es given → is_some (birth es) ≡ true → accepted_in e ≡ Some (asked job) → dequeued_in e ≡ None → finished_in e ≡ None → tells es e ≡ [] → held_in e ≡ None
      → IsKeptCore asked meaning (stage.Queue (record x { queue = record x.queue { waiting = x.queue.waiting ++ job ∷ [] } })) place (es ++ e ∷ [])
  queue_entered x es e place job given k o b a d f t h = (server_accepted asked meaning x es e place job given k.0 o b a d t h, rw (filter_map-none finished_in es e f) k.1, k.2)

  chain_entered : (x : Chained J O) (es : List (BoardEntry A)) (e : BoardEntry A) (place : ℕ) (job : J) (given : List Notice) → IsKeptStage asked meaning (stage.Chain x) place es → IsOrderly es given → is_some (birth es) ≡ true → has_queue_born (birth es) ≡ true → accepted_in e ≡ Some (asked job) → dequeued_in e ≡ None → taken_in e ≡ None → finished_in e ≡ None → tells es e ≡ [] → held_in e ≡ None
      → IsKeptCore asked meaning (stage.Chain (record x { server = record x.server { queue = record x.server.queue { waiting = x.server.queue.waiting ++ job ∷ [] } } })) place (es ++ e ∷ [])
  chain_entered x es e place job given k o b lb a d n f t h =
      (server_accepted asked meaning x.server es e place job given k.0 o b a d t h, within_accepted asked meaning x.pad es e (asked job) k.1 b lb (passed-le es o.numbered.queued) a d n f, k.2, k.4, k.5)

  entered_kept : (s : Stage J O) (es : List (BoardEntry A)) (place p caller : ℕ) (ask : Arc A Global) (job : J) (backlog : Bool) (answer : Entered) (given : List Notice) → IsKeptStage asked meaning s place es → has_queue s ≡ true → IsOrderly es given → is_some (birth es) ≡ true → has_queue_born (birth es) ≡ true → arc_value ask ≡ asked job
      → IsKeptCore asked meaning (after_entered s job answer) place (es ++ Enq caller p ask backlog answer ∷ [])
  entered_kept (stage.Pad x) es place p caller ask job backlog answer given k h o b lb a = cc
  entered_kept (stage.Queue x) es place p caller ask job backlog (InProgress n) given k h o b lb a = queue_entered x es (Enq caller p ask backlog (InProgress n)) place job given k o b (ap Some a) refl refl refl refl
  entered_kept (stage.Queue x) es place p caller ask job backlog (Busy n) given k h o b lb a = queue_entered x es (Enq caller p ask backlog (Busy n)) place job given k o b (ap Some a) refl refl refl refl
  entered_kept (stage.Queue x) es place p caller ask job backlog NoSpace given k h o b lb a =
      (server_quiet asked meaning x es (Enq caller p ask backlog NoSpace) place k.0 b refl refl refl refl, rw (filter_map-none finished_in es (Enq caller p ask backlog NoSpace) refl) k.1, k.2)
  entered_kept (stage.Chain x) es place p caller ask job backlog (InProgress n) given k h o b lb a = chain_entered x es (Enq caller p ask backlog (InProgress n)) place job given k o b lb (ap Some a) refl refl refl refl refl
  entered_kept (stage.Chain x) es place p caller ask job backlog (Busy n) given k h o b lb a = chain_entered x es (Enq caller p ask backlog (Busy n)) place job given k o b lb (ap Some a) refl refl refl refl refl
  entered_kept (stage.Chain x) es place p caller ask job backlog NoSpace given k h o b lb a =
      (server_quiet asked meaning x.server es (Enq caller p ask backlog NoSpace) place k.0 b refl refl refl refl, pad_quiet asked meaning x.pad es (Enq caller p ask backlog NoSpace) k.1 b refl refl refl refl, k.2, k.4, k.5)

  -- who submitted, after an answer
  entered_noted : (pipe : Pipeline J O) (es : List (BoardEntry A)) (p caller : ℕ) (ask : Arc A Global) (backlog : Bool) (answer : Entered) (after : List ℕ) → IsKeptPipe asked meaning pipe es → (IsNoQueue pipe → (c : ℕ) → c ≢ pipe.maker → has c after ≡ (has c pipe.submitters.items || (is_accepted answer && caller == c)))
      → IsNoQueue pipe → (c : ℕ) → c ≢ pipe.maker → has c after ≡ has c (submitters (es ++ Enq caller p ask backlog answer ∷ []))
  entered_noted pipe es p caller ask backlog (InProgress n) after k more = noted_more asked meaning pipe es (Enq caller p ask backlog (InProgress n)) caller after k refl more
  entered_noted pipe es p caller ask backlog (Busy n) after k more = noted_more asked meaning pipe es (Enq caller p ask backlog (Busy n)) caller after k refl more
  entered_noted pipe es p caller ask backlog NoSpace after k more = λ q c h. more q c h ∙ (or-false (has c pipe.submitters.items) ∙ noted_same asked meaning pipe es (Enq caller p ask backlog NoSpace) k refl q c h)

  module _ (pipes : Pipes J O) (born : ℕ) (log : List (BoardEntry A)) (p : ℕ) (pipe : Pipeline J O) (k : IsKeptBoard asked meaning (places pipes) born log) (here : places pipes p ≡ Some pipe) where
    -- how many requests a pipeline with room accepted
    pub accepted_here : (room : Pipeline J O) → IsSame pipe room → accepted_of room.stage ≡ length (submissions (entries_of p log))
    accepted_here room s =
        let es = entries_of p log in
        let kp = k.each p pipe here in
        accepted_same room.stage pipe.stage s.stage ∙ accepted_kept pipe.stage es pipe.collected (width_born (birth es)) pipe.maker kp.stage kp.born

    -- the mask is the history's
    pub mask_here : mask (entries_of p log) ≡ pipe.mask
    mask_here = (k.each p pipe here).masking

    pub submit_step : (next : Pipes J O) (n caller : ℕ) (ask : Arc A Global) (after : Pipeline J O) (job : J) → IsSet pipes next p pipe after → arc_value ask ≡ asked job → NotesCaller pipe after caller true → without_room after.stage ≡ without_room (with_job pipe.stage job) → MaySubmit (entries_of p log) caller → IsOpenPad (entries_of p log) → n ≡ length (submissions (entries_of p log)) → 0 < pipe.mask
        → IsKeptBoard asked meaning (places next) born (log ++ Submit caller p n ask ∷ []) × (owed_by next ≡ owed_by pipes + 2)
    submit_step next n caller ask after job set a noting e may opened num some =
        let es = entries_of p log in
        let x : BoardEntry A = Submit caller p n ask in
        let kp = k.each p pipe here in
        let b = ap is_some kp.born in
        let pad = pad_kept asked meaning pipe es kp opened.0 in
        let masked : 0 < mask es = rw kp.masking some in
        let right : IsRight log x = (tt, (may, opened, num, masked)) in
        let is_pad_after : is_pad after.stage ≡ true = is_pad_same after.stage (with_job pipe.stage job) e ∙ (job_pad pipe.stage job ∙ pad) in
        let st = job_kept pipe.stage es pipe.collected p n caller ask job kp.stage pad b (pad_no_queue (birth es) opened.0) a in
        let st2 = stage_same asked meaning after.stage (with_job pipe.stage job) pipe.collected (es ++ x ∷ []) e (placed_pad after.stage is_pad_after) st in
        let kept = pipe_more asked meaning pipe after es x kp noting.maker (λ w. shape_same after.stage (with_job pipe.stage job) e w ∙ job_shape pipe.stage job w) (lists_like pipe after noting.mask (lists_same after.stage (with_job pipe.stage job) e ∙ job_lists pipe.stage job) (λ w. shape_same after.stage (with_job pipe.stage job) e w ∙ job_shape pipe.stage job w) kp.lists) (closed-same es x refl ∙ kp.closing) (shared-same es x refl ∙ (kp.sharing ∙ sym noting.shared)) (mask-same es x b refl ∙ (kp.masking ∙ sym noting.mask)) (noted_more asked meaning pipe es x caller after.submitters.items kp refl noting.submitters) (collected-same es x refl ∙ (kp.place ∙ sym noting.collected)) (subst (λ m. IsKeptStage asked meaning after.stage m (es ++ x ∷ [])) (sym noting.collected) st2) in
        let s = place_step asked meaning pipes next born log p pipe after x k set (eq-eqb p p refl) refl right kept in
        let o : work_owed after.stage ≡ work_owed pipe.stage + 2 = owed_same after.stage (with_job pipe.stage job) e ∙ job_owed pipe.stage job pad in
        (s.0, omega (arith, s.1, o))

    pub enqueue_step : (next : Pipes J O) (caller : ℕ) (ask : Arc A Global) (after : Pipeline J O) (job : J) (backlog : Bool) (answer : Entered) → IsSet pipes next p pipe after → arc_value ask ≡ asked job → answer ≡ answer_of pipe.stage backlog → NotesCaller pipe after caller (is_accepted answer) → without_room after.stage ≡ without_room (after_entered pipe.stage job answer) → IsPlaced after.stage → MaySubmit (entries_of p log) caller → IsOpenQueue (entries_of p log)
        → IsKeptBoard asked meaning (places next) born (log ++ Enq caller p ask backlog answer ∷ [])
        × (owed_by next ≡ owed_by pipes + work_after pipe.stage answer)
        × (answer ≡ verdict (entries_of p log) backlog)
    enqueue_step next caller ask after job backlog answer set a said noting e placed may opened =
        let es = entries_of p log in
        let x : BoardEntry A = Enq caller p ask backlog answer in
        let kp = k.each p pipe here in
        let b = ap is_some kp.born in
        let server = server_kept asked meaning pipe es kp opened.0 in
        let v : answer ≡ verdict es backlog = said ∙ answer_verdict pipe.stage es pipe.collected backlog kp.stage server in
        let right : IsRight log x = (tt, (may, opened, v)) in
        let st = entered_kept pipe.stage es pipe.collected p caller ask job backlog answer _ kp.stage server (orderly es (right_here asked meaning pipes born log p pipe k here)) b opened.0 a in
        let st2 = core_same asked meaning after.stage (after_entered pipe.stage job answer) pipe.collected (es ++ x ∷ []) e placed st in
        let kept = pipe_more asked meaning pipe after es x kp noting.maker (λ w. shape_same after.stage (after_entered pipe.stage job answer) e w ∙ entered_shape pipe.stage job answer w) (lists_like pipe after noting.mask (lists_same after.stage (after_entered pipe.stage job answer) e ∙ entered_lists pipe.stage job answer) (λ w. shape_same after.stage (after_entered pipe.stage job answer) e w ∙ entered_shape pipe.stage job answer w) kp.lists) (closed-same es x refl ∙ kp.closing) (shared-same es x refl ∙ (kp.sharing ∙ sym noting.shared)) (mask-same es x b refl ∙ (kp.masking ∙ sym noting.mask)) (entered_noted pipe es p caller ask backlog answer after.submitters.items kp noting.submitters) (collected-same es x refl ∙ (kp.place ∙ sym noting.collected)) (subst (λ m. IsKeptStage asked meaning after.stage m (es ++ x ∷ [])) (sym noting.collected) st2) in
        let s = place_step asked meaning pipes next born log p pipe after x k set (eq-eqb p p refl) refl right kept in
        let o : work_owed after.stage ≡ work_owed pipe.stage + work_after pipe.stage answer = owed_same after.stage (after_entered pipe.stage job answer) e ∙ entered_owed pipe.stage job answer server in
        (s.0, omega (arith, s.1, o), v)
