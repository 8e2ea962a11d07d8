-- The run queues of a board's callers, as pipelines change.
use Rattle.std.proofs.Common.{◌≡◌, ◌≢◌, ℕ, ◌+◌, ◌<◌, ◌≤◌, Bool, true, false, ◌&&◌, ◌||◌, [], refl, sym, ◌∙◌, ap, subst, arith, inl, inr, ◌⊎◌}
use Rattle.std.specs.Prelude.{◌==◌, MatchBool, MatchOption, Option, Some, None, Result, Ok, Err, OnOk}
use Rattle.std.proofs.lemmas.Bool.{eqb-true, cases_eq, cases_lt, both_ways}
use Rattle.board.specs.declared.pipeline.Pipeline.{Pipeline}
use Rattle.board.specs.declared.stage.Stage.{Stage}
use Rattle.board.specs.declared.stage.Stage.TheVariants as stage
use Rattle.board.specs.Entries.{has, IsMasked}
use Rattle.board.specs.Pipelines.{IsSame, NotesCaller}
use Rattle.board.specs.Stages.{is_queue, is_chain, without_room, holding, collected_from}
use Rattle.board.specs.Places.{Places, places}
use Rattle.board.proofs.Kept.{Pipes, IsSet, IsLeft, IsAdded, one_here}
use Rattle.board.proofs.KeptRoom.{queue_same}
use Rattle.board.specs.RunQueue.{QueueState, IsMember, IsQueued, no_pipelines, HasJob, HasJobFor, Admits, IsQueue, IsNoQueue, IsFor, IsReadyFor, NoneStands, IsOne, Finds, Keeps, KeepsOthers, KeepsSuch, IsTold}
use Rattle.board.specs.RunQueues.{QueuesState, CallerQueues, queue_for, AreMade, IsMade, Joins, AreTold, IsReadmitted, AreReady}
use Rattle.board.proofs.CallersQueues.{IsQueueSet, set_made}

-- ---- what a run queue keeps

pub no_member : (p : ℕ) → IsMember no_pipelines p → ⊥
no_member p m = (let h = m.1 in cc)

pub none_queued : (p : ℕ) → IsQueued no_pipelines p → ⊥
none_queued p s = (let h = s.2 in cc)

pub none_keeps : (queue : QueueState) → Keeps no_pipelines queue
none_keeps queue p = (λ m. absurd (no_member p m), λ s. absurd (none_queued p s))

pub same_keeps : (queue : QueueState) → Keeps queue queue
same_keeps queue p = (λ m. m, λ s. s)

pub keeps_on : (queue next after : QueueState) → Keeps queue next → Keeps next after → Keeps queue after
keeps_on queue next after k l p = (λ m. (l p).0 ((k p).0 m), λ s. (l p).1 ((k p).1 s))

pub others_on : (pipe : ℕ) (queue next after : QueueState) → KeepsOthers pipe queue next → KeepsOthers pipe next after → KeepsOthers pipe queue after
others_on pipe queue next after k l p n = (λ m. (l p n).0 ((k p n).0 m), λ s. (l p n).1 ((k p n).1 s))

worker_cases : (mask pipe before worker : ℕ) (own after : CallerQueues) → ((w : ℕ) → IsMasked mask w → w ≤ before → IsMember (queue_for w own) pipe) → AreMade Keeps own after → (IsMasked mask (before + 1) → IsMember (queue_for (before + 1) after) pipe) → IsMasked mask worker → (worker ≡ before + 1) ⊎ (worker ≡ before + 1 → ⊥) → worker ≤ before + 1
    → IsMember (queue_for worker after) pipe
worker_cases mask pipe before worker own after so_far kept joined m (inl e) l = subst (λ n. IsMember (queue_for n after) pipe) (sym e) (joined (subst (IsMasked mask) e m))
worker_cases mask pipe before worker own after so_far kept joined m (inr n) l = (kept worker pipe).0 (so_far worker m (lower (cases_lt worker (before + 1))))
  where
    lower : (worker < before + 1) ⊎ (before + 1 ≤ worker) → worker ≤ before
    lower (inl b) = omega arith
    lower (inr g) = absurd (n (omega arith))

-- the next worker joined after those before
pub next_worker : (mask pipe before : ℕ) (own after : CallerQueues) → ((w : ℕ) → IsMasked mask w → w ≤ before → IsMember (queue_for w own) pipe) → AreMade Keeps own after → (IsMasked mask (before + 1) → IsMember (queue_for (before + 1) after) pipe)
    → (worker : ℕ) → IsMasked mask worker → worker ≤ before + 1 → IsMember (queue_for worker after) pipe
next_worker mask pipe before own after so_far kept joined worker m l = worker_cases mask pipe before worker own after so_far kept joined m (cases_eq worker (before + 1)) l

pub queues_on : (run_queues next after : QueuesState) → IsMade Keeps run_queues next → IsMade Keeps next after → IsMade Keeps run_queues after
queues_on run_queues next after k l = (
  keeps_on run_queues.queues next.queues after.queues k.0 l.0,
  λ c. keeps_on (queue_for c run_queues.own) (queue_for c next.own) (queue_for c after.own) (k.1 c) (l.1 c),
)

-- and so all but one pipeline
pub queues_but : (pipe : ℕ) (run_queues after : QueuesState) → IsMade Keeps run_queues after → IsMade (KeepsOthers pipe) run_queues after
queues_but pipe run_queues after k = (λ p n. k.0 p, λ c p n. k.1 c p)

pub queues_but_on : (pipe : ℕ) (run_queues next after : QueuesState) → IsMade (KeepsOthers pipe) run_queues next → IsMade (KeepsOthers pipe) next after → IsMade (KeepsOthers pipe) run_queues after
queues_but_on pipe run_queues next after k l = (
  others_on pipe run_queues.queues next.queues after.queues k.0 l.0,
  λ c. others_on pipe (queue_for c run_queues.own) (queue_for c next.own) (queue_for c after.own) (k.1 c) (l.1 c),
)

pub ok_map : {T E A B : Type 0} (o : Result T E) → (A → B) → OnOk o A → OnOk o B
ok_map (Ok x) f h = f h
ok_map (Err e) f h = tt

-- ---- who may take

-- nobody may take who might not, and it is a queue or none as before
pub record AdmitsNoMore {J O : Type 0} (pipe new : Pipeline J O) : Type 0 where
  pub queue : is_queue new.stage ≡ is_queue pipe.stage
  pub admits : (caller : ℕ) → Admits new caller → Admits pipe caller

admitted_same : {J O : Type 0} (pipe new : Pipeline J O) → pipe.maker ≡ new.maker → pipe.submitters.items ≡ new.submitters.items → pipe.mask ≡ new.mask → is_queue new.stage ≡ is_queue pipe.stage → (caller : ℕ) → Admits new caller → Admits pipe caller
admitted_same pipe new made subs masked queue caller (inl q) = inl (sym queue ∙ q)
admitted_same pipe new made subs masked queue caller (inr (inl m)) = inr (inl (made ∙ m))
admitted_same pipe new made subs masked queue caller (inr (inr (inl s))) = inr (inr (inl (ap (has caller) subs ∙ s)))
admitted_same pipe new made subs masked queue caller (inr (inr (inr m))) = inr (inr (inr (subst (λ n. IsMasked n caller) (sym masked) m)))

-- so it is while its maker, its submitters and its mask stay, and it is a queue or none
pub admits_same : {J O : Type 0} (pipe new : Pipeline J O) → pipe.maker ≡ new.maker → pipe.submitters.items ≡ new.submitters.items → pipe.mask ≡ new.mask → is_queue new.stage ≡ is_queue pipe.stage → AdmitsNoMore pipe new
admits_same pipe new made subs masked queue = record {
  queue = queue;
  admits = admitted_same pipe new made subs masked queue;
}

-- room alone makes no chain of a pad
bare_chain : {J O : Type 0} (s : Stage J O) → is_chain (without_room s) ≡ is_chain s
bare_chain (stage.Pad x) = refl
bare_chain (stage.Queue x) = refl
bare_chain (stage.Chain x) = refl

pub chain_same : {J O : Type 0} (new old : Stage J O) → without_room new ≡ without_room old → is_chain new ≡ is_chain old
chain_same new old e = sym (bare_chain new) ∙ (ap is_chain e ∙ bare_chain old)

pub room_admits : {J O : Type 0} (pipe new : Pipeline J O) → IsSame pipe new → AdmitsNoMore pipe new
room_admits pipe new s = admits_same pipe new (sym s.maker) (sym s.submitters) (sym s.mask) (queue_same new.stage pipe.stage s.stage)

held_queue : {J O : Type 0} (s : Stage J O) (held : Bool) → is_queue (holding s held) ≡ is_queue s
held_queue (stage.Pad x) held = refl
held_queue (stage.Queue x) held = refl
held_queue (stage.Chain x) held = refl

pub hold_queue : {J O : Type 0} (s after : Stage J O) (held : Bool) → after ≡ holding s held → is_queue after ≡ is_queue s
hold_queue s after held e = ap is_queue e ∙ held_queue s held

held_chain : {J O : Type 0} (s : Stage J O) (held : Bool) → is_chain (holding s held) ≡ is_chain s
held_chain (stage.Pad x) held = refl
held_chain (stage.Queue x) held = refl
held_chain (stage.Chain x) held = refl

pub hold_chain : {J O : Type 0} (s after : Stage J O) (held : Bool) → after ≡ holding s held → is_chain after ≡ is_chain s
hold_chain s after held e = ap is_chain e ∙ held_chain s held

collected_queue : {J O : Type 0} (s : Stage J O) → is_queue (collected_from s) ≡ is_queue s
collected_queue (stage.Pad x) = refl
collected_queue (stage.Queue x) = refl
collected_queue (stage.Chain x) = refl

collected_chain : {J O : Type 0} (s : Stage J O) → is_chain (collected_from s) ≡ is_chain s
collected_chain (stage.Pad x) = refl
collected_chain (stage.Queue x) = refl
collected_chain (stage.Chain x) = refl

pub collected_is_chain : {J O : Type 0} (pipe after : Pipeline J O) (to : ℕ) → after ≡ record pipe { collected = to; stage = collected_from pipe.stage } → is_chain after.stage ≡ is_chain pipe.stage
collected_is_chain {J} {O} pipe after to e = ap (λ (x : Pipeline J O). is_chain x.stage) e ∙ collected_chain pipe.stage

pub collected_admits : {J O : Type 0} (pipe after : Pipeline J O) (to : ℕ) → after ≡ record pipe { collected = to; stage = collected_from pipe.stage } → AdmitsNoMore pipe after
collected_admits pipe after to e =
    subst (AdmitsNoMore pipe) (sym e) (admits_same pipe (record pipe { collected = to; stage = collected_from pipe.stage }) refl refl refl (collected_queue pipe.stage))

-- ---- one run queue

module _ {J O : Type 0} (such ready : Pipeline J O → Type 0) (pipes : Pipes J O) where
  pub ready_kept : (queue after : QueueState) → IsReadyFor such ready (places pipes) queue → Keeps queue after → IsReadyFor such ready (places pipes) after
  ready_kept queue after r k = record {
    members = λ q x at s. (k q).0 (r.members q x at s);
    queued = λ q x at m s. (k q).1 (r.queued q x at m s);
  }

  not_there : (p q : ℕ) (x : Pipeline J O) → places pipes p ≡ None → places pipes q ≡ Some x → q ≢ p
  not_there p q x none at e = (let z : None ≡ Some x = sym none ∙ (ap (places pipes) (sym e) ∙ at) in cc)

  -- but for a number that no pipeline has
  pub ready_others : (queue after : QueueState) (p : ℕ) → places pipes p ≡ None → IsReadyFor such ready (places pipes) queue → KeepsOthers p queue after → IsReadyFor such ready (places pipes) after
  ready_others queue after p none r k = record {
    members = λ q x at s. (k q (not_there p q x none at)).0 (r.members q x at s);
    queued = λ q x at m s. (k q (not_there p q x none at)).1 (r.queued q x at m s);
  }

  -- one pipeline of the run queue belongs there, and stands there where it is ready
  abbrev pub Belongs : QueueState → ℕ → Pipeline J O → Type 0
  Belongs queue q x = (such x → IsMember queue q) × (ready x → such x → IsQueued queue q)

  -- where it is, and belongs to the run queue, it does as before
  pub member_here : (queue : QueueState) (q : ℕ) (x : Pipeline J O) → IsReadyFor such ready (places pipes) queue → places pipes q ≡ Some x → Belongs queue q x
  member_here queue q x r at = (r.members q x at, r.queued q x at)

  put_cases : (next : Pipes J O) (queue after : QueueState) (p : ℕ) → IsReadyFor such ready (places pipes) queue → ((q : ℕ) → q ≢ p → places next q ≡ places pipes q) → KeepsOthers p queue after → ((x : Pipeline J O) → places next p ≡ Some x → Belongs after p x)
      → (q : ℕ) (x : Pipeline J O) → places next q ≡ Some x → (q ≡ p) ⊎ (q ≡ p → ⊥) → Belongs after q x
  put_cases next queue after p r others k here q x at (inl e) = subst (λ n. Belongs after n x) (sym e) (here x (ap (places next) (sym e) ∙ at))
  put_cases next queue after p r others k here q x at (inr n) =
      let b = member_here queue q x r (sym (others q n) ∙ at) in
      (λ s. (k q n).0 (b.0 s), λ m s. (k q n).1 (b.1 m s))

  -- another pipeline at one number, or none
  pub ready_put : (next : Pipes J O) (queue after : QueueState) (p : ℕ) → IsReadyFor such ready (places pipes) queue → ((q : ℕ) → q ≢ p → places next q ≡ places pipes q) → KeepsOthers p queue after → ((x : Pipeline J O) → places next p ≡ Some x → Belongs after p x) → IsReadyFor such ready (places next) after
  ready_put next queue after p r others k here = record {
    members = λ q x at. (put_cases next queue after p r others k here q x at (cases_eq q p)).0;
    queued = λ q x at. (put_cases next queue after p r others k here q x at (cases_eq q p)).1;
  }

  one_there : (next : Pipes J O) (after : QueueState) (p : ℕ) (new x : Pipeline J O) → places next p ≡ Some new → Belongs after p new → places next p ≡ Some x → Belongs after p x
  one_there next after p new x there b at =
      let z : Some new ≡ Some x = sym there ∙ at in
      let y : new ≡ x = cc in
      subst (Belongs after p) y b

  -- a pipeline in another form
  pub ready_set : (next : Pipes J O) (queue after : QueueState) (p : ℕ) (pipe new : Pipeline J O) → IsReadyFor such ready (places pipes) queue → IsSet pipes next p pipe new → KeepsOthers p queue after → Belongs after p new → IsReadyFor such ready (places next) after
  ready_set next queue after p pipe new r set k b = ready_put next queue after p r set.others k (λ x at. one_there next after p new x set.there b at)

  -- which belongs there only if it did, and is ready only if it was
  pub ready_same : (next : Pipes J O) (queue : QueueState) (p : ℕ) (pipe new : Pipeline J O) → IsReadyFor such ready (places pipes) queue → IsSet pipes next p pipe new → (such new → such pipe) → (ready new → ready pipe)
      → IsReadyFor such ready (places next) queue
  ready_same next queue p pipe new r set belongs is =
      let b = member_here queue p pipe r set.here in
      ready_set next queue queue p pipe new r set (λ q n. same_keeps queue q) (λ s. b.0 (belongs s), λ m s. b.1 (is m) (belongs s))

  -- of which the run queue is told
  pub ready_told : (next : Pipes J O) (queue after : QueueState) (p : ℕ) (pipe new : Pipeline J O) (had is : Bool) → IsReadyFor such ready (places pipes) queue → IsSet pipes next p pipe new → IsTold (such new) p had is queue after
      → (such new → IsMember queue p) → (had ≡ true → ready new → such new → IsQueued queue p) → (ready new → is ≡ true) → IsReadyFor such ready (places next) after
  ready_told next queue after p pipe new had is r set t member stood says =
      ready_set next queue after p pipe new r set t.others
      (λ s. t.member (member s), λ m s. t.queued s (says m) (λ h. stood h m s) (member s))

  -- a pipeline that was just made is not ready
  pub ready_born : (next : Pipes J O) (queue after : QueueState) (p : ℕ) (new : Pipeline J O) → IsReadyFor such ready (places pipes) queue → IsAdded pipes next p new → KeepsOthers p queue after → (such new → IsMember after p) → (ready new → ⊥) → IsReadyFor such ready (places next) after
  ready_born next queue after p new r added k member none =
      ready_put next queue after p r added.others k (λ x at. one_there next after p new x added.there (λ s. member s, λ m s. absurd (none m)) at)

  -- one that was closed left the run queue
  pub ready_left : (next : Pipes J O) (queue after : QueueState) (p : ℕ) (pipe : Pipeline J O) → IsReadyFor such ready (places pipes) queue → IsLeft pipes next p pipe → KeepsOthers p queue after → IsReadyFor such ready (places next) after
  ready_left next queue after p pipe r left k = ready_put next queue after p r left.others k (λ x at. (let z : None ≡ Some x = sym left.there ∙ at in cc))

  -- a search leaves what is ready
  pub ready_searched : (seen : Pipeline J O → Type 0) (queue after : QueueState) → ((x : Pipeline J O) → ready x → such x → seen x) → IsReadyFor such ready (places pipes) queue → KeepsSuch seen (places pipes) queue after → IsReadyFor such ready (places pipes) after
  ready_searched seen queue after to r k = record {
    members = λ q x at s. (k q).0 (r.members q x at s);
    queued = λ q x at m s. (k q).1 x at (to x m s) (r.queued q x at m s);
  }

-- no pipelines
pub ready_none : {J O : Type 0} (such ready : Pipeline J O → Type 0) (pipes : Places (Pipeline J O)) (queue : QueueState) → ((p : ℕ) → pipes p ≡ None) → IsReadyFor such ready pipes queue
ready_none such ready pipes queue none = record {
  members = λ q x at. (let z : None ≡ Some x = sym (none q) ∙ at in cc);
  queued = λ q x at. (let z : None ≡ Some x = sym (none q) ∙ at in cc);
}

-- ---- the search in a run queue

-- who is found without a job leaves the run queue
pub dropped : {P : Type 0} (such : P → Type 0) (pipes : Places P) (queue next after : QueueState) (k : ℕ) → KeepsSuch such pipes queue next → KeepsOthers k next after → (IsMember next k → IsMember after k) → ((x : P) → pipes k ≡ Some x → such x → ⊥)
    → KeepsSuch such pipes queue after
dropped {P} such pipes queue next after k kept others member none p = drop_cases (cases_eq p k)
  where
    drop_cases : (p ≡ k) ⊎ (p ≡ k → ⊥) → (IsMember queue p → IsMember after p) × ((x : P) → pipes p ≡ Some x → such x → IsQueued queue p → IsQueued after p)
    drop_cases (inl e) = (
      λ m. subst (IsMember after) (sym e) (member (subst (IsMember next) e ((kept p).0 m))),
      λ x at s i. absurd (none x (ap pipes (sym e) ∙ at) s),
    )
    drop_cases (inr n) = (λ m. (others p n).0 ((kept p).0 m), λ x at s i. (others p n).1 ((kept p).1 x at s i))

-- what is known of the pipeline at a number is known of the number
pub one_at : {P : Type 0} (such : P → Type 0) (pipes : Places P) (k : ℕ) (x : P) (b : Bool) → pipes k ≡ Some x → MatchBool b (such x) (such x → ⊥) → MatchBool b (IsOne such pipes k) ((y : P) → pipes k ≡ Some y → such y → ⊥)
one_at such pipes k x true at m = (x, at, m)
one_at such pipes k x false at m = λ y there s. m (one_here such (pipes k) x there s at)

-- where nobody is queued
pub none_stands : {P : Type 0} (such : P → Type 0) (pipes : Places P) (queue next : QueueState) → KeepsSuch such pipes queue next → ((p : ℕ) → IsQueued next p → ⊥) → NoneStands such pipes queue
none_stands such pipes queue next kept none p x at s i = none p ((kept p).1 x at s i)

-- ---- all run queues

module _ {J O : Type 0} (pipes : Pipes J O) where
  pub queues_kept : (run_queues after : QueuesState) → AreReady (places pipes) run_queues → IsMade Keeps run_queues after → AreReady (places pipes) after
  queues_kept run_queues after r k = record {
    queues = ready_kept IsQueue HasJob pipes run_queues.queues after.queues r.queues k.0;
    own = λ c. ready_kept (IsFor c) HasJob pipes (queue_for c run_queues.own) (queue_for c after.own) (r.own c) (k.1 c);
  }

  pub queues_others : (run_queues after : QueuesState) (p : ℕ) → places pipes p ≡ None → AreReady (places pipes) run_queues → IsMade (KeepsOthers p) run_queues after → AreReady (places pipes) after
  queues_others run_queues after p none r k = record {
    queues = ready_others IsQueue HasJob pipes run_queues.queues after.queues p none r.queues k.0;
    own = λ c. ready_others (IsFor c) HasJob pipes (queue_for c run_queues.own) (queue_for c after.own) p none (r.own c) (k.1 c);
  }

  no_queue : (pipe new : Pipeline J O) → AdmitsNoMore pipe new → (c : ℕ) → IsFor c new → IsFor c pipe
  no_queue pipe new a c s = (sym a.queue ∙ s.0, a.admits c s.1)

  -- a pipeline in another form, of which nobody may take a job who might not before
  pub queues_same : (next : Pipes J O) (run_queues : QueuesState) (p : ℕ) (pipe new : Pipeline J O) → AreReady (places pipes) run_queues → IsSet pipes next p pipe new → (HasJob new → HasJob pipe) → AdmitsNoMore pipe new → AreReady (places next) run_queues
  queues_same next run_queues p pipe new r set serves a = record {
    queues = ready_same IsQueue HasJob pipes next run_queues.queues p pipe new r.queues set (λ q. sym a.queue ∙ q) serves;
    own = λ c. ready_same (IsFor c) HasJob pipes next (queue_for c run_queues.own) p pipe new (r.own c) set (no_queue pipe new a c) serves;
  }

  -- of which the run queues are told
  pub queues_told : (next : Pipes J O) (run_queues after : QueuesState) (p : ℕ) (pipe new : Pipeline J O) (had is : Bool) → AreReady (places pipes) run_queues → IsSet pipes next p pipe new → AreTold p new had is run_queues after → AdmitsNoMore pipe new
      → (had ≡ true → HasJob pipe) → (HasJob new → is ≡ true) → AreReady (places next) after
  queues_told next run_queues after p pipe new had is r set t a had_job says =
      let q = member_here IsQueue HasJob pipes run_queues.queues p pipe r.queues set.here in
      record {
        queues = ready_told IsQueue HasJob pipes next run_queues.queues after.queues p pipe new had is r.queues set t.queues (λ s. q.0 (sym a.queue ∙ s)) (λ h m s. q.1 (had_job h) (sym a.queue ∙ s)) says;
        own = λ c.
            (let b = member_here (IsFor c) HasJob pipes (queue_for c run_queues.own) p pipe (r.own c) set.here in
            ready_told (IsFor c) HasJob pipes next (queue_for c run_queues.own) (queue_for c after.own) p pipe new had is (r.own c) set (t.own c) (λ s. b.0 (no_queue pipe new a c s)) (λ h m s. b.1 (had_job h) (no_queue pipe new a c s)) says);
      }

  noted_cases : (pipe new : Pipeline J O) (caller c : ℕ) (accepted : Bool) → NotesCaller pipe new caller accepted → is_queue new.stage ≡ is_queue pipe.stage → Admits new c → (c ≡ pipe.maker) ⊎ (c ≡ pipe.maker → ⊥) → Admits pipe c ⊎ (caller ≡ c)
  noted_cases pipe new caller c accepted n queue a (inl made) = inl (inr (inl (sym made)))
  noted_cases pipe new caller c accepted n queue (inl q) (inr other) = inl (inl (sym queue ∙ q))
  noted_cases pipe new caller c accepted n queue (inr (inl m)) (inr other) = absurd (other (sym m ∙ n.maker))
  noted_cases pipe new caller c accepted n queue (inr (inr (inl s))) (inr other) = by_queue (is_queue pipe.stage) refl
    where
      noted : (a b e : Bool) → has c pipe.submitters.items ≡ a → (caller == c) ≡ e → (a || (b && e)) ≡ true → Admits pipe c ⊎ (caller ≡ c)
      noted true b e is same t = inl (inr (inr (inl is)))
      noted false true true is same t = inr (eqb-true caller c same)
      noted false true false is same t = cc
      noted false false e is same t = cc

      by_queue : (b : Bool) → is_queue pipe.stage ≡ b → Admits pipe c ⊎ (caller ≡ c)
      by_queue true q = inl (inl q)
      by_queue false q = noted (has c pipe.submitters.items) accepted (caller == c) refl refl (sym (n.submitters q c other) ∙ s)
  noted_cases pipe new caller c accepted n queue (inr (inr (inr m))) (inr other) = inl (inr (inr (inr (subst (λ k. IsMasked k c) n.mask m))))

  asked_member : (own : CallerQueues) (p : ℕ) (pipe new : Pipeline J O) (caller c : ℕ) → IsReadyFor (IsFor c) HasJob (places pipes) (queue_for c own) → places pipes p ≡ Some pipe → is_queue new.stage ≡ is_queue pipe.stage → (IsNoQueue pipe → IsMember (queue_for caller own) p)
      → IsNoQueue new → Admits pipe c ⊎ (caller ≡ c) → IsMember (queue_for c own) p
  asked_member own p pipe new caller c r here queue joined s (inl a) = (member_here (IsFor c) HasJob pipes (queue_for c own) p pipe r here).0 (sym queue ∙ s, a)
  asked_member own p pipe new caller c r here queue joined s (inr e) = subst (λ n. IsMember (queue_for n own) p) e (joined (sym queue ∙ s))

  asked_stands : (own : CallerQueues) (p : ℕ) (pipe new : Pipeline J O) (caller c : ℕ) → IsReadyFor (IsFor c) HasJob (places pipes) (queue_for c own) → places pipes p ≡ Some pipe → is_queue new.stage ≡ is_queue pipe.stage → (IsNoQueue pipe → HasJob pipe → IsQueued (queue_for caller own) p)
      → HasJob pipe → IsNoQueue new → Admits pipe c ⊎ (caller ≡ c) → IsQueued (queue_for c own) p
  asked_stands own p pipe new caller c r here queue stood h s (inl a) = (member_here (IsFor c) HasJob pipes (queue_for c own) p pipe r here).1 h (sym queue ∙ s, a)
  asked_stands own p pipe new caller c r here queue stood h s (inr e) = subst (λ n. IsQueued (queue_for n own) p) e (stood (sym queue ∙ s) h)

  -- a pipeline of which a caller who joined its run queue asked something
  pub queues_asked : (next : Pipes J O) (run_queues after : QueuesState) (p : ℕ) (pipe new : Pipeline J O) (caller : ℕ) (accepted had is : Bool) → AreReady (places pipes) run_queues → IsSet pipes next p pipe new → (IsNoQueue pipe → IsMember (queue_for caller run_queues.own) p) → (IsNoQueue pipe → HasJob pipe → IsQueued (queue_for caller run_queues.own) p)
      → AreTold p new had is run_queues after → NotesCaller pipe new caller accepted → is_queue new.stage ≡ is_queue pipe.stage → (had ≡ true → HasJob pipe) → (HasJob new → is ≡ true) → AreReady (places next) after
  queues_asked next run_queues after p pipe new caller accepted had is r set joined stood t n queue had_job says =
      let q = member_here IsQueue HasJob pipes run_queues.queues p pipe r.queues set.here in
      let may : (c : ℕ) → Admits new c → Admits pipe c ⊎ (caller ≡ c) = λ c a. noted_cases pipe new caller c accepted n queue a (cases_eq c pipe.maker) in
      record {
        queues = ready_told IsQueue HasJob pipes next run_queues.queues after.queues p pipe new had is r.queues set t.queues (λ s. q.0 (sym queue ∙ s)) (λ h m s. q.1 (had_job h) (sym queue ∙ s)) says;
        own = λ c.
            ready_told (IsFor c) HasJob pipes next (queue_for c run_queues.own) (queue_for c after.own) p pipe new had is (r.own c) set (t.own c)
            (λ s. asked_member run_queues.own p pipe new caller c (r.own c) set.here queue joined s.0 (may c s.1))
            (λ h m s. asked_stands run_queues.own p pipe new caller c (r.own c) set.here queue stood (had_job h) s.0 (may c s.1)) says;
      }

  -- a pipeline that was closed, and left all run queues
  pub queues_left : (next : Pipes J O) (run_queues after : QueuesState) (p : ℕ) (pipe : Pipeline J O) → AreReady (places pipes) run_queues → IsLeft pipes next p pipe → IsMade (KeepsOthers p) run_queues after → AreReady (places next) after
  queues_left next run_queues after p pipe r left k = record {
    queues = ready_left IsQueue HasJob pipes next run_queues.queues after.queues p pipe r.queues left k.0;
    own = λ c. ready_left (IsFor c) HasJob pipes next (queue_for c run_queues.own) (queue_for c after.own) p pipe (r.own c) left (k.1 c);
  }

  masked_member : (own : CallerQueues) (p : ℕ) (pipe new : Pipeline J O) (c : ℕ) → IsReadyFor (IsFor c) HasJob (places pipes) (queue_for c own) → places pipes p ≡ Some pipe → new.maker ≡ pipe.maker → new.submitters.items ≡ pipe.submitters.items → is_queue new.stage ≡ is_queue pipe.stage
      → ((worker : ℕ) → IsMasked new.mask worker → IsMember (queue_for worker own) p) → IsNoQueue new → Admits new c → IsMember (queue_for c own) p
  masked_member own p pipe new c r here made subs queue workers s (inl q) = absurd (both_ways (is_queue new.stage) s q)
  masked_member own p pipe new c r here made subs queue workers s (inr (inl m)) = (member_here (IsFor c) HasJob pipes (queue_for c own) p pipe r here).0 (sym queue ∙ s, inr (inl (sym made ∙ m)))
  masked_member own p pipe new c r here made subs queue workers s (inr (inr (inl h))) = (member_here (IsFor c) HasJob pipes (queue_for c own) p pipe r here).0 (sym queue ∙ s, inr (inr (inl (ap (has c) (sym subs) ∙ h))))
  masked_member own p pipe new c r here made subs queue workers s (inr (inr (inr m))) = workers c m

  -- a pad under another mask, whose workers joined their run queues
  pub queues_masked : (next : Pipes J O) (run_queues after : QueuesState) (p : ℕ) (pipe new : Pipeline J O) → AreReady (places pipes) run_queues → IsSet pipes next p pipe new → after.queues ≡ run_queues.queues → ((c : ℕ) → IsReadmitted p new c (queue_for c run_queues.own) (queue_for c after.own))
      → new.maker ≡ pipe.maker → new.submitters.items ≡ pipe.submitters.items → is_queue new.stage ≡ is_queue pipe.stage → (HasJob new → HasJob pipe) → ((worker : ℕ) → IsMasked new.mask worker → IsMember (queue_for worker run_queues.own) p)
      → AreReady (places next) after
  queues_masked next run_queues after p pipe new r set queues own made subs queue serves workers =
      let member : (c : ℕ) → IsNoQueue new → Admits new c → IsMember (queue_for c run_queues.own) p = λ c s a. masked_member run_queues.own p pipe new c (r.own c) set.here made subs queue workers s a in
      record {
        queues = subst (IsReadyFor IsQueue HasJob (places next)) (sym queues) (ready_same IsQueue HasJob pipes next run_queues.queues p pipe new r.queues set (λ q. sym queue ∙ q) serves);
        own = λ c. ready_set (IsFor c) HasJob pipes next (queue_for c run_queues.own) (queue_for c after.own) p pipe new (r.own c) set (own c).others
            (λ s. (own c).member s (member c s.0 s.1), λ m s. (own c).queued s m (member c s.0 s.1));
      }

  born_member : (own : CallerQueues) (p : ℕ) (new : Pipeline J O) (queues : QueueState) (c : ℕ) → Joins p new (record { queues = queues; own = own }) → new.submitters.items ≡ [] → IsNoQueue new → Admits new c → IsMember (queue_for c own) p
  born_member own p new queues c j none s (inl q) = absurd (both_ways (is_queue new.stage) s q)
  born_member own p new queues c j none s (inr (inl m)) = subst (λ n. IsMember (queue_for n own) p) m (j.maker s)
  born_member own p new queues c j none s (inr (inr (inl h))) = (let e : false ≡ true = ap (has c) (sym none) ∙ h in cc)
  born_member own p new queues c j none s (inr (inr (inr m))) = j.workers s c m

  -- a pipeline that was just made has no job
  pub queues_born : (next : Pipes J O) (run_queues after : QueuesState) (p : ℕ) (new : Pipeline J O) → AreReady (places pipes) run_queues → IsAdded pipes next p new → IsMade (KeepsOthers p) run_queues after → Joins p new after → (HasJob new → ⊥) → new.submitters.items ≡ [] → AreReady (places next) after
  queues_born next run_queues after p new r added k j none subs = record {
    queues = ready_born IsQueue HasJob pipes next run_queues.queues after.queues p new r.queues added k.0 j.queue none;
    own = λ c. ready_born (IsFor c) HasJob pipes next (queue_for c run_queues.own) (queue_for c after.own) p new (r.own c) added (k.1 c) (λ s. born_member after.own p new after.queues c j subs s.0 s.1) none;
  }

  -- ---- the search in the queues' run queue and in a caller's own

  queue_seen : (caller : ℕ) (x : Pipeline J O) → HasJob x → IsQueue x → HasJobFor caller x
  queue_seen caller x m q = (m, inl q)

  own_seen : (caller : ℕ) (x : Pipeline J O) → HasJob x → IsFor caller x → HasJobFor caller x
  own_seen caller x m s = (m, s.1)

  pub queues_searched : (caller : ℕ) (queue after : QueueState) → IsReadyFor IsQueue HasJob (places pipes) queue → KeepsSuch (HasJobFor caller) (places pipes) queue after → IsReadyFor IsQueue HasJob (places pipes) after
  queues_searched caller queue after r k = ready_searched IsQueue HasJob pipes (HasJobFor caller) queue after (queue_seen caller) r k

  pub own_searched : (caller : ℕ) (queue after : QueueState) → IsReadyFor (IsFor caller) HasJob (places pipes) queue → KeepsSuch (HasJobFor caller) (places pipes) queue after → IsReadyFor (IsFor caller) HasJob (places pipes) after
  own_searched caller queue after r k = ready_searched (IsFor caller) HasJob pipes (HasJobFor caller) queue after (own_seen caller) r k

  none_cases : (run_queues : QueuesState) (caller p : ℕ) (x : Pipeline J O) (queue : Bool) → AreReady (places pipes) run_queues → NoneStands (HasJobFor caller) (places pipes) run_queues.queues → NoneStands (HasJobFor caller) (places pipes) (queue_for caller run_queues.own) → places pipes p ≡ Some x → HasJobFor caller x → is_queue x.stage ≡ queue → ⊥
  none_cases run_queues caller p x true r q o at h e = q p x at h (r.queues.queued p x at h.0 e)
  none_cases run_queues caller p x false r q o at h e = o p x at h ((r.own caller).queued p x at h.0 (e, h.1))

  -- what stands in neither has no job for the caller
  pub found_all : (run_queues : QueuesState) (caller : ℕ) (found : Option ℕ) → AreReady (places pipes) run_queues
      → MatchOption found (NoneStands (HasJobFor caller) (places pipes) run_queues.queues × NoneStands (HasJobFor caller) (places pipes) (queue_for caller run_queues.own)) (IsOne (HasJobFor caller) (places pipes)) → Finds (HasJobFor caller) (places pipes) found
  found_all run_queues caller None r none = λ p x at h. none_cases run_queues caller p x (is_queue x.stage) r none.0 none.1 at h refl
  found_all run_queues caller (Some k) r one = one

  pub both_ways_round : (caller : ℕ) (queue second : QueueState) (found : Option ℕ) → MatchOption found (NoneStands (HasJobFor caller) (places pipes) queue × NoneStands (HasJobFor caller) (places pipes) second) (IsOne (HasJobFor caller) (places pipes))
      → MatchOption found (NoneStands (HasJobFor caller) (places pipes) second × NoneStands (HasJobFor caller) (places pipes) queue) (IsOne (HasJobFor caller) (places pipes))
  both_ways_round caller queue second None h = (h.1, h.0)
  both_ways_round caller queue second (Some k) h = h

  -- the queues' run queue alone, for a caller that has no other
  pub found_queue : (run_queues : QueuesState) (caller : ℕ) (found : Option ℕ) → AreReady (places pipes) run_queues → queue_for caller run_queues.own ≡ no_pipelines → MatchOption found (NoneStands (HasJobFor caller) (places pipes) run_queues.queues) (IsOne (HasJobFor caller) (places pipes)) → Finds (HasJobFor caller) (places pipes) found
  found_queue run_queues caller None r none h = found_all run_queues caller None r (h, λ p x at m i. none_queued p (subst (λ queue. IsQueued queue p) none i))
  found_queue run_queues caller (Some k) r none h = h

  -- the queues' run queue first, then the caller's own
  pub found_queue_first : (run_queues : QueuesState) (caller : ℕ) (own : QueueState) (found : Option ℕ) → AreReady (places pipes) run_queues → queue_for caller run_queues.own ≡ own
      → MatchOption found (NoneStands (HasJobFor caller) (places pipes) run_queues.queues × NoneStands (HasJobFor caller) (places pipes) own) (IsOne (HasJobFor caller) (places pipes)) → Finds (HasJobFor caller) (places pipes) found
  found_queue_first run_queues caller own found r here h =
      found_all run_queues caller found r
      (subst (λ queue. MatchOption found (NoneStands (HasJobFor caller) (places pipes) run_queues.queues × NoneStands (HasJobFor caller) (places pipes) queue) (IsOne (HasJobFor caller) (places pipes))) (sym here) h)

  -- what a search leaves of the run queues
  pub queue_searched : (run_queues : QueuesState) (caller : ℕ) (queues : QueueState) → AreReady (places pipes) run_queues → KeepsSuch (HasJobFor caller) (places pipes) run_queues.queues queues → AreReady (places pipes) (record run_queues { queues = queues })
  queue_searched run_queues caller queues r k = record {
    queues = queues_searched caller run_queues.queues queues r.queues k;
    own = r.own;
  }

  pub run_queues_searched : (run_queues after : QueuesState) (caller : ℕ) (queue new : QueueState) → AreReady (places pipes) run_queues → IsQueueSet caller run_queues.own after.own queue new → KeepsSuch (HasJobFor caller) (places pipes) run_queues.queues after.queues → KeepsSuch (HasJobFor caller) (places pipes) queue new
      → AreReady (places pipes) after
  run_queues_searched run_queues after caller queue new r set k l = record {
    queues = queues_searched caller run_queues.queues after.queues r.queues k;
    own = λ c.
        set_made (λ n queue after. IsReadyFor (IsFor n) HasJob (places pipes) queue → IsReadyFor (IsFor n) HasJob (places pipes) after) run_queues.own after.own caller queue new set (λ n d queue s. s)
        (λ s. own_searched caller queue new s l) c (r.own c);
  }
