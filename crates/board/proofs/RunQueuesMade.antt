-- The callers' own run queues, as they are told of a pipeline one after the other, and as it leaves them.
use Rattle.std.proofs.Common.{◌≡◌, ◌≢◌, ℕ, ◌+◌, ◌<◌, ◌≤◌, Bool, true, false, ◌||◌, List, [], ◌∷◌, ◌++◌, length, Some, refl, sym, ◌∙◌, ap, subst, arith, inl, inr, ◌⊎◌}
use Rattle.std.specs.Prelude.{◌==◌, slice_get}
use Rattle.std.proofs.lemmas.Bool.{eqb-true, both_ways, cases_eq, cases_lt}
use Rattle.std.proofs.lemmas.List.Folds.{list_any-append}
use Rattle.board.specs.declared.pipeline.Pipeline.{Pipeline}
use Rattle.board.specs.Entries.{has, IsMasked}
use Rattle.board.specs.Stages.{is_queue}
use Rattle.board.specs.RunQueue.{QueueState, no_pipelines, IsMember, IsQueued, KeepsOthers, HasJob, IsQueue, IsFor, Admits, IsTold}
use Rattle.board.specs.RunQueues.{QueuesState, queue_for, AreTold, OwnAreTold, LetsGo, IsReadmitted}
use Rattle.board.proofs.CallersQueues.{IsQueueSet, set_made}
use Rattle.board.proofs.RunQueuesHold.{no_member, others_on}

-- ---- one run queue

module _ (such : Type 0) (pipe : ℕ) where
  -- a run queue of which nothing is asked stays
  pub told_same : (was is : Bool) (queue : QueueState) → (such → ⊥) → IsTold such pipe was is queue queue
  told_same was is queue none = record {
    others = λ p n. (λ m. m, λ s. s);
    member = λ m. m;
    stays = λ i s. s;
    queued = λ s i w m. absurd (none s);
  }

  pub told_set : (is : Bool) (queue after : QueueState) → IsTold (IsMember queue pipe) pipe false is queue after → IsTold such pipe false is queue after
  told_set is queue after t = record {
    others = t.others;
    member = t.member;
    stays = t.stays;
    queued = λ s i w m. t.queued m i w m;
  }

  pub told_anew : (had has : Bool) (queue after : QueueState) → IsTold such pipe false has queue after → IsTold such pipe had has queue after
  told_anew had has queue after t = record {
    others = t.others;
    member = t.member;
    stays = t.stays;
    queued = λ s i w m. t.queued s i (λ f. cc) m;
  }

  -- one told in fewer cases
  pub told_less : (more : Type 0) (is : Bool) (queue after : QueueState) → (such → more) → IsTold more pipe false is queue after → IsTold such pipe false is queue after
  told_less more is queue after to t = record {
    others = t.others;
    member = t.member;
    stays = t.stays;
    queued = λ s i w m. t.queued (to s) i w m;
  }

-- one told twice
pub told_on : (first second : Type 0) (pipe : ℕ) (is : Bool) (queue next after : QueueState) → IsTold first pipe false is queue next → IsTold second pipe false is next after → IsTold (first ⊎ second) pipe false is queue after
told_on first second pipe is queue next after t u = record {
  others = others_on pipe queue next after t.others u.others;
  member = λ m. u.member (t.member m);
  stays = λ i s. u.stays i (t.stays i s);
  queued = queued;
}
  where
    queued : first ⊎ second → is ≡ true → (false ≡ true → IsQueued queue pipe) → IsMember queue pipe → IsQueued after pipe
    queued (inl s) i w m = u.stays i (t.queued s i w m)
    queued (inr s) i w m = u.queued s i (λ f. cc) (t.member m)

-- a run queue keeps all but the pipeline while it stays, or loses the pipeline alone
pub same_but : (pipe : ℕ) (queue : QueueState) → KeepsOthers pipe queue queue
same_but pipe queue p n = (λ m. m, λ s. s)

-- a run queue without members keeps what any other has
pub empty_keeps : (pipe : ℕ) (queue after : QueueState) → length queue.members ≡ 0 → KeepsOthers pipe queue after
empty_keeps pipe queue after e p d = (λ m. absurd (none queue.members m.0 e m.1), λ s. absurd (none queue.members s.0 e s.2))
  where
    none : (ms : List ℕ) (i : ℕ) → length ms ≡ 0 → slice_get ms i ≡ Some p → ⊥
    none [] i z g = cc
    none (m ∷ ms) i z g = cc

-- ---- such callers' run queues

module _ (pipe : ℕ) (is : Bool) where
  pub own_same : (such : ℕ → Type 0) (run_queues : QueuesState) → ((c : ℕ) → such c → ⊥) → OwnAreTold such pipe is run_queues run_queues
  own_same such run_queues none = record {
    queues = refl;
    own = λ c. told_same (such c) pipe false is (queue_for c run_queues.own) (none c);
  }

  pub own_less : (such more : ℕ → Type 0) (run_queues after : QueuesState) → ((c : ℕ) → such c → more c) → OwnAreTold more pipe is run_queues after → OwnAreTold such pipe is run_queues after
  own_less such more run_queues after to t = record {
    queues = t.queues;
    own = λ c. told_less (such c) pipe (more c) is (queue_for c run_queues.own) (queue_for c after.own) (to c) (t.own c);
  }

  -- first some, and then others
  pub own_on : (such first second : ℕ → Type 0) (run_queues next after : QueuesState) → ((c : ℕ) → such c → first c ⊎ second c) → OwnAreTold first pipe is run_queues next → OwnAreTold second pipe is next after → OwnAreTold such pipe is run_queues after
  own_on such first second run_queues next after to t u = record {
    queues = u.queues ∙ t.queues;
    own = λ c.
        told_less (such c) pipe (first c ⊎ second c) is (queue_for c run_queues.own) (queue_for c after.own) (to c)
        (told_on (first c) (second c) pipe is (queue_for c run_queues.own) (queue_for c next.own) (queue_for c after.own) (t.own c) (u.own c));
  }

  -- one caller's run queue
  pub own_set : (caller : ℕ) (run_queues after : QueuesState) (queue new : QueueState) → after.queues ≡ run_queues.queues → IsQueueSet caller run_queues.own after.own queue new → IsTold (IsMember queue pipe) pipe false is queue new → OwnAreTold (λ c. c ≡ caller) pipe is run_queues after
  own_set caller run_queues after queue new queues set t = record {
    queues = queues;
    own = set_made (λ c queue after. IsTold (c ≡ caller) pipe false is queue after) run_queues.own after.own caller queue new set (λ c n queue. told_same (c ≡ caller) pipe false is queue n) (told_set (caller ≡ caller) pipe is queue new t);
  }

  -- one who has none
  pub own_none : (caller : ℕ) (run_queues : QueuesState) → queue_for caller run_queues.own ≡ no_pipelines → OwnAreTold (λ c. c ≡ caller) pipe is run_queues run_queues
  own_none caller run_queues none = record {
    queues = refl;
    own = λ c. queue (cases_eq c caller);
  }
    where
      queue : {c : ℕ} → (c ≡ caller) ⊎ (c ≡ caller → ⊥) → IsTold (c ≡ caller) pipe false is (queue_for c run_queues.own) (queue_for c run_queues.own)
      queue {c} (inl e) = record {
        others = λ p n. (λ m. m, λ s. s);
        member = λ m. m;
        stays = λ i s. s;
        queued = λ s i w m. absurd (no_member pipe (subst (λ l. IsMember l pipe) (ap (λ n. queue_for n run_queues.own) e ∙ none) m));
      }
      queue {c} (inr n) = told_same (c ≡ caller) pipe false is (queue_for c run_queues.own) n

-- who is among callers and one more
pub one_more : (cs : List ℕ) (x c : ℕ) → has c (cs ++ x ∷ []) ≡ true → (has c cs ≡ true) ⊎ (c ≡ x)
one_more cs x c h = either (has c cs) (x == c) refl refl (sym (list_any-append (λ m. m == c) cs (x ∷ [])) ∙ h)
  where
    either : (a b : Bool) → has c cs ≡ a → (x == c) ≡ b → (a || (b || false)) ≡ true → (has c cs ≡ true) ⊎ (c ≡ x)
    either true b e f t = inl e
    either false true e f t = inr (sym (eqb-true x c f))
    either false false e f t = cc

-- a worker up to the next one is that one, or before it
pub next_masked : (mask before c : ℕ) → IsMasked mask c × (c ≤ before + 1) → (IsMasked mask c × (c ≤ before)) ⊎ ((c ≡ before + 1) × IsMasked mask c)
next_masked mask before c m = up_to (cases_lt before c)
  where
    up_to : (before < c) ⊎ (c ≤ before) → (IsMasked mask c × (c ≤ before)) ⊎ ((c ≡ before + 1) × IsMasked mask c)
    up_to (inl l) = (let u = m.1 in inr (omega arith, m.0))
    up_to (inr g) = inl (m.0, g)

-- who may take is the maker, has submitted, or is a worker in the mask
pub who_may : {J O : Type 0} (place : Pipeline J O) (c : ℕ) → IsFor c place → ((c ≡ place.maker) ⊎ (has c place.submitters.items ≡ true)) ⊎ IsMasked place.mask c
who_may place c (f, inl q) = absurd (both_ways (is_queue place.stage) f q)
who_may place c (f, inr (inl m)) = inl (inl (sym m))
who_may place c (f, inr (inr (inl s))) = inl (inr s)
who_may place c (f, inr (inr (inr m))) = inr m

-- ---- all run queues

module _ {J O : Type 0} (pipe : ℕ) (place : Pipeline J O) (had has : Bool) (run_queues : QueuesState) where
  -- a queue stands in no caller's own run queue
  pub queue_told : (queues : QueueState) → is_queue place.stage ≡ true → IsTold (IsMember run_queues.queues pipe) pipe false has run_queues.queues queues → AreTold pipe place had has run_queues (record run_queues { queues = queues })
  queue_told queues q t = record {
    queues = told_anew (IsQueue place) pipe had has run_queues.queues queues (told_set (IsQueue place) pipe has run_queues.queues queues t);
    own = λ c. told_same (IsFor c place) pipe had has (queue_for c run_queues.own) (λ s. both_ways (is_queue place.stage) s.0 q);
  }

  -- and a pad or a chain not in the queues'
  pub own_told : (after : QueuesState) → is_queue place.stage ≡ false → OwnAreTold (λ c. IsFor c place) pipe has run_queues after → AreTold pipe place had has run_queues after
  own_told after f t = record {
    queues = subst (IsTold (IsQueue place) pipe had has run_queues.queues) (sym t.queues) (told_same (IsQueue place) pipe had has run_queues.queues (λ q. both_ways (is_queue place.stage) f q));
    own = λ c. told_anew (IsFor c place) pipe had has (queue_for c run_queues.own) (queue_for c after.own) (t.own c);
  }

-- ---- a pad under another mask

module _ {J O : Type 0} (pipe : ℕ) (place : Pipeline J O) where
  pub goes_same : (run_queues : QueuesState) → LetsGo pipe place run_queues run_queues
  goes_same run_queues = record {
    queues = refl;
    others = λ c p n. (λ m. m, λ s. s);
    admitted = λ c s. refl;
  }

  pub goes_on : (run_queues next after : QueuesState) → LetsGo pipe place run_queues next → LetsGo pipe place next after → LetsGo pipe place run_queues after
  goes_on run_queues next after t u = record {
    queues = u.queues ∙ t.queues;
    others = λ c. others_on pipe (queue_for c run_queues.own) (queue_for c next.own) (queue_for c after.own) (t.others c) (u.others c);
    admitted = λ c s. u.admitted c s ∙ t.admitted c s;
  }

  -- it left the run queue of one whom it doesn't admit
  pub goes_other : (worker : ℕ) (run_queues after : QueuesState) → (Admits place worker → ⊥) → after.queues ≡ run_queues.queues → ((c : ℕ) → KeepsOthers pipe (queue_for c run_queues.own) (queue_for c after.own)) → ((c : ℕ) → c ≢ worker → queue_for c after.own ≡ queue_for c run_queues.own) → LetsGo pipe place run_queues after
  goes_other worker run_queues after not queues kept same = record {
    queues = queues;
    others = kept;
    admitted = λ c s. same c (λ e. not (subst (Admits place) e s.1));
  }

  -- after that those that it admits are told
  pub readmitted : (is : Bool) (run_queues next after : QueuesState) → (HasJob place → is ≡ true) → LetsGo pipe place run_queues next → OwnAreTold (λ c. IsFor c place) pipe is next after → (c : ℕ) → IsReadmitted pipe place c (queue_for c run_queues.own) (queue_for c after.own)
  readmitted is run_queues next after says t u c = record {
    others = others_on pipe (queue_for c run_queues.own) (queue_for c next.own) (queue_for c after.own) (t.others c) (u.own c).others;
    member = λ s m. (u.own c).member (there s m);
    queued = λ s h m. (u.own c).queued s (says h) (λ f. cc) (there s m);
  }
    where
      there : IsFor c place → IsMember (queue_for c run_queues.own) pipe → IsMember (queue_for c next.own) pipe
      there s m = subst (λ queue. IsMember queue pipe) (sym (t.admitted c s)) m
