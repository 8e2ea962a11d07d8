use Rattle.std.specs.Prelude.{◌≡◌, ◌⊎◌, ℕ, ◌+◌, ◌-◌, Bool, true, List, [], ◌∷◌, ◌++◌, Option, Some, None}
use Rattle.kc_base.specs.declared.callback_list.Callback.{Callback}
use Rattle.kc_base.specs.declared.callback_list.Callback.TheVariants.{Started}
use Rattle.request_queue.specs.declared.Verdict.{Verdict}
use Rattle.request_queue.specs.declared.Verdict.TheVariants.{InProgress, Busy, NoSpace}
use Rattle.request_queue.specs.BoundedQueue.{BoundedQueue}

-- A queue that is served one job at a time: the queue of those that wait, whether it is held, whether a job of it
-- runs, how many were passed on and aren't released, and the callbacks that are not collected yet.
pub record Server (J F : Type 0) : Type 0 where
  pub queue : BoundedQueue J
  pub held : Bool
  pub busy : Bool
  pub passed : ℕ
  pub pending : List (Callback F)
  pub spare : ℕ

-- the callback to a number that has started
abbrev pub started_callback : {F : Type 0} → Option ℕ → List (Callback F)
started_callback None = []
started_callback (Some number) = Started number ∷ []

abbrev pub spare_after : {J : Type 0} → ℕ → Verdict J → ℕ
spare_after spare InProgress = spare - 1
spare_after spare Busy = spare - 1
spare_after spare (NoSpace job) = spare

-- all of it but the room that is kept for more jobs
abbrev pub bare : {J F : Type 0} → Server J F → Server J F
bare server = record server { spare = 0; queue = record server.queue { spare = 0 } }

-- it is held, or busy, or no job waits
abbrev pub ServesNone : {J F : Type 0} → Server J F → Type 0
ServesNone server = (server.held ≡ true) ⊎ ((server.busy ≡ true) ⊎ (server.queue.waiting ≡ []))

-- the first job has left, these wait, and the number that has started by that is told
abbrev pub after_first : {J F : Type 0} → Server J F → Option ℕ → List J → Server J F
after_first server started rest =
    record server {
      queue = record server.queue { served = server.queue.served + 1; waiting = rest };
      pending = server.pending ++ started_callback started;
    }
