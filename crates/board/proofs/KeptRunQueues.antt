-- What the run queues are told of a pipeline.
use Rattle.std.proofs.Common.{◌≡◌, ℕ, Bool, true, false, List, refl, sym, ◌∙◌, ap, subst}
use Rattle.std.specs.Prelude.{MatchBool}
use Rattle.board.specs.declared.entry.Entered.{Entered}
use Rattle.board.specs.declared.pipeline.Pipeline.{Pipeline}
use Rattle.board.specs.declared.stage.Stage.{Stage}
use Rattle.board.specs.declared.stage.Stage.TheVariants as stage
use Rattle.board.specs.Stages.{is_queue, is_chain, without_room, after_entered, after_passed, ended, with_job, without_first, MayServe, MayPass, IsQuiet, PassesNone}
use Rattle.board.specs.Pipelines.{with_lists}
use Rattle.board.specs.Places.{places}
use Rattle.board.specs.RunQueue.{QueueState, IsMember, HasRequest, IsChain, IsReadyFor, NoneIs, NoneStands, KeepsSuch, IsTold}
use Rattle.board.proofs.Searching.{not_quiet}
use Rattle.board.proofs.Kept.{Pipes, IsSet}
use Rattle.board.proofs.KeptPassOn.{not_none}
use Rattle.board.proofs.KeptRoom.{queue_same}
use Rattle.board.proofs.RunQueuesMade.{told_set}
use Rattle.board.proofs.RunQueuesHold.{ready_same, ready_told, ready_searched, member_here, chain_same}

-- ---- what the call says of a stage

pub serves : {J O : Type 0} (s : Stage J O) (b : Bool) → MatchBool b (MayServe s) (IsQuiet s) → b ≡ true → MayServe s
serves s true m e = m
serves s false m e = cc

pub says : {J O : Type 0} (s : Stage J O) (b : Bool) → MatchBool b (MayServe s) (IsQuiet s) → MayServe s → b ≡ true
says s true m h = refl
says s false m h = absurd (not_quiet s h m)

pub says_passing : {J O : Type 0} (s : Stage J O) (b : Bool) → MatchBool b (MayPass s) (PassesNone s) → MayPass s → b ≡ true
says_passing s true m h = refl
says_passing s false m h = absurd (not_none s h m)

pub passes_or_not : {J O : Type 0} (s : Stage J O) (b : Bool) → MatchBool b (MayPass s) (PassesNone s) → MatchBool b (MayPass s) (MayPass s → ⊥)
passes_or_not s true m = m
passes_or_not s false m = λ h. not_none s h m

-- ---- a stage stays a queue, a chain or a pad

first_chain : {J O : Type 0} (s : Stage J O) (rest : List J) → is_chain (without_first s rest) ≡ is_chain s
first_chain (stage.Pad x) rest = refl
first_chain (stage.Queue x) rest = refl
first_chain (stage.Chain x) rest = refl

pub taken_chain : {J O : Type 0} (s after : Stage J O) (rest : List J) → after ≡ without_first s rest → is_chain after ≡ is_chain s
taken_chain s after rest e = ap is_chain e ∙ first_chain s rest

ended_chain : {J O : Type 0} (s : Stage J O) (n : ℕ) (out : O) → is_chain (ended s n out) ≡ is_chain s
ended_chain (stage.Pad x) n out = refl
ended_chain (stage.Queue x) n out = refl
ended_chain (stage.Chain x) n out = refl

pub finished_chain : {J O : Type 0} (s after : Stage J O) (n : ℕ) (out : O) → after ≡ ended s n out → is_chain after ≡ is_chain s
finished_chain s after n out e = ap is_chain e ∙ ended_chain s n out

passed_queue : {J O : Type 0} (s : Stage J O) → is_queue (after_passed s) ≡ is_queue s
passed_queue (stage.Pad x) = refl
passed_queue (stage.Queue x) = refl
passed_queue (stage.Chain x) = refl

pub passed_is_queue : {J O : Type 0} (s after : Stage J O) → after ≡ after_passed s → is_queue after ≡ is_queue s
passed_is_queue s after e = ap is_queue e ∙ passed_queue s

passed_chain : {J O : Type 0} (s : Stage J O) → is_chain (after_passed s) ≡ is_chain s
passed_chain (stage.Pad x) = refl
passed_chain (stage.Queue x) = refl
passed_chain (stage.Chain x) = refl

pub passed_is_chain : {J O : Type 0} (s after : Stage J O) → after ≡ after_passed s → is_chain after ≡ is_chain s
passed_is_chain s after e = ap is_chain e ∙ passed_chain s

job_queue : {J O : Type 0} (s : Stage J O) (job : J) → is_queue (with_job s job) ≡ is_queue s
job_queue (stage.Pad x) job = refl
job_queue (stage.Queue x) job = refl
job_queue (stage.Chain x) job = refl

pub submitted_queue : {J O : Type 0} (s after : Stage J O) (job : J) → without_room after ≡ without_room (with_job s job) → is_queue after ≡ is_queue s
submitted_queue s after job e = queue_same after (with_job s job) e ∙ job_queue s job

job_chain : {J O : Type 0} (s : Stage J O) (job : J) → is_chain (with_job s job) ≡ is_chain s
job_chain (stage.Pad x) job = refl
job_chain (stage.Queue x) job = refl
job_chain (stage.Chain x) job = refl

pub submitted_chain : {J O : Type 0} (s after : Stage J O) (job : J) → without_room after ≡ without_room (with_job s job) → is_chain after ≡ is_chain s
submitted_chain s after job e = chain_same after (with_job s job) e ∙ job_chain s job

entered_queue : {J O : Type 0} (s : Stage J O) (job : J) (answer : Entered) → is_queue (after_entered s job answer) ≡ is_queue s
entered_queue (stage.Pad x) job answer = refl
entered_queue (stage.Queue x) job answer = refl
entered_queue (stage.Chain x) job answer = refl

pub enqueued_queue : {J O : Type 0} (s after : Stage J O) (job : J) (answer : Entered) → without_room after ≡ without_room (after_entered s job answer) → is_queue after ≡ is_queue s
enqueued_queue s after job answer e = queue_same after (after_entered s job answer) e ∙ entered_queue s job answer

entered_chain : {J O : Type 0} (s : Stage J O) (job : J) (answer : Entered) → is_chain (after_entered s job answer) ≡ is_chain s
entered_chain (stage.Pad x) job answer = refl
entered_chain (stage.Queue x) job answer = refl
entered_chain (stage.Chain x) job answer = refl

pub enqueued_chain : {J O : Type 0} (s after : Stage J O) (job : J) (answer : Entered) → without_room after ≡ without_room (after_entered s job answer) → is_chain after ≡ is_chain s
enqueued_chain s after job answer e = chain_same after (after_entered s job answer) e ∙ entered_chain s job answer

listed_queue : {J O : Type 0} (s : Stage J O) (lists : ℕ) → is_queue (with_lists s lists) ≡ is_queue s
listed_queue (stage.Pad x) lists = refl
listed_queue (stage.Queue x) lists = refl
listed_queue (stage.Chain x) lists = refl

pub lists_queue : {J O : Type 0} (s after : Stage J O) (lists : ℕ) → after ≡ with_lists s lists → is_queue after ≡ is_queue s
lists_queue s after lists e = ap is_queue e ∙ listed_queue s lists

listed_chain : {J O : Type 0} (s : Stage J O) (lists : ℕ) → is_chain (with_lists s lists) ≡ is_chain s
listed_chain (stage.Pad x) lists = refl
listed_chain (stage.Queue x) lists = refl
listed_chain (stage.Chain x) lists = refl

pub lists_chain : {J O : Type 0} (s after : Stage J O) (lists : ℕ) → after ≡ with_lists s lists → is_chain after ≡ is_chain s
lists_chain s after lists e = ap is_chain e ∙ listed_chain s lists

listed_serves : {J O : Type 0} (s : Stage J O) (lists : ℕ) → MayServe (with_lists s lists) → MayServe s
listed_serves (stage.Pad x) lists m = m
listed_serves (stage.Queue x) lists m = m
listed_serves (stage.Chain x) lists m = m

pub lists_serves : {J O : Type 0} (s after : Stage J O) (lists : ℕ) → after ≡ with_lists s lists → MayServe after → MayServe s
lists_serves s after lists e m = listed_serves s lists (subst MayServe e m)

-- only a chain passes requests on
pub passes_chain : {J O : Type 0} (s : Stage J O) → MayPass s → is_chain s ≡ true
passes_chain (stage.Pad x) m = absurd m
passes_chain (stage.Queue x) m = absurd m
passes_chain (stage.Chain x) m = refl

-- ---- the chains' run queue

module _ {J O : Type 0} (pipes next : Pipes J O) (queue : QueueState) (p : ℕ) (pipe new : Pipeline J O) (r : IsReadyFor IsChain HasRequest (places pipes) queue) (set : IsSet pipes next p pipe new) where
  pub passing_same : is_chain new.stage ≡ is_chain pipe.stage → (HasRequest new → HasRequest pipe) → IsReadyFor IsChain HasRequest (places next) queue
  passing_same chain serves = ready_same IsChain HasRequest pipes next queue p pipe new r set (λ s. sym chain ∙ s) serves

  pub passing_told : (after : QueueState) (is : Bool) → IsTold (IsMember queue p) p false is queue after → is_chain new.stage ≡ is_chain pipe.stage → (HasRequest new → is ≡ true) → IsReadyFor IsChain HasRequest (places next) after
  passing_told after is t chain says =
      ready_told IsChain HasRequest pipes next queue after p pipe new false is r set (told_set (IsChain new) p is queue after t)
      (λ s. (member_here IsChain HasRequest pipes queue p pipe r set.here).0 (sym chain ∙ s)) (λ h. cc) says

-- what a search leaves of it
pub passing_searched : {J O : Type 0} (pipes : Pipes J O) (queue after : QueueState) → IsReadyFor IsChain HasRequest (places pipes) queue → KeepsSuch HasRequest (places pipes) queue after → IsReadyFor IsChain HasRequest (places pipes) after
passing_searched pipes queue after r k = ready_searched IsChain HasRequest pipes HasRequest queue after (λ x m s. m) r k

-- what doesn't stand there passes nothing on
pub none_passes : {J O : Type 0} (pipes : Pipes J O) (queue : QueueState) → IsReadyFor IsChain HasRequest (places pipes) queue → NoneStands HasRequest (places pipes) queue → NoneIs HasRequest (places pipes)
none_passes pipes queue r none p x at m = none p x at m (r.queued p x at m (passes_chain x.stage m))
