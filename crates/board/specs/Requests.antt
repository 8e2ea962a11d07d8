-- What the run queues learn of a pipeline that took a request in.
use Rattle.std.specs.Prelude.{ℕ, Bool, false, MatchBool}
use Rattle.board.specs.declared.pipeline.Pipeline.{Pipeline}
use Rattle.board.specs.Stages.{MayServe, IsQuiet, MayPass, PassesNone}
use Rattle.board.specs.RunQueue.{QueueState, IsMember, IsTold}
use Rattle.board.specs.RunQueues.{QueuesState, AreTold}

-- the run queues are told whether it has a job now
abbrev pub LearnOfJobs : {J O : Type 0} → ℕ → Pipeline J O → Bool → QueuesState → QueuesState → Type 0
LearnOfJobs pipe place was run_queues after =
    (is : Bool) × MatchBool is (MayServe place.stage) (IsQuiet place.stage) × AreTold pipe place was is run_queues after

-- the chains' run queue is told whether a request of it may be passed on now
abbrev pub LearnsOfRequests : {J O : Type 0} → ℕ → Pipeline J O → QueueState → QueueState → Type 0
LearnsOfRequests pipe place queue after =
    (is : Bool) × MatchBool is (MayPass place.stage) (PassesNone place.stage) × IsTold (IsMember queue pipe) pipe false is queue after
