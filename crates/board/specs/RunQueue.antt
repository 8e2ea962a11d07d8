-- The run queues of pipelines that may have a job to run, or a request to pass on.
use Rattle.std.specs.Prelude.{◌≡◌, ◌≢◌, ◌⊎◌, ℕ, ◌<◌, Bool, true, false, List, [], Option, Some, slice_get, MatchOption}
use Rattle.board.specs.declared.pipeline.Pipeline.{Pipeline}
use Rattle.board.specs.Entries.{has, IsMasked}
use Rattle.board.specs.Places.{Places}
use Rattle.board.specs.Stages.{is_queue, is_chain, MayServe, MayPass}

-- the pipelines that may stand in a run queue, its members: the first `ready` of them stand there
pub record QueueState : Type 0 where
  pub members : List ℕ
  pub ready : ℕ

abbrev pub IsMember : QueueState → ℕ → Type 0
IsMember queue p = (i : ℕ) × (slice_get queue.members i ≡ Some p)

abbrev pub IsQueued : QueueState → ℕ → Type 0
IsQueued queue p = (i : ℕ) × (i < queue.ready) × (slice_get queue.members i ≡ Some p)

abbrev pub no_pipelines : QueueState
no_pipelines = record { members = []; ready = 0 }

-- ---- who stands in which run queue

-- a job of the pipeline may be taken, by somebody
abbrev pub HasJob : {J O : Type 0} → Pipeline J O → Type 0
HasJob pipe = MayServe pipe.stage

-- a request of it may be passed on
abbrev pub HasRequest : {J O : Type 0} → Pipeline J O → Type 0
HasRequest pipe = MayPass pipe.stage

-- everybody serves a queue; off a pad take who made the pipeline, who submitted to it, and the workers in its mask
abbrev pub Admits : {J O : Type 0} → Pipeline J O → ℕ → Type 0
Admits pipe caller =
    (is_queue pipe.stage ≡ true) ⊎ ((pipe.maker ≡ caller) ⊎ ((has caller pipe.submitters.items ≡ true) ⊎ IsMasked pipe.mask caller))

-- a job of the pipeline may be taken by this caller
abbrev pub HasJobFor : {J O : Type 0} → ℕ → Pipeline J O → Type 0
HasJobFor caller pipe = HasJob pipe × Admits pipe caller

-- the pipeline is a queue, or none
abbrev pub IsQueue : {J O : Type 0} → Pipeline J O → Type 0
IsQueue pipe = is_queue pipe.stage ≡ true

abbrev pub IsNoQueue : {J O : Type 0} → Pipeline J O → Type 0
IsNoQueue pipe = is_queue pipe.stage ≡ false

abbrev pub IsChain : {J O : Type 0} → Pipeline J O → Type 0
IsChain pipe = is_chain pipe.stage ≡ true

-- it is no queue, and this caller may take its jobs
abbrev pub IsFor : {J O : Type 0} → ℕ → Pipeline J O → Type 0
IsFor caller pipe = IsNoQueue pipe × Admits pipe caller

-- of the open pipelines each of such a kind is a member, and each of that kind that is ready is queued
pub record IsReadyFor {J O : Type 0} (such ready : Pipeline J O → Type 0) (pipes : Places (Pipeline J O)) (queue : QueueState) : Type 0 where
  pub members : (p : ℕ) (x : Pipeline J O) → pipes p ≡ Some x → such x → IsMember queue p
  pub queued : (p : ℕ) (x : Pipeline J O) → pipes p ≡ Some x → ready x → such x → IsQueued queue p

-- none of the pipelines is of such a kind
abbrev pub NoneIs : {P : Type 0} → (P → Type 0) → Places P → Type 0
NoneIs {P} such pipes = (p : ℕ) (x : P) → pipes p ≡ Some x → such x → ⊥

-- ---- how a run queue changes

-- where the pipeline was a member, or was queued, it still does
abbrev pub KeepsPipe : QueueState → QueueState → ℕ → Type 0
KeepsPipe queue after p = (IsMember queue p → IsMember after p) × (IsQueued queue p → IsQueued after p)

abbrev pub Keeps : QueueState → QueueState → Type 0
Keeps queue after = (p : ℕ) → KeepsPipe queue after p

abbrev pub KeepsOthers : ℕ → QueueState → QueueState → Type 0
KeepsOthers pipe queue after = (p : ℕ) → p ≢ pipe → KeepsPipe queue after p

-- The run queue is told whether the pipeline is ready now, and was before: where it is, and is a member, it is queued.
-- It is told at least in such a case, and otherwise keeps the pipeline as it was, or is told too.
pub record IsTold (such : Type 0) (pipe : ℕ) (was is : Bool) (queue after : QueueState) : Type 0 where
  pub others : KeepsOthers pipe queue after
  pub member : IsMember queue pipe → IsMember after pipe
  pub stays : is ≡ true → IsQueued queue pipe → IsQueued after pipe
  pub queued : such → is ≡ true → (was ≡ true → IsQueued queue pipe) → IsMember queue pipe → IsQueued after pipe

-- only pipelines that are not of such a kind left the run queue
abbrev pub KeepsSuch : {P : Type 0} → (P → Type 0) → Places P → QueueState → QueueState → Type 0
KeepsSuch {P} such pipes queue after =
    (p : ℕ) → (IsMember queue p → IsMember after p) × ((x : P) → pipes p ≡ Some x → such x → IsQueued queue p → IsQueued after p)

-- what a search in a run queue finds: one of such a kind, or none stands there
abbrev pub NoneStands : {P : Type 0} → (P → Type 0) → Places P → QueueState → Type 0
NoneStands {P} such pipes queue = (p : ℕ) (x : P) → pipes p ≡ Some x → such x → IsQueued queue p → ⊥

abbrev pub IsOne : {P : Type 0} → (P → Type 0) → Places P → ℕ → Type 0
IsOne {P} such pipes k = (x : P) × (pipes k ≡ Some x) × such x

abbrev pub FindsIn : {P : Type 0} → (P → Type 0) → Places P → QueueState → Option ℕ → Type 0
FindsIn such pipes queue found = MatchOption found (NoneStands such pipes queue) (IsOne such pipes)

-- a search in two run queues
abbrev pub FindsInBoth : {P : Type 0} → (P → Type 0) → Places P → QueueState → QueueState → Option ℕ → Type 0
FindsInBoth such pipes queue second found = MatchOption found (NoneStands such pipes queue × NoneStands such pipes second) (IsOne such pipes)

-- a search among all pipelines
abbrev pub Finds : {P : Type 0} → (P → Type 0) → Places P → Option ℕ → Type 0
Finds such pipes found = MatchOption found (NoneIs such pipes) (IsOne such pipes)
