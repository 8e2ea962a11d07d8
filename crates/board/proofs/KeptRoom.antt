-- The room that is kept for more requests is no matter.
use Rattle.std.proofs.Common.{◌≡◌, ℕ, Bool, true, false, ◌||◌, List, [], refl, sym, ◌∙◌, ap, subst, inl, inr, ◌⊎◌}
use Rattle.std.specs.Prelude.{◌&&◌, ◌==◌}
use Rattle.padata_core.specs.Pad.{Pad, ready}
use Rattle.cryptd.specs.Server.{Server, bare}
use Rattle.board.specs.declared.entry.Entered.{Entered}
use Rattle.board.specs.declared.entry.Entered.TheVariants.{InProgress, Busy, NoSpace}
use Rattle.board.specs.declared.entry.BoardEntry.{BoardEntry}
use Rattle.board.specs.declared.pipeline.Pipeline.{Pipeline}
use Rattle.board.specs.declared.stage.Stage.{Stage}
use Rattle.board.specs.declared.stage.Stage.TheVariants as stage
use Rattle.board.specs.Stages.{is_pad, has_queue, is_queue, IsPlaced, IsJoined, bare_pad, without_room, accepted_of, answer_of, with_waiting, after_entered, with_job, MayServe, MayPass}
use Rattle.board.specs.Pipelines.{IsSame, NotesCaller, work_each}
use Rattle.board.specs.Shapes.{width_born}
use Rattle.board.specs.Entries.{birth, has, submitters, IsMaker}
use Rattle.board.specs.Kept.{IsKeptServer, IsKeptPad, IsKeptStage, IsKeptPipe, shape_of, work_owed, owes}
use Rattle.board.proofs.KeptMarks.{made_same}
use Rattle.board.proofs.KeptLists.{lists_like, lists_same}

-- what doesn't see the room is the same of two stages that differ in it alone
pub same_by : {J O X : Type 0} (f : Stage J O → X) (a b : Stage J O) → ((s : Stage J O) → f (without_room s) ≡ f s) → without_room a ≡ without_room b → f a ≡ f b
same_by f a b h e = sym (h a) ∙ (ap f e ∙ h b)

is_pad_bare : {J O : Type 0} (s : Stage J O) → is_pad (without_room s) ≡ is_pad s
is_pad_bare (stage.Pad x) = refl
is_pad_bare (stage.Queue x) = refl
is_pad_bare (stage.Chain x) = refl

pub is_pad_same : {J O : Type 0} (a b : Stage J O) → without_room a ≡ without_room b → is_pad a ≡ is_pad b
is_pad_same a b e = same_by is_pad a b is_pad_bare e

queue_bare : {J O : Type 0} (s : Stage J O) → is_queue (without_room s) ≡ is_queue s
queue_bare (stage.Pad x) = refl
queue_bare (stage.Queue x) = refl
queue_bare (stage.Chain x) = refl

pub queue_same : {J O : Type 0} (a b : Stage J O) → without_room a ≡ without_room b → is_queue a ≡ is_queue b
queue_same a b e = same_by is_queue a b queue_bare e

server_bare : {J O : Type 0} (s : Stage J O) → has_queue (without_room s) ≡ has_queue s
server_bare (stage.Pad x) = refl
server_bare (stage.Queue x) = refl
server_bare (stage.Chain x) = refl

pub server_same : {J O : Type 0} (a b : Stage J O) → without_room a ≡ without_room b → has_queue a ≡ has_queue b
server_same a b e = same_by has_queue a b server_bare e

accepted_bare : {J O : Type 0} (s : Stage J O) → accepted_of (without_room s) ≡ accepted_of s
accepted_bare (stage.Pad x) = refl
accepted_bare (stage.Queue x) = refl
accepted_bare (stage.Chain x) = refl

pub accepted_same : {J O : Type 0} (a b : Stage J O) → without_room a ≡ without_room b → accepted_of a ≡ accepted_of b
accepted_same a b e = same_by accepted_of a b accepted_bare e

answer_bare : {J O : Type 0} (backlog : Bool) (s : Stage J O) → answer_of (without_room s) backlog ≡ answer_of s backlog
answer_bare backlog (stage.Pad x) = refl
answer_bare backlog (stage.Queue x) = refl
answer_bare backlog (stage.Chain x) = refl

pub answer_same : {J O : Type 0} (a b : Stage J O) (backlog : Bool) → without_room a ≡ without_room b → answer_of a backlog ≡ answer_of b backlog
answer_same a b backlog e = same_by (λ s. answer_of s backlog) a b (answer_bare backlog) e

each_bare : {J O : Type 0} (s : Stage J O) → work_each (without_room s) ≡ work_each s
each_bare (stage.Pad x) = refl
each_bare (stage.Queue x) = refl
each_bare (stage.Chain x) = refl

pub each_same : {J O : Type 0} (a b : Stage J O) → without_room a ≡ without_room b → work_each a ≡ work_each b
each_same a b e = same_by work_each a b each_bare e

owed_bare : {J O : Type 0} (s : Stage J O) → work_owed (without_room s) ≡ work_owed s
owed_bare (stage.Pad x) = refl
owed_bare (stage.Queue x) = refl
owed_bare (stage.Chain x) = refl

pub owed_same : {J O : Type 0} (a b : Stage J O) → without_room a ≡ without_room b → work_owed a ≡ work_owed b
owed_same a b e = same_by work_owed a b owed_bare e

shape_bare : {J O : Type 0} (w : ℕ) (s : Stage J O) → shape_of (without_room s) w ≡ shape_of s w
shape_bare w (stage.Pad x) = refl
shape_bare w (stage.Queue x) = refl
shape_bare w (stage.Chain x) = refl

pub shape_same : {J O : Type 0} (a b : Stage J O) → without_room a ≡ without_room b → (w : ℕ) → shape_of a w ≡ shape_of b w
shape_same a b e w = same_by (λ s. shape_of s w) a b (shape_bare w) e

job_bare : {J O : Type 0} (s : Stage J O) (job : J) → without_room (with_job s job) ≡ with_job (without_room s) job
job_bare (stage.Pad x) job = refl
job_bare (stage.Queue x) job = refl
job_bare (stage.Chain x) job = refl

-- a job taken in after room was made
pub job_same : {J O : Type 0} (a b : Stage J O) (job : J) → without_room a ≡ without_room b → without_room (with_job a job) ≡ without_room (with_job b job)
job_same a b job e = job_bare a job ∙ (ap (λ s. with_job s job) e ∙ sym (job_bare b job))

waiting_bare : {J O : Type 0} (server : Server J O) (job : J) (answer : Entered) → bare (with_waiting server job answer) ≡ with_waiting (bare server) job answer
waiting_bare server job (InProgress n) = refl
waiting_bare server job (Busy n) = refl
waiting_bare server job NoSpace = refl

after_bare : {J O : Type 0} (s : Stage J O) (job : J) (answer : Entered) → without_room (after_entered s job answer) ≡ after_entered (without_room s) job answer
after_bare (stage.Pad x) job answer = refl
after_bare (stage.Queue x) job answer = ap (λ server. stage.Queue server) (waiting_bare x job answer)
after_bare (stage.Chain x) job answer = ap (λ server. stage.Chain (record { server = server; pad = bare_pad x.pad })) (waiting_bare x.server job answer)

pub after_same : {J O : Type 0} (a b : Stage J O) (job : J) (answer : Entered) → without_room a ≡ without_room b → without_room (after_entered a job answer) ≡ without_room (after_entered b job answer)
after_same a b job answer e = after_bare a job answer ∙ (ap (λ s. after_entered s job answer) e ∙ sym (after_bare b job answer))

-- ---- whether there is work

serve_to : {J O : Type 0} (s : Stage J O) → MayServe s → MayServe (without_room s)
serve_to (stage.Pad x) m = m
serve_to (stage.Queue x) m = m
serve_to (stage.Chain x) m = m

serve_from : {J O : Type 0} (s : Stage J O) → MayServe (without_room s) → MayServe s
serve_from (stage.Pad x) m = m
serve_from (stage.Queue x) m = m
serve_from (stage.Chain x) m = m

pub serve_same : {J O : Type 0} (a b : Stage J O) → without_room a ≡ without_room b → MayServe a → MayServe b
serve_same a b e m = serve_from b (subst (λ s. MayServe s) e (serve_to a m))

pass_to : {J O : Type 0} (s : Stage J O) → MayPass s → MayPass (without_room s)
pass_to (stage.Pad x) m = m
pass_to (stage.Queue x) m = m
pass_to (stage.Chain x) m = m

pass_from : {J O : Type 0} (s : Stage J O) → MayPass (without_room s) → MayPass s
pass_from (stage.Pad x) m = m
pass_from (stage.Queue x) m = m
pass_from (stage.Chain x) m = m

pub pass_same : {J O : Type 0} (a b : Stage J O) → without_room a ≡ without_room b → MayPass a → MayPass b
pass_same a b e m = pass_from b (subst (λ s. MayPass s) e (pass_to a m))

-- ---- what is kept

-- a queue is kept by its requests, its hold and its callbacks alone
server_room : {J O A : Type 0} (asked : J → A) (meaning : A → O) (x : Server J O) (place : ℕ) (es : List (BoardEntry A)) (n m : ℕ) → IsKeptServer asked meaning x place es → IsKeptServer asked meaning (record x { spare = n; queue = record x.queue { spare = m } }) place es
server_room asked meaning x place es n m k = record { bound = k.bound; holding = k.holding; submitted = k.submitted; served = k.served; waiting = k.waiting; telling = k.telling; pending = k.pending }

server_back : {J O A : Type 0} (asked : J → A) (meaning : A → O) (x : Server J O) (place : ℕ) (es : List (BoardEntry A)) (n m : ℕ) → IsKeptServer asked meaning (record x { spare = n; queue = record x.queue { spare = m } }) place es → IsKeptServer asked meaning x place es
server_back asked meaning x place es n m k = record { bound = k.bound; holding = k.holding; submitted = k.submitted; served = k.served; waiting = k.waiting; telling = k.telling; pending = k.pending }

-- a pad by its jobs and its outcomes
pub pad_like : {J O A : Type 0} (asked : J → A) (meaning : A → O) (x : Pad J O) (es : List (BoardEntry A)) (lists spare : ℕ) → IsKeptPad asked meaning x es → IsKeptPad asked meaning (record x { lists = lists; spare = spare }) es
pad_like asked meaning x es lists spare k = record { submitted = k.submitted; waiting = k.waiting; taken = k.taken; untaken = k.untaken; outcomes = k.outcomes; passed = k.passed; running = k.running }

pad_back : {J O A : Type 0} (asked : J → A) (meaning : A → O) (x : Pad J O) (es : List (BoardEntry A)) (n : ℕ) → IsKeptPad asked meaning (record x { spare = n }) es → IsKeptPad asked meaning x es
pad_back asked meaning x es n k = record { submitted = k.submitted; waiting = k.waiting; taken = k.taken; untaken = k.untaken; outcomes = k.outcomes; passed = k.passed; running = k.running }

-- all of it but that each request in a chain's queue has its place
abbrev pub IsKeptCore : {J O A : Type 0} → (J → A) → (A → O) → Stage J O → ℕ → List (BoardEntry A) → Type 0
IsKeptCore asked meaning (stage.Pad pad) place es = IsKeptStage asked meaning (stage.Pad pad) place es
IsKeptCore asked meaning (stage.Queue server) place es = IsKeptStage asked meaning (stage.Queue server) place es
IsKeptCore asked meaning (stage.Chain c) place es =
    IsKeptServer asked meaning c.server place es × IsKeptPad asked meaning c.pad es × IsJoined c.server c.pad × (ready c.pad.outcomes ≡ []) × (c.server.busy ≡ false)

core_of : {J O A : Type 0} (asked : J → A) (meaning : A → O) (s : Stage J O) (place : ℕ) (es : List (BoardEntry A)) → IsKeptStage asked meaning s place es → IsKeptCore asked meaning s place es
core_of asked meaning (stage.Pad x) place es k = k
core_of asked meaning (stage.Queue x) place es k = k
core_of asked meaning (stage.Chain x) place es k = (k.0, k.1, k.2, k.4, k.5)

placed_core : {J O A : Type 0} (asked : J → A) (meaning : A → O) (s : Stage J O) (place : ℕ) (es : List (BoardEntry A)) → IsKeptCore asked meaning s place es → IsPlaced s → IsKeptStage asked meaning s place es
placed_core asked meaning (stage.Pad x) place es k l = k
placed_core asked meaning (stage.Queue x) place es k l = k
placed_core asked meaning (stage.Chain x) place es k l = (k.0, k.1, k.2, l, k.3, k.4)

core_to : {J O A : Type 0} (asked : J → A) (meaning : A → O) (s : Stage J O) (place : ℕ) (es : List (BoardEntry A)) → IsKeptCore asked meaning s place es → IsKeptCore asked meaning (without_room s) place es
core_to asked meaning (stage.Pad x) place es k = (pad_like asked meaning x es x.lists 0 k.0, k.1)
core_to asked meaning (stage.Queue x) place es k = (server_room asked meaning x place es 0 0 k.0, k.1, k.2)
core_to asked meaning (stage.Chain x) place es k = (server_room asked meaning x.server place es 0 0 k.0, pad_like asked meaning x.pad es x.pad.lists 0 k.1, k.2, k.3, k.4)

core_from : {J O A : Type 0} (asked : J → A) (meaning : A → O) (s : Stage J O) (place : ℕ) (es : List (BoardEntry A)) → IsKeptCore asked meaning (without_room s) place es → IsKeptCore asked meaning s place es
core_from asked meaning (stage.Pad x) place es k = (pad_back asked meaning x es 0 k.0, k.1)
core_from asked meaning (stage.Queue x) place es k = (server_back asked meaning x place es 0 0 k.0, k.1, k.2)
core_from asked meaning (stage.Chain x) place es k = (server_back asked meaning x.server place es 0 0 k.0, pad_back asked meaning x.pad es 0 k.1, k.2, k.3, k.4)

pub core_same : {J O A : Type 0} (asked : J → A) (meaning : A → O) (a b : Stage J O) (place : ℕ) (es : List (BoardEntry A)) → without_room a ≡ without_room b → IsPlaced a → IsKeptCore asked meaning b place es → IsKeptStage asked meaning a place es
core_same asked meaning a b place es e l k =
    placed_core asked meaning a place es (core_from asked meaning a place es (subst (λ s. IsKeptCore asked meaning s place es) (sym e) (core_to asked meaning b place es k))) l

pub stage_same : {J O A : Type 0} (asked : J → A) (meaning : A → O) (a b : Stage J O) (place : ℕ) (es : List (BoardEntry A)) → without_room a ≡ without_room b → IsPlaced a → IsKeptStage asked meaning b place es → IsKeptStage asked meaning a place es
stage_same asked meaning a b place es e l k = core_same asked meaning a b place es e l (core_of asked meaning b place es k)

pub placed_kept : {J O A : Type 0} (asked : J → A) (meaning : A → O) (s : Stage J O) (place : ℕ) (es : List (BoardEntry A)) → IsKeptStage asked meaning s place es → IsPlaced s
placed_kept asked meaning (stage.Pad x) place es k = tt
placed_kept asked meaning (stage.Queue x) place es k = tt
placed_kept asked meaning (stage.Chain x) place es k = k.3

pub placed_pad : {J O : Type 0} (s : Stage J O) → is_pad s ≡ true → IsPlaced s
placed_pad (stage.Pad x) h = tt
placed_pad (stage.Queue x) h = tt
placed_pad (stage.Chain x) h = cc

-- who is noted after room was made
pub notes_same : {J O : Type 0} (old room new : Pipeline J O) (caller : ℕ) (accepted : Bool) → IsSame old room → NotesCaller room new caller accepted → NotesCaller old new caller accepted
notes_same old room new caller accepted s n = record {
  maker = n.maker ∙ s.maker;
  shared = n.shared ∙ s.shared;
  mask = n.mask ∙ s.mask;
  collected = n.collected ∙ s.collected;
  submitters = λ q c h. n.submitters (queue_same room.stage old.stage s.stage ∙ q) c (λ m. h (m ∙ s.maker)) ∙ ap (λ xs. has c xs || (accepted && caller == c)) s.submitters;
}

has_items : {xs ys : List ℕ} (caller : ℕ) → xs ≡ ys → has caller xs ≡ has caller ys
has_items caller e = ap (has caller) e

room_cases : {J O A : Type 0} (old new : Pipeline J O) (es : List (BoardEntry A)) (caller : ℕ) → IsSame old new → IsMaker es caller ⊎ (has caller old.submitters.items ≡ has caller (submitters es)) → IsMaker es caller ⊎ (has caller new.submitters.items ≡ has caller (submitters es))
room_cases old new es caller s (inl m) = inl m
room_cases old new es caller s (inr e) = inr (has_items caller s.submitters ∙ e)

-- a pipeline with more room is kept
pub pipe_same : {J O A : Type 0} (asked : J → A) (meaning : A → O) (old new : Pipeline J O) (es : List (BoardEntry A)) → IsSame old new → (IsPlaced old.stage → IsPlaced new.stage) → IsKeptPipe asked meaning old es → IsKeptPipe asked meaning new es
pipe_same asked meaning old new es s placed k = record {
  born = k.born ∙ made_same s.maker (shape_same new.stage old.stage s.stage (width_born (birth es)));
  closing = k.closing;
  sharing = k.sharing ∙ sym s.shared;
  masking = k.masking ∙ sym s.mask;
  submitting = λ q caller. room_cases old new es caller s (k.submitting (sym (queue_same new.stage old.stage s.stage) ∙ q) caller);
  place = k.place ∙ sym s.collected;
  stage = subst (λ n. IsKeptStage asked meaning new.stage n es) (sym s.collected) (stage_same asked meaning new.stage old.stage old.collected es s.stage (placed (placed_kept asked meaning old.stage old.collected es k.stage)) k.stage);
  lists = lists_like old new s.mask (lists_same new.stage old.stage s.stage) (shape_same new.stage old.stage s.stage) k.lists;
}

pub owes_same : {J O : Type 0} (old new : Pipeline J O) → IsSame old new → owes new ≡ owes old
owes_same old new s = rw (owed_same new.stage old.stage s.stage) refl
