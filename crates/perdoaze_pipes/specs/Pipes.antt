-- What each call on a pipe comes to. Numbers and addresses are all that a pipe has.
use Rattle.std.specs.Prelude.{◌≡◌, ◌≢◌, ◌≤◌, ◌<◌, ◌⊎◌, ◌+◌, ◌-◌, ◌^◌, ◌==◌, if◌then◌else◌, min, ⊤, ℕ, Bool, true, false, List, ◌++◌, length, map, take, drop, Result, Ok, Err}
use Rattle.std.specs.List.{All}
use Rattle.reorder_window.specs.Windows.{WindowOf, kind_of, born, submitted_of, taken_of, in_flight_of, Refuses, NoneFor, IsRunBy, first_is_done}
use Rattle.reorder_window.specs.History.{Masked, Held, request_of, Adds}
use Rattle.reorder_window.specs.Batches.{AddsEach, submitted_each, taken_each, finished_each, polled_each, with_taken_each, with_finished_each}
use Rattle.reorder_window.specs.declared.window.Refusal.{Refusal}
use Rattle.reorder_window.specs.declared.window.Refusal.TheVariants as refusal
use Rattle.perdoaze_pipes.specs.declared.pipe.Pipe.{Pipe}
use Rattle.perdoaze_pipes.specs.declared.pipe.PipeKind.{PipeKind}
use Rattle.perdoaze_pipes.specs.declared.pipe.PipeKind.TheVariants.{Pcrypt, Cryptd, CryptdPcrypt}
use Rattle.perdoaze_pipes.specs.declared.pipe_error.PipeErr.{PipeErr}
use Rattle.perdoaze_pipes.specs.declared.pipe_error.PipeErr.TheVariants.{Again, NoSpace, Overflow, NoMemory, Invalid}

-- ---- how a pipe begins

-- 1, pcrypt, reads no bound; 2, cryptd, reads no workers; 3, cryptd(pcrypt(..)), reads both
abbrev pub IsTaken : ℕ → ℕ → ℕ → ℕ → Type 0
IsTaken kind room max workers =
    (1 ≤ kind) × (kind ≤ 3) × (1 ≤ room) × ((kind ≡ 1) ⊎ (1 ≤ max)) × ((kind ≡ 2) ⊎ ((1 ≤ workers) × (workers ≤ 64)))

abbrev pub window_of : ℕ → ℕ → Bool → ℕ → WindowOf ℕ
window_of room max serial mask = born (kind_of room max serial) mask

-- a pipe to which nothing was submitted
abbrev pub born_pipe : ℕ → ℕ → ℕ → ℕ → Pipe
born_pipe kind room max workers =
    if kind == 1 then record { kind = Pcrypt (2 ^ workers - 1); window = window_of room room false (2 ^ workers - 1) }
    else (if kind == 2 then record { kind = Cryptd; window = window_of room max true (2 ^ 64 - 1) }
    else record { kind = CryptdPcrypt; window = window_of room max false (2 ^ workers - 1) })

abbrev pub Begins : ℕ → ℕ → ℕ → ℕ → Result Pipe PipeErr → Type 0
Begins kind room max workers (Ok p) = IsTaken kind room max workers × (p ≡ born_pipe kind room max workers)
Begins kind room max workers (Err Invalid) = IsTaken kind room max workers → ⊥
Begins kind room max workers (Err NoMemory) = ⊤
Begins kind room max workers (Err _) = ⊥

-- ---- how it takes requests in, and hands them out

-- pcrypt, with no worker in its mask
abbrev pub IsClosed : PipeKind → ℕ → Type 0
IsClosed (Pcrypt full) mask = mask ≡ 0
IsClosed _ mask = ⊥

-- the window's number for what a request is refused for
abbrev pub refused_for : Refusal → PipeErr
refused_for refusal.Full = Again
refused_for refusal.NoSpace = NoSpace
refused_for refusal.Ended = Overflow

-- the first n of these are taken in, under the numbers from `first` on; or none, and nothing happens
abbrev pub Submits : Pipe → Pipe → List ℕ → Bool → ℕ → ℕ → Result ℕ PipeErr → Type 0
Submits p q addresses backlog first started (Ok n) =
    (q.kind ≡ p.kind) × (first ≡ submitted_of p.window) × (started ≡ min (2 ^ 64 - 1) (taken_of p.window + p.window.kind.max))
    × (q.window ≡ record p.window { waiting = p.window.waiting ++ take n addresses })
    × (n ≤ length addresses) × (n ≡ 0 → length addresses ≡ 0)
    × (n < length addresses → (why : Refusal) × Refuses q.window backlog why)
    × AddsEach p.window q.window (submitted_each first (take n addresses))
Submits p q addresses backlog first started (Err e) =
    (q ≡ p) × (first ≡ submitted_of p.window) × (started ≡ min (2 ^ 64 - 1) (taken_of p.window + p.window.kind.max))
    × (((e ≡ Invalid) × IsClosed p.kind p.window.mask) ⊎ ((why : Refusal) × (e ≡ refused_for why) × Refuses p.window backlog why))

-- the worker takes n, under the numbers from `first` on
abbrev pub Takes : Pipe → Pipe → ℕ → List ℕ → List ℕ → ℕ → ℕ → Type 0
Takes p q worker old new first n =
    (q.kind ≡ p.kind) × (first ≡ taken_of p.window) × (n ≤ length new) × (drop n new ≡ drop n old)
    × (p.window.waiting ≡ take n new ++ q.window.waiting)
    × (q.window ≡ with_taken_each p.window worker (take n new) q.window.waiting)
    × (n < length new → NoneFor q.window worker)
    × AddsEach p.window q.window (taken_each first worker n)

abbrev pub TakesSome : Pipe → Pipe → ℕ → List ℕ → List ℕ → ℕ → Result ℕ PipeErr → Type 0
TakesSome p q worker old new first (Ok n) = Takes p q worker old new first n
TakesSome p q worker old new first (Err e) = ⊥

-- n of the numbers from `first` on are finished, and the next isn't one that the worker runs
abbrev pub Finishes : Pipe → Pipe → ℕ → ℕ → ℕ → Result ℕ PipeErr → Type 0
Finishes p q worker first count (Ok n) =
    (q.kind ≡ p.kind) × (n ≤ count) × (n ≡ 0 → count ≡ 0) × (q.window ≡ with_finished_each p.window first n)
    × (n < count → (r : ℕ) → IsRunBy q.window (first + n) worker r → ⊥)
    × AddsEach p.window q.window (finished_each first worker n)
Finishes p q worker first count (Err e) =
    (e ≡ Invalid) × (q ≡ p) × (0 < count) × ((r : ℕ) → IsRunBy p.window first worker r → ⊥)

-- n are handed out, under the numbers from `first` on
abbrev pub Polls : Pipe → Pipe → List ℕ → List ℕ → ℕ → ℕ → Type 0
Polls p q old new first n =
    (q.kind ≡ p.kind) × (first ≡ p.window.polled) × (n ≤ length new) × (drop n new ≡ drop n old)
    × (map request_of (take n p.window.running) ≡ take n new) × All (λ x. x.is_done ≡ true) (take n p.window.running)
    × (q.window ≡ record p.window { polled = p.window.polled + n; running = drop n p.window.running })
    × (n < length new → first_is_done q.window.running ≡ false)
    × AddsEach p.window q.window (polled_each first (take n new))

abbrev pub PollsSome : Pipe → Pipe → List ℕ → List ℕ → ℕ → Result ℕ PipeErr → Type 0
PollsSome p q old new first (Ok n) = Polls p q old new first n
PollsSome p q old new first (Err e) = ⊥

-- ---- how its workers are named, held and let go

abbrev pub HasQueue : PipeKind → Type 0
HasQueue (Pcrypt full) = ⊥
HasQueue _ = ⊤

abbrev pub Holds : Pipe → Pipe → Bool → Result Unit PipeErr → Type 0
Holds p q held (Ok u) =
    HasQueue p.kind × (q.kind ≡ p.kind) × (q.window ≡ record p.window { held = held }) × Adds p.window q.window (Held held)
Holds p q held (Err e) = (e ≡ Invalid) × (HasQueue p.kind → ⊥) × (q ≡ p)

-- it is pcrypt, and no bit stands above those of its workers
abbrev pub MayMask : PipeKind → ℕ → Type 0
MayMask (Pcrypt full) bits = bits ≤ full
MayMask _ bits = ⊥

abbrev pub Masks : Pipe → Pipe → ℕ → Result Unit PipeErr → Type 0
Masks p q bits (Ok u) =
    MayMask p.kind bits × (q.kind ≡ p.kind) × (q.window ≡ record p.window { mask = bits }) × Adds p.window q.window (Masked bits)
Masks p q bits (Err e) = (e ≡ Invalid) × (MayMask p.kind bits → ⊥) × (q ≡ p)
