use Rattle.std.specs.Prelude.{◌≡◌, ◌⊎◌, ℕ, ◌+◌, ◌-◌, ◌^◌, ◌<◌, ◌≤◌, Bool, true, false, List, [], ◌∷◌, ◌++◌, length, slice_get, slice_set, Some}
use Rattle.std.specs.Int.{bit_at}
use Rattle.reorder_window.specs.declared.running.Running.{Running}
use Rattle.reorder_window.specs.declared.window.Refusal.{Refusal}
use Rattle.reorder_window.specs.declared.window.Refusal.TheVariants.{Full, NoSpace, Ended}

-- What a window is for: at most `room` requests are in flight, and `max` wait before its backlog begins. In a serial one
-- one request runs at a time.
pub record Kind : Type 0 where
  pub room : ℕ
  pub max : ℕ
  pub serial : Bool

-- Requests are numbered from 0 as they are submitted. Those below `polled` were handed out. After them come those that
-- were taken, each with its worker and whether it is finished, and after these those that nobody took. `mask` has a bit
-- for each worker that may take. While the window is held none may.
pub record WindowOf (R : Type 0) : Type 0 where
  pub kind : Kind
  pub polled : ℕ
  pub running : List (Running R)
  pub waiting : List R
  pub mask : ℕ
  pub held : Bool

abbrev pub born : {R : Type 0} → Kind → ℕ → WindowOf R
born kind mask = record { kind = kind; polled = 0; running = []; waiting = []; mask = mask; held = false }

abbrev pub kind_of : ℕ → ℕ → Bool → Kind
kind_of room max serial = record { room = room; max = max; serial = serial }

abbrev pub in_flight_of : {R : Type 0} → WindowOf R → ℕ
in_flight_of f = length f.running + length f.waiting

-- how many were taken; these are the numbers below it
abbrev pub taken_of : {R : Type 0} → WindowOf R → ℕ
taken_of f = f.polled + length f.running

-- how many were submitted
abbrev pub submitted_of : {R : Type 0} → WindowOf R → ℕ
submitted_of f = f.polled + in_flight_of f

abbrev pub with_submitted : {R : Type 0} → WindowOf R → R → WindowOf R
with_submitted f r = record f { waiting = f.waiting ++ r ∷ [] }

abbrev pub run_by : {R : Type 0} → R → ℕ → Bool → Running R
run_by r worker done = record { request = r; worker = worker; is_done = done }

abbrev pub with_taken : {R : Type 0} → WindowOf R → ℕ → R → List R → WindowOf R
with_taken f worker r rest = record f { running = f.running ++ run_by r worker false ∷ []; waiting = rest }

-- how many wait before the backlog begins, or more
abbrev pub HasBacklog : {R : Type 0} → WindowOf R → Type 0
HasBacklog f = f.kind.max ≤ length f.waiting

-- as many are in flight as there is room for; the request would wait in the backlog, and may not; or 2^64 - 1 were
-- submitted
abbrev pub Refuses : {R : Type 0} → WindowOf R → Bool → Refusal → Type 0
Refuses f backlog Full = f.kind.room ≤ in_flight_of f
Refuses f backlog NoSpace = (backlog ≡ false) × HasBacklog f
Refuses f backlog Ended = submitted_of f + 1 ≡ 2 ^ 64

-- whether it is taken in, and where it waits
abbrev pub Accepts : {R : Type 0} → WindowOf R → Bool → Type 0
Accepts f backlog = (in_flight_of f < f.kind.room) × (backlog ≡ false → length f.waiting < f.kind.max)

abbrev pub IsMasked : ℕ → ℕ → Type 0
IsMasked mask worker = (worker < 64) × (bit_at mask worker ≡ 1)

-- what was taken last is finished
abbrev pub IsLastDone : {R : Type 0} → List (Running R) → Type 0
IsLastDone {R} running = (x : Running R) → slice_get running (length running - 1) ≡ Some x → x.is_done ≡ true

abbrev pub MayTake : {R : Type 0} → WindowOf R → ℕ → Type 0
MayTake f worker = IsMasked f.mask worker × (f.held ≡ false) × (f.kind.serial ≡ true → IsLastDone f.running)

abbrev pub NoneFor : {R : Type 0} → WindowOf R → ℕ → Type 0
NoneFor f worker = (MayTake f worker → ⊥) ⊎ (f.waiting ≡ [])

-- this number is that of this request, which this worker took, and it isn't finished
abbrev pub IsRunBy : {R : Type 0} → WindowOf R → ℕ → ℕ → R → Type 0
IsRunBy f number worker r =
    (f.polled ≤ number) × (slice_get f.running (number - f.polled) ≡ Some (run_by r worker false))

abbrev pub with_finished : {R : Type 0} → WindowOf R → ℕ → ℕ → R → WindowOf R
with_finished f number worker r = record f { running = slice_set f.running (number - f.polled) (run_by r worker true) }

abbrev pub first_is_done : {R : Type 0} → List (Running R) → Bool
first_is_done [] = false
first_is_done (x ∷ xs) = x.is_done

-- the first request leaves
abbrev pub HandsOut : {R : Type 0} → WindowOf R → WindowOf R → R → Type 0
HandsOut f g r =
    ((worker : ℕ) × (f.running ≡ run_by r worker true ∷ g.running)) × (g ≡ record f { polled = f.polled + 1; running = g.running })
