-- What a call comes to on the place of C.
use Rattle.std.specs.Prelude.{◌≡◌, ◌≢◌, ◌+◌, ◌-◌, ◌^◌, min, ⊤, ℕ, Bool, true, false, List, Option, Some, None, Result, Ok, Err}
use Rattle.reorder_window.specs.Windows.{in_flight_of, taken_of}
use Rattle.reorder_window.specs.History.{Event, Stands, submissions, polls, numbered}
use Rattle.perdoaze_pipes.specs.declared.pipe.Pipe.{Pipe}
use Rattle.perdoaze_pipes.specs.declared.pipe_error.PipeErr.{PipeErr}
use Rattle.perdoaze_pipes.specs.declared.pipe_error.PipeErr.TheVariants.{NoMemory, Invalid}
use Rattle.perdoaze_pipes.specs.Pipes.{IsTaken, born_pipe}

-- where there is no pipe the call is invalid, and all else is as it was
abbrev pub OnPipe : {A : Type 0} → Option Pipe → Option Pipe → Result A PipeErr → Type 0 → (Pipe → Pipe → Result A PipeErr → Type 0) → Type 0
OnPipe None q came same comes = (came ≡ Err Invalid) × (q ≡ None) × same
OnPipe (Some p) None came same comes = ⊥
OnPipe (Some p) (Some q) came same comes = comes p q came

-- the place has a new pipe; or none, where a number isn't taken, or memory is wanting
abbrev pub BeginsIn : Option Pipe → ℕ → ℕ → ℕ → ℕ → Result Unit PipeErr → Type 0
BeginsIn (Some p) kind room max workers (Ok u) = IsTaken kind room max workers × (p ≡ born_pipe kind room max workers)
BeginsIn None kind room max workers (Err Invalid) = IsTaken kind room max workers → ⊥
BeginsIn None kind room max workers (Err NoMemory) = ⊤
BeginsIn _ kind room max workers _ = ⊥

-- none is in flight: then all that was submitted was handed out, whatever the history was
abbrev pub IsDrained : Pipe → Type 0
IsDrained p = (in_flight_of p.window ≡ 0) × ((h : List (Event ℕ)) → Stands p.window h → polls h ≡ numbered 0 (submissions h))

abbrev pub Drains : Pipe → Pipe → Result Bool PipeErr → Type 0
Drains p q (Ok true) = (q ≡ p) × IsDrained p
Drains p q (Ok false) = (q ≡ p) × (in_flight_of p.window ≢ 0)
Drains p q (Err e) = ⊥

-- what is numbered below waits in no backlog
abbrev pub Starts : Pipe → Pipe → ℕ → Result Unit PipeErr → Type 0
Starts p q number (Ok u) = (q ≡ p) × (number ≡ min (2 ^ 64 - 1) (taken_of p.window + p.window.kind.max))
Starts p q number (Err e) = ⊥
