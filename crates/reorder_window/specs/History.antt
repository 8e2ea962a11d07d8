use Rattle.std.specs.Prelude.{◌≡◌, ℕ, suc, ◌+◌, ◌<◌, ◌==◌, Bool, true, false, if◌then◌else◌, List, [], ◌∷◌, ◌++◌, length, map, slice_get, Some}
use Rattle.reorder_window.specs.declared.running.Running.{Running}
use Rattle.reorder_window.specs.Windows.{Kind, WindowOf, taken_of, IsMasked}

-- What happens to a window. No program keeps it: a history is what the contracts speak of.
pub data Event (R : Type 0) : Type 0 where
  Submitted : (number : ℕ) (request : R) → Event R
  Taken : (number worker : ℕ) → Event R
  Finished : (number worker : ℕ) → Event R
  Polled : (number : ℕ) (request : R) → Event R
  Masked : (mask : ℕ) → Event R
  Held : (held : Bool) → Event R

-- A history has its last event first; the lists that follow are in the order of time.

-- the requests
abbrev pub submissions : {R : Type 0} → List (Event R) → List R
submissions [] = []
submissions (Submitted n r ∷ h) = submissions h ++ r ∷ []
submissions (_ ∷ h) = submissions h

-- the numbers that were taken, each with its worker
abbrev pub takings : {R : Type 0} → List (Event R) → List (ℕ × ℕ)
takings [] = []
takings (Taken n w ∷ h) = takings h ++ (n, w) ∷ []
takings (_ ∷ h) = takings h

-- what was handed out
abbrev pub polls : {R : Type 0} → List (Event R) → List (ℕ × R)
polls [] = []
polls (Polled n r ∷ h) = polls h ++ (n, r) ∷ []
polls (_ ∷ h) = polls h

-- which workers may take
abbrev pub mask_after : {R : Type 0} → ℕ → List (Event R) → ℕ
mask_after first [] = first
mask_after first (Masked m ∷ h) = m
mask_after first (_ ∷ h) = mask_after first h

-- whether none may take
abbrev pub held_after : {R : Type 0} → List (Event R) → Bool
held_after [] = false
held_after (Held b ∷ h) = b
held_after (_ ∷ h) = held_after h

pub data Phase : Type 0 where
  Waits : Phase
  Runs : (worker : ℕ) → Phase
  IsDone : Phase

-- how far a number is
abbrev pub phase : {R : Type 0} → ℕ → List (Event R) → Phase
phase n [] = Waits
phase n (Taken m w ∷ h) = if m == n then Runs w else phase n h
phase n (Finished m w ∷ h) = if m == n then IsDone else phase n h
phase n (_ ∷ h) = phase n h

-- whether an event is right after a history, for a window of this kind and at first this mask
abbrev pub Follows : {R : Type 0} → Kind → ℕ → List (Event R) → Event R → Type 0
Follows kind first h (Submitted n r) = (n ≡ length (submissions h)) × (n < length (polls h) + kind.room)
Follows kind first h (Taken n w) =
    (n ≡ length (takings h)) × (n < length (submissions h)) × IsMasked (mask_after first h) w
    × (held_after h ≡ false) × (kind.serial ≡ true → (m : ℕ) → suc m ≡ n → phase m h ≡ IsDone)
Follows kind first h (Finished n w) = phase n h ≡ Runs w
Follows kind first h (Polled n r) = (n ≡ length (polls h)) × (slice_get (submissions h) n ≡ Some r) × (phase n h ≡ IsDone)
Follows kind first h (Masked m) = Unit {0}
Follows kind first h (Held b) = Unit {0}

abbrev pub Legal : {R : Type 0} → Kind → ℕ → List (Event R) → Type 0
Legal kind first [] = Unit {0}
Legal kind first (e ∷ h) = Follows kind first h e × Legal kind first h

abbrev pub numbered : {R : Type 0} → ℕ → List R → List (ℕ × R)
numbered n [] = []
numbered n (r ∷ rs) = (n, r) ∷ numbered (suc n) rs

abbrev pub request_of : {R : Type 0} → Running R → R
request_of x = x.request

abbrev pub phase_of : {R : Type 0} → Running R → Phase
phase_of x = if x.is_done then IsDone else Runs x.worker

-- The window stands where this legal history leads, from its birth with the mask `first` on.
pub record StandsFrom {R : Type 0} (first : ℕ) (f : WindowOf R) (h : List (Event R)) : Type 0 where
  pub legal : Legal f.kind first h
  pub mask : f.mask ≡ mask_after first h
  pub held : f.held ≡ held_after h
  pub polled : f.polled ≡ length (polls h)
  pub taken : taken_of f ≡ length (takings h)
  pub asked : submissions h ≡ map (λ p. p.1) (polls h) ++ (map request_of f.running ++ f.waiting)
  pub phases : (i : ℕ) (x : Running R) → slice_get f.running i ≡ Some x → phase (f.polled + i) h ≡ phase_of x

abbrev pub Stands : {R : Type 0} → WindowOf R → List (Event R) → Type 0
Stands f h = (first : ℕ) × StandsFrom first f h

-- whichever history a window stood for before a call, after it it stands for that history and one event more
abbrev pub Adds : {R : Type 0} → WindowOf R → WindowOf R → Event R → Type 0
Adds {R} f g e = (first : ℕ) (h : List (Event R)) → StandsFrom first f h → StandsFrom first g (e ∷ h)
