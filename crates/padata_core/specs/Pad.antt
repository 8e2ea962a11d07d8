use Rattle.std.specs.Prelude.{◌≡◌, ℕ, zero, suc, ◌+◌, ◌<◌, ◌≤◌, ◌%◌, ◌==◌, if◌then◌else◌, List, [], ◌∷◌, ◌++◌, drop, length, slice_index_or, Option, Some, None}
use Rattle.kc_base.specs.declared.callback_list.Callback.{Callback}
use Rattle.kc_base.specs.declared.callback_list.Callback.TheVariants.{Done}
use Rattle.padata_core.specs.Rows.{Slot, found}

-- Jobs are numbered from 0 as they are submitted. The numbers below `collected` were handed out. After them come
-- the numbers that were taken, each with its outcome, or none while its job runs. After these come the numbers that
-- nobody has taken, each with its job. `lists` is the number of reorder lists.
pub record Pad (J F : Type 0) : Type 0 where
  pub lists : ℕ
  pub collected : ℕ
  pub outcomes : List (Option F)
  pub waiting : List J
  pub spare : ℕ

-- how many numbers were taken; these are the numbers below it
abbrev pub taken_of : {J F : Type 0} → Pad J F → ℕ
taken_of pad = pad.collected + length pad.outcomes

-- how many were submitted
abbrev pub submitted_of : {J F : Type 0} → Pad J F → ℕ
submitted_of pad = taken_of pad + length pad.waiting

-- the outcomes up to the first number whose job still runs
abbrev pub ready : {F : Type 0} → List (Option F) → List F
ready [] = []
ready (None ∷ outcomes) = []
ready (Some outcome ∷ outcomes) = outcome ∷ ready outcomes

-- the first job that waits is taken, and these wait
abbrev pub with_taken : {J F : Type 0} → Pad J F → List J → Pad J F
with_taken pad rest = record pad { outcomes = pad.outcomes ++ None ∷ []; waiting = rest }

-- what is ready leaves the pad
abbrev pub emptied : {J F : Type 0} → Pad J F → Pad J F
emptied pad =
    record pad { collected = pad.collected + length (ready pad.outcomes); outcomes = drop (length (ready pad.outcomes)) pad.outcomes }

-- the completions of the numbers from n on
abbrev pub done_from : {F : Type 0} → ℕ → List F → List (Callback F)
done_from n [] = []
done_from n (outcome ∷ outcomes) = Done n outcome ∷ done_from (n + 1) outcomes

-- how many of these jobs run
abbrev pub running_of : {F : Type 0} → List (Option F) → ℕ
running_of [] = 0
running_of (None ∷ outcomes) = suc (running_of outcomes)
running_of (Some outcome ∷ outcomes) = running_of outcomes

-- of these outcomes, of the numbers from n on, those whose number has the rest k, with their numbers
abbrev pub with_rest : {F : Type 0} → ℕ → ℕ → ℕ → List (Option F) → List (ℕ × F)
with_rest lists k n [] = []
with_rest lists k n (None ∷ outcomes) = with_rest lists k (n + 1) outcomes
with_rest lists k n (Some outcome ∷ outcomes) =
    if n % lists == k then (n, outcome) ∷ with_rest lists k (n + 1) outcomes else with_rest lists k (n + 1) outcomes

-- what list k holds: in rising order the numbers n that are finished and not collected, of which n mod lists is k
abbrev pub on_list : {J F : Type 0} → Pad J F → ℕ → List (ℕ × F)
on_list pad k = with_rest pad.lists k pad.collected pad.outcomes

-- What follows serves the pad's own representation.

-- the outcome that the lists hold under a number
abbrev pub kept_at : {F : Type 0} → List (Slot F) → ℕ → ℕ → Option F
kept_at rows lists n = found n (slice_index_or rows (n % lists) (record { entries = []; room = 0 })).entries

-- of so many numbers from n on
abbrev pub outcomes_from : {F : Type 0} → (ℕ → Option F) → ℕ → ℕ → List (Option F)
outcomes_from at n zero = []
outcomes_from at n (suc many) = at n ∷ outcomes_from at (suc n) many

-- a list holds numbers with this rest, in rising order, from `low` on and below `to`
abbrev pub IsRow : {F : Type 0} → ℕ → ℕ → ℕ → ℕ → List (ℕ × F) → Type 0
IsRow lists k low to [] = Unit {0}
IsRow lists k low to (e ∷ es) = (low ≤ e.0) × (e.0 < to) × (e.0 % lists ≡ k) × IsRow lists k (e.0 + 1) to es

-- the lists hold numbers from `low` on and below `to`, and have room for so many each
pub record AreRows {F : Type 0} (rows : List (Slot F)) (lists low to room : ℕ) : Type 0 where
  pub some : 1 ≤ lists
  pub count : length rows ≡ lists
  pub each : (k : ℕ) (d : Slot F) → k < lists → IsRow lists k low to (slice_index_or rows k d).entries
  pub rooms : (k : ℕ) (d : Slot F) → k < lists → room ≤ (slice_index_or rows k d).room

-- lists with more room hold what they held
pub record HaveMore {F : Type 0} (old new : List (Slot F)) : Type 0 where
  pub count : length new ≡ length old
  pub same : (k : ℕ) (d : Slot F) → (slice_index_or new k d).entries ≡ (slice_index_or old k d).entries
  pub kept : (k : ℕ) (d : Slot F) → (slice_index_or old k d).room ≤ (slice_index_or new k d).room
