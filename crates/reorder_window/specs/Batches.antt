use Rattle.std.specs.Prelude.{ℕ, zero, suc, ◌+◌, ◌-◌, true, false, List, [], ◌∷◌, ◌++◌, map}
use Rattle.reorder_window.specs.declared.running.Running.{Running}
use Rattle.reorder_window.specs.Windows.{WindowOf, run_by}
use Rattle.reorder_window.specs.History.{Event, Submitted, Taken, Finished, Polled, StandsFrom}

-- The events of a call on several requests, the last one first.

-- these requests, under the numbers from n on
abbrev pub submitted_each : {R : Type 0} → ℕ → List R → List (Event R)
submitted_each n [] = []
submitted_each n (r ∷ rs) = submitted_each (suc n) rs ++ Submitted n r ∷ []

abbrev pub polled_each : {R : Type 0} → ℕ → List R → List (Event R)
polled_each n [] = []
polled_each n (r ∷ rs) = polled_each (suc n) rs ++ Polled n r ∷ []

-- so many numbers from n on
abbrev pub taken_each : {R : Type 0} → ℕ → ℕ → ℕ → List (Event R)
taken_each n worker zero = []
taken_each n worker (suc count) = Taken (n + count) worker ∷ taken_each n worker count

abbrev pub finished_each : {R : Type 0} → ℕ → ℕ → ℕ → List (Event R)
finished_each n worker zero = []
finished_each n worker (suc count) = Finished (n + count) worker ∷ finished_each n worker count

-- whichever history a window stood for before a call, after it it stands for that history and these events more
abbrev pub AddsEach : {R : Type 0} → WindowOf R → WindowOf R → List (Event R) → Type 0
AddsEach {R} f g es = (first : ℕ) (h : List (Event R)) → StandsFrom first f h → StandsFrom first g (es ++ h)

-- the worker took these, and the rest waits
abbrev pub with_taken_each : {R : Type 0} → WindowOf R → ℕ → List R → List R → WindowOf R
with_taken_each f worker rs rest =
    record f { running = f.running ++ map (λ r. run_by r worker false) rs; waiting = rest }

-- the request at place i is done
abbrev pub done_at : {R : Type 0} → List (Running R) → ℕ → List (Running R)
done_at [] i = []
done_at (x ∷ xs) zero = run_by x.request x.worker true ∷ xs
done_at (x ∷ xs) (suc i) = x ∷ done_at xs i

-- so many are done, from place i on
abbrev pub done_from : {R : Type 0} → List (Running R) → ℕ → ℕ → List (Running R)
done_from xs i zero = xs
done_from xs i (suc count) = done_at (done_from xs i count) (i + count)

abbrev pub with_finished_each : {R : Type 0} → WindowOf R → ℕ → ℕ → WindowOf R
with_finished_each f n count = record f { running = done_from f.running (n - f.polled) count }
