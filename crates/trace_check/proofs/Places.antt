-- Lists that change in one place.
use Rattle.std.proofs.Common.{◌≡◌, ℕ, zero, suc, ◌+◌, ◌-◌, ◌^◌, ◌<◌, ◌≤◌, Bool, true, false, cond, List, [], ◌∷◌, ◌++◌, length, drop, Some, refl, ap, arith}
use Rattle.std.specs.Prelude.{slice_get, slice_set}
use Rattle.trace_check.specs.declared.pipe.Progress.{Progress}
use Rattle.trace_check.specs.declared.pipe.Progress.TheVariants.{Waits, Runs, Ended}
use Rattle.std.proofs.lemmas.List.{length-set, length-drop}
use Rattle.trace_check.specs.Pipes.{PipeState, CanCount, has_ended, ended_run, with_ended}

pub get-set_same : {X : Type 0} (xs : List X) (i : ℕ) (y x : X) → slice_get xs i ≡ Some x → slice_get (slice_set xs i y) i ≡ Some y
get-set_same [] i y x h = cc
get-set_same (z ∷ xs) zero y x h = refl
get-set_same (z ∷ xs) (suc i) y x h = get-set_same xs i y x h

pub get-set_other : {X : Type 0} (xs : List X) (i j : ℕ) (y : X) → (j ≡ i → ⊥) → slice_get (slice_set xs i y) j ≡ slice_get xs j
get-set_other [] i j y h = refl
get-set_other (z ∷ xs) zero zero y h = absurd (h refl)
get-set_other (z ∷ xs) zero (suc j) y h = refl
get-set_other (z ∷ xs) (suc i) zero y h = refl
get-set_other (z ∷ xs) (suc i) (suc j) y h = get-set_other xs i j y (λ e. h (ap suc e))

pub get-push_same : {X : Type 0} (xs : List X) (y : X) → slice_get (xs ++ y ∷ []) (length xs) ≡ Some y
get-push_same [] y = refl
get-push_same (z ∷ xs) y = get-push_same xs y

pub get-push_other : {X : Type 0} (xs : List X) (y : X) (j : ℕ) → (j ≡ length xs → ⊥) → slice_get (xs ++ y ∷ []) j ≡ slice_get xs j
get-push_other [] y zero h = absurd (h refl)
get-push_other [] y (suc j) h = refl
get-push_other (z ∷ xs) y zero h = refl
get-push_other (z ∷ xs) y (suc j) h = get-push_other xs y j (λ e. h (ap suc e))

-- a request more leaves those that are finished without a gap
cond_same : (b : Bool) (x y : ℕ) → x ≡ y → cond b (suc x) 0 ≡ cond b (suc y) 0
cond_same b x y e = ap (λ n. cond b (suc n) 0) e

pub run-push : (ps : List Progress) → ended_run (ps ++ Waits ∷ []) ≡ ended_run ps
run-push [] = refl
run-push (p ∷ ps) = cond_same (has_ended p) _ _ (run-push ps)

-- and so does one that is taken
pub run-taken : (ps : List Progress) (n caller : ℕ) → slice_get ps n ≡ Some Waits → ended_run (slice_set ps n (Runs caller)) ≡ ended_run ps
run-taken [] n caller h = refl
run-taken (p ∷ ps) zero caller h = let e : p ≡ Waits = cc in rw e refl
run-taken (p ∷ ps) (suc n) caller h = cond_same (has_ended p) _ _ (run-taken ps n caller h)

-- nothing is finished right behind them
run_stops_at : (b : Bool) (p : Progress) (ps : List Progress) → has_ended p ≡ b → ended_run (drop (ended_run ps) ps) ≡ 0 → ended_run (drop (cond b (suc (ended_run ps)) 0) (p ∷ ps)) ≡ 0
run_stops_at true p ps e h = h
run_stops_at false p ps e h = rw e refl

pub run_stops : (ps : List Progress) → ended_run (drop (ended_run ps) ps) ≡ 0
run_stops [] = refl
run_stops (p ∷ ps) = run_stops_at (has_ended p) p ps refl (run_stops ps)

-- where one more is finished, they go on from where they stopped
run_more_first : (b : Bool) (p : Progress) (ps : List Progress) → has_ended p ≡ b → suc (ended_run ps) ≡ cond b (suc (ended_run ps)) 0 + ended_run (drop (cond b (suc (ended_run ps)) 0) (Ended ∷ ps))
run_more_first true p ps e = let h : ended_run (drop (ended_run ps) ps) ≡ 0 = run_stops ps in omega arith
run_more_first false p ps e = omega arith

run_more_at : (b : Bool) (p : Progress) (qs : List Progress) (run new : ℕ) → has_ended p ≡ b → new ≡ run + ended_run (drop run qs) → cond b (suc new) 0 ≡ cond b (suc run) 0 + ended_run (drop (cond b (suc run) 0) (p ∷ qs))
run_more_at true p qs run new e h = omega arith
run_more_at false p qs run new e h = rw e refl

pub run-ended : (ps : List Progress) (n : ℕ) → ended_run (slice_set ps n Ended) ≡ ended_run ps + ended_run (drop (ended_run ps) (slice_set ps n Ended))
run-ended [] n = refl
run-ended (p ∷ ps) zero = run_more_first (has_ended p) p ps refl
run-ended (p ∷ ps) (suc n) = run_more_at (has_ended p) p (slice_set ps n Ended) (ended_run ps) (ended_run (slice_set ps n Ended)) refl (run-ended ps n)

pub run_within : (ps : List Progress) → ended_run ps ≤ length ps
run_within [] = omega arith
run_within (p ∷ ps) = run_within_at (has_ended p) (ended_run ps) (length ps) (run_within ps)
  where
    run_within_at : (b : Bool) (run len : ℕ) → run ≤ len → cond b (suc run) 0 ≤ suc len
    run_within_at true run len h = omega arith
    run_within_at false run len h = omega arith

-- what the front passes where a request is finished is told within 64 bits
pub told_fits : (s : PipeState) (number told front : ℕ) → CanCount s → told ≡ s.told → front ≡ (with_ended s number).front → told + (front - s.front) < 2 ^ 64
told_fits s number told front k t f =
    let rs = slice_set s.requests number Ended in
    let w = run_within (drop s.front rs) in
    let d = length-drop s.front rs in
    let l = length-set s.requests number Ended in
    let b = k.told in
    omega arith
