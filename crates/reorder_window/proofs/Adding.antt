-- What each call does to a history for which the window stands.
use Rattle.std.proofs.Common.{◌≡◌, ℕ, zero, suc, ◌+◌, ◌-◌, ◌<◌, ◌≤◌, true, false, cond, ◌⊎◌, inl, inr, List, [], ◌∷◌, ◌++◌, length, Some, refl, sym, ◌∙◌, ap, subst, arith, add-zero, get_or, append_assoc, length-append, length-set}
use Rattle.std.specs.Prelude.{map, slice_get, slice_set}
use Rattle.std.proofs.lemmas.Option.{same_Some, slice_get_read, slice_get_cases}
use Rattle.std.proofs.lemmas.List.{length-map, map-append}
use Rattle.reorder_window.specs.declared.running.Running.{Running}
use Rattle.reorder_window.specs.Windows.{WindowOf, taken_of, submitted_of, IsMasked, IsLastDone, MayTake, run_by, with_taken, IsRunBy, with_finished, HandsOut}
use Rattle.reorder_window.proofs.Tests.{at_test, off_test}
use Rattle.reorder_window.proofs.InOrder.{waits_for_each}
use Rattle.reorder_window.specs.History.{Event, Taken, Finished, Polled, submissions, polls, Runs, IsDone, phase, request_of, phase_of, StandsFrom, Adds}

pub push_get : {X : Type 0} (xs : List X) (i : ℕ) (y x : X) → slice_get (xs ++ y ∷ []) i ≡ Some x → ((i < length xs) × (slice_get xs i ≡ Some x)) ⊎ ((i ≡ length xs) × (y ≡ x))
push_get [] zero y x e = inr (refl, same_Some y x e)
push_get [] (suc i) y x e = cc
push_get (z ∷ zs) zero y x e = inl (omega arith, e)
push_get (z ∷ zs) (suc i) y x e = elim (push_get zs i y x e) [ inl p ↦ (let q = p.0 in inl (omega arith, p.1)) | inr p ↦ inr (ap suc p.0, p.1) ]

pub set_get : {X : Type 0} (xs : List X) (i j : ℕ) (y x : X) → slice_get (slice_set xs i y) j ≡ Some x → ((i ≡ j) × (y ≡ x)) ⊎ ((i ≡ j → ⊥) × (slice_get xs j ≡ Some x))
set_get [] i j y x e = cc
set_get (z ∷ zs) zero zero y x e = inl (refl, same_Some y x e)
set_get (z ∷ zs) zero (suc j) y x e = inr (λ q. cc, e)
set_get (z ∷ zs) (suc i) zero y x e = inr (λ q. cc, e)
set_get (z ∷ zs) (suc i) (suc j) y x e =
    elim (set_get zs i j y x e) [ inl p ↦ inl (ap suc p.0, p.1) | inr p ↦ inr (λ q. p.0 (omega arith), p.1) ]

pub map_set : {R : Type 0} (xs : List (Running R)) (i : ℕ) (x y : Running R) → slice_get xs i ≡ Some x → x.request ≡ y.request → map request_of (slice_set xs i y) ≡ map request_of xs
map_set [] i x y e s = cc
map_set {R} (z ∷ zs) zero x y e s = (let q : z ≡ x = same_Some z x e in ap (λ (r : R). r ∷ map request_of zs) (sym s ∙ ap request_of (sym q)))
map_set (z ∷ zs) (suc i) x y e s = ap (λ rs. z.request ∷ rs) (map_set zs i x y e s)

pub get_seam : {X : Type 0} (xs : List X) (y : X) (ys : List X) → slice_get (xs ++ y ∷ ys) (length xs) ≡ Some y
get_seam [] y ys = refl
get_seam (x ∷ xs) y ys = get_seam xs y ys

pub asked_length : {R : Type 0} (first : ℕ) (f : WindowOf R) (h : List (Event R)) → StandsFrom first f h → length (submissions h) ≡ submitted_of f
asked_length first f h s =
    let e = simp (length-append, length-map) at (ap length s.asked) in
    let g = s.polled in
    omega arith

-- what was taken last is finished, or handed out
last_done : {R : Type 0} (first : ℕ) (f : WindowOf R) (h : List (Event R)) (m : ℕ) → StandsFrom first f h → IsLastDone f.running → suc m ≡ taken_of f → phase m h ≡ IsDone
last_done {R} first f h m s d e =
    let g = s.polled in
    elim (slice_get_cases f.running (length f.running - 1)).1 [
      | inl p ↦ (let l = p.1 in let k : f.polled + (length f.running - 1) ≡ m = omega arith in
          subst (λ j. phase j h ≡ IsDone) k (s.phases (length f.running - 1) p.0 p.2 ∙ ap (λ b. cond b IsDone (Runs p.0.worker)) (d p.0 p.2)))
      | inr p ↦ (let l = p.0 in waits_for_each f.kind first h m s.legal (omega arith))
    ]

pub take_adds : {R : Type 0} (f : WindowOf R) (w : ℕ) (r : R) (rest : List R) → MayTake f w → f.waiting ≡ r ∷ rest → Adds f (with_taken f w r rest) (Taken (taken_of f) w)
take_adds {R} f w r rest m e first h s =
    let n = asked_length first f h s in
    let k : length f.waiting ≡ suc (length rest) = ap length e in
    let t = s.taken in
    record {
      legal = ((s.taken, omega arith, subst (λ b. IsMasked b w) s.mask m.0, sym s.held ∙ m.1, λ one j q. last_done first f h j s (m.2 one) q), s.legal);
      mask = s.mask;
      held = s.held;
      polled = s.polled;
      taken = simp length-append (omega arith);
      asked = s.asked ∙ rw e (simp (map-append, append_assoc));
      phases = λ i x g. elim (push_get f.running i (run_by r w false) x g) [
        | inl p ↦ (let l = p.0 in off_test (taken_of f) (f.polled + i) (Runs w) (phase (f.polled + i) h) (λ q. omega arith) ∙ s.phases i x p.1)
        | inr p ↦ at_test (taken_of f) (f.polled + i) (Runs w) (phase (f.polled + i) h) (ap (λ j. f.polled + j) (sym p.0)) ∙ ap phase_of p.1
      ];
    }

pub finish_adds : {R : Type 0} (f : WindowOf R) (n w : ℕ) (r : R) → f.polled ≤ n → slice_get f.running (n - f.polled) ≡ Some (run_by r w false) → Adds f (record f { running = slice_set f.running (n - f.polled) (run_by r w true) }) (Finished n w)
finish_adds {R} f n w r l e first h s =
    let at : f.polled + (n - f.polled) ≡ n = omega arith in
    let t = s.taken in
    record {
      legal = (subst (λ m. phase m h ≡ Runs w) at (s.phases (n - f.polled) (run_by r w false) e), s.legal);
      mask = s.mask;
      held = s.held;
      polled = s.polled;
      taken = simp length-set s.taken;
      asked = s.asked ∙ ap (λ rs. map (λ p. p.1) (polls h) ++ (rs ++ f.waiting)) (sym (map_set f.running (n - f.polled) (run_by r w false) (run_by r w true) e refl));
      phases = λ i x g. elim (set_get f.running (n - f.polled) i (run_by r w true) x g) [
        | inl p ↦ (let q = p.0 in at_test n (f.polled + i) IsDone (phase (f.polled + i) h) (omega arith) ∙ ap phase_of p.1)
        | inr p ↦ off_test n (f.polled + i) IsDone (phase (f.polled + i) h) (λ q. p.0 (omega arith)) ∙ s.phases i x p.1
      ];
    }

pub poll_adds : {R : Type 0} (f : WindowOf R) (w : ℕ) (r : R) (rest : List (Running R)) → f.running ≡ run_by r w true ∷ rest → Adds f (record f { polled = f.polled + 1; running = rest }) (Polled f.polled r)
poll_adds {R} f w r rest e first h s =
    let k : length f.running ≡ suc (length rest) = ap length e in
    let t = s.taken in
    let d = s.polled in
    let a : submissions h ≡ map (λ p. p.1) (polls h) ++ (r ∷ (map request_of rest ++ f.waiting)) = s.asked ∙ ap (λ xs. map (λ p. p.1) (polls h) ++ (map request_of xs ++ f.waiting)) e in
    let n : length (map (λ (p : ℕ × R). p.1) (polls h)) ≡ f.polled = length-map (polls h) (λ p. p.1) ∙ sym d in
    record {
      legal = (
        (
          s.polled,
          ap (λ rs. slice_get rs f.polled) a ∙ subst (λ j. slice_get (map (λ p. p.1) (polls h) ++ (r ∷ (map request_of rest ++ f.waiting))) j ≡ Some r) n (get_seam (map (λ p. p.1) (polls h)) r (map request_of rest ++ f.waiting)),
          subst (λ j. phase j h ≡ IsDone) (add-zero f.polled) (s.phases 0 (run_by r w true) (ap (λ xs. slice_get xs 0) e)),
        ),
        s.legal,
      );
      mask = s.mask;
      held = s.held;
      polled = simp length-append (omega arith);
      taken = omega arith;
      asked = a ∙ simp (map-append, append_assoc);
      phases = λ i x g. (let j : f.polled + suc i ≡ f.polled + 1 + i = omega arith in subst (λ m. phase m h ≡ phase_of x) j (s.phases (suc i) x (ap (λ xs. slice_get xs (suc i)) e ∙ g)));
    }

-- the same, of what the calls' other clauses say

pub take_came : {R : Type 0} (f g : WindowOf R) (n w : ℕ) (r : R) → MayTake f w × (n ≡ taken_of f) × (f.waiting ≡ r ∷ g.waiting) × (g ≡ with_taken f w r g.waiting) → Adds f g (Taken n w)
take_came f g n w r c first h s =
    subst (λ k. StandsFrom first g (Taken k w ∷ h)) (sym c.1) (subst (λ k. StandsFrom first k (Taken (taken_of f) w ∷ h)) (sym c.3) (take_adds f w r g.waiting c.0 c.2 first h s))

pub finish_came : {R : Type 0} (f g : WindowOf R) (n w : ℕ) → (r : R) × IsRunBy f n w r × (g ≡ with_finished f n w r) → Adds f g (Finished n w)
finish_came f g n w c first h s =
    subst (λ k. StandsFrom first k (Finished n w ∷ h)) (sym c.2) (finish_adds f n w c.0 c.1.0 c.1.1 first h s)

pub poll_came : {R : Type 0} (f g : WindowOf R) (n : ℕ) (r : R) → (n ≡ f.polled) × HandsOut f g r → Adds f g (Polled n r)
poll_came f g n r c first h s =
    subst (λ k. StandsFrom first g (Polled k r ∷ h)) (sym c.0) (subst (λ k. StandsFrom first k (Polled f.polled r ∷ h)) (sym c.1.1) (poll_adds f c.1.0.0 r g.running c.1.0.1 first h s))

-- what `finish` finds
pub found_run : {R : Type 0} (xs : List (Running R)) (n i w : ℕ) (x : Running R) → n ≡ length xs → i < n → x ≡ get_or xs i x → x.is_done ≡ false → x.worker ≡ w → slice_get xs i ≡ Some (run_by x.request w false)
found_run xs n i w x e l g d k =
    slice_get_read xs n i x e l g ∙ (ap (λ b. Some (run_by x.request x.worker b)) d ∙ ap (λ m. Some (run_by x.request m false)) k)
