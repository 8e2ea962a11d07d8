-- What one more request adds to a batch.
use Rattle.std.proofs.Common.{◌≡◌, ℕ, zero, suc, inl, inr, ◌+◌, ◌-◌, ◌<◌, ◌≤◌, true, false, List, [], ◌∷◌, ◌++◌, length, take, drop, map, get_or, set, Some, refl, sym, ◌∙◌, ap, subst, arith, add-zero, append_assoc, length-append}
use Rattle.std.specs.Prelude.{slice_get, slice_set}
use Rattle.std.proofs.lemmas.Bool.{cases_lt}
use Rattle.std.proofs.lemmas.List.{take_more, take_more_set, drop-set-lt, length-take-le, length-map, map-append}
use Rattle.std.proofs.lemmas.Option.{same_Some, slice_get_within}
use Rattle.reorder_window.specs.declared.running.Running.{Running}
use Rattle.reorder_window.specs.Windows.{WindowOf, submitted_of, taken_of, with_submitted, with_taken, run_by, IsRunBy, with_finished}
use Rattle.reorder_window.specs.History.{Event, Submitted, Taken, Finished, Polled, StandsFrom, Adds}
use Rattle.reorder_window.specs.Batches.{AddsEach, submitted_each, polled_each, taken_each, finished_each, with_taken_each, done_at, done_from, with_finished_each}

adds_more : {R : Type 0} (f g k : WindowOf R) (e : Event R) (es fs : List (Event R)) → fs ≡ e ∷ es → AddsEach f g es → Adds g k e → AddsEach f k fs
adds_more f g k e es fs q each one first h s = subst (λ xs. StandsFrom first k (xs ++ h)) (sym q) (one first (es ++ h) (each first h s))

submitted_more : {R : Type 0} (n : ℕ) (rs : List R) (r : R) → submitted_each n (rs ++ r ∷ []) ≡ Submitted (n + length rs) r ∷ submitted_each n rs
submitted_more n [] r = ap (λ m. Submitted m r ∷ []) (sym (add-zero n))
submitted_more n (x ∷ xs) r =
    let q : suc n + length xs ≡ n + suc (length xs) = omega arith in
    ap (λ es. es ++ Submitted n x ∷ []) (submitted_more (suc n) xs r)
    ∙ ap (λ m. Submitted m r ∷ (submitted_each (suc n) xs ++ Submitted n x ∷ [])) q

polled_more : {R : Type 0} (n : ℕ) (rs : List R) (r : R) → polled_each n (rs ++ r ∷ []) ≡ Polled (n + length rs) r ∷ polled_each n rs
polled_more n [] r = ap (λ m. Polled m r ∷ []) (sym (add-zero n))
polled_more n (x ∷ xs) r =
    let q : suc n + length xs ≡ n + suc (length xs) = omega arith in
    ap (λ es. es ++ Polled n x ∷ []) (polled_more (suc n) xs r)
    ∙ ap (λ m. Polled m r ∷ (polled_each (suc n) xs ++ Polled n x ∷ [])) q

one_more : {X : Type 0} (xs : List X) (i : ℕ) (x : X) → i < length xs → x ≡ get_or xs i x → take (i + 1) xs ≡ take i xs ++ x ∷ []
one_more xs i x l e = take_more xs i x l ∙ ap (λ y. take i xs ++ y ∷ []) (sym e)

-- ---- requests that are taken in

pub submit_came : {R : Type 0} (f g k : WindowOf R) (rs : List R) (i : ℕ) (r : R) → i < length rs → r ≡ get_or rs i r
    → g ≡ record f { waiting = f.waiting ++ take i rs } → k ≡ with_submitted g r → k ≡ record f { waiting = f.waiting ++ take (i + 1) rs }
submit_came {R} f g k rs i r l e c d =
    d ∙ (ap (λ w. with_submitted w r) c
    ∙ ap (λ (ws : List R). record f { waiting = ws }) (append_assoc f.waiting (take i rs) (r ∷ []) ∙ ap (λ ws. f.waiting ++ ws) (sym (one_more rs i r l e))))

pub submit_stands : {R : Type 0} (f g k : WindowOf R) (rs : List R) (i n : ℕ) (r : R) → i < length rs → r ≡ get_or rs i r
    → g ≡ record f { waiting = f.waiting ++ take i rs } → n ≡ submitted_of g
    → AddsEach f g (submitted_each (submitted_of f) (take i rs)) → Adds g k (Submitted n r)
    → AddsEach f k (submitted_each (submitted_of f) (take (i + 1) rs))
submit_stands f g k rs i n r l e c d each one =
    let w : length (f.waiting ++ take i rs) ≡ length f.waiting + length (take i rs) = length-append f.waiting (take i rs) in
    let s : submitted_of g ≡ f.polled + (length f.running + length (f.waiting ++ take i rs)) = ap submitted_of c in
    let m : submitted_of f + length (take i rs) ≡ n = omega arith in
    adds_more f g k (Submitted n r) (submitted_each (submitted_of f) (take i rs)) (submitted_each (submitted_of f) (take (i + 1) rs))
    (ap (submitted_each (submitted_of f)) (one_more rs i r l e)
    ∙ (submitted_more (submitted_of f) (take i rs) r ∙ ap (λ b. Submitted b r ∷ submitted_each (submitted_of f) (take i rs)) m))
    each one

-- ---- a place that is written

drop_after : {X : Type 0} (xs : List X) (i : ℕ) → drop (i + 1) xs ≡ drop 1 (drop i xs)
drop_after xs zero = refl
drop_after [] (suc i) = (let p : suc i + 1 ≡ suc (i + 1) = omega arith in rw p refl)
drop_after (x ∷ xs) (suc i) = (let p : suc i + 1 ≡ suc (i + 1) = omega arith in rw p (drop_after xs i))

pub drop_more : {X : Type 0} (xs ys : List X) (i : ℕ) → drop i xs ≡ drop i ys → drop (i + 1) xs ≡ drop (i + 1) ys
drop_more xs ys i e = drop_after xs i ∙ (ap (drop 1) e ∙ sym (drop_after ys i))

pub rest_more : {X : Type 0} (xs ys : List X) (i : ℕ) (x : X) → drop i xs ≡ drop i ys → drop (i + 1) (set xs i x) ≡ drop (i + 1) ys
rest_more xs ys i x e = drop-set-lt (i + 1) xs i x (omega arith) ∙ drop_more xs ys i e

-- ---- requests that are taken

pub take_waiting : {R : Type 0} (was now new out : List R) (i : ℕ) (r : R) → i < length out → was ≡ take i out ++ now → now ≡ r ∷ new
    → was ≡ take (i + 1) (set out i r) ++ new
take_waiting was now new out i r l e d =
    e ∙ (ap (λ ws. take i out ++ ws) d ∙ (sym (append_assoc (take i out) (r ∷ []) new) ∙ ap (λ rs. rs ++ new) (sym (take_more_set out i r l))))

pub take_each_came : {R : Type 0} (f g k : WindowOf R) (w : ℕ) (out : List R) (i : ℕ) (r : R) → i < length out
    → g ≡ with_taken_each f w (take i out) g.waiting → k ≡ with_taken g w r k.waiting
    → k ≡ with_taken_each f w (take (i + 1) (set out i r)) k.waiting
take_each_came {R} f g k w out i r l c d =
    let m : map (λ (x : R). run_by x w false) (take (i + 1) (set out i r)) ≡ map (λ (x : R). run_by x w false) (take i out) ++ run_by r w false ∷ [] =
    ap (map (λ x. run_by x w false)) (take_more_set out i r l) ∙ map-append (λ x. run_by x w false) (take i out) (r ∷ []) in
    d ∙ (ap (λ (x : WindowOf R). with_taken x w r k.waiting) c
    ∙ ap (λ (xs : List (Running R)). record f { running = xs; waiting = k.waiting })
    (append_assoc f.running (map (λ x. run_by x w false) (take i out)) (run_by r w false ∷ []) ∙ ap (λ xs. f.running ++ xs) (sym m)))

pub take_each_stands : {R : Type 0} (f g k : WindowOf R) (w : ℕ) (out : List R) (i n : ℕ) → i < length out
    → g ≡ with_taken_each f w (take i out) g.waiting → n ≡ taken_of g
    → AddsEach f g (taken_each (taken_of f) w i) → Adds g k (Taken n w) → AddsEach f k (taken_each (taken_of f) w (i + 1))
take_each_stands {R} f g k w out i n l c d each one =
    let t : length (take i out) ≡ i = length-take-le i out (omega arith) in
    let m : length (map (λ (x : R). run_by x w false) (take i out)) ≡ length (take i out) = length-map (take i out) (λ x. run_by x w false) in
    let a = length-append f.running (map (λ (x : R). run_by x w false) (take i out)) in
    let s : taken_of g ≡ f.polled + length (f.running ++ map (λ (x : R). run_by x w false) (take i out)) = ap taken_of c in
    let q : taken_of f + i ≡ n = omega arith in
    let p : i + 1 ≡ suc i = omega arith in
    adds_more f g k (Taken n w) (taken_each (taken_of f) w i) (taken_each (taken_of f) w (i + 1))
    (ap (taken_each (taken_of f) w) p ∙ ap (λ b. Taken b w ∷ taken_each (taken_of f) w i) q) each one

-- ---- requests that are finished

pub length_done : {R : Type 0} (xs : List (Running R)) (i : ℕ) → length (done_at xs i) ≡ length xs
length_done [] i = refl
length_done (x ∷ xs) zero = refl
length_done (x ∷ xs) (suc i) = ap suc (length_done xs i)

pub length_done_from : {R : Type 0} (xs : List (Running R)) (i count : ℕ) → length (done_from xs i count) ≡ length xs
length_done_from xs i zero = refl
length_done_from xs i (suc count) = length_done (done_from xs i count) (i + count) ∙ length_done_from xs i count

set_done : {R : Type 0} (xs : List (Running R)) (i w : ℕ) (r : R) → slice_get xs i ≡ Some (run_by r w false) → slice_set xs i (run_by r w true) ≡ done_at xs i
set_done [] i w r e = refl
set_done {R} (x ∷ xs) zero w r e = ap (λ (y : Running R). run_by y.request y.worker true ∷ xs) (sym (same_Some x (run_by r w false) e))
set_done (x ∷ xs) (suc i) w r e = ap (λ ys. x ∷ ys) (set_done xs i w r e)

pub finish_each_came : {R : Type 0} (f g k : WindowOf R) (first n i w : ℕ) → n ≡ first + i → (0 < i → f.polled ≤ first)
    → g ≡ with_finished_each f first i → (r : R) × IsRunBy g n w r × (k ≡ with_finished g n w r)
    → (f.polled ≤ first) × (k ≡ with_finished_each f first (i + 1))
finish_each_came {R} f g k first n i w e above c d =
    let s : g.polled ≡ f.polled = ap (λ (x : WindowOf R). x.polled) c in
    let u : g.running ≡ done_from f.running (first - f.polled) i = ap (λ (x : WindowOf R). x.running) c in
    let from : f.polled ≤ first = elim (cases_lt 0 i) [ inl p ↦ above p | inr p ↦ (let a = d.1.0 in omega arith) ] in
    let at : n - g.polled ≡ first - f.polled + i = omega arith in
    let p : i + 1 ≡ suc i = omega arith in (
      from,
      d.2 ∙ (ap (λ (xs : List (Running R)). record g { running = xs }) (set_done g.running (n - g.polled) w d.0 d.1.1
          ∙ (ap (done_at g.running) at ∙ (ap (λ xs. done_at xs (first - f.polled + i)) u ∙ ap (done_from f.running (first - f.polled)) (sym p))))
          ∙ ap (λ (x : WindowOf R). record x { running = done_from f.running (first - f.polled) (i + 1) }) c),
    )

pub finish_each_stands : {R : Type 0} (f g k : WindowOf R) (first n i w : ℕ) → n ≡ first + i
    → AddsEach f g (finished_each first w i) → Adds g k (Finished n w) → AddsEach f k (finished_each first w (i + 1))
finish_each_stands f g k first n i w e each one =
    let p : i + 1 ≡ suc i = omega arith in
    adds_more f g k (Finished n w) (finished_each first w i) (finished_each first w (i + 1))
    (ap (finished_each first w) p ∙ ap (λ b. Finished b w ∷ finished_each first w i) (sym e)) each one

-- a number that isn't taken runs nowhere
pub runs_below : {R : Type 0} (f g : WindowOf R) (first i n w : ℕ) (r : R) → g ≡ with_finished_each f first i → taken_of f ≤ n → IsRunBy g n w r → ⊥
runs_below {R} f g first i n w r c above is =
    let s : g.polled ≡ f.polled = ap (λ (x : WindowOf R). x.polled) c in
    let u : length g.running ≡ length f.running = ap (λ (x : WindowOf R). length x.running) c ∙ length_done_from f.running (first - f.polled) i in
    let b = slice_get_within g.running (n - g.polled) (run_by r w false) is.1 in
    let a = is.0 in
    absurd (omega arith)

-- ---- requests that are handed out

pub drop_head : {X : Type 0} (xs ys : List X) (i : ℕ) (y : X) → drop i xs ≡ y ∷ ys
    → (i < length xs) × (take (i + 1) xs ≡ take i xs ++ y ∷ []) × (drop (i + 1) xs ≡ ys)
drop_head [] ys zero y e = cc
drop_head [] ys (suc i) y e = cc
drop_head {X} (x ∷ xs) ys zero y e = (let h : x ≡ y = cc in let t : xs ≡ ys = cc in (omega arith, ap (λ (z : X). z ∷ []) h, t))
drop_head (x ∷ xs) ys (suc i) y e =
    let h = drop_head xs ys i y e in
    let l = h.0 in
    let p : suc i + 1 ≡ suc (i + 1) = omega arith in
    (omega arith, rw p (ap (λ zs. x ∷ zs) h.1), rw p h.2)

pub poll_requests : {R : Type 0} (xs ys : List (Running R)) (out : List R) (i w : ℕ) (r : R) → i < length out
    → drop i xs ≡ run_by r w true ∷ ys → map (λ x. x.request) (take i xs) ≡ take i out
    → map (λ x. x.request) (take (i + 1) xs) ≡ take (i + 1) (set out i r)
poll_requests xs ys out i w r l e d =
    ap (map (λ x. x.request)) (drop_head xs ys i (run_by r w true) e).1
    ∙ (map-append (λ x. x.request) (take i xs) (run_by r w true ∷ []) ∙ (ap (λ rs. rs ++ r ∷ []) d ∙ sym (take_more_set out i r l)))

pub poll_each_came : {R : Type 0} (f g k : WindowOf R) (i : ℕ)
    → g ≡ record f { polled = f.polled + i; running = drop i f.running } → k ≡ record g { polled = g.polled + 1; running = k.running }
    → drop (i + 1) f.running ≡ k.running → k ≡ record f { polled = f.polled + (i + 1); running = drop (i + 1) f.running }
poll_each_came {R} f g k i c d e =
    let n : f.polled + i + 1 ≡ f.polled + (i + 1) = omega arith in
    d ∙ (ap (λ (x : WindowOf R). record x { polled = x.polled + 1; running = k.running }) c
    ∙ (ap (λ m. record f { polled = m; running = k.running }) n
    ∙ ap (λ (xs : List (Running R)). record f { polled = f.polled + (i + 1); running = xs }) (sym e)))

pub poll_stands : {R : Type 0} (f g k : WindowOf R) (out : List R) (i n : ℕ) (r : R) → i < length out
    → g.polled ≡ f.polled + i → n ≡ g.polled
    → AddsEach f g (polled_each f.polled (take i out)) → Adds g k (Polled n r)
    → AddsEach f k (polled_each f.polled (take (i + 1) (set out i r)))
poll_stands f g k out i n r l s e each one =
    let t : length (take i out) ≡ i = length-take-le i out (omega arith) in
    let m : f.polled + length (take i out) ≡ n = omega arith in
    adds_more f g k (Polled n r) (polled_each f.polled (take i out)) (polled_each f.polled (take (i + 1) (set out i r)))
    (ap (polled_each f.polled) (take_more_set out i r l)
    ∙ (polled_more f.polled (take i out) r ∙ ap (λ b. Polled b r ∷ polled_each f.polled (take i out)) m))
    each one
