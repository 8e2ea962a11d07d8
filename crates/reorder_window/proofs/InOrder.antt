-- The laws of histories.
use Rattle.std.proofs.Common.{◌≡◌, ℕ, suc, ◌+◌, ◌<◌, cond, inl, inr, List, [], ◌∷◌, ◌++◌, length, take, Some, refl, sym, ◌∙◌, ap, subst, arith, add-zero, append_assoc, append-nil, length-append}
use Rattle.std.specs.Prelude.{◌==◌, map, slice_get}
use Rattle.std.proofs.lemmas.Bool.{eqb-true, eq-eqb}
use Rattle.std.proofs.lemmas.Option.{same_Some}
use Rattle.std.proofs.lemmas.List.{length-map, map-append}
use Rattle.reorder_window.specs.Windows.{Kind, WindowOf, in_flight_of}
use Rattle.reorder_window.specs.History.{Event, Submitted, Taken, Finished, Polled, Masked, Held, submissions, takings, polls, numbered, Waits, Runs, IsDone, phase, Legal, StandsFrom, Stands}
use Rattle.reorder_window.specs.Laws.{PollsInOrder, WaitsForEach, IsBounded, numbers_below, TakesInOrder, RunsOneAtATime, Begins}
use Rattle.reorder_window.proofs.Tests.{bool_cases, off_test}

numbered_join : {R : Type 0} (n : ℕ) (xs ys : List R) → numbered n (xs ++ ys) ≡ numbered n xs ++ numbered (n + length xs) ys
numbered_join n [] ys = ap (λ m. numbered m ys) (sym (add-zero n))
numbered_join {R} n (x ∷ xs) ys =
    let q : suc n + length xs ≡ n + suc (length xs) = omega arith in
    ap (λ ps. (n, x) ∷ ps) (numbered_join (suc n) xs ys ∙ ap (λ m. numbered (suc n) xs ++ numbered m ys) q)

-- the numbers that were handed out are 0, 1, 2 and so on
pub numbers_in : {R : Type 0} (kind : Kind) (first : ℕ) (h : List (Event R)) → Legal kind first h → polls h ≡ numbered 0 (map (λ p. p.1) (polls h))
numbers_in kind first [] l = refl
numbers_in kind first (Submitted n r ∷ h) l = numbers_in kind first h l.1
numbers_in kind first (Taken n w ∷ h) l = numbers_in kind first h l.1
numbers_in kind first (Finished n w ∷ h) l = numbers_in kind first h l.1
numbers_in kind first (Masked m ∷ h) l = numbers_in kind first h l.1
numbers_in kind first (Held b ∷ h) l = numbers_in kind first h l.1
numbers_in {R} kind first (Polled n r ∷ h) l =
    let i = numbers_in kind first h l.1 in
    let o : length (map (λ (p : ℕ × R). p.1) (polls h)) ≡ n = length-map (polls h) (λ p. p.1) ∙ sym l.0.0 in
    let k : 0 + length (map (λ (p : ℕ × R). p.1) (polls h)) ≡ n = omega arith in
    let j = numbered_join 0 (map (λ (p : ℕ × R). p.1) (polls h)) (r ∷ []) in
    let m : map (λ (p : ℕ × R). p.1) (polls h ++ (n, r) ∷ []) ≡ map (λ (p : ℕ × R). p.1) (polls h) ++ r ∷ [] = map-append (λ p. p.1) (polls h) ((n, r) ∷ []) in
    ap (λ ps. ps ++ (n, r) ∷ []) i
    ∙ (ap (λ b. numbered 0 (map (λ (p : ℕ × R). p.1) (polls h)) ++ (b, r) ∷ []) (sym k)
    ∙ (sym j ∙ ap (numbered 0) (sym m)))

at_seam : {X : Type 0} (xs rest : List X) (y : X) → slice_get (xs ++ rest) (length xs) ≡ Some y → (ys : List X) × (rest ≡ y ∷ ys)
at_seam [] [] y e = cc
at_seam {X} [] (z ∷ zs) y e = (zs, ap (λ (x : X). x ∷ zs) (same_Some z y e))
at_seam (x ∷ xs) rest y e = at_seam xs rest y e

-- what was handed out is a front of what was submitted
pub front_of : {R : Type 0} (kind : Kind) (first : ℕ) (h : List (Event R)) → Legal kind first h → (rest : List R) × (submissions h ≡ map (λ p. p.1) (polls h) ++ rest)
front_of kind first [] l = ([], refl)
front_of kind first (Submitted n r ∷ h) l =
    let f = front_of kind first h l.1 in
    (f.0 ++ r ∷ [], ap (λ rs. rs ++ r ∷ []) f.1 ∙ append_assoc (map (λ p. p.1) (polls h)) f.0 (r ∷ []))
front_of kind first (Taken n w ∷ h) l = front_of kind first h l.1
front_of kind first (Finished n w ∷ h) l = front_of kind first h l.1
front_of kind first (Masked m ∷ h) l = front_of kind first h l.1
front_of kind first (Held b ∷ h) l = front_of kind first h l.1
front_of {R} kind first (Polled n r ∷ h) l =
    let f = front_of kind first h l.1 in
    let k : n ≡ length (map (λ (p : ℕ × R). p.1) (polls h)) = l.0.0 ∙ sym (length-map (polls h) (λ p. p.1)) in
    let g : slice_get (map (λ (p : ℕ × R). p.1) (polls h) ++ f.0) (length (map (λ (p : ℕ × R). p.1) (polls h))) ≡ Some r = subst (λ m. slice_get (map (λ (p : ℕ × R). p.1) (polls h) ++ f.0) m ≡ Some r) k (ap (λ rs. slice_get rs n) (sym f.1) ∙ l.0.1) in
    let s = at_seam (map (λ (p : ℕ × R). p.1) (polls h)) f.0 r g in
    (s.0, f.1 ∙ (ap (λ rs. map (λ (p : ℕ × R). p.1) (polls h) ++ rs) s.1 ∙ simp (map-append, append_assoc)))

take_front : {X : Type 0} (xs ys : List X) → take (length xs) (xs ++ ys) ≡ xs
take_front [] ys = refl
take_front (x ∷ xs) ys = ap (λ zs. x ∷ zs) (take_front xs ys)

pub polls_in_order : {R : Type 0} (kind : Kind) (first : ℕ) (h : List (Event R)) → PollsInOrder kind first h
polls_in_order {R} kind first h l =
    let f = front_of kind first h l in
    let i = numbers_in kind first h l in
    let j = numbered_join 0 (map (λ (p : ℕ × R). p.1) (polls h)) f.0 in
    sym (ap (λ rs. take (length (polls h)) (numbered 0 rs)) f.1
    ∙ (ap (take (length (polls h))) (j ∙ ap (λ ps. ps ++ numbered (0 + length (map (λ (p : ℕ × R). p.1) (polls h))) f.0) (sym i))
    ∙ take_front (polls h) (numbered (0 + length (map (λ (p : ℕ × R). p.1) (polls h))) f.0)))

pub all_polled : {R : Type 0} (first : ℕ) (f : WindowOf R) (h : List (Event R)) → StandsFrom first f h → f.running ≡ [] → f.waiting ≡ [] → polls h ≡ numbered 0 (submissions h)
all_polled {R} first f h s r w =
    let a : submissions h ≡ map (λ (p : ℕ × R). p.1) (polls h) = s.asked ∙ rw (r, w) (append-nil (map (λ p. p.1) (polls h))) in
    numbers_in f.kind first h s.legal ∙ ap (numbered 0) (sym a)

pub is_bounded : {R : Type 0} (kind : Kind) (first : ℕ) (h : List (Event R)) → IsBounded kind first h
is_bounded kind first [] l = omega arith
is_bounded kind first (Submitted n r ∷ h) l = (let a = l.0.0 in let b = l.0.1 in simp length-append (omega arith))
is_bounded kind first (Taken n w ∷ h) l = is_bounded kind first h l.1
is_bounded kind first (Finished n w ∷ h) l = is_bounded kind first h l.1
is_bounded kind first (Masked m ∷ h) l = is_bounded kind first h l.1
is_bounded kind first (Held b ∷ h) l = is_bounded kind first h l.1
is_bounded kind first (Polled n r ∷ h) l = (let i = is_bounded kind first h l.1 in simp length-append (omega arith))

pub takes_in_order : {R : Type 0} (kind : Kind) (first : ℕ) (h : List (Event R)) → TakesInOrder kind first h
takes_in_order kind first [] l = refl
takes_in_order kind first (Submitted n r ∷ h) l = takes_in_order kind first h l.1
takes_in_order kind first (Finished n w ∷ h) l = takes_in_order kind first h l.1
takes_in_order kind first (Masked m ∷ h) l = takes_in_order kind first h l.1
takes_in_order kind first (Held b ∷ h) l = takes_in_order kind first h l.1
takes_in_order kind first (Polled n r ∷ h) l = takes_in_order kind first h l.1
takes_in_order kind first (Taken n w ∷ h) l =
    let i = takes_in_order kind first h l.1 in
    let k : length (takings h ++ (n, w) ∷ []) ≡ suc (length (takings h)) = simp length-append (omega arith) in
    map-append (λ t. t.0) (takings h) ((n, w) ∷ [])
    ∙ (ap (λ ns. ns ++ n ∷ []) i ∙ (ap (λ m. numbers_below (length (takings h)) ++ m ∷ []) l.0.0 ∙ ap numbers_below (sym k)))

length_nil : {X : Type 0} (xs : List X) → length xs ≡ 0 → xs ≡ []
length_nil [] e = refl
length_nil (x ∷ xs) e = absurd (omega arith)

pub drained_all : {R : Type 0} (f : WindowOf R) (h : List (Event R)) → Stands f h → in_flight_of f ≡ 0 → polls h ≡ numbered 0 (submissions h)
drained_all f h s e = all_polled s.0 f h s.1 (length_nil f.running (omega arith)) (length_nil f.waiting (omega arith))

-- a number that is done was taken
pub done_taken : {R : Type 0} (kind : Kind) (first : ℕ) (h : List (Event R)) (n : ℕ) → Legal kind first h → (phase n h ≡ Waits → ⊥) → n < length (takings h)
done_taken kind first [] n l d = absurd (d refl)
done_taken kind first (Submitted m r ∷ h) n l d = done_taken kind first h n l.1 d
done_taken kind first (Masked m ∷ h) n l d = done_taken kind first h n l.1 d
done_taken kind first (Held b ∷ h) n l d = done_taken kind first h n l.1 d
done_taken kind first (Polled m r ∷ h) n l d = done_taken kind first h n l.1 d
done_taken kind first (Taken m w ∷ h) n l d =
    let k : length (takings h ++ (m, w) ∷ []) ≡ length (takings h) + 1 = simp length-append (omega arith) in
    let q = l.0.0 in
    elim (bool_cases (m == n)) [
      | inl t ↦ (let e = eqb-true m n t in omega arith)
      | inr t ↦ (let i = done_taken kind first h n l.1 (λ p. d (ap (λ b. cond b (Runs w) (phase n h)) t ∙ p)) in omega arith)
    ]
done_taken kind first (Finished m w ∷ h) n l d =
    elim (bool_cases (m == n)) [
      | inl t ↦ done_taken kind first h n l.1 (λ p. (let e = eqb-true m n t in let q : phase n h ≡ Runs w = subst (λ j. phase j h ≡ Runs w) e l.0 in cc))
      | inr t ↦ done_taken kind first h n l.1 (λ p. d (ap (λ b. cond b IsDone (phase n h)) t ∙ p))
    ]

pub waits_for_each : {R : Type 0} (kind : Kind) (first : ℕ) (h : List (Event R)) (n : ℕ) → WaitsForEach kind first h n
waits_for_each kind first [] n l b = absurd (omega arith)
waits_for_each kind first (Submitted m r ∷ h) n l b = waits_for_each kind first h n l.1 b
waits_for_each kind first (Masked m ∷ h) n l b = waits_for_each kind first h n l.1 b
waits_for_each kind first (Held b ∷ h) n l k = waits_for_each kind first h n l.1 k
waits_for_each kind first (Taken m w ∷ h) n l b =
    let i = waits_for_each kind first h n l.1 b in
    let t = done_taken kind first h n l.1 (λ p. (let q = i in cc)) in
    let q = l.0.0 in
    off_test m n (Runs w) (phase n h) (λ e. omega arith) ∙ i
waits_for_each kind first (Finished m w ∷ h) n l b =
    let i = waits_for_each kind first h n l.1 b in
    elim (bool_cases (m == n)) [
      | inl t ↦ ap (λ b. cond b IsDone (phase n h)) t
      | inr t ↦ ap (λ b. cond b IsDone (phase n h)) t ∙ i
    ]
waits_for_each kind first (Polled m r ∷ h) n l b =
    let k : length (polls h ++ (m, r) ∷ []) ≡ length (polls h) + 1 = simp length-append (omega arith) in
    let q = l.0.0 in
    elim (bool_cases (n == m)) [
      | inl t ↦ (let e = eqb-true n m t in subst (λ j. phase j h ≡ IsDone) (sym e) l.0.2)
      | inr t ↦ waits_for_each kind first h n l.1 (let d : (n ≡ m) → ⊥ = λ e. (let o = eq-eqb n m e in cc) in omega arith)
    ]

pub one_at_a_time : {R : Type 0} (kind : Kind) (first : ℕ) (h : List (Event R)) (n : ℕ) → RunsOneAtATime kind first h n
one_at_a_time kind first [] n l o b = absurd (omega arith)
one_at_a_time kind first (Submitted m r ∷ h) n l o b = one_at_a_time kind first h n l.1 o b
one_at_a_time kind first (Polled m r ∷ h) n l o b = one_at_a_time kind first h n l.1 o b
one_at_a_time kind first (Masked m ∷ h) n l o b = one_at_a_time kind first h n l.1 o b
one_at_a_time kind first (Held m ∷ h) n l o b = one_at_a_time kind first h n l.1 o b
one_at_a_time kind first (Finished m w ∷ h) n l o b =
    let i = one_at_a_time kind first h n l.1 o b in
    elim (bool_cases (m == n)) [
      | inl t ↦ ap (λ b. cond b IsDone (phase n h)) t
      | inr t ↦ ap (λ b. cond b IsDone (phase n h)) t ∙ i
    ]
one_at_a_time kind first (Taken m w ∷ h) n l o b =
    let k : length (takings h ++ (m, w) ∷ []) ≡ length (takings h) + 1 = simp length-append (omega arith) in
    let q = l.0.0 in
    let p : phase n h ≡ IsDone = elim (bool_cases (suc n == m)) [
      | inl t ↦ l.0.4 o n (eqb-true (suc n) m t)
      | inr t ↦ one_at_a_time kind first h n l.1 o (let d : (suc n ≡ m) → ⊥ = λ e. (let u = eq-eqb (suc n) m e in cc) in omega arith)
    ] in
    off_test m n (Runs w) (phase n h) (λ e. omega arith) ∙ p

pub begins : (R : Type 0) (kind : Kind) (first : ℕ) → Begins R kind first
begins R kind first = record {
  legal = tt;
  mask = refl;
  held = refl;
  polled = refl;
  taken = omega arith;
  asked = refl;
  phases = λ i x e. cc;
}
