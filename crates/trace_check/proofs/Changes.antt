-- One element of a list is changed or dropped.
use Rattle.std.proofs.Common.{◌≡◌, ℕ, zero, suc, ◌+◌, ◌-◌, ◌<◌, ◌≤◌, Bool, true, false, cond, List, [], ◌∷◌, length, map, get_or, set, Option, Some, None, refl, sym, ◌∙◌, ap, arith}
use Rattle.std.specs.List.{position_from, remove}
use Rattle.alg_registry.specs.Calls.{put_row_of}
use Rattle.trace_check.specs.declared.register.Entry.{Entry}
use Rattle.trace_check.specs.Registers.{row_of, change_at, without_first}

pub changed : {X Y : Type 0} (f : X → Y) (g : Y → Y) (xs : List X) (p : ℕ) (d x : X) → f x ≡ g (f (get_or xs p d)) → map f (set xs p x) ≡ change_at g (map f xs) p
changed f g [] p d x e = refl
changed f g (y ∷ xs) zero d x e = ap (λ z. z ∷ map f xs) e
changed f g (y ∷ xs) (suc p) d x e = ap (λ ys. f y ∷ ys) (changed f g xs p d x e)

pub unchanged : {X Y : Type 0} (f : X → Y) (g : Y → Y) (xs : List X) (p : ℕ) → length xs ≤ p → map f xs ≡ change_at g (map f xs) p
unchanged f g [] p l = refl
unchanged f g (x ∷ xs) zero l = absurd (omega arith)
unchanged f g (x ∷ xs) (suc p) l = ap (λ ys. f x ∷ ys) (unchanged f g xs p (omega arith))

pub put_is : (e : Entry) (n : ℕ) → n ≡ e.taken - 1 → row_of (record e { taken = n }) ≡ put_row_of (row_of e)
put_is e n h = ap (λ (m : ℕ). row_of (record e { taken = m })) h

record IsDropped {X : Type 0} (xs ys : List X) (n m : ℕ) : Type 0 where
  pub later : n ≤ m
  pub within : m < n + length xs
  pub dropped : remove xs (m - n) ≡ ys

dropped_step : {X : Type 0} (x : X) (xs rest : List X) (n m : ℕ) (b : Bool) (o : Option ℕ) → cond b (Some n) o ≡ Some m → (o ≡ Some m → IsDropped xs rest (n + 1) m) → IsDropped (x ∷ xs) (cond b xs (x ∷ rest)) n m
dropped_step x xs rest n m true o h k =
    let e : n ≡ m = cc in
    let z : m - n ≡ 0 = omega arith in
    record { later = omega arith; within = omega arith; dropped = ap (λ i. remove (x ∷ xs) i) z }
dropped_step x xs rest n m false o h k =
    let d = k h in
    let l = d.later in
    let w = d.within in
    let z : m - n ≡ suc (m - (n + 1)) = omega arith in
    record { later = omega arith; within = omega arith; dropped = ap (λ i. remove (x ∷ xs) i) z ∙ ap (λ ys. x ∷ ys) d.dropped }

dropped_at : {X : Type 0} (p : X → Bool) (xs : List X) (n m : ℕ) → position_from p n xs ≡ Some m → IsDropped xs (without_first p xs) n m
dropped_at p [] n m h = absurd cc
dropped_at p (x ∷ xs) n m h = dropped_step x xs (without_first p xs) n m (p x) (position_from p (n + 1) xs) h (dropped_at p xs (n + 1) m)

pub found_within : {X : Type 0} (p : X → Bool) (xs : List X) (m : ℕ) → position_from p 0 xs ≡ Some m → m < length xs
found_within p xs m h = (let w = (dropped_at p xs 0 m h).within in omega arith)

pub without_found : {X : Type 0} (p : X → Bool) (xs : List X) (m : ℕ) → position_from p 0 xs ≡ Some m → remove xs m ≡ without_first p xs
without_found p xs m h = (let z : m - 0 ≡ m = omega arith in sym (ap (λ i. remove xs i) z) ∙ (dropped_at p xs 0 m h).dropped)

none_step : {X : Type 0} (x : X) (xs rest : List X) (n : ℕ) (b : Bool) (o : Option ℕ) → cond b (Some n) o ≡ None → (o ≡ None → xs ≡ rest) → x ∷ xs ≡ cond b xs (x ∷ rest)
none_step x xs rest n true o h k = absurd cc
none_step x xs rest n false o h k = ap (λ ys. x ∷ ys) (k h)

pub without_none : {X : Type 0} (p : X → Bool) (xs : List X) (n : ℕ) → position_from p n xs ≡ None → xs ≡ without_first p xs
without_none p [] n h = refl
without_none p (x ∷ xs) n h = none_step x xs (without_first p xs) n (p x) (position_from p (n + 1) xs) h (without_none p xs (n + 1))
