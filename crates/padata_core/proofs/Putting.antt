use Rattle.std.proofs.Common.{◌≡◌, ℕ, zero, suc, ◌+◌, ◌<◌, ◌≤◌, Bool, true, false, cond, List, [], ◌∷◌, length, refl, ap, arith}
use Rattle.std.specs.Prelude.{nat_lt, slice_index_or}
use Rattle.std.specs.Prelude.{OnOk, OnErr, IsOk}
use Rattle.std.specs.Result.{is_ok}
use Rattle.std.specs.declared.result.Result.{Result}
use Rattle.std.specs.declared.result.Result.TheVariants.{Ok, Err}
use Rattle.std.specs.List.{insert}
use Rattle.padata_core.specs.Rows.{put, IsRising}

before_step : {F : Type 0} (n : ℕ) (out : F) (e : ℕ × F) (es : List (ℕ × F)) (b : Bool) → nat_lt n e.0 ≡ b → n < e.0 → insert (e ∷ es) 0 (n, out) ≡ cond b ((n, out) ∷ e ∷ es) (e ∷ put n out es)
before_step n out e es true h l = refl
before_step n out e es false h l = absurd (grind arith)

after_step : {F : Type 0} (n i : ℕ) (out : F) (e : ℕ × F) (es : List (ℕ × F)) (b : Bool) → nat_lt n e.0 ≡ b → e.0 ≤ n → insert es i (n, out) ≡ put n out es → insert (e ∷ es) (suc i) (n, out) ≡ cond b ((n, out) ∷ e ∷ es) (e ∷ put n out es)
after_step n i out e es true h l ih = absurd (grind arith)
after_step n i out e es false h l ih = ap (λ xs. e ∷ xs) ih

-- an outcome inserted after the numbers that are not greater, and before a greater one, is put at its place
pub put_at : {F : Type 0} (es : List (ℕ × F)) (i n : ℕ) (out : F) → i ≤ length es → ((j : ℕ) (d : ℕ × F) → j < i → (slice_index_or es j d).0 ≤ n) → (i < length es → (d : ℕ × F) → n < (slice_index_or es i d).0) → insert es i (n, out) ≡ put n out es
put_at [] zero n out le low high = refl
put_at [] (suc i) n out le low high = absurd (omega arith)
put_at (e ∷ es) zero n out le low high = before_step n out e es (nat_lt n e.0) refl (high (omega arith) e)
put_at (e ∷ es) (suc i) n out le low high =
    after_step n i out e es (nat_lt n e.0) refl (low 0 e (omega arith)) (put_at es i n out (omega arith) (λ j d l. low (suc j) d (omega arith)) (λ l d. high (omega arith) d))

-- in a rising list what comes before a number is less
pub rising_low : {F : Type 0} (es : List (ℕ × F)) (from i : ℕ) (d : ℕ × F) → IsRising from es → i < length es → from ≤ (slice_index_or es i d).0
rising_low [] from i d r l = absurd (omega arith)
rising_low (e ∷ es) from zero d r l = r.0
rising_low (e ∷ es) from (suc i) d r l = (let h = rising_low es (e.0 + 1) i d r.1 (omega arith) in let g = r.0 in omega arith)

pub rising_less : {F : Type 0} (es : List (ℕ × F)) (from i j : ℕ) (d c : ℕ × F) → IsRising from es → j ≤ i → i < length es → (slice_index_or es j d).0 ≤ (slice_index_or es i c).0
rising_less [] from i j d c r le l = absurd (omega arith)
rising_less (e ∷ es) from zero zero d c r le l = omega arith
rising_less (e ∷ es) from zero (suc j) d c r le l = absurd (omega arith)
rising_less (e ∷ es) from (suc i) zero d c r le l = (let h = rising_low es (e.0 + 1) i c r.1 (omega arith) in omega arith)
rising_less (e ∷ es) from (suc i) (suc j) d c r le l = rising_less es (e.0 + 1) i j d c r.1 (omega arith) (omega arith)

-- what can't fail has what its success ensures
pub on_ok : {T E : Type 0} {P Q : Type 0} (r : Result T E) → OnOk r P → OnErr r Q → (Q → ⊥) → P
on_ok (Ok t) p q n = p
on_ok (Err e) p q n = absurd (n q)

-- what is pushed where there is room makes the list longer by one
pub pushed_len : {T E : Type 0} (n a b : ℕ) (r : Result T E) → IsOk r → n ≡ cond (is_ok r) a b → n ≡ a
pushed_len n a b (Ok t) o h = h
pushed_len n a b (Err e) o h = cc
