-- Sorted lists of outcomes, one for each rest.
use Rattle.std.proofs.Common.{◌≡◌, ◌≢◌, ℕ, suc, ◌+◌, ◌-◌, ◌*◌, ◌<◌, ◌≤◌, ◌%◌, ◌/◌, Bool, true, false, cond, List, [], ◌∷◌, length, Option, Some, None, refl, sym, ◌∙◌, ap, subst, arith, inl, inr, ◌⊎◌}
use Rattle.std.proofs.Math.Nat.{mul-le-mul_left, mul-le-mul_right, suc-mul, mul-suc, div-add-mod, mod-lt}
use Rattle.std.specs.Prelude.{◌==◌, nat_lt, slice_index_or, slice_set}
use Rattle.std.proofs.lemmas.Bool.{cases_lt, cases_eq, eqb-true, eq-eqb, false_from_ne_true}
use Rattle.std.proofs.lemmas.List.{get_or-set_same, get_or-set_other, length-set}
use Rattle.padata_core.specs.Rows.{Slot, put, first_is, IsRising, found}
use Rattle.padata_core.specs.Pad.{kept_at, IsRow, AreRows}

-- ---- one list

put_apart : {F : Type 0} (m n : ℕ) (out : F) (e : ℕ × F) (es : List (ℕ × F)) (a b : Bool) → (e.0 == m) ≡ a → (n == m) ≡ b → (e.0 == n) ≡ false → found m (put n out es) ≡ cond (n == m) (Some out) (found m es) → cond (e.0 == m) (Some e.1) (found m (put n out es)) ≡ cond (n == m) (Some out) (cond (e.0 == m) (Some e.1) (found m es))
put_apart m n out e es true true p q h ih =
    let x : e.0 ≡ m = eqb-true e.0 m p in
    let y : n ≡ m = eqb-true n m q in
    let z : (e.0 == n) ≡ true = eq-eqb e.0 n (x ∙ sym y) in
    cc
put_apart m n out e es true false p q h ih = rw (p, q) refl
put_apart m n out e es false true p q h ih = rw (p, ih, q) refl
put_apart m n out e es false false p q h ih = rw (p, ih, q) refl

put_step : {F : Type 0} (m n : ℕ) (out : F) (e : ℕ × F) (es : List (ℕ × F)) (b : Bool) → (e.0 == n) ≡ false → found m (put n out es) ≡ cond (n == m) (Some out) (found m es) → found m (cond b ((n, out) ∷ e ∷ es) (e ∷ put n out es)) ≡ cond (n == m) (Some out) (found m (e ∷ es))
put_step m n out e es true h ih = refl
put_step m n out e es false h ih = put_apart m n out e es (e.0 == m) (n == m) refl refl h ih

found_head : {F : Type 0} (n : ℕ) (e : ℕ × F) (es : List (ℕ × F)) (b : Bool) → (e.0 == n) ≡ b → cond b (Some e.1) (found n es) ≡ None → ((e.0 == n) ≡ false) × (found n es ≡ None)
found_head n e es true p h = cc
found_head n e es false p h = (p, h)

-- an outcome that is put into a list is found there, and the others as before
pub found_put : {F : Type 0} (m n : ℕ) (out : F) (es : List (ℕ × F)) → found n es ≡ None → found m (put n out es) ≡ cond (n == m) (Some out) (found m es)
found_put m n out [] h = refl
found_put m n out (e ∷ es) h = (let f = found_head n e es (e.0 == n) refl h in put_step m n out e es (nat_lt n e.0) f.0 (found_put m n out es f.1))

length_step : {F : Type 0} (n : ℕ) (out : F) (e : ℕ × F) (es : List (ℕ × F)) (b : Bool) → length (put n out es) ≡ suc (length es) → length (cond b ((n, out) ∷ e ∷ es) (e ∷ put n out es)) ≡ suc (suc (length es))
length_step n out e es true h = refl
length_step n out e es false h = ap suc h

pub length-put : {F : Type 0} (n : ℕ) (out : F) (es : List (ℕ × F)) → length (put n out es) ≡ suc (length es)
length-put n out [] = refl
length-put n out (e ∷ es) = length_step n out e es (nat_lt n e.0) (length-put n out es)

above : (a b : ℕ) → a ≤ b → a ≢ b → (a < b) ⊎ (b ≤ a) → a + 1 ≤ b
above a b l n (inl s) = omega arith
above a b l n (inr g) = absurd (n (let e : a ≡ b = omega arith in e))

row_step : {F : Type 0} (lists k low to n : ℕ) (out : F) (e : ℕ × F) (es : List (ℕ × F)) (b : Bool) → nat_lt n e.0 ≡ b → (e.0 == n) ≡ false → IsRow lists k low to (e ∷ es) → low ≤ n → n < to → n % lists ≡ k → (e.0 + 1 ≤ n → IsRow lists k (e.0 + 1) to (put n out es)) → IsRow lists k low to (cond b ((n, out) ∷ e ∷ es) (e ∷ put n out es))
row_step lists k low to n out e es true t d r l g m ih = (let q : n < e.0 = grind arith in (l, g, m, (omega arith, r.1, r.2, r.3)))
row_step lists k low to n out e es false t d r l g m ih =
    let q : e.0 ≤ n = grind arith in
    let apart : e.0 ≢ n = λ p. (let z : (e.0 == n) ≡ true = eq-eqb e.0 n p in cc) in
    (r.0, r.1, r.2, ih (above e.0 n q apart (cases_lt e.0 n)))

-- and it stays sorted
pub row_put : {F : Type 0} (lists k low to n : ℕ) (out : F) (es : List (ℕ × F)) → IsRow lists k low to es → low ≤ n → n < to → n % lists ≡ k → found n es ≡ None → IsRow lists k low to (put n out es)
row_put lists k low to n out [] r l g m h = (l, g, m, tt)
row_put lists k low to n out (e ∷ es) r l g m h =
    let f = found_head n e es (e.0 == n) refl h in
    row_step lists k low to n out e es (nat_lt n e.0) refl f.0 r l g m (λ p. row_put lists k (e.0 + 1) to n out es r.3 p g m f.1)

pub row_rising : {F : Type 0} (lists k low to : ℕ) (es : List (ℕ × F)) → IsRow lists k low to es → IsRising low es
row_rising lists k low to [] r = tt
row_rising lists k low to (e ∷ es) r = (r.0, row_rising lists k (e.0 + 1) to es r.3)

pub rising_from : {F : Type 0} (low from : ℕ) (es : List (ℕ × F)) → from ≤ low → IsRising low es → IsRising from es
rising_from low from [] l r = tt
rising_from low from (e ∷ es) l r = (let h = r.0 in (omega arith, r.1))

-- a number below all of a list isn't found, nor one above all
pub row_low : {F : Type 0} (lists k low to n : ℕ) (es : List (ℕ × F)) → IsRow lists k low to es → n < low → found n es ≡ None
row_low lists k low to n [] r l = refl
row_low lists k low to n (e ∷ es) r l =
    let h = r.0 in
    let b : (e.0 == n) ≡ false = false_from_ne_true (e.0 == n) (λ p. (let q = eqb-true e.0 n p in absurd (omega arith))) in
    rw b (row_low lists k (e.0 + 1) to n es r.3 (omega arith))

pub row_high : {F : Type 0} (lists k low to n : ℕ) (es : List (ℕ × F)) → IsRow lists k low to es → to ≤ n → found n es ≡ None
row_high lists k low to n [] r l = refl
row_high lists k low to n (e ∷ es) r l =
    let h = r.1 in
    let b : (e.0 == n) ≡ false = false_from_ne_true (e.0 == n) (λ p. (let q = eqb-true e.0 n p in absurd (omega arith))) in
    rw b (row_high lists k (e.0 + 1) to n es r.3 l)

-- the least number that a list may hold is the first in it, or isn't there
pub row_first : {F : Type 0} (lists k low to : ℕ) (es : List (ℕ × F)) → IsRow lists k low to es → first_is low es ≡ false → found low es ≡ None
row_first lists k low to [] r f = refl
row_first lists k low to (e ∷ es) r f = (let h = r.0 in rw f (row_low lists k (e.0 + 1) to low es r.3 (omega arith)))

pub row_raise : {F : Type 0} (lists k low to : ℕ) (es : List (ℕ × F)) → IsRow lists k low to es → first_is low es ≡ false → IsRow lists k (low + 1) to es
row_raise lists k low to [] r f = tt
row_raise lists k low to (e ∷ es) r f =
    let apart : low ≢ e.0 = λ p. (let z : (e.0 == low) ≡ true = eq-eqb e.0 low (sym p) in cc) in
    (above low e.0 r.0 apart (cases_lt low e.0), r.1, r.2, r.3)

pub first_other : {F : Type 0} (lists k low to : ℕ) (es : List (ℕ × F)) → IsRow lists k low to es → low % lists ≢ k → first_is low es ≡ false
first_other lists k low to [] r o = refl
first_other lists k low to (e ∷ es) r o = false_from_ne_true (e.0 == low) (λ p. o (ap (λ m. m % lists) (sym (eqb-true e.0 low p)) ∙ r.2))

pub row_more : {F : Type 0} (lists k low to more : ℕ) (es : List (ℕ × F)) → IsRow lists k low to es → to ≤ more → IsRow lists k low more es
row_more lists k low to more [] r l = tt
row_more lists k low to more (e ∷ es) r l = (let h = r.1 in (r.0, omega arith, r.2, row_more lists k (e.0 + 1) to more es r.3 l))

-- ---- how long a list is

gap_cases : (a b n m w r : ℕ) → w * a + r ≡ n → w * b + r ≡ m → n < m → (b ≤ a) ⊎ (a < b) → n + w ≤ m
gap_cases a b n m w r p q l (inl g) = (let h = mul-le-mul_left w g in absurd (omega arith))
gap_cases a b n m w r p q l (inr g) = (let s : suc a ≤ b = omega arith in let h = mul-le-mul_left w s in let t = mul-suc w a in omega arith)

flip_lt : (a b : ℕ) → (a < b) ⊎ (b ≤ a) → (b ≤ a) ⊎ (a < b)
flip_lt a b (inl l) = inr l
flip_lt a b (inr g) = inl g

-- numbers of one rest stand apart
pub rests_apart : (n m w : ℕ) → n < m → n % w ≡ m % w → n + w ≤ m
rests_apart n m w l e = gap_cases (n / w) (m / w) n m w (n % w) (div-add-mod n w) (ap (λ r. w * (m / w) + r) e ∙ div-add-mod m w) l (flip_lt (n / w) (m / w) (cases_lt (n / w) (m / w)))

after_long : {F : Type 0} (lists k n to : ℕ) (es : List (ℕ × F)) → IsRow lists k (n + 1) to es → n % lists ≡ k → n < to → length es * lists + n < to
after_long lists k n to [] r m l = omega arith
after_long lists k n to (e ∷ es) r m l =
    let h = r.0 in
    let apart = rests_apart n e.0 lists (omega arith) (m ∙ sym r.2) in
    let ih = after_long lists k e.0 to es r.3 r.2 r.1 in
    let s = suc-mul (length es) lists in
    omega arith

long_strict : {F : Type 0} (lists k low to : ℕ) (e : ℕ × F) (es : List (ℕ × F)) → IsRow lists k low to (e ∷ es) → length (e ∷ es) * lists < (to - low) + lists
long_strict lists k low to e es r =
    let h = r.0 in
    let b = r.1 in
    let a = after_long lists k e.0 to es r.3 r.2 r.1 in
    let s = suc-mul (length es) lists in
    omega arith

room_cases : (len room total lists : ℕ) → suc len * lists < total + lists → total ≤ room * lists → (len < room) ⊎ (room ≤ len) → len < room
room_cases len room total lists a b (inl l) = l
room_cases len room total lists a b (inr g) = (let h = mul-le-mul_right lists g in let s = suc-mul len lists in absurd (omega arith))

strict_put : {F : Type 0} (lists k low to : ℕ) (es xs : List (ℕ × F)) (n : ℕ) → length xs ≡ suc n → IsRow lists k low to xs → suc n * lists < (to - low) + lists
strict_put lists k low to es [] n h r = cc
strict_put lists k low to es (x ∷ xs) n h r = (let q = long_strict lists k low to x xs r in let e : length xs ≡ n = omega arith in subst (λ m. suc m * lists < (to - low) + lists) e q)

-- where the lists have room for their share, there is room for one more
pub row_room : {F : Type 0} (lists k low to n room : ℕ) (out : F) (es : List (ℕ × F)) → IsRow lists k low to es → low ≤ n → n < to → n % lists ≡ k → found n es ≡ None → to - low ≤ room * lists → length es < room
row_room lists k low to n room out es r l g m f h =
    room_cases (length es) room (to - low) lists (strict_put lists k low to es (put n out es) (length es) (length-put n out es) (row_put lists k low to n out es r l g m f)) h (cases_lt (length es) room)

-- ---- all lists

abbrev pub empty_held : {F : Type 0} → Slot F
empty_held = record { entries = []; room = 0 }

pub rest_below : {F : Type 0} (rows : List (Slot F)) (lists low to room n : ℕ) → AreRows rows lists low to room → n % lists < lists
rest_below rows lists low to room n a = (let s = a.some in mod-lt n (omega arith))

change_other : {F : Type 0} (rows : List (Slot F)) (lists k j low to : ℕ) (r : Slot F) (d : Slot F) → k < length rows → IsRow lists k low to r.entries → ((i : ℕ) (c : Slot F) → i < lists → i ≢ k → IsRow lists i low to (slice_index_or rows i c).entries) → j < lists → (j ≡ k) ⊎ (j ≢ k) → IsRow lists j low to (slice_index_or (slice_set rows k r) j d).entries
change_other rows lists k j low to r d l h o m (inl e) = rw (e, get_or-set_same rows k r d l) h
change_other rows lists k j low to r d l h o m (inr n) = rw (get_or-set_other rows k j r d n) (o j d m n)

room_other : {F : Type 0} (rows : List (Slot F)) (lists k j room : ℕ) (r : Slot F) (d : Slot F) → k < length rows → room ≤ r.room → ((i : ℕ) (c : Slot F) → i < lists → room ≤ (slice_index_or rows i c).room) → j < lists → (j ≡ k) ⊎ (j ≢ k) → room ≤ (slice_index_or (slice_set rows k r) j d).room
room_other rows lists k j room r d l h o m (inl e) = rw (e, get_or-set_same rows k r d l) h
room_other rows lists k j room r d l h o m (inr n) = rw (get_or-set_other rows k j r d n) (o j d m)

-- one list changes, and the others keep their numbers
pub rows_change : {F : Type 0} (rows : List (Slot F)) (lists k low to room : ℕ) (r : Slot F) → 1 ≤ lists → length rows ≡ lists → k < lists → IsRow lists k low to r.entries → room ≤ r.room → ((i : ℕ) (c : Slot F) → i < lists → i ≢ k → IsRow lists i low to (slice_index_or rows i c).entries) → ((i : ℕ) (c : Slot F) → i < lists → room ≤ (slice_index_or rows i c).room) → AreRows (slice_set rows k r) lists low to room
rows_change rows lists k low to room r s c l h g o p = record {
  some = s;
  count = length-set rows k r ∙ c;
  each = λ j d m. change_other rows lists k j low to r d (omega arith) h o m (cases_eq j k);
  rooms = λ j d m. room_other rows lists k j room r d (omega arith) g p m (cases_eq j k);
}

kept_cases : {F : Type 0} (rows : List (Slot F)) (k m : ℕ) (r : Slot F) (v : Option F) (j : ℕ) → k < length rows → (j ≡ k → found m r.entries ≡ v) → (j ≢ k → found m (slice_index_or rows j empty_held).entries ≡ v) → (j ≡ k) ⊎ (j ≢ k) → found m (slice_index_or (slice_set rows k r) j empty_held).entries ≡ v
kept_cases rows k m r v j l h o (inl e) = rw (e, get_or-set_same rows k r empty_held l) (h e)
kept_cases rows k m r v j l h o (inr n) = rw (get_or-set_other rows k j r empty_held n) (o n)

-- what the lists hold under a number after one of them changed
pub kept_change : {F : Type 0} (rows : List (Slot F)) (lists k m : ℕ) (r : Slot F) (v : Option F) → k < length rows → (m % lists ≡ k → found m r.entries ≡ v) → (m % lists ≢ k → kept_at rows lists m ≡ v) → kept_at (slice_set rows k r) lists m ≡ v
kept_change rows lists k m r v l h o = kept_cases rows k m r v (m % lists) l h o (cases_eq (m % lists) k)

-- nothing is held under a number that was not taken
pub kept_high : {F : Type 0} (rows : List (Slot F)) (lists low to room n : ℕ) → AreRows rows lists low to room → to ≤ n → kept_at rows lists n ≡ None
kept_high rows lists low to room n a l = row_high lists (n % lists) low to n (slice_index_or rows (n % lists) empty_held).entries (a.each (n % lists) empty_held (rest_below rows lists low to room n a)) l

pub rows_more : {F : Type 0} (rows : List (Slot F)) (lists low to more room : ℕ) → AreRows rows lists low to room → to ≤ more → AreRows rows lists low more room
rows_more rows lists low to more room a l = record { some = a.some; count = a.count; each = λ k d m. row_more lists k low to more (slice_index_or rows k d).entries (a.each k d m) l; rooms = a.rooms }
