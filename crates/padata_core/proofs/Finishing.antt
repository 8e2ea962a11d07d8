-- What finishing, releasing and taking do to the lists.
use Rattle.std.proofs.Common.{◌≡◌, ◌≢◌, ℕ, zero, suc, ◌+◌, ◌-◌, ◌*◌, ◌<◌, ◌≤◌, ◌%◌, false, cond, List, [], ◌∷◌, ◌++◌, length, Option, Some, None, refl, sym, ◌∙◌, ap, subst, arith}
use Rattle.std.specs.Prelude.{◌==◌, slice_get, slice_index_or, slice_set}
use Rattle.std.proofs.lemmas.Bool.{eqb-true, eq-eqb, false_from_ne_true}
use Rattle.std.proofs.lemmas.List.{get_or_default}
use Rattle.padata_core.specs.Rows.{Slot, put, first_is, IsRising, found}
use Rattle.padata_core.specs.Pad.{kept_at, outcomes_from, IsRow, AreRows, ready, running_of}
use Rattle.padata_core.proofs.Tables.{length-outcomes, outcomes-same, outcomes-more, outcomes-get, outcomes-set, running-set}
use Rattle.padata_core.proofs.Sorted.{found_put, row_put, row_rising, rising_from, row_first, row_raise, first_other, row_room, rest_below, rows_change, kept_change, kept_high, empty_held}

-- a job that runs has nothing on the lists
pub runs_free : {F : Type 0} (rows : List (Slot F)) (lists low many n : ℕ) → low ≤ n → slice_get (outcomes_from (kept_at rows lists) low many) (n - low) ≡ Some None → kept_at rows lists n ≡ None
runs_free rows lists low many n l h = (let q : low + (n - low) ≡ n = omega arith in subst (λ m. kept_at rows lists m ≡ None) q (outcomes-get (kept_at rows lists) low many (n - low) None h))

-- the list of its number has room, and is sorted
pub finish_room : {F : Type 0} (rows : List (Slot F)) (lists low to room n : ℕ) (out : F) → AreRows rows lists low to room → low ≤ n → n < to → kept_at rows lists n ≡ None → to - low ≤ room * lists → length (slice_index_or rows (n % lists) empty_held).entries < (slice_index_or rows (n % lists) empty_held).room
finish_room rows lists low to room n out a l g f h =
    let b = rest_below rows lists low to room n a in
    let r = row_room lists (n % lists) low to n room out (slice_index_or rows (n % lists) empty_held).entries (a.each (n % lists) empty_held b) l g refl f h in
    let q = a.rooms (n % lists) empty_held b in
    omega arith

pub finish_rising : {F : Type 0} (rows : List (Slot F)) (lists low to room n : ℕ) → AreRows rows lists low to room → IsRising 0 (slice_index_or rows (n % lists) empty_held).entries
finish_rising rows lists low to room n a =
    let b = rest_below rows lists low to room n a in
    rising_from low 0 (slice_index_or rows (n % lists) empty_held).entries (omega arith) (row_rising lists (n % lists) low to (slice_index_or rows (n % lists) empty_held).entries (a.each (n % lists) empty_held b))

abbrev pub put_row : {F : Type 0} → List (Slot F) → ℕ → ℕ → F → Slot F
put_row rows lists n out = record (slice_index_or rows (n % lists) empty_held) { entries = put n out (slice_index_or rows (n % lists) empty_held).entries }

pub finish_rows : {F : Type 0} (rows : List (Slot F)) (lists low to room n : ℕ) (out : F) → AreRows rows lists low to room → low ≤ n → n < to → kept_at rows lists n ≡ None → AreRows (slice_set rows (n % lists) (put_row rows lists n out)) lists low to room
finish_rows rows lists low to room n out a l g f =
    let b = rest_below rows lists low to room n a in
    rows_change rows lists (n % lists) low to room (put_row rows lists n out) a.some a.count b (row_put lists (n % lists) low to n out (slice_index_or rows (n % lists) empty_held).entries (a.each (n % lists) empty_held b) l g refl f) (a.rooms (n % lists) empty_held b) (λ i c m o. a.each i c m) a.rooms

pub same_number : {F : Type 0} (n : ℕ) (out : F) (o : Option F) → cond (n == n) (Some out) o ≡ Some out
same_number n out o = rw (eq-eqb n n refl) refl

pub other_number : {F : Type 0} (n m : ℕ) (out : F) (o : Option F) → m ≢ n → cond (n == m) (Some out) o ≡ o
other_number n m out o h = (let b : (n == m) ≡ false = false_from_ne_true (n == m) (λ p. h (sym (eqb-true n m p))) in rw b refl)

pub finish_outcomes : {F : Type 0} (rows : List (Slot F)) (lists low to room n : ℕ) (out : F) → AreRows rows lists low to room → low ≤ n → n < to → kept_at rows lists n ≡ None → outcomes_from (kept_at (slice_set rows (n % lists) (put_row rows lists n out)) lists) low (to - low) ≡ slice_set (outcomes_from (kept_at rows lists) low (to - low)) (n - low) (Some out)
finish_outcomes {F} rows lists low to room n out a l g f =
    let b = rest_below rows lists low to room n a in
    let c = a.count in
    let es : List (ℕ × F) = (slice_index_or rows (n % lists) empty_held).entries in
    let at : n ≡ low + (n - low) = omega arith in
    let here : kept_at (slice_set rows (n % lists) (put_row rows lists n out)) lists n ≡ Some out = kept_change rows lists (n % lists) n (put_row rows lists n out) (Some out) (omega arith) (λ e. found_put n n out es f ∙ same_number n out (found n es)) (λ e. absurd (e refl)) in
    outcomes-set (kept_at rows lists) (kept_at (slice_set rows (n % lists) (put_row rows lists n out)) lists) low (to - low) (n - low) (Some out) (omega arith) (subst (λ m. kept_at (slice_set rows (n % lists) (put_row rows lists n out)) lists m ≡ Some out) at here) (λ m o.
    kept_change rows lists (n % lists) m (put_row rows lists n out) (kept_at rows lists m) (omega arith) (λ e. found_put m n out es f ∙ (other_number n m out (found m es) (λ p. o (p ∙ at)) ∙ ap (λ k. found m (slice_index_or rows k empty_held).entries) (sym e))) (λ e. refl))

-- ---- the first number that isn't collected

none_step : {F : Type 0} (at : ℕ → Option F) (low many : ℕ) → at low ≡ None → ready (outcomes_from at low many) ≡ []
none_step at low zero h = refl
none_step at low (suc many) h = rw h refl

-- where it isn't first on its list, nothing is ready
pub none_ready : {F : Type 0} (rows : List (Slot F)) (lists low to room : ℕ) → AreRows rows lists low to room → first_is low (slice_index_or rows (low % lists) empty_held).entries ≡ false → ready (outcomes_from (kept_at rows lists) low (to - low)) ≡ []
none_ready rows lists low to room a f =
    none_step (kept_at rows lists) low (to - low) (row_first lists (low % lists) low to (slice_index_or rows (low % lists) empty_held).entries (a.each (low % lists) empty_held (rest_below rows lists low to room low a)) f)

-- what is first on a list
pub first_held : {F : Type 0} (rows : List (Slot F)) (lists low to room : ℕ) (x : ℕ × F) (rest : List (ℕ × F)) → AreRows rows lists low to room → (slice_index_or rows (low % lists) empty_held).entries ≡ x ∷ rest → IsRow lists (low % lists) low to (x ∷ rest)
first_held rows lists low to room x rest a e = subst (λ es. IsRow lists (low % lists) low to es) e (a.each (low % lists) empty_held (rest_below rows lists low to room low a))

pub release_below : {F : Type 0} (rows : List (Slot F)) (lists low to room : ℕ) (out : F) (rest : List (ℕ × F)) → AreRows rows lists low to room → (slice_index_or rows (low % lists) empty_held).entries ≡ (low, out) ∷ rest → low < to
release_below rows lists low to room out rest a e = (first_held rows lists low to room (low, out) rest a e).1

pub release_rows : {F : Type 0} (rows : List (Slot F)) (lists low to room : ℕ) (out : F) (r : Slot F) → AreRows rows lists low to room → (slice_index_or rows (low % lists) empty_held).entries ≡ (low, out) ∷ r.entries → r.room ≡ (slice_index_or rows (low % lists) empty_held).room → AreRows (slice_set rows (low % lists) r) lists (low + 1) to room
release_rows rows lists low to room out r a e g =
    let b = rest_below rows lists low to room low a in
    let h = first_held rows lists low to room (low, out) r.entries a e in
    let q = a.rooms (low % lists) empty_held b in
    rows_change rows lists (low % lists) (low + 1) to room r a.some a.count b h.3 (omega arith) (λ i c m o. row_raise lists i low to (slice_index_or rows i c).entries (a.each i c m) (first_other lists i low to (slice_index_or rows i c).entries (a.each i c m) (λ p. o (sym p)))) a.rooms

pub release_at : {F : Type 0} (rows : List (Slot F)) (lists low to room : ℕ) (out : F) (r : Slot F) (m : ℕ) → AreRows rows lists low to room → (slice_index_or rows (low % lists) empty_held).entries ≡ (low, out) ∷ r.entries → suc low ≤ m → kept_at (slice_set rows (low % lists) r) lists m ≡ kept_at rows lists m
release_at rows lists low to room out r m a e l =
    let b = rest_below rows lists low to room low a in
    let c = a.count in
    let apart : (low == m) ≡ false = false_from_ne_true (low == m) (λ p. (let q = eqb-true low m p in absurd (omega arith))) in
    kept_change rows lists (low % lists) m r (kept_at rows lists m) (omega arith) (λ p. sym (ap (λ k. found m (slice_index_or rows k empty_held).entries) p ∙ (ap (found m) e ∙ ap (λ t. cond t (Some out) (found m r.entries)) apart))) (λ p. refl)

release_many : {F : Type 0} (at bt : ℕ → Option F) (low many more : ℕ) (out : F) → many ≡ suc more → at low ≡ Some out → ((m : ℕ) → suc low ≤ m → bt m ≡ at m) → outcomes_from at low many ≡ Some out ∷ outcomes_from bt (suc low) more
release_many at bt low many more out s h o = rw (s, h) (ap (λ xs. Some out ∷ xs) (outcomes-same at bt (suc low) more (λ m l g. sym (o m l))))

-- its outcome is the first, and the rest stays
pub release_outcomes : {F : Type 0} (rows : List (Slot F)) (lists low to room : ℕ) (out : F) (r : Slot F) → AreRows rows lists low to room → (slice_index_or rows (low % lists) empty_held).entries ≡ (low, out) ∷ r.entries → outcomes_from (kept_at rows lists) low (to - low) ≡ Some out ∷ outcomes_from (kept_at (slice_set rows (low % lists) r) lists) (low + 1) (to - (low + 1))
release_outcomes rows lists low to room out r a e =
    let s = release_below rows lists low to room out r.entries a e in
    let q : low + 1 ≡ suc low = omega arith in
    let many : to - low ≡ suc (to - (low + 1)) = omega arith in
    let at : kept_at rows lists low ≡ Some out = ap (found low) e ∙ same_number low out (found low r.entries) in
    rw q (release_many (kept_at rows lists) (kept_at (slice_set rows (low % lists) r) lists) low (to - low) (to - suc low) out (omega arith) at (λ m l. release_at rows lists low to room out r m a e l))

-- ---- a number that is taken

pub take_outcomes : {F : Type 0} (rows : List (Slot F)) (lists low to room : ℕ) → AreRows rows lists low to room → low ≤ to → outcomes_from (kept_at rows lists) low (to + 1 - low) ≡ outcomes_from (kept_at rows lists) low (to - low) ++ None ∷ []
take_outcomes rows lists low to room a l =
    let s : to + 1 - low ≡ suc (to - low) = omega arith in
    let q : low + (to - low) ≡ to = omega arith in
    rw s (outcomes-more (kept_at rows lists) low (to - low) ∙ ap (λ o. outcomes_from (kept_at rows lists) low (to - low) ++ o ∷ []) (ap (kept_at rows lists) q ∙ kept_high rows lists low to room to a (omega arith)))

-- ---- all that a call needs

pub finished_all : {F : Type 0} (rows : List (Slot F)) (lists low to room running n : ℕ) (out : F) (r : Slot F) → AreRows rows lists low to room → low ≤ to → running ≡ running_of (outcomes_from (kept_at rows lists) low (to - low)) → low ≤ n → n < low + length (outcomes_from (kept_at rows lists) low (to - low)) → slice_get (outcomes_from (kept_at rows lists) low (to - low)) (n - low) ≡ Some None → r ≡ put_row rows lists n out
    → AreRows (slice_set rows (n % lists) r) lists low to room × (outcomes_from (kept_at (slice_set rows (n % lists) r) lists) low (to - low) ≡ slice_set (outcomes_from (kept_at rows lists) low (to - low)) (n - low) (Some out)) × (running - 1 ≡ running_of (outcomes_from (kept_at (slice_set rows (n % lists) r) lists) low (to - low))) × (1 ≤ running)
finished_all rows lists low to room running n out r a l run g h s e =
    let len = length-outcomes (kept_at rows lists) low (to - low) in
    let f = runs_free rows lists low (to - low) n g s in
    let below : n < to = omega arith in
    let o = finish_outcomes rows lists low to room n out a g below f in
    let c = running-set (outcomes_from (kept_at rows lists) low (to - low)) (n - low) out s in
    rw e (finish_rows rows lists low to room n out a g below f, o, rw o (omega arith), omega arith)

pub released_all : {F : Type 0} (rows : List (Slot F)) (lists low to room running : ℕ) (out : F) (r : Slot F) → AreRows rows lists low to room → running ≡ running_of (outcomes_from (kept_at rows lists) low (to - low)) → (slice_index_or rows (low % lists) empty_held).entries ≡ (low, out) ∷ r.entries → r.room ≡ (slice_index_or rows (low % lists) empty_held).room
    → AreRows (slice_set rows (low % lists) r) lists (low + 1) to room × (low < to) × (outcomes_from (kept_at rows lists) low (to - low) ≡ Some out ∷ outcomes_from (kept_at (slice_set rows (low % lists) r) lists) (low + 1) (to - (low + 1))) × (running ≡ running_of (outcomes_from (kept_at (slice_set rows (low % lists) r) lists) (low + 1) (to - (low + 1))))
released_all rows lists low to room running out r a run e g =
    let o = release_outcomes rows lists low to room out r a e in
    (release_rows rows lists low to room out r a e g, release_below rows lists low to room out r.entries a e, o, run ∙ ap running_of o)

-- the list of a number, found at any default
pub row_at : {F : Type 0} (rows : List (Slot F)) (lists low to room n : ℕ) (d : Slot F) → AreRows rows lists low to room → d ≡ slice_index_or rows (n % lists) d → d ≡ slice_index_or rows (n % lists) empty_held
row_at rows lists low to room n d a e = (let c = a.count in let b = rest_below rows lists low to room n a in e ∙ get_or_default rows (n % lists) d empty_held (omega arith))

-- a list that is written back as it was changes nothing
pub same_outcomes : {F : Type 0} (rows : List (Slot F)) (lists low to room n many : ℕ) (r : Slot F) → AreRows rows lists low to room → r ≡ slice_index_or rows (n % lists) empty_held → outcomes_from (kept_at (slice_set rows (n % lists) r) lists) low many ≡ outcomes_from (kept_at rows lists) low many
same_outcomes rows lists low to room n many r a e =
    let b = rest_below rows lists low to room n a in
    let c = a.count in
    outcomes-same (kept_at (slice_set rows (n % lists) r) lists) (kept_at rows lists) low many (λ m l g. kept_change rows lists (n % lists) m r (kept_at rows lists m) (omega arith) (λ p. ap (λ h. found m h.entries) e ∙ ap (λ k. found m (slice_index_or rows k empty_held).entries) (sym p)) (λ p. refl))
