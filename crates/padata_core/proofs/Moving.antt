-- Outcomes that move to other lists.
use Rattle.std.proofs.Common.{◌≡◌, ◌≢◌, ℕ, ◌+◌, ◌-◌, ◌*◌, ◌<◌, ◌≤◌, ◌%◌, false, List, ◌∷◌, length, Option, Some, refl, sym, ◌∙◌, ap, subst, arith, inl, inr, ◌⊎◌}
use Rattle.std.specs.Prelude.{slice_index_or, slice_set}
use Rattle.std.proofs.lemmas.Bool.{cases_eq, cases_lt}
use Rattle.padata_core.specs.Rows.{Slot, first_is, found}
use Rattle.padata_core.specs.Pad.{kept_at, IsRow, AreRows}
use Rattle.padata_core.proofs.Sorted.{found_put, row_first, row_raise, first_other, rest_below, rows_change, kept_change, kept_high, rows_more, empty_held}
use Rattle.padata_core.proofs.Finishing.{put_row, finish_room, finish_rows, release_rows, release_at, same_number, other_number}

-- the numbers below n have moved, and those from n on are where they were
pub record AreMoved {F : Type 0} (first old new : List (Slot F)) (lists more from n to room share : ℕ) : Type 0 where
  pub order : from ≤ n
  pub most : n ≤ to
  pub left : AreRows old lists n to room
  pub moved : AreRows new more from n share
  pub rest : (m : ℕ) → n ≤ m → kept_at old lists m ≡ kept_at first lists m
  pub done : (m : ℕ) → from ≤ m → m < n → kept_at new more m ≡ kept_at first lists m

below_apart : (m n : ℕ) → m < n + 1 → m ≢ n → (m < n) ⊎ (n ≤ m) → m < n
below_apart m n l o (inl s) = s
below_apart m n l o (inr g) = absurd (o (let e : m ≡ n = omega arith in e))

at_or_below : (m n : ℕ) → m < n + 1 → (m ≡ n) ⊎ (m ≢ n) → (m ≡ n) ⊎ (m < n)
at_or_below m n l (inl e) = inl e
at_or_below m n l (inr o) = inr (below_apart m n l o (cases_lt m n))

done_cases : {F : Type 0} (v w : ℕ → Option F) (m n : ℕ) → (m ≡ n → v n ≡ w n) → (m < n → v m ≡ w m) → (m ≡ n) ⊎ (m < n) → v m ≡ w m
done_cases v w m n h o (inl e) = rw e (h e)
done_cases v w m n h o (inr l) = o l

-- where the number isn't finished
pub moved_none : {F : Type 0} (first old new : List (Slot F)) (r : Slot F) (lists more from n to room share : ℕ) → AreMoved first old new lists more from n to room share → n < to → first_is n (slice_index_or old (n % lists) empty_held).entries ≡ false → r ≡ slice_index_or old (n % lists) empty_held → AreMoved first (slice_set old (n % lists) r) new lists more from (n + 1) to room share
moved_none {F} first old new r lists more from n to room share a l f e =
    let k : ℕ = n % lists in
    let b = rest_below old lists n to room n a.left in
    let c = a.left.count in
    let o = a.order in
    let row = a.left.each k empty_held b in
    let none = row_first lists k n to (slice_index_or old k empty_held).entries row f in
    let big = a.left.rooms k empty_held b in
    record {
      order = omega arith;
      most = omega arith;
      left = rows_change old lists k (n + 1) to room r a.left.some a.left.count b (subst (λ (h : Slot F). IsRow lists k (n + 1) to h.entries) (sym e) (row_raise lists k n to (slice_index_or old k empty_held).entries row f)) (subst (λ (h : Slot F). room ≤ h.room) (sym e) big) (λ i d m q. row_raise lists i n to (slice_index_or old i d).entries (a.left.each i d m) (first_other lists i n to (slice_index_or old i d).entries (a.left.each i d m) (λ p. q (sym p)))) a.left.rooms;
      moved = rows_more new more from n (n + 1) share a.moved (omega arith);
      rest = λ m g. kept_change old lists k m r (kept_at first lists m) (omega arith) (λ p. ap (λ (h : Slot F). found m h.entries) e ∙ (ap (λ j. found m (slice_index_or old j empty_held).entries) (sym p) ∙ a.rest m (omega arith))) (λ p. a.rest m (omega arith));
      done = λ m g h. done_cases (kept_at new more) (kept_at first lists) m n (λ q. kept_high new more from n share n a.moved (omega arith) ∙ (sym none ∙ a.rest n (omega arith))) (λ q. a.done m g q) (at_or_below m n h (cases_eq m n));
    }

-- where it is, it goes to its place
pub moved_some : {F : Type 0} (first old new : List (Slot F)) (out : F) (r t : Slot F) (lists more from n to room share : ℕ) → AreMoved first old new lists more from n to room share → (slice_index_or old (n % lists) empty_held).entries ≡ (n, out) ∷ r.entries → r.room ≡ (slice_index_or old (n % lists) empty_held).room → t ≡ put_row new more n out → AreMoved first (slice_set old (n % lists) r) (slice_set new (n % more) t) lists more from (n + 1) to room share
moved_some {F} first old new out r t lists more from n to room share a e g p =
    let o = a.order in
    let free = kept_high new more from n share n a.moved (omega arith) in
    let wide = rows_more new more from n (n + 1) share a.moved (omega arith) in
    let j : ℕ = n % more in
    let b = rest_below new more from n share n a.moved in
    let c = a.moved.count in
    let left = release_rows old lists n to room out r a.left e g in
    let low = (subst (λ es. IsRow lists (n % lists) n to es) e (a.left.each (n % lists) empty_held (rest_below old lists n to room n a.left))).1 in
    let here : kept_at first lists n ≡ Some out = sym (a.rest n (omega arith)) ∙ (ap (found n) e ∙ same_number n out (found n r.entries)) in
    rw p (record {
      order = omega arith;
      most = omega arith;
      left = left;
      moved = finish_rows new more from (n + 1) share n out wide a.order (omega arith) free;
      rest = λ m q. release_at old lists n to room out r m a.left e (omega arith) ∙ a.rest m (omega arith);
      done = λ m q h. done_cases (kept_at (slice_set new j (put_row new more n out)) more) (kept_at first lists) m n (λ z. kept_change new more j n (put_row new more n out) (kept_at first lists n) (omega arith) (λ y. found_put n n out (slice_index_or new j empty_held).entries free ∙ (same_number n out (found n (slice_index_or new j empty_held).entries) ∙ sym here)) (λ y. absurd (y refl))) (λ z. kept_change new more j m (put_row new more n out) (kept_at first lists m) (omega arith) (λ y. found_put m n out (slice_index_or new j empty_held).entries free ∙ (other_number n m out (found m (slice_index_or new j empty_held).entries) (λ (w : m ≡ n). absurd (omega arith)) ∙ (ap (λ k. found m (slice_index_or new k empty_held).entries) (sym y) ∙ a.done m q z))) (λ y. a.done m q z)) (at_or_below m n h (cases_eq m n));
    })

-- there is room where it goes
pub moved_room : {F : Type 0} (first old new : List (Slot F)) (out : F) (lists more from n to room share : ℕ) → AreMoved first old new lists more from n to room share → n < to → to - from ≤ share * more → length (slice_index_or new (n % more) empty_held).entries < (slice_index_or new (n % more) empty_held).room
moved_room first old new out lists more from n to room share a l h =
    let o = a.order in
    finish_room new more from (n + 1) share n out (rows_more new more from n (n + 1) share a.moved (omega arith)) a.order (omega arith) (kept_high new more from n share n a.moved (omega arith)) (omega arith)
