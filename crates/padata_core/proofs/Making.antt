-- New lists, and room on them.
use Rattle.std.proofs.Common.{◌≡◌, ℕ, ◌+◌, ◌*◌, ◌/◌, ◌%◌, ◌<◌, ◌≤◌, List, sym, ◌∙◌, ap, subst, arith}
use Rattle.std.specs.Prelude.{slice_index_or}
use Rattle.std.proofs.Math.Nat.{lt-mul-div-succ, mul_comm}
use Rattle.padata_core.specs.Rows.{Slot, found}
use Rattle.padata_core.specs.Pad.{HaveMore, AreRows, IsRow, kept_at, outcomes_from}
use Rattle.padata_core.proofs.Sorted.{empty_held}
use Rattle.padata_core.proofs.Tables.{outcomes-same}

pub more_rows : {F : Type 0} (old new : List (Slot F)) (lists low to room more : ℕ) → AreRows old lists low to room → HaveMore old new → ((k : ℕ) (d : Slot F) → k < lists → more ≤ (slice_index_or new k d).room) → AreRows new lists low to more
more_rows old new lists low to room more a h g = record {
  some = a.some;
  count = h.count ∙ a.count;
  each = λ k d l. subst (λ es. IsRow lists k low to es) (sym (h.same k d)) (a.each k d l);
  rooms = g;
}

pub more_kept : {F : Type 0} (old new : List (Slot F)) (lists m : ℕ) → HaveMore old new → kept_at new lists m ≡ kept_at old lists m
more_kept old new lists m h = ap (found m) (h.same (m % lists) empty_held)

pub more_outcomes : {F : Type 0} (old new : List (Slot F)) (lists low many : ℕ) → HaveMore old new → outcomes_from (kept_at new lists) low many ≡ outcomes_from (kept_at old lists) low many
more_outcomes old new lists low many h = outcomes-same (kept_at new lists) (kept_at old lists) low many (λ m l g. more_kept old new lists m h)

-- a share of each list is enough for all
pub share_enough : (total lists : ℕ) → 1 ≤ lists → total ≤ (total / lists + 1) * lists
share_enough total lists l = (let h = lt-mul-div-succ total {b = lists} (omega arith) in let c = mul_comm lists (total / lists + 1) in omega arith)
