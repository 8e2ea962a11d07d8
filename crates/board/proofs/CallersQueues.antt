-- One caller's own run queue among all: in another form, given, or given back.
use Rattle.std.proofs.Common.{◌≡◌, ◌≢◌, ℕ, ◌<◌, ◌≤◌, List, [], ◌∷◌, length, zero, suc, Some, None, refl, sym, ◌∙◌, ap, subst, arith, inl, inr, ◌⊎◌}
use Rattle.std.specs.Prelude.{IsSome, Option, slice_get, slice_set, get_or}
use Rattle.std.specs.Ordering.{nat_cmp}
use Rattle.std.specs.Map.{lookup}
use Rattle.std.specs.BTreeMap.{get, is_at, Updates, WritesThrough}
use Rattle.std.specs.declared.collections.BTreeMap.{BTreeMap}
use Rattle.std.specs.Global.{Global}
use Rattle.std.proofs.lemmas.Bool.{cases_eq}
use Rattle.std.proofs.lemmas.Option.{slice_get_read, slice_get_past}
use Rattle.board.specs.declared.run_queues.CallerQueue.{CallerQueue}
use Rattle.board.specs.RunQueue.{QueueState, no_pipelines}
use Rattle.board.specs.RunQueues.{CallerQueues, queue_in, queue_or, queue_for}
use Rattle.board.proofs.Kept.{at_other}

-- the caller's run queue was this and is that, and the others are as they were
pub record IsQueueSet (caller : ℕ) (own after : CallerQueues) (queue new : QueueState) : Type 0 where
  pub here : queue_for caller own ≡ queue
  pub there : queue_for caller after ≡ new
  pub others : (c : ℕ) → c ≢ caller → queue_for c after ≡ queue_for c own

-- ---- of the first callers

set_here : {X : Type 0} (xs : List X) (i : ℕ) (new : X) → i < length xs → slice_get (slice_set xs i new) i ≡ Some new
set_here [] i new w = absurd (omega arith)
set_here (x ∷ xs) zero new w = refl
set_here (x ∷ xs) (suc i) new w = set_here xs i new (omega arith)

set_other : {X : Type 0} (xs : List X) (i j : ℕ) (new : X) → j ≢ i → slice_get (slice_set xs i new) j ≡ slice_get xs j
set_other [] i j new n = refl
set_other (x ∷ xs) zero zero new n = absurd (n refl)
set_other (x ∷ xs) zero (suc j) new n = refl
set_other (x ∷ xs) (suc i) zero new n = refl
set_other (x ∷ xs) (suc i) (suc j) new n = set_other xs i j new (λ e. n (ap suc e))

pub first_written : (own : CallerQueues) (caller : ℕ) (o new : CallerQueue) → caller < length own.first → o ≡ get_or own.first caller o → IsQueueSet caller own (record own { first = slice_set own.first caller new }) o.queue new.queue
first_written own caller o new within is = record {
  here = ap (λ x. queue_or x (other caller)) (slice_get_read own.first (length own.first) caller o refl within is);
  there = ap (λ x. queue_or x (other caller)) (set_here own.first caller new within);
  others = λ c n. ap (λ x. queue_or x (other c)) (set_other own.first caller c new n);
}
  where
    other : ℕ → QueueState
    other c = queue_in (lookup (is_at (nat_cmp c)) own.others)

-- ---- of the others

-- a caller that is none of the first
pub other_queue : (first : List CallerQueue) (others : List (ℕ × CallerQueue)) (caller : ℕ) (queue : Option CallerQueue) → length first ≤ caller → lookup (is_at (nat_cmp caller)) others ≡ queue → queue_for caller (record { first = first; others = others }) ≡ queue_in queue
other_queue first others caller queue g is = ap (λ x. queue_or x (queue_in (lookup (is_at (nat_cmp caller)) others))) (slice_get_past first caller g) ∙ ap queue_in is

module _ (first : List CallerQueue) (own after : BTreeMap ℕ CallerQueue Global) (caller : ℕ) (g : length first ≤ caller) where
  -- after a loan of it
  pub queue_written : (o new : CallerQueue) → get nat_cmp own caller ≡ Some o → WritesThrough nat_cmp (nat_cmp caller) own new after → IsQueueSet caller (record { first = first; others = own.entries }) (record { first = first; others = after.entries }) o.queue new.queue
  queue_written o new here w =
      let u = w.3 (subst IsSome (sym here) refl) in
      record {
        here = other_queue first own.entries caller (Some o) g here;
        there = other_queue first after.entries caller (Some new) g u.1;
        others = λ c n. ap (λ x. queue_or (slice_get first c) (queue_in x)) (u.2 c (at_other caller c n));
      }

  -- where the caller had none
  pub queue_given : (start : BTreeMap ℕ CallerQueue Global) → start ≡ own → (new : CallerQueue) → get nat_cmp own caller ≡ None → Updates nat_cmp start after caller (Some new) → IsQueueSet caller (record { first = first; others = own.entries }) (record { first = first; others = after.entries }) no_pipelines new.queue
  queue_given start e new none u = record {
    here = other_queue first own.entries caller None g none;
    there = other_queue first after.entries caller (Some new) g u.1;
    others = λ c n. ap (λ x. queue_or (slice_get first c) (queue_in x)) (u.2 c (at_other caller c n) ∙ ap (λ (m : BTreeMap ℕ CallerQueue Global). get nat_cmp m c) e);
  }

  -- or has none any more
  pub queue_gone : Updates nat_cmp own after caller None → IsQueueSet caller (record { first = first; others = own.entries }) (record { first = first; others = after.entries }) (queue_for caller (record { first = first; others = own.entries })) no_pipelines
  queue_gone u = record {
    here = refl;
    there = other_queue first after.entries caller None g u.1;
    others = λ c n. ap (λ x. queue_or (slice_get first c) (queue_in x)) (u.2 c (at_other caller c n));
  }

-- ---- all run queues

abbrev pub Made : Type 1
Made = ℕ → QueueState → QueueState → Type 0

-- what is so of that run queue, and of each that stays as it was, is so of all
pub set_made : (made : Made) (own after : CallerQueues) (caller : ℕ) (queue new : QueueState) → IsQueueSet caller own after queue new → ((c : ℕ) → c ≢ caller → (l : QueueState) → made c l l) → made caller queue new → (c : ℕ) → made c (queue_for c own) (queue_for c after)
set_made made own after caller queue new s same so c = cases (cases_eq c caller)
  where
    here : made caller (queue_for caller own) (queue_for caller after)
    here = subst (λ l. made caller (queue_for caller own) l) (sym s.there) (subst (λ l. made caller l new) (sym s.here) so)

    cases : (c ≡ caller) ⊎ (c ≡ caller → ⊥) → made c (queue_for c own) (queue_for c after)
    cases (inl e) = subst (λ n. made n (queue_for n own) (queue_for n after)) (sym e) here
    cases (inr n) = subst (λ l. made c (queue_for c own) l) (sym (s.others c n)) (same c n (queue_for c own))
