-- CTR on its way over a text
use Rattle.std.specs.Prelude.{◌≡◌, ℕ, ◌+◌, ◌/◌, ◌%◌, ◌^◌, List, [], ◌++◌, length}
use Rattle.std.proofs.Common.{refl, sym, ap, ap₂, ◌∙◌, arith, length-append}
use Rattle.std_defs.specs.Blocks.{block_number, block_bytes, with_stream}
use Rattle.std_defs.specs.Modes.{ctr, ctr_stream}
use Rattle.ctr_mode.specs.Laws.{with_stream-append}

-- From a cipher and a counter block on, a text is sealed by CTR. The cipher stays, and the counter block goes on by one
-- a block.
pub record Counts {C : Type 0} (sealed : C → List ℕ → List ℕ) (before : C × List ℕ) (text new : List ℕ) (after : C × List ℕ) : Type 0 where
  pub same : after.0 ≡ before.0
  pub made : new ≡ ctr (sealed before.0) before.1 text
  pub next : block_number after.1 % 2 ^ 128 ≡ (block_number before.1 + length text / 16) % 2 ^ 128

-- ---- the laws

counter_on : (s t u j : ℕ) → s % 2 ^ 128 ≡ (t + u) % 2 ^ 128 → (s + j) % 2 ^ 128 ≡ (t + (u + j)) % 2 ^ 128
counter_on s t u j e = omega arith

ctr-append : (sealed : List ℕ → List ℕ) (t t' a b : List ℕ) → length a % 16 ≡ 0 → block_number t' % 2 ^ 128 ≡ (block_number t + length a / 16) % 2 ^ 128
    → ctr sealed t (a ++ b) ≡ ctr sealed t a ++ ctr sealed t' b
unfolding ctr_stream
ctr-append sealed t t' a b whole next =
    with_stream-append (ctr_stream sealed (block_number t)) (ctr_stream sealed (block_number t')) a b whole
    (λ j. ap (λ (n : ℕ). sealed (block_bytes n)) (counter_on (block_number t') (block_number t) (length a / 16) j next))

pub counts_none : {C : Type 0} (sealed : C → List ℕ → List ℕ) (u : C × List ℕ) → Counts sealed u [] [] u
unfolding with_stream
counts_none sealed u = record { same = refl; made = refl; next = omega arith }

pub counts_on : {C : Type 0} (sealed : C → List ℕ → List ℕ) (u v w : C × List ℕ) (a b made_a made_b : List ℕ) → length a % 16 ≡ 0
    → Counts sealed u a made_a v → Counts sealed v b made_b w → Counts sealed u (a ++ b) (made_a ++ made_b) w
counts_on {C} sealed u v w a b made_a made_b whole first second =
    let blocks : length a / 16 + length b / 16 ≡ length (a ++ b) / 16 = omega (arith, length-append a b) in
    record {
      same = second.same ∙ first.same;
      made = ap₂ (λ (x y : List ℕ). x ++ y) first.made (second.made ∙ ap (λ (c : C). ctr (sealed c) v.1 b) first.same)
          ∙ sym (ctr-append (sealed u.0) u.1 v.1 a b whole first.next);
      next = second.next ∙ counter_on (block_number v.1) (block_number u.1) (length a / 16) (length b / 16) first.next
          ∙ ap (λ (n : ℕ). (block_number u.1 + n) % 2 ^ 128) blocks;
    }
