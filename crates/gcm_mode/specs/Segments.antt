-- GCM on its way over a text in segments
use Rattle.std.specs.Prelude.{◌≡◌, ℕ, zero, suc, ◌+◌, ◌/◌, ◌%◌, ◌<◌, All, List, [], ◌++◌, length}
use Rattle.std.proofs.Common.{refl, sym, ap, ap₂, ◌∙◌, arith, add-zero, add-suc, length-append}
use Rattle.std.proofs.lemmas.List.Elements.{All-append, All-nil}
use Rattle.std_defs.specs.Blocks.{block_bytes, with_stream}
use Rattle.std_defs.specs.Gcm.{BlockFunction, inc32, counter_block, key_stream_block, gctr, padded, padded_blocks}
use Rattle.std_defs.proofs.Horner.{horner, horner-append}
use Rattle.ctr_mode.specs.Laws.{with_stream-append}
use Rattle.ghash_field.specs.Laws.{padded_blocks-append}

-- From a cipher and the number of a counter block on, a text is under the key stream. The cipher stays, and the counter
-- block goes on.
pub record Counts {C : Type 0} (sealed : C → List ℕ → List ℕ) (before : C × ℕ) (text new : List ℕ) (after : C × ℕ) : Type 0 where
  pub same : after.0 ≡ before.0
  pub made : new ≡ gctr (sealed before.0) before.1 text
  pub next : after.1 ≡ counter_block before.1 (length text / 16)

-- From a key and a hash on, a text of bytes is hashed. The key and the text stay.
pub record Hashes {H : Type 0} (block : H → ℕ) (before : H × ℕ) (text new : List ℕ) (after : H × ℕ) : Type 0 where
  pub same : after.0 ≡ before.0
  pub kept : new ≡ text
  pub hash : after.1 ≡ horner (block before.0) before.1 (padded_blocks text)
  pub bytes : All (λ x. x < 256) text

-- ---- the key stream

counter_block-add : (x m n : ℕ) → counter_block (counter_block x m) n ≡ counter_block x (m + n)
unfolding counter_block
counter_block-add x m zero = ap (counter_block x) (sym (add-zero m))
counter_block-add x m (suc n) = ap inc32 (counter_block-add x m n) ∙ ap (counter_block x) (sym (add-suc m n))

gctr-append : (cipher : BlockFunction) (x : ℕ) (a b : List ℕ) → length a % 16 ≡ 0
    → gctr cipher x (a ++ b) ≡ gctr cipher x a ++ gctr cipher (counter_block x (length a / 16)) b
unfolding gctr key_stream_block
gctr-append cipher x a b whole =
    with_stream-append (key_stream_block cipher x) (key_stream_block cipher (counter_block x (length a / 16))) a b whole
    (λ j. ap (λ (n : ℕ). cipher (block_bytes n)) (counter_block-add x (length a / 16) j))

pub counts_none : {C : Type 0} (sealed : C → List ℕ → List ℕ) (u : C × ℕ) → Counts sealed u [] [] u
unfolding gctr counter_block with_stream
counts_none sealed u = record { same = refl; made = refl; next = refl }

pub counts_on : {C : Type 0} (sealed : C → List ℕ → List ℕ) (u v w : C × ℕ) (a b made_a made_b : List ℕ) → length a % 16 ≡ 0
    → Counts sealed u a made_a v → Counts sealed v b made_b w → Counts sealed u (a ++ b) (made_a ++ made_b) w
counts_on {C} sealed u v w a b made_a made_b whole first second =
    let blocks : length a / 16 + length b / 16 ≡ length (a ++ b) / 16 = omega (arith, length-append a b) in
    record {
      same = second.same ∙ first.same;
      made = ap₂ (λ (x y : List ℕ). x ++ y) first.made (second.made ∙ ap₂ (λ (c : C) (n : ℕ). gctr (sealed c) n b) first.same first.next)
          ∙ sym (gctr-append (sealed u.0) u.1 a b whole);
      next = second.next ∙ ap (λ (n : ℕ). counter_block n (length b / 16)) first.next
          ∙ counter_block-add u.1 (length a / 16) (length b / 16)
          ∙ ap (counter_block u.1) blocks;
    }

-- ---- the hash

pub hashes_none : {H : Type 0} (block : H → ℕ) (u : H × ℕ) → Hashes block u [] [] u
unfolding horner padded padded_blocks
hashes_none block u = record { same = refl; kept = refl; hash = refl; bytes = All-nil (λ x. x < 256) }

pub hashes_on : {H : Type 0} (block : H → ℕ) (u v w : H × ℕ) (a b made_a made_b : List ℕ) → length a % 16 ≡ 0
    → Hashes block u a made_a v → Hashes block v b made_b w → Hashes block u (a ++ b) (made_a ++ made_b) w
hashes_on {H} block u v w a b made_a made_b whole first second =
    record {
      same = second.same ∙ first.same;
      kept = ap₂ (λ (x y : List ℕ). x ++ y) first.kept second.kept;
      hash = second.hash ∙ ap₂ (λ (k : H) (y : ℕ). horner (block k) y (padded_blocks b)) first.same first.hash
          ∙ sym (horner-append (block u.0) u.1 (padded_blocks a) (padded_blocks b))
          ∙ ap (horner (block u.0) u.1) (sym (padded_blocks-append a b whole));
      bytes = All-append (λ x. x < 256) a b first.bytes second.bytes;
    }
