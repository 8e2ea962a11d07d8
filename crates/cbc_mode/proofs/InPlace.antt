-- A text whose first blocks are made, and whose rest is still the original.
use Rattle.std.proofs.Common.{◌≡◌, ℕ, suc, ◌+◌, ◌-◌, ◌*◌, ◌/◌, ◌%◌, ◌≤◌, ap, ◌∙◌, arith, List, ◌++◌, length, take, drop, refl, length-append, length-drop, add-one}
use Rattle.std.proofs.lemmas.Grind.{common_steps}
use Rattle.std.proofs.Math.Seq.{drop-append_seam}
use Rattle.std.proofs.lemmas.List.{drop_all, append-nil}
use borrow.Rule.Slice.PartMut.{put_mid}
use Rattle.std_defs.specs.Blocks.{text_block, joined}

-- the part from place a, of k elements, is written
part : (a k : ℕ) (x y z w : List ℕ) → length x ≡ a → length z ≡ k → put_mid a k (x ++ (z ++ w)) y ≡ x ++ y ++ w
part a k x y z w long_x long_z = grind (arith, common_steps)

module _ (orig text made : List ℕ) (a n : ℕ) (is : text ≡ made ++ drop a orig) (long : length text ≡ length orig) (within : a + n ≤ length orig) where
  made-length : length made ≡ a
  made-length = omega (arith, ap length is, length-append made (drop a orig), length-drop a orig)

  pub unread : drop a text ≡ drop a orig
  unread = rw (is, ← made-length) (drop-append_seam made (drop (length made) orig))

  pub written : (new : List ℕ) (k b : ℕ) → k ≡ n → b ≡ a + n → put_mid a k text new ≡ (made ++ new) ++ drop b orig
  written new k b is_n next = grind (arith, common_steps, made-length, part, is)

-- i blocks are made
module _ (orig text : List ℕ) (blocks : ℕ → List ℕ) (i : ℕ) (is : text ≡ joined blocks i ++ drop (16 * i) orig) (long : length text ≡ length orig) where
  -- the next is still the original
  pub next_block : 16 * i + 16 ≤ length orig → text_block text i ≡ text_block orig i
  unfolding text_block
  next_block within = ap (take 16) (unread orig text (joined blocks i) (16 * i) 16 is long within)

  -- and is made
  pub one_more : (block : List ℕ) → block ≡ blocks i → 16 * i + 16 ≤ length orig
      → put_mid (16 * i) (16 * i + 16 - 16 * i) text block ≡ joined blocks (i + 1) ++ drop (16 * (i + 1)) orig
  unfolding joined
  one_more block made within =
      rw add-one
      (written orig text (joined blocks i) (16 * i) 16 is long within block (16 * i + 16 - 16 * i) (16 * suc i) (omega arith) (omega arith)
      ∙ ap (λ (b : List ℕ). (joined blocks i ++ b) ++ drop (16 * suc i) orig) made)

  -- at the end all are made
  pub all_made : length orig % 16 ≡ 0 → length orig / 16 ≤ i → i ≤ length orig / 16 → text ≡ joined blocks (length orig / 16)
  all_made whole far near =
      let at_end : i ≡ length orig / 16 = omega arith in
      let past : length orig ≤ 16 * i = omega arith in
      is ∙ rw (drop_all (16 * i) orig past, append-nil (joined blocks i), at_end) refl
