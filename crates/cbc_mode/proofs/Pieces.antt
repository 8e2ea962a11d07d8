-- A ciphertext in pieces: what is opened of a piece, behind the block before it, is what is opened of the whole there.
use Rattle.std.proofs.Common.{◌≡◌, ℕ, zero, suc, ◌+◌, ◌-◌, ◌*◌, ◌/◌, ◌≤◌, sym, ap, ap₂, ◌∙◌, arith, List, ◌++◌, length, take, drop, refl, add-suc, add-zero}
use Rattle.std.proofs.lemmas.Grind.{common_steps}
use Rattle.std.proofs.lemmas.List.{take-take, drop_all, drop-take, drop-drop, append-nil}
use borrow.Rule.Slice.PartMut.{put_mid}
use Rattle.std_defs.specs.Blocks.{xor_blocks, text_block, joined}
use Rattle.std_defs.specs.Modes.{cbc_before, cbc_plain_block}
use Rattle.std_defs.proofs.Joined.{joined_same, joined-add}
use Rattle.cbc_mode.proofs.InPlace.{unread, written}

-- a piece of m bytes that begins with block k
module _ (orig piece : List ℕ) (k m : ℕ) (is : piece ≡ take m (drop (16 * k) orig)) where
  pub block_of_piece : (j : ℕ) → 16 * j + 16 ≤ m → text_block piece j ≡ text_block orig (k + j)
  unfolding text_block
  block_of_piece j within =
      let rest : ℕ = m - 16 * j in
      let whole : m ≡ 16 * j + rest = omega arith in
      let place : 16 * k + 16 * j ≡ 16 * (k + j) = omega arith in
      ap (λ (xs : List ℕ). take 16 (drop (16 * j) xs)) (is ∙ ap (λ (n : ℕ). take n (drop (16 * k) orig)) whole)
      ∙ ap (take 16) (drop-take (16 * j) rest (drop (16 * k) orig))
      ∙ take-take 16 rest (drop (16 * j) (drop (16 * k) orig)) (omega arith)
      ∙ ap (take 16) (drop-drop (16 * j) (16 * k) orig ∙ ap (λ (n : ℕ). drop n orig) place)

  module _ (iv before : List ℕ) (was : before ≡ cbc_before iv orig k) where
    pub before_of_piece : (j : ℕ) → 16 * j ≤ m → cbc_before before piece j ≡ cbc_before iv orig (k + j)
    unfolding cbc_before
    before_of_piece zero within = was ∙ ap (cbc_before iv orig) (sym (add-zero k))
    before_of_piece (suc j) within = block_of_piece j (omega arith) ∙ ap (cbc_before iv orig) (sym (add-suc k j))

    plain_of_piece : (u : List ℕ → List ℕ) (j : ℕ) → 16 * j + 16 ≤ m → cbc_plain_block u before piece j ≡ cbc_plain_block u iv orig (k + j)
    unfolding cbc_plain_block
    plain_of_piece u j within = ap₂ (λ (c p : List ℕ). xor_blocks (u c) p) (block_of_piece j within) (before_of_piece j (omega arith))

    pub opened_of_piece : (u : List ℕ → List ℕ) (n : ℕ) → 16 * n ≤ m → joined (cbc_plain_block u before piece) n ≡ joined (λ j. cbc_plain_block u iv orig (k + j)) n
    opened_of_piece u n within = joined_same (cbc_plain_block u before piece) (λ j. cbc_plain_block u iv orig (k + j)) n (λ j h. plain_of_piece u j (omega arith))

put-length : (xs ys : List ℕ) (a k : ℕ) → a + k ≤ length xs → length ys ≡ k → length (put_mid a k xs ys) ≡ length xs
put-length xs ys a k within long = grind (arith, common_steps)

-- a text whose first k blocks are opened
pub record Opened (u : List ℕ → List ℕ) (iv orig now before : List ℕ) (k : ℕ) : Type 0 where
  pub made : now ≡ joined (cbc_plain_block u iv orig) k ++ drop (16 * k) orig
  pub long : length now ≡ length orig
  pub last : before ≡ cbc_before iv orig k

pub opened_none : (u : List ℕ → List ℕ) (iv orig : List ℕ) → Opened u iv orig orig iv 0
unfolding joined cbc_before
opened_none u iv orig = record { made = refl; long = refl; last = refl }

-- a piece of n blocks is opened behind them
module _ (u : List ℕ → List ℕ) (iv orig now before piece new : List ℕ) (a k n m : ℕ) (o : Opened u iv orig now before k) (place : a ≡ 16 * k) (whole : m ≡ 16 * n) (within : a + m ≤ length orig)
    (is : piece ≡ take m (drop a now)) (e : new ≡ joined (cbc_plain_block u before piece) n) where
  made_at : now ≡ joined (cbc_plain_block u iv orig) k ++ drop a orig
  made_at = o.made ∙ ap (λ (b : ℕ). joined (cbc_plain_block u iv orig) k ++ drop b orig) (sym place)

  piece_is : piece ≡ take m (drop (16 * k) orig)
  piece_is = is ∙ ap (take m) (unread orig now (joined (cbc_plain_block u iv orig) k) a m made_at o.long within ∙ ap (λ (b : ℕ). drop b orig) place)

  more_made : put_mid a m now new ≡ joined (cbc_plain_block u iv orig) (k + n) ++ drop (16 * (k + n)) orig
  more_made =
      written orig now (joined (cbc_plain_block u iv orig) k) a m made_at o.long within new m (16 * (k + n)) refl (omega arith)
      ∙ ap (λ (xs : List ℕ). xs ++ drop (16 * (k + n)) orig)
      (ap (λ (xs : List ℕ). joined (cbc_plain_block u iv orig) k ++ xs) (e ∙ opened_of_piece orig piece k m piece_is iv before o.last u n (omega arith))
      ∙ sym (joined-add (cbc_plain_block u iv orig) k n))

  pub opened_more : (last : List ℕ) (k' : ℕ) → last ≡ cbc_before before piece n → length new ≡ m → k' ≡ k + n → Opened u iv orig (put_mid a m now new) last k'
  opened_more last k' f long_new to = record {
    made = more_made ∙ ap (λ (i : ℕ). joined (cbc_plain_block u iv orig) i ++ drop (16 * i) orig) (sym to);
    long = put-length now new a m (omega (arith, o.long)) long_new ∙ o.long;
    last = f ∙ before_of_piece orig piece k m piece_is iv before o.last n (omega arith) ∙ ap (cbc_before iv orig) (sym to);
  }

  pub opened_all : 16 * (k + n) ≡ length orig → put_mid a m now new ≡ joined (cbc_plain_block u iv orig) (length orig / 16)
  opened_all all =
      let past : length orig ≤ 16 * (k + n) = omega arith in
      let count : k + n ≡ length orig / 16 = omega arith in
      more_made ∙ rw (drop_all (16 * (k + n)) orig past, append-nil (joined (cbc_plain_block u iv orig) (k + n)), count) refl
