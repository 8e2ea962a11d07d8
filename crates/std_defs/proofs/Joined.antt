-- Laws of blocks that stand one behind the other, and of a text whose first blocks are made and whose rest is the
-- original.
use Rattle.std.proofs.Common.{◌≡◌, ℕ, zero, suc, ◌+◌, ◌-◌, ◌*◌, ◌<◌, ◌≤◌, refl, sym, ap, ap₂, ◌∙◌, arith, ⊎_elim, List, ◌++◌, length, take, drop, get_or, bit_xor, zero-add, add-zero, add-suc, append_assoc, length-append, length-take, length-drop}
use Rattle.std.specs.Prelude.{slice_index, All}
use Rattle.std.specs.Int.Bits.{xor_assoc, xor_self, xor_zero_r}
use Rattle.std.proofs.Math.Seq.{take-add, drop-append_seam}
use Rattle.std.proofs.lemmas.Bool.{cases_lt}
use Rattle.std.proofs.lemmas.Grind.{common_steps}
use Rattle.std.proofs.lemmas.List.{take_all, take-take, take-append-drop, drop-take, drop-drop, append-nil, take-append-le}
use Rattle.std.proofs.lemmas.List.Elements.{All-take, All-drop}
use Rattle.std.proofs.lemmas.List.FromFn.{fill_by_all, get_or-map-range_with_len, length-map-range_with_len}
use borrow.Rule.Slice.PartMut.{put_mid}
use Rattle.std_defs.specs.Aes.{IsBlock}
use Rattle.std_defs.specs.Blocks.{xor_blocks, text_block, joined}
use Rattle.std_defs.proofs.Bytes.{bytes_from_all, block_of, xor_byte}

-- ---- joined blocks

pub length-joined : (blocks : ℕ → List ℕ) (n : ℕ) → ((j : ℕ) → j < n → length (blocks j) ≡ 16) → length (joined blocks n) ≡ 16 * n
unfolding joined
length-joined blocks zero long = refl
length-joined blocks (suc n) long =
    omega (arith, length-append (joined blocks n) (blocks n), length-joined blocks n (λ j below. long j (omega arith)), long n (omega arith))

pub joined_same : (f g : ℕ → List ℕ) (n : ℕ) → ((j : ℕ) → j < n → f j ≡ g j) → joined f n ≡ joined g n
unfolding joined
joined_same f g zero same = refl
joined_same f g (suc n) same = ap₂ (λ (xs ys : List ℕ). xs ++ ys) (joined_same f g n (λ j below. same j (omega arith))) (same n (omega arith))

-- n blocks and then k more
pub joined-add : (blocks : ℕ → List ℕ) (n k : ℕ) → joined blocks (n + k) ≡ joined blocks n ++ joined (λ j. blocks (n + j)) k
unfolding joined
joined-add blocks n zero = ap (joined blocks) (add-zero n) ∙ sym (append-nil (joined blocks n))
joined-add blocks n (suc k) =
    ap (joined blocks) (add-suc n k)
    ∙ ap (λ (xs : List ℕ). xs ++ blocks (n + k)) (joined-add blocks n k) ∙ append_assoc (joined blocks n) (joined (λ j. blocks (n + j)) k) (blocks (n + k))

-- block j of the first n, behind which anything may stand, is block j
pub text_block-joined : (blocks : ℕ → List ℕ) (rest : List ℕ) (n j : ℕ) → ((i : ℕ) → i < n → length (blocks i) ≡ 16) → j < n → text_block (joined blocks n ++ rest) j ≡ blocks j
unfolding joined text_block
text_block-joined blocks rest zero j long below = absurd (omega arith)
text_block-joined blocks rest (suc n) j long below =
    let shorter : (i : ℕ) → i < n → length (blocks i) ≡ 16 = λ i h. long i (omega arith) in
    let front : length (joined blocks n) ≡ 16 * n = length-joined blocks n shorter in
    ⊎_elim
    (λ (h : j < n). ap (λ (t : List ℕ). take 16 (drop (16 * j) t)) (append_assoc (joined blocks n) (blocks n) rest) ∙ text_block-joined blocks (blocks n ++ rest) n j shorter h)
    (λ (h : n ≤ j).
    let here : j ≡ n = omega arith in
    let seam : 16 * j ≡ length (joined blocks n) = omega arith in
    ap (λ (t : List ℕ). take 16 (drop (16 * j) t)) (append_assoc (joined blocks n) (blocks n) rest)
    ∙ ap (λ (k : ℕ). take 16 (drop k (joined blocks n ++ (blocks n ++ rest)))) seam
    ∙ ap (take 16) (drop-append_seam (joined blocks n) (blocks n ++ rest))
    ∙ take-append-le 16 (blocks n) rest (omega (arith, long n (omega arith)))
    ∙ take_all 16 (blocks n) (omega (arith, long n (omega arith)))
    ∙ ap blocks (sym here))
    (cases_lt j n)

-- what stands behind the first n blocks
pub drop-joined : (blocks : ℕ → List ℕ) (rest : List ℕ) (n : ℕ) → ((i : ℕ) → i < n → length (blocks i) ≡ 16) → drop (16 * n) (joined blocks n ++ rest) ≡ rest
drop-joined blocks rest n long =
    ap (λ (k : ℕ). drop k (joined blocks n ++ rest)) (sym (length-joined blocks n long)) ∙ drop-append_seam (joined blocks n) rest

-- the first n blocks of a text are its front
pub joined-text_block : (text : List ℕ) (n : ℕ) → joined (text_block text) n ≡ take (16 * n) text
unfolding joined text_block
joined-text_block text zero = refl
joined-text_block text (suc n) =
    ap (λ (front : List ℕ). front ++ take 16 (drop (16 * n) text)) (joined-text_block text n)
    ∙ sym (take-add (16 * n) 16 text)
    ∙ ap (λ (k : ℕ). take k text) (let e : 16 * n + 16 ≡ 16 * suc n = omega arith in e)

pub text_block-length : (text : List ℕ) (j : ℕ) → 16 * j + 16 ≤ length text → length (text_block text j) ≡ 16
unfolding text_block
text_block-length text j within = omega (arith, length-take 16 (drop (16 * j) text), length-drop (16 * j) text)

pub text_block-bytes : (text : List ℕ) (j : ℕ) → All (λ x. x < 256) text → All (λ x. x < 256) (text_block text j)
unfolding text_block
text_block-bytes text j of_text = All-take (λ x. x < 256) 16 (drop (16 * j) text) (All-drop (λ x. x < 256) (16 * j) text of_text)

-- ---- sums of blocks

pub xor_blocks-length : (a b : List ℕ) → length (xor_blocks a b) ≡ 16
unfolding xor_blocks
xor_blocks-length a b = length-map-range_with_len (λ i. bit_xor (slice_index a i) (slice_index b i)) 0 16

pub xor_blocks_is_block : (a b : List ℕ) → All (λ x. x < 256) a → All (λ x. x < 256) b → IsBlock (xor_blocks a b)
unfolding xor_blocks
xor_blocks_is_block a b of_a of_b =
    block_of (λ i. bit_xor (slice_index a i) (slice_index b i))
    (λ i. xor_byte (slice_index a i) (slice_index b i) ((bytes_from_all a of_a).at i) ((bytes_from_all b of_b).at i))

pub xor_blocks-twice : (a b : List ℕ) → length a ≡ 16 → xor_blocks (xor_blocks a b) b ≡ a
unfolding xor_blocks
xor_blocks-twice a b long =
    let undone : (k : ℕ) → k < 16 → get_or a k zero ≡ bit_xor (get_or (xor_blocks a b) k zero) (get_or b k zero) =
    λ k below. sym (ap (λ (x : ℕ). bit_xor x (get_or b k zero)) (get_or-map-range_with_len (λ i. bit_xor (get_or a i zero) (get_or b i zero)) 0 16 k k zero below (zero-add k))
    ∙ xor_assoc (get_or a k zero) (get_or b k zero) (get_or b k zero) ∙ ap (bit_xor (get_or a k zero)) (xor_self (get_or b k zero)) ∙ xor_zero_r (get_or a k zero)) in
    sym (fill_by_all (λ k. bit_xor (get_or (xor_blocks a b) k zero) (get_or b k zero)) a 16 zero long undone)

-- the text xored with the block in each place is their sum
pub xor_blocks_is : (a b new : List ℕ) → length new ≡ 16 → ((k : ℕ) → k < 16 → get_or new k zero ≡ bit_xor (get_or a k zero) (get_or b k zero)) → new ≡ xor_blocks a b
unfolding xor_blocks
xor_blocks_is a b new long each = fill_by_all (λ (k : ℕ). bit_xor (get_or a k 0) (get_or b k 0)) new 16 0 long each

-- ---- a text whose front is made, and whose rest is still the original

-- the part from place a, of k elements, is written
pub part : (a k : ℕ) (x y z w : List ℕ) → length x ≡ a → length z ≡ k → put_mid a k (x ++ (z ++ w)) y ≡ x ++ y ++ w
part a k x y z w long_x long_z = grind (arith, common_steps)

module _ (orig text made : List ℕ) (a : ℕ) (is : text ≡ made ++ drop a orig) (long : length text ≡ length orig) where
  made-length : a ≤ length orig → length made ≡ a
  made-length within = omega (arith, ap length is, length-append made (drop a orig), length-drop a orig)

  pub unread : a ≤ length orig → drop a text ≡ drop a orig
  unread within = rw (is, ← (made-length within)) (drop-append_seam made (drop (length made) orig))

  -- k more elements are made
  pub piece_made : (piece : List ℕ) (k b : ℕ) → a + k ≡ b → b ≤ length orig → put_mid a k text piece ≡ (made ++ piece) ++ drop b orig
  piece_made piece k b next within =
      let long_made : length made ≡ a = made-length (omega arith) in
      let long_piece : length (take k (drop a orig)) ≡ k = omega (arith, length-take k (drop a orig), length-drop a orig) in
      ap (λ (t : List ℕ). put_mid a k t piece) (is ∙ ap (λ (t : List ℕ). made ++ t) (sym (take-append-drop k (drop a orig))))
      ∙ part a k made piece (take k (drop a orig)) (drop k (drop a orig)) long_made long_piece
      ∙ ap (λ (t : List ℕ). (made ++ piece) ++ t) (drop-drop k a orig ∙ ap (λ (n : ℕ). drop n orig) next)

-- a text of which the first n blocks are made, and then k more
pub blocks_made : (blocks : ℕ → List ℕ) (orig text : List ℕ) (n k m a w : ℕ) (piece : List ℕ) → text ≡ joined blocks n ++ drop (16 * n) orig → length text ≡ length orig
    → a ≡ 16 * n → w ≡ 16 * k → m ≡ n + k → 16 * m ≤ length orig → piece ≡ joined (λ j. blocks (n + j)) k → put_mid a w text piece ≡ joined blocks m ++ drop (16 * m) orig
blocks_made blocks orig text n k m a w piece is long at wide next within made =
    ap₂ (λ (x y : ℕ). put_mid x y text piece) at wide
    ∙ piece_made orig text (joined blocks n) (16 * n) is long piece (16 * k) (16 * m) (omega arith) within
    ∙ ap (λ (t : List ℕ). t ++ drop (16 * m) orig)
    (ap (λ (t : List ℕ). joined blocks n ++ t) made ∙ sym (joined-add blocks n k) ∙ ap (joined blocks) (sym next))

-- one more
pub block_made : (blocks : ℕ → List ℕ) (orig text : List ℕ) (n : ℕ) (block : List ℕ) → text ≡ joined blocks n ++ drop (16 * n) orig → length text ≡ length orig
    → block ≡ blocks n → 16 * n + 16 ≤ length orig → put_mid (16 * n) (16 * n + 16 - 16 * n) text block ≡ joined blocks (n + 1) ++ drop (16 * (n + 1)) orig
unfolding joined
block_made blocks orig text n block is long made within =
    blocks_made blocks orig text n 1 (n + 1) (16 * n) (16 * n + 16 - 16 * n) block is long refl (omega arith) refl (omega arith)
    (made ∙ ap blocks (sym (add-zero n)))

-- block j of k blocks from the n-th on is block n + j
pub text_block-piece : (text : List ℕ) (n k j : ℕ) → j < k → text_block (take (16 * k) (drop (16 * n) text)) j ≡ text_block text (n + j)
unfolding text_block
text_block-piece text n k j below =
    let room : 16 * k ≡ 16 * j + (16 * k - 16 * j) = omega arith in
    ap (λ (w : ℕ). take 16 (drop (16 * j) (take w (drop (16 * n) text)))) room
    ∙ ap (take 16) (drop-take (16 * j) (16 * k - 16 * j) (drop (16 * n) text))
    ∙ take-take 16 (16 * k - 16 * j) (drop (16 * j) (drop (16 * n) text)) (omega arith)
    ∙ ap (take 16) (drop-drop (16 * j) (16 * n) text ∙ ap (λ (a : ℕ). drop a text) (let e : 16 * n + 16 * j ≡ 16 * (n + j) = omega arith in e))
