-- A text that is sealed block by block, and a chain that goes on behind its first blocks.
use Rattle.in_step.specs.Texts.{text_in, blocks_of, Sealed}
use Rattle.std.proofs.Common.{◌≡◌, ◌≢◌, Some, ◌%◌, get_or, ℕ, zero, suc, ◌+◌, ◌*◌, ◌/◌, ◌<◌, ◌≤◌, sym, ap, ap₂, ◌∙◌, arith, List, [], ◌++◌, length, map, take, drop, refl, add-one, add-suc, add-zero, length-append, length-drop, length-take, set, slice_index_or}
use Rattle.std.proofs.Math.Seq.{take-append_seam, drop-append_seam}
use Rattle.std.proofs.lemmas.List.{drop-drop, get_or-map, get_or-set_other, get_or-set_same, length-map, map-set}
use Rattle.std_defs.specs.Blocks.{xor_blocks, text_block, joined}
use Rattle.std_defs.specs.Modes.{cbc_block, cbc_seal}
use Rattle.std_defs.proofs.Joined.{joined_same}
use Rattle.cbc_mode.proofs.InPlace.{next_block, unread}
use Rattle.cbc_mode.proofs.Pieces.{block_of_piece}

pub sealed_none : (s : List ℕ → List ℕ) (iv orig : List ℕ) → Sealed s iv orig orig 0
unfolding joined
sealed_none s iv orig = record { made = refl; long = refl }

joined_one : (f : ℕ → List ℕ) (k : ℕ) (block : List ℕ) → block ≡ f k → joined f k ++ block ≡ joined f (k + 1)
unfolding joined
joined_one f k block e = rw add-one (ap (λ (b : List ℕ). joined f k ++ b) e)

-- a block more
pub sealed_more : (s : List ℕ → List ℕ) (iv orig now new block : List ℕ) (k : ℕ) → Sealed s iv orig now k → 16 * k + 16 ≤ length orig → block ≡ cbc_block s iv orig (suc k)
    → length new ≡ length now → new ≡ take (16 * k) now ++ block ++ drop (16 * k + 16) now → Sealed s iv orig new (k + 1)
sealed_more s iv orig now new block k held within is same e =
    let f : ℕ → List ℕ = blocks_of s iv orig in
    let rest : List ℕ = drop (16 * k) orig in
    let made-length : length (joined f k) ≡ 16 * k = omega (arith, ap length held.made, length-append (joined f k) rest, length-drop (16 * k) orig, held.long) in
    let place : 16 * k + 16 ≡ 16 * (k + 1) = omega arith in
    let front : take (16 * k) now ≡ joined f k = ap (take (16 * k)) held.made ∙ ap (λ (a : ℕ). take a (joined f k ++ rest)) (sym made-length) ∙ take-append_seam (joined f k) rest in
    let back : drop (16 * k + 16) now ≡ drop (16 * (k + 1)) orig =
    sym (drop-drop 16 (16 * k) now) ∙ ap (drop 16) (unread orig now (joined f k) (16 * k) 16 held.made held.long within) ∙ drop-drop 16 (16 * k) orig ∙ ap (λ (a : ℕ). drop a orig) place in
    record {
      made = e ∙ ap₂ (λ (a b : List ℕ). a ++ block ++ b) front back ∙ ap (λ (xs : List ℕ). xs ++ drop (16 * (k + 1)) orig) (joined_one f k block is);
      long = same ∙ held.long;
    }

-- nothing more
pub sealed_kept : (s : List ℕ → List ℕ) (iv orig now new : List ℕ) (k next : ℕ) → Sealed s iv orig now k → new ≡ now → next ≡ k → Sealed s iv orig new next
sealed_kept s iv orig now new k next held e same = record {
  made = e ∙ held.made ∙ ap (λ (j : ℕ). joined (blocks_of s iv orig) j ++ drop (16 * j) orig) (sym same);
  long = ap length e ∙ held.long;
}

-- the next block is still the original
pub sealed_next : (s : List ℕ → List ℕ) (iv orig now : List ℕ) (k : ℕ) → Sealed s iv orig now k → 16 * k + 16 ≤ length orig → text_block now k ≡ text_block orig k
sealed_next s iv orig now k held within = next_block orig now (blocks_of s iv orig) k held.made held.long within

-- a piece of m bytes behind the first k blocks, under the last block of these
module _ (s : List ℕ → List ℕ) (iv orig piece chain : List ℕ) (k m : ℕ) (is : piece ≡ take m (drop (16 * k) orig)) (was : chain ≡ cbc_block s iv orig k) where
  chain_of_piece : (j : ℕ) → 16 * j ≤ m → cbc_block s chain piece j ≡ cbc_block s iv orig (k + j)
  unfolding cbc_block
  chain_of_piece zero within = was ∙ ap (cbc_block s iv orig) (sym (add-zero k))
  chain_of_piece (suc j) within =
      ap s (ap₂ xor_blocks (block_of_piece orig piece k m is j (omega arith)) (chain_of_piece j (omega arith))) ∙ ap (cbc_block s iv orig) (sym (add-suc k j))

  pub sealed_of_piece : (n : ℕ) → 16 * n ≤ m → joined (blocks_of s chain piece) n ≡ joined (λ j. blocks_of s iv orig (k + j)) n
  sealed_of_piece n within =
      joined_same (blocks_of s chain piece) (λ j. blocks_of s iv orig (k + j)) n (λ j h. chain_of_piece (suc j) (omega arith) ∙ ap (cbc_block s iv orig) (add-suc k j))

plain : (j : ℕ) → 0 + j ≡ j
plain j = omega arith

-- no block yet
pub begun : (s : List ℕ → List ℕ) (iv orig : List ℕ) → iv ≡ cbc_block s iv orig 0
unfolding cbc_block
begun s iv orig = refl

-- the blocks of a text's front
pub of_front : (s : List ℕ → List ℕ) (iv orig : List ℕ) (n m : ℕ) → 16 * n ≤ m → joined (blocks_of s iv orig) n ≡ joined (blocks_of s iv (take m orig)) n
of_front s iv orig n m within =
    sym (sealed_of_piece s iv orig (take m orig) iv 0 m refl (begun s iv orig) n within
    ∙ joined_same (λ j. blocks_of s iv orig (0 + j)) (blocks_of s iv orig) n (λ j below. ap (blocks_of s iv orig) (plain j)))

-- ---- eight texts

module _ {A : Type 0} (of : A → List ℕ) (texts : List A) (n : ℕ) where
  -- the text of a lane
  pub text_at : (d : A) → n < length texts → of (get_or texts n d) ≡ text_in of texts n
  text_at d lt = sym (get_or-map of texts n d [] lt)

  -- a text that took the place of another
  pub text_set : (t : A) → n < length texts → text_in of (set texts n t) n ≡ of t
  text_set t lt =
      ap (λ (ts : List (List ℕ)). slice_index_or ts n []) (map-set of texts n t)
      ∙ get_or-set_same (map of texts) n (of t) [] (omega (arith, length-map texts of))

  pub text_others : (k : ℕ) (t : A) → k ≢ n → text_in of (set texts n t) k ≡ text_in of texts k
  text_others k t other =
      ap (λ (ts : List (List ℕ)). slice_index_or ts k []) (map-set of texts n t) ∙ get_or-set_other (map of texts) n k (of t) [] other

-- ---- the first bytes of a text, sealed

pub whole : (s : List ℕ → List ℕ) (iv text : List ℕ) → length text % 16 ≡ 0 → cbc_seal s iv text ≡ Some (joined (blocks_of s iv text) (length text / 16))
whole s iv text e = rw e refl

-- behind the first k blocks, which are len bytes
module _ (s : List ℕ → List ℕ) (iv orig new : List ℕ) (k len : ℕ) (is : len ≡ 16 * k) (within : len ≤ length orig) (held : Sealed s iv orig new k) where
  made : new ≡ joined (blocks_of s iv orig) k ++ drop len orig
  made = held.made ∙ ap (λ (a : ℕ). joined (blocks_of s iv orig) k ++ drop a orig) (sym is)

  made-length : length (joined (blocks_of s iv orig) k) ≡ len
  made-length = omega (arith, held.long, ap length made, length-append (joined (blocks_of s iv orig) k) (drop len orig), length-drop len orig)

  front : take len new ≡ joined (blocks_of s iv orig) k
  front = ap (take len) made ∙ ap (λ (a : ℕ). take a (joined (blocks_of s iv orig) k ++ drop len orig)) (sym made-length) ∙ take-append_seam (joined (blocks_of s iv orig) k) (drop len orig)

  pub front_sealed : cbc_seal s iv (take len orig) ≡ Some (take len new)
  front_sealed =
      let count : length (take len orig) ≡ 16 * k = omega (arith, length-take len orig) in
      let blocks : length (take len orig) / 16 ≡ k = omega (arith, length-take len orig) in
      whole s iv (take len orig) (omega (arith, length-take len orig))
      ∙ ap (λ (b : List ℕ). Some b) (ap (joined (blocks_of s iv (take len orig))) blocks ∙ sym (of_front s iv orig k len (omega arith)) ∙ sym front)

  pub rest_kept : drop len new ≡ drop len orig
  rest_kept = ap (drop len) made ∙ ap (λ (a : ℕ). drop a (joined (blocks_of s iv orig) k ++ drop len orig)) (sym made-length) ∙ drop-append_seam (joined (blocks_of s iv orig) k) (drop len orig)
