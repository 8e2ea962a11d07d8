-- bytes in pieces: where the first has whole blocks, the blocks of both are those of the one and then those of the
-- other
use Rattle.std.specs.Prelude.{◌≡◌, ℕ, ◌+◌, ◌-◌, ◌*◌, ◌/◌, ◌%◌, ◌<◌, ◌≤◌, List, ◌++◌, length, take, drop, map, replicate}
use Rattle.std.specs.List.{range_with_len}
use Rattle.std.proofs.Common.{sym, ap, ap₂, ◌∙◌, arith, ⊎_elim, zero-add, append_assoc, append-nil, length-append, length-drop}
use Rattle.std.proofs.Math.Seq.{drop-append-add, drop-append-le, take-append-le}
use Rattle.std.proofs.lemmas.Bool.{cases_lt}
use Rattle.std.proofs.lemmas.List.{get_or_append_left, get_or-append_right}
use Rattle.std.proofs.lemmas.List.FromFn.{fill_by_all, get_or-map-range_with_len, length-map-range_with_len}
use Rattle.std_defs.specs.Blocks.{block_number, text_block}
use Rattle.std_defs.specs.Gcm.{padded, padded_blocks}

-- a row in two parts
row-append : (f g h : ℕ → ℕ) (m n : ℕ) → ((i : ℕ) → i < m → f i ≡ h i) → ((i : ℕ) → g i ≡ h (m + i))
    → map h (range_with_len 0 (m + n)) ≡ map f (range_with_len 0 m) ++ map g (range_with_len 0 n)
row-append f g h m n front behind =
    sym (fill_by_all h (map f (range_with_len 0 m) ++ map g (range_with_len 0 n)) (m + n) 0
    (length-append (map f (range_with_len 0 m)) (map g (range_with_len 0 n)) ∙ ap₂ (λ (i j : ℕ). i + j) (length-map-range_with_len f 0 m) (length-map-range_with_len g 0 n))
    (λ k within. ⊎_elim
    (λ (l : k < m).
    get_or_append_left (map f (range_with_len 0 m)) (map g (range_with_len 0 n)) 0 k (omega (arith, length-map-range_with_len f 0 m))
    ∙ get_or-map-range_with_len f 0 m k k 0 l (zero-add k) ∙ front k l)
    (λ (l : m ≤ k).
    let place : m + (k - m) ≡ k = omega arith in
    get_or-append_right (map f (range_with_len 0 m)) (map g (range_with_len 0 n)) m k 0 (length-map-range_with_len f 0 m) l
    ∙ get_or-map-range_with_len g 0 n (k - m) (k - m) 0 (omega arith) (zero-add (k - m)) ∙ behind (k - m) ∙ ap h place)
    (cases_lt k m)))

module _ (a b : List ℕ) (n : ℕ) (long : length a ≡ 16 * n) where
  block_in_first : (j : ℕ) → j < n → text_block a j ≡ text_block (a ++ b) j
  unfolding text_block
  block_in_first j h =
      sym (ap (take 16) (drop-append-le (16 * j) a b (omega arith)) ∙ take-append-le 16 (drop (16 * j) a) b (omega (arith, length-drop (16 * j) a)))

  block_in_second : (j : ℕ) → text_block b j ≡ text_block (a ++ b) (n + j)
  unfolding text_block
  block_in_second j =
      let place : 16 * (n + j) ≡ length a + 16 * j = omega arith in
      sym (ap (λ (k : ℕ). take 16 (drop k (a ++ b))) place ∙ ap (take 16) (drop-append-add a b (16 * j)))

pub padded-whole : (a : List ℕ) → length a % 16 ≡ 0 → padded a ≡ a
unfolding padded
padded-whole a whole =
    let none : (16 - length a % 16) % 16 ≡ 0 = omega arith in
    ap (λ (n : ℕ). a ++ replicate n 0) none ∙ append-nil a

padded-append : (a b : List ℕ) → length a % 16 ≡ 0 → padded (a ++ b) ≡ a ++ padded b
unfolding padded
padded-append a b whole =
    let same : (16 - length (a ++ b) % 16) % 16 ≡ (16 - length b % 16) % 16 = omega (arith, length-append a b) in
    ap (λ (n : ℕ). a ++ b ++ replicate n 0) same ∙ append_assoc a b (replicate ((16 - length b % 16) % 16) 0)

pub padded_blocks-append : (a b : List ℕ) → length a % 16 ≡ 0 → padded_blocks (a ++ b) ≡ padded_blocks a ++ padded_blocks b
unfolding padded_blocks
padded_blocks-append a b whole =
    let n : ℕ = length a / 16 in
    let rest : List ℕ = padded b in
    let long : length a ≡ 16 * (length a / 16) = omega arith in
    let count : length (a ++ padded b) / 16 ≡ length a / 16 + length (padded b) / 16 = omega (arith, length-append a (padded b)) in
    ap (λ (t : List ℕ). map (λ i. block_number (text_block t i)) (range_with_len 0 (length t / 16))) (padded-append a b whole)
    ∙ ap (λ (k : ℕ). map (λ i. block_number (text_block (a ++ padded b) i)) (range_with_len 0 k)) count
    ∙ row-append (λ i. block_number (text_block a i)) (λ i. block_number (text_block (padded b) i)) (λ i. block_number (text_block (a ++ padded b) i)) n (length (padded b) / 16)
    (λ i h. ap block_number (block_in_first a rest n long i h)) (λ i. ap block_number (block_in_second a rest n long i))
    ∙ ap (λ (t : List ℕ). map (λ i. block_number (text_block t i)) (range_with_len 0 (length t / 16)) ++ map (λ i. block_number (text_block (padded b) i)) (range_with_len 0 (length (padded b) / 16)))
    (sym (padded-whole a whole))
