-- The hash value behind the blocks of a text.
use Rattle.std.proofs.Common.{◌≡◌, ℕ, zero, suc, ◌+◌, ◌-◌, ◌*◌, ◌/◌, ◌≤◌, List, ◌++◌, length, take, drop, refl, ap, ◌∙◌, add-one, add-zero, arith}
use Rattle.std.proofs.lemmas.List.{take-take, drop-take, drop-drop, take-append-le, drop-append-le, length-drop, take_all}
use Rattle.sha2.specs.Sha256.{compress, hash_after}
use Rattle.sha_lanes.specs.Lanes.{block_at}

-- no block yet
pub none : (h p : List ℕ) → h ≡ hash_after h p 0
unfolding hash_after
none h p = refl

-- a block more
pub next : (h p : List ℕ) (n : ℕ) → hash_after h p (n + 1) ≡ compress (hash_after h p n) (block_at p n)
unfolding hash_after
next h p n = rw add-one refl

-- the block at a place that is counted in bytes
pub block_from : (p : List ℕ) (n a k : ℕ) → a ≡ 64 * n → k ≡ 64 → take k (drop a p) ≡ block_at p n
block_from p n a k ea ek =
    let place : a ≡ n * 64 = omega arith in
    rw (ek, place) refl

-- ---- of a text and of its parts

block_of_front : (p : List ℕ) (m n : ℕ) → (n + 1) * 64 ≤ m → block_at (take m p) n ≡ block_at p n
block_of_front p m n le =
    let parted : m ≡ n * 64 + (m - n * 64) = omega arith in
    ap (λ (k : ℕ). take 64 (drop (n * 64) (take k p))) parted ∙ ap (take 64) (drop-take (n * 64) (m - n * 64) p) ∙ take-take 64 (m - n * 64) (drop (n * 64) p) (omega arith)

-- a text's first blocks are those of its front
pub of_front : (h p : List ℕ) (m n : ℕ) → n * 64 ≤ m → hash_after h (take m p) n ≡ hash_after h p n
unfolding hash_after
of_front h p m zero le = refl
of_front h p m (suc n) le =
    rw (block_of_front p m n (omega arith), of_front h p m n (omega arith)) refl

pub block_before : (p x : List ℕ) (n : ℕ) → (n + 1) * 64 ≤ length p → block_at (p ++ x) n ≡ block_at p n
block_before p x n le =
    rw (drop-append-le (n * 64) p x (omega arith)) (take-append-le 64 (drop (n * 64) p) x (omega (arith, length-drop (n * 64) p)))

-- what stands behind a text changes no block of it
pub before : (h p x : List ℕ) (n : ℕ) → n * 64 ≤ length p → hash_after h (p ++ x) n ≡ hash_after h p n
unfolding hash_after
before h p x zero le = refl
before h p x (suc n) le =
    rw (block_before p x n (omega arith), before h p x n (omega arith)) refl

-- the rest of a text is hashed behind its first n blocks
pub of_rest : (h p : List ℕ) (n k : ℕ) → hash_after (hash_after h p n) (drop (n * 64) p) k ≡ hash_after h p (n + k)
unfolding hash_after
of_rest h p n zero = rw add-zero refl
of_rest h p n (suc k) =
    let place : n * 64 + k * 64 ≡ (n + k) * 64 = omega arith in
    let block : block_at (drop (n * 64) p) k ≡ block_at p (n + k) = ap (take 64) (drop-drop (k * 64) (n * 64) p ∙ ap (λ (a : ℕ). drop a p) place) in
    let one : n + suc k ≡ suc (n + k) = omega arith in
    rw (one, block, of_rest h p n k) refl

-- a copy of a text, with something behind it
pub of_copy : (h p x : List ℕ) {q : List ℕ} → q ≡ p → hash_after h (q ++ x) (length p / 64) ≡ hash_after h p (length p / 64)
of_copy h p x {q} e = ap (λ (q : List ℕ). hash_after h (q ++ x) (length p / 64)) e ∙ before h p x (length p / 64) (omega arith)

-- ---- eight blocks at a time

pub batch : (h p : List ℕ) (i a k : ℕ) {s : List ℕ} → s ≡ hash_after h p (8 * i) → a ≡ 512 * i → k ≡ 512 → hash_after s (take k (drop a p)) 8 ≡ hash_after h p (8 * (i + 1))
batch h p i a k held ea ek =
    let place : a ≡ 8 * i * 64 = omega arith in
    let all : 8 * i + 8 ≡ 8 * (i + 1) = omega arith in
    rw held (of_front (hash_after h p (8 * i)) (drop a p) k 8 (omega arith))
    ∙ ap (λ (a : ℕ). hash_after (hash_after h p (8 * i)) (drop a p) 8) place ∙ of_rest h p (8 * i) 8 ∙ ap (hash_after h p) all

pub last_batch : (h p : List ℕ) (i a k : ℕ) {s : List ℕ} → s ≡ hash_after h p (8 * i) → a ≡ 512 * i → k ≡ length p - a → 512 * i ≤ length p
    → hash_after s (take k (drop a p)) (length (take k (drop a p)) / 64) ≡ hash_after h p (length p / 64)
last_batch h p i a k held ea ek le =
    let rest : take k (drop a p) ≡ drop a p = take_all k (drop a p) (omega (arith, length-drop a p)) in
    let place : a ≡ 8 * i * 64 = omega arith in
    let all : 8 * i + length (drop a p) / 64 ≡ length p / 64 = omega (arith, length-drop a p) in
    rw (rest, held) (ap (λ (b : ℕ). hash_after (hash_after h p (8 * i)) (drop b p) (length (drop a p) / 64)) place)
    ∙ of_rest h p (8 * i) (length (drop a p) / 64) ∙ ap (hash_after h p) all
