-- The chain over texts that stand one behind the other, and over a text with zeros behind it.
use Rattle.std.proofs.Common.{◌≡◌, ℕ, zero, suc, ◌+◌, ◌-◌, ◌*◌, ◌/◌, ◌%◌, ◌<◌, ◌≤◌, refl, sym, ap, ap₂, ◌∙◌, arith, List, ◌++◌, length, take, drop, replicate, add-zero, add-suc, length-append, length-drop}
use Rattle.std.proofs.lemmas.List.{take_all, take-append-le, drop-append-le, drop_at, append-nil, length-replicate, drop-drop}
use Rattle.std_defs.specs.Blocks.{xor_blocks, text_block}
use Rattle.std_defs.specs.Cmac.{chained}
use Rattle.std_defs.specs.Gcm.{padded}

chained_same : (f : List ℕ → List ℕ) (s xs ys : List ℕ) (n : ℕ) → ((j : ℕ) → j < n → text_block xs j ≡ text_block ys j) → chained f s xs n ≡ chained f s ys n
unfolding chained
chained_same f s xs ys zero same = refl
chained_same f s xs ys (suc n) same =
    ap₂ (λ (c b : List ℕ). f (xor_blocks c b)) (chained_same f s xs ys n (λ j below. same j (omega arith))) (same n (omega arith))

text_block-front : (xs ys : List ℕ) (j : ℕ) → 16 * j + 16 ≤ length xs → text_block (xs ++ ys) j ≡ text_block xs j
unfolding text_block
text_block-front xs ys j within =
    ap (take 16) (drop-append-le (16 * j) xs ys (omega arith)) ∙ take-append-le 16 (drop (16 * j) xs) ys (omega (arith, length-drop (16 * j) xs))

text_block-behind : (xs ys : List ℕ) (n j : ℕ) → length xs ≡ 16 * n → text_block (xs ++ ys) (n + j) ≡ text_block ys j
unfolding text_block
text_block-behind xs ys n j long =
    let place : 16 * (n + j) ≡ 16 * n + 16 * j = omega arith in
    ap (take 16) (ap (λ (k : ℕ). drop k (xs ++ ys)) place ∙ sym (drop-drop (16 * j) (16 * n) (xs ++ ys)) ∙ ap (drop (16 * j)) (drop_at xs ys (16 * n) long))

pub chained-front : (f : List ℕ → List ℕ) (s xs ys : List ℕ) (n : ℕ) → 16 * n ≤ length xs → chained f s (xs ++ ys) n ≡ chained f s xs n
chained-front f s xs ys n within = chained_same f s (xs ++ ys) xs n (λ j below. text_block-front xs ys j (omega arith))

pub chained-append : (f : List ℕ → List ℕ) (s xs ys : List ℕ) (n m : ℕ) → length xs ≡ 16 * n → chained f s (xs ++ ys) (n + m) ≡ chained f (chained f s xs n) ys m
unfolding chained
chained-append f s xs ys n zero long = ap (chained f s (xs ++ ys)) (add-zero n) ∙ chained-front f s xs ys n (omega arith)
chained-append f s xs ys n (suc m) long =
    ap (chained f s (xs ++ ys)) (add-suc n m)
    ∙ ap₂ (λ (c b : List ℕ). f (xor_blocks c b)) (chained-append f s xs ys n m long) (text_block-behind xs ys n m long)

pub chained-one : (f : List ℕ → List ℕ) (s block : List ℕ) → length block ≡ 16 → chained f s block 1 ≡ f (xor_blocks s block)
unfolding chained text_block
chained-one f s block long = ap (λ (b : List ℕ). f (xor_blocks s b)) (take_all 16 block (omega arith))

-- ---- zeros behind a text

pub padded-whole : (xs : List ℕ) → length xs % 16 ≡ 0 → padded xs ≡ xs
unfolding padded
padded-whole xs whole =
    let none : (16 - length xs % 16) % 16 ≡ 0 = omega arith in
    ap (λ (k : ℕ). xs ++ replicate k 0) none ∙ append-nil xs

pub padded-partial : (xs : List ℕ) → 0 < length xs % 16 → padded xs ≡ xs ++ replicate (16 - length xs % 16) 0
unfolding padded
padded-partial xs partial =
    let some : (16 - length xs % 16) % 16 ≡ 16 - length xs % 16 = omega arith in
    ap (λ (k : ℕ). xs ++ replicate k 0) some

pub padded-length : (xs : List ℕ) → length (padded xs) % 16 ≡ 0
unfolding padded
padded-length xs = omega (arith, length-append xs (replicate ((16 - length xs % 16) % 16) 0), length-replicate {A = ℕ} ((16 - length xs % 16) % 16) 0)

-- a text of whole blocks
pub chained_whole : (f : List ℕ → List ℕ) (s chain xs : List ℕ) (n : ℕ) → length xs % 16 ≡ 0 → n ≡ length xs / 16 → chain ≡ chained f s xs n
    → chain ≡ chained f s (padded xs) (length (padded xs) / 16)
chained_whole f s chain xs n whole at is =
    is ∙ ap (chained f s xs) at ∙ sym (ap (λ (t : List ℕ). chained f s t (length t / 16)) (padded-whole xs whole))

-- and another, whose last block is filled
pub chained_partial : (f : List ℕ → List ℕ) (s chain last new xs : List ℕ) (n w : ℕ) → 0 < length xs % 16 → n ≡ length xs / 16 → chain ≡ chained f s xs n
    → w ≡ length xs - 16 * n → last ≡ take w (drop (16 * n) xs) ++ replicate (16 - length (take w (drop (16 * n) xs))) 0 → new ≡ f (xor_blocks chain last)
    → new ≡ chained f s (padded xs) (length (padded xs) / 16)
unfolding chained text_block
chained_partial f s chain last new xs n w partial at is wide is_last is_new =
    let z : List ℕ = replicate (16 - length xs % 16) 0 in
    let zeros : length z ≡ 16 - length xs % 16 = length-replicate {A = ℕ} (16 - length xs % 16) 0 in
    let long : length (xs ++ z) ≡ 16 * suc n = omega (arith, length-append xs z) in
    let count : length (xs ++ z) / 16 ≡ suc n = omega arith in
    let rest : length (drop (16 * n) xs) ≡ length xs % 16 = omega (arith, length-drop (16 * n) xs) in
    let tail : drop (16 * n) (xs ++ z) ≡ drop (16 * n) xs ++ z = drop-append-le (16 * n) xs z (omega arith) in
    let block : last ≡ take 16 (drop (16 * n) (xs ++ z)) =
    is_last ∙ ap (λ (t : List ℕ). t ++ replicate (16 - length t) 0) (take_all w (drop (16 * n) xs) (omega arith))
    ∙ ap (λ (k : ℕ). drop (16 * n) xs ++ replicate (16 - k) 0) rest ∙ sym tail
    ∙ sym (take_all 16 (drop (16 * n) (xs ++ z)) (omega (arith, length-drop (16 * n) (xs ++ z)))) in
    is_new ∙ ap₂ (λ (c b : List ℕ). f (xor_blocks c b)) (is ∙ sym (chained-front f s xs z n (omega arith))) block
    ∙ ap (chained f s (xs ++ z)) (sym count)
    ∙ sym (ap (λ (t : List ℕ). chained f s t (length t / 16)) (padded-partial xs partial))
