-- CMAC of a text whose first blocks were taken into the chain before.
use Rattle.std.proofs.Common.{◌≡◌, ℕ, suc, ◌+◌, ◌-◌, ◌*◌, ◌/◌, ◌<◌, ◌≤◌, sym, ap, ap₂, ◌∙◌, arith, List, ◌++◌, length, take, drop, replicate, get_or, bit_xor, append_assoc, length-append, length-drop}
use Rattle.std.specs.Int.Bits.{xor_zero_l}
use Rattle.std.proofs.lemmas.List.{take_all, take-append-le, drop-append-le, drop_at, drop-drop, length-take-le, get_or-replicate}
use Rattle.std_defs.specs.Blocks.{xor_blocks, text_block}
use Rattle.std_defs.specs.Cmac.{chained, cmac, cmac_last, zero_block}
use Rattle.std_defs.proofs.Joined.{text_block-piece, xor_blocks-length, xor_blocks_is}
use Rattle.perdoaze_calls.proofs.Answering.{front_is}

block_front : (xs ys : List ℕ) (j : ℕ) → 16 * j + 16 ≤ length xs → text_block (xs ++ ys) j ≡ text_block xs j
unfolding text_block
block_front xs ys j within =
    ap (take 16) (drop-append-le (16 * j) xs ys (omega arith)) ∙ take-append-le 16 (drop (16 * j) xs) ys (omega (arith, length-drop (16 * j) xs))

-- block j of those that were gathered from block n on
pub gathered_block : (text window rest : List ℕ) (n k j : ℕ) → j < k → 16 * (n + k) ≤ length text → window ≡ take (16 * k) (drop (16 * n) text) ++ rest
    → text_block window j ≡ text_block text (n + j)
gathered_block text window rest n k j below within is =
    let long : length (take (16 * k) (drop (16 * n) text)) ≡ 16 * k = length-take-le (16 * k) (drop (16 * n) text) (omega (arith, length-drop (16 * n) text)) in
    ap (λ (t : List ℕ). text_block t j) is ∙ block_front (take (16 * k) (drop (16 * n) text)) rest j (omega (arith, long)) ∙ text_block-piece text n k j below

-- a block more is taken into the chain
pub chained_more : (f : List ℕ → List ℕ) (text chain block sum new : List ℕ) (n j : ℕ) → chain ≡ chained f zero_block text (n + j) → block ≡ text_block text (n + j)
    → sum ≡ xor_blocks chain block → new ≡ f sum → new ≡ chained f zero_block text (n + (j + 1))
unfolding chained
chained_more f text chain block sum new n j is of added made =
    let next : suc (n + j) ≡ n + (j + 1) = omega arith in
    made ∙ ap f (added ∙ ap₂ xor_blocks is of) ∙ ap (chained f zero_block text) next

zero_added : (a b : List ℕ) → xor_blocks zero_block (xor_blocks a b) ≡ xor_blocks a b
zero_added a b =
    let x : List ℕ = xor_blocks a b in
    sym (xor_blocks_is zero_block x x (xor_blocks-length a b)
    (λ k below. sym (xor_zero_l (get_or x k 0)) ∙ ap (λ (z : ℕ). bit_xor z (get_or x k 0)) (sym (get_or-replicate 16 k 0 0 below))))

cmac_at : (f : List ℕ → List ℕ) (message : List ℕ) (n : ℕ) → (length message - 1) / 16 ≡ n
    → cmac f message ≡ f (xor_blocks (chained f zero_block message n) (cmac_last f (drop (16 * n) message)))
unfolding cmac
cmac_at f message n e = ap (λ (k : ℕ). f (xor_blocks (chained f zero_block message k) (cmac_last f (drop (16 * k) message)))) e

-- of two blocks, of which the second may be partial
cmac_two : (f : List ℕ → List ℕ) (a b tail : List ℕ) → 0 < length tail → length tail ≤ 16
    → cmac f (xor_blocks a b ++ tail) ≡ f (xor_blocks (f (xor_blocks a b)) (cmac_last f tail))
unfolding chained text_block
cmac_two f a b tail some few =
    let x : List ℕ = xor_blocks a b in
    let long : length x ≡ 16 = xor_blocks-length a b in
    let first : take 16 (x ++ tail) ≡ x = take-append-le 16 x tail (omega (arith, long)) ∙ take_all 16 x (omega (arith, long)) in
    cmac_at f (x ++ tail) 1 (omega (arith, length-append x tail, long))
    ∙ ap₂ (λ (c t : List ℕ). f (xor_blocks (f c) (cmac_last f t))) (ap (xor_blocks zero_block) first ∙ zero_added a b) (drop_at x tail 16 long)

-- the MAC of the last 17 to 32 bytes with the chain added to the first block is that of the whole
pub cmac_of_last : (f : List ℕ → List ℕ) (text chain last sum made : List ℕ) (n count left : ℕ) → n ≡ length text → 32 < n → count ≡ (n - 17) / 16 → left ≡ n - 16 * count
    → chain ≡ chained f zero_block text count → last ≡ take left (drop (16 * count) text) ++ drop left (replicate 32 0)
    → sum ≡ xor_blocks chain (text_block last 0) ++ drop 16 last → made ≡ cmac f (take left sum) → made ≡ cmac f text
unfolding chained text_block
cmac_of_last f text chain last sum made n count left size many counted rest is_chain is_last is_sum is_made =
    let r : List ℕ = drop (16 * count) text in
    let z : List ℕ = drop left (replicate 32 0) in
    let x : List ℕ = xor_blocks chain (take 16 r) in
    let long : length r ≡ left = omega (arith, length-drop (16 * count) text) in
    let least : 17 ≤ left = omega arith in
    let most : left ≤ 32 = omega arith in
    let whole : last ≡ r ++ z = is_last ∙ ap (λ (t : List ℕ). t ++ z) (take_all left r (omega (arith, long))) in
    let first : take 16 last ≡ take 16 r = ap (take 16) whole ∙ take-append-le 16 r z (omega (arith, long)) in
    let behind : drop 16 last ≡ drop 16 r ++ z = ap (drop 16) whole ∙ drop-append-le 16 r z (omega (arith, long)) in
    let summed : sum ≡ (x ++ drop 16 r) ++ z =
    is_sum ∙ ap₂ (λ (b t : List ℕ). xor_blocks chain b ++ t) first behind ∙ sym (append_assoc x (drop 16 r) z) in
    let size_is : length (x ++ drop 16 r) ≡ left = omega (arith, length-append x (drop 16 r), xor_blocks-length chain (take 16 r), length-drop 16 r, long) in
    let taken : take left sum ≡ x ++ drop 16 r = ap (take left) summed ∙ front_is (x ++ drop 16 r) (replicate 32 0) left size_is in
    let next : (length text - 1) / 16 ≡ suc count = omega arith in
    let tail : drop 16 r ≡ drop (16 * suc count) text = drop-drop 16 (16 * count) text ∙ ap (λ (k : ℕ). drop k text) (let e : 16 * count + 16 ≡ 16 * suc count = omega arith in e) in
    is_made ∙ ap (cmac f) taken
    ∙ cmac_two f chain (take 16 r) (drop 16 r) (omega (arith, length-drop 16 r, long)) (omega (arith, length-drop 16 r, long))
    ∙ ap₂ (λ (c t : List ℕ). f (xor_blocks (f (xor_blocks c (take 16 r))) (cmac_last f t))) is_chain tail
    ∙ sym (cmac_at f text (suc count) next)
