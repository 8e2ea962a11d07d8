-- Horner's form of GHASH gives the sum of powers.
use Rattle.std.proofs.Common.{◌≡◌, ℕ, suc, ◌+◌, ◌^◌, ◌<◌, bit_xor, refl, sym, ap, ◌∙◌, arith, List, [], ◌∷◌, ◌++◌, length, All, lit<}
use Rattle.std.specs.Int.Bits.{xor_zero_r, xor_assoc, xor_lt}
use Rattle.std.proofs.lemmas.List.Elements.{All-head, All-tail, All-append, All-push}
use Rattle.std_defs.specs.GhashField.{field_product, field_power, field_one, ghash}
use Rattle.std_defs.proofs.Field.{field_product-assoc, field_product-xor_left, field_product-comm, field_product-one, field_product-zero, field_product-lt, field_power-lt}

-- the block y carried on over blocks: each is added, and the sum is multiplied by h
unfoldable pub horner : ℕ → ℕ → List ℕ → ℕ
horner h y [] = y
horner h y (block ∷ blocks) = horner h (field_product (bit_xor y block) h) blocks

pub horner-append : (h y : ℕ) (xs ys : List ℕ) → horner h y (xs ++ ys) ≡ horner h (horner h y xs) ys
unfolding horner
horner-append h y [] ys = refl
horner-append h y (x ∷ xs) ys = horner-append h (field_product (bit_xor y x) h) xs ys

-- y times h to the number of blocks, and GHASH of the blocks
pub horner-ghash : (h y : ℕ) (blocks : List ℕ) → h < 2 ^ 128 → y < 2 ^ 128 → All (λ b. b < 2 ^ 128) blocks
    → horner h y blocks ≡ bit_xor (field_product y (field_power h (length blocks))) (ghash h blocks)
unfolding horner ghash field_power
horner-ghash h y [] hh hy all = sym (xor_zero_r (field_product y field_one) ∙ field_product-one y hy)
horner-ghash h y (b ∷ bs) hh hy all =
    let first : b < 2 ^ 128 = All-head (λ b. b < 2 ^ 128) b bs all in
    let rest : All (λ b. b < 2 ^ 128) bs = All-tail (λ b. b < 2 ^ 128) b bs all in
    horner-ghash h (field_product (bit_xor y b) h) bs hh (field_product-lt (bit_xor y b) h) rest
    ∙ ap (λ (t : ℕ). bit_xor t (ghash h bs))
    (field_product-assoc (bit_xor y b) h (field_power h (length bs)) (xor_lt 128 y b hy first) hh (field_power-lt h (length bs))
    ∙ field_product-xor_left y b (field_power h (suc (length bs))) hy first (field_power-lt h (suc (length bs))))
    ∙ xor_assoc (field_product y (field_power h (suc (length bs)))) (field_product b (field_power h (suc (length bs)))) (ghash h bs)
    ∙ ap (λ (t : ℕ). bit_xor (field_product y (field_power h (suc (length bs)))) (bit_xor (field_product b (field_power h t)) (ghash h bs)))
    (let e : suc (length bs) ≡ length bs + 1 = omega arith in e)

-- GHASH by Horner's form, from the block of zeros
pub horner-is_ghash : (h : ℕ) (blocks : List ℕ) → h < 2 ^ 128 → All (λ b. b < 2 ^ 128) blocks → horner h 0 blocks ≡ ghash h blocks
horner-is_ghash h blocks hh all =
    horner-ghash h 0 blocks hh (lit< tt) all
    ∙ ap (λ (t : ℕ). bit_xor t (ghash h blocks)) (field_product-comm 0 (field_power h (length blocks)) (lit< tt) (field_power-lt h (length blocks)) ∙ field_product-zero (field_power h (length blocks)))

-- more blocks behind
pub ghash-append : (h : ℕ) (xs ys : List ℕ) → h < 2 ^ 128 → All (λ b. b < 2 ^ 128) xs → All (λ b. b < 2 ^ 128) ys
    → horner h (ghash h xs) ys ≡ ghash h (xs ++ ys)
ghash-append h xs ys hh all_x all_y =
    ap (λ (t : ℕ). horner h t ys) (sym (horner-is_ghash h xs hh all_x))
    ∙ sym (horner-append h 0 xs ys)
    ∙ horner-is_ghash h (xs ++ ys) hh (All-append (λ b. b < 2 ^ 128) xs ys all_x all_y)

-- one more block behind
pub ghash-push : (h : ℕ) (xs : List ℕ) (b : ℕ) → h < 2 ^ 128 → All (λ b. b < 2 ^ 128) xs → b < 2 ^ 128
    → field_product (bit_xor (ghash h xs) b) h ≡ ghash h (xs ++ b ∷ [])
unfolding horner
ghash-push h xs b hh all_x below = ghash-append h xs (b ∷ []) hh all_x (All-push (λ b. b < 2 ^ 128) [] b (λ i d l. absurd (omega arith)) below)
