-- The blocks of padded bytes, one after another, and GHASH over them.
use Rattle.std.proofs.Common.{◌≡◌, ℕ, zero, ◌+◌, ◌-◌, ◌*◌, ◌/◌, ◌%◌, ◌^◌, ◌<◌, ◌≤◌, sym, ap, ap₂, ◌∙◌, arith, List, [], ◌∷◌, ◌++◌, length, get_or, replicate, take, drop, bit_xor, All, length-append, length-take, ⊎_elim}
use Rattle.std.specs.Int.{div_ceil}
use Rattle.std.specs.List.{range_with_len}
use Rattle.std.proofs.lemmas.Bool.{cases_lt}
use Rattle.std.proofs.lemmas.Grind.{common_steps}
use Rattle.std.proofs.lemmas.List.{length-replicate, get_or_past}
use Rattle.std.proofs.lemmas.List.Elements.{All-map, All-from_get_or}
use Rattle.std.proofs.lemmas.List.FromFn.{length-map-range_with_len, take-map-range_with_len, map-range_with_len_more}
use Rattle.std_defs.specs.Blocks.{block_number, text_block}
use Rattle.std_defs.specs.Gcm.{padded, padded_blocks}
use Rattle.std_defs.specs.GhashField.{field_product}
use Rattle.std_defs.proofs.FieldBytes.{block_number-same, block_number-lt}
use Rattle.std_defs.proofs.Horner.{horner, horner-append}

zero_beyond : (n j : ℕ) → get_or (replicate n zero) j zero ≡ zero
zero_beyond n j = grind (arith, common_steps)

with_zeros : (ys : List ℕ) (n m i : ℕ) → get_or (ys ++ drop n (replicate m zero)) i zero ≡ get_or ys i zero
with_zeros ys n m i = grind (arith, common_steps, zero_beyond)

padded-at : (bytes : List ℕ) (i : ℕ) → get_or (padded bytes) i zero ≡ get_or bytes i zero
unfolding padded
padded-at bytes i = grind (arith, common_steps, zero_beyond)

in_part : (xs : List ℕ) (n a j : ℕ) → j < n → get_or (take n (drop a xs)) j zero ≡ get_or xs (a + j) zero
in_part xs n a j h = grind (arith, common_steps)

text_block-at : (text : List ℕ) (i j : ℕ) → j < 16 → get_or (text_block text i) j zero ≡ get_or text (16 * i + j) zero
unfolding text_block
text_block-at text i j h = in_part text 16 (16 * i) j h

rest-at : (text : List ℕ) (a n j : ℕ) → n ≤ length text - a → j < n → get_or (take n (take (length text - a) (drop a text))) j zero ≡ get_or text (a + j) zero
rest-at text a n j short h = grind (arith, common_steps)

rest-beyond : (text : List ℕ) (a n j : ℕ) → n ≤ j → get_or (take n (take (length text - a) (drop a text))) j zero ≡ zero
rest-beyond text a n j h = grind (arith, common_steps)

pub rest-length : (text : List ℕ) (a : ℕ) → length (take (length text - a) (drop a text)) ≡ length text - a
rest-length text a = grind (arith, common_steps)

-- the first n bytes from place 16 * i on, where these are 16 or all that there are
rest_block : (text ys : List ℕ) (i n m : ℕ) → ys ≡ take n (take (length text - 16 * i) (drop (16 * i) text))
    → n ≤ length text - 16 * i → (n < 16 → length text - 16 * i ≤ n)
    → (j : ℕ) → j < 16 → get_or (ys ++ drop n (replicate m zero)) j zero ≡ get_or (text_block text i) j zero
rest_block text ys i n m is short whole j below =
    with_zeros ys n m j
    ∙ ap (λ (t : List ℕ). get_or t j zero) is
    ∙ ⊎_elim
    (λ (h : j < n). rest-at text (16 * i) n j short h)
    (λ (h : n ≤ j).
    let all : length text - 16 * i ≤ n = whole (omega arith) in
    let past : length text ≤ 16 * i + j = omega arith in
    rest-beyond text (16 * i) n j h ∙ sym (get_or_past text (16 * i + j) zero past))
    (cases_lt j n)
    ∙ sym (text_block-at text i j below)

pub block_number-rest : (text ys : List ℕ) (i n m : ℕ) → ys ≡ take n (take (length text - 16 * i) (drop (16 * i) text))
    → n ≤ length text - 16 * i → (n < 16 → length text - 16 * i ≤ n)
    → block_number (ys ++ drop n (replicate m zero)) ≡ block_number (text_block text i)
block_number-rest text ys i n m is short whole =
    block_number-same (ys ++ drop n (replicate m zero)) (text_block text i) (rest_block text ys i n m is short whole)

-- a block of the text has the zeros behind it without being told
padded_block : (bytes : List ℕ) (i : ℕ) → block_number (text_block bytes i) ≡ block_number (text_block (padded bytes) i)
padded_block bytes i =
    block_number-same (text_block bytes i) (text_block (padded bytes) i)
    (λ j h. text_block-at bytes i j h ∙ sym (padded-at bytes (16 * i + j)) ∙ sym (text_block-at (padded bytes) i j h))

whole_blocks : (n : ℕ) → (n + (16 - n % 16) % 16) / 16 ≡ div_ceil n 16
whole_blocks n = omega arith

padded-length : (bytes : List ℕ) → length (padded bytes) / 16 ≡ div_ceil (length bytes) 16
unfolding padded
padded-length bytes = simp (length-append, length-replicate) (whole_blocks (length bytes))

pub padded_blocks-length : (bytes : List ℕ) → length (padded_blocks bytes) ≡ div_ceil (length bytes) 16
unfolding padded_blocks
padded_blocks-length bytes =
    length-map-range_with_len (λ i. block_number (text_block (padded bytes) i)) 0 (length (padded bytes) / 16) ∙ padded-length bytes

padded_blocks-more : (bytes : List ℕ) (i : ℕ) → i < div_ceil (length bytes) 16
    → take (i + 1) (padded_blocks bytes) ≡ take i (padded_blocks bytes) ++ block_number (text_block (padded bytes) i) ∷ []
unfolding padded_blocks
padded_blocks-more bytes i h =
    let within : i < length (padded bytes) / 16 = rw (padded-length bytes) h in
    take-map-range_with_len f 0 (length (padded bytes) / 16) (i + 1) (omega arith)
    ∙ map-range_with_len_more f 0 i i (omega arith)
    ∙ ap (λ (t : List ℕ). t ++ f i ∷ []) (sym (take-map-range_with_len f 0 (length (padded bytes) / 16) i (omega arith)))
  where
    f : ℕ → ℕ
    f i = block_number (text_block (padded bytes) i)

-- Horner's form over one block more
pub horner_more : (h y z : ℕ) (bytes : List ℕ) (i : ℕ) → i < div_ceil (length bytes) 16
    → z ≡ horner h y (take i (padded_blocks bytes))
    → field_product (bit_xor z (block_number (text_block bytes i))) h ≡ horner h y (take (i + 1) (padded_blocks bytes))
unfolding horner
horner_more h y z bytes i within so_far =
    ap₂ (λ (a b : ℕ). field_product (bit_xor a b) h) so_far (padded_block bytes i)
    ∙ sym (horner-append h y (take i (padded_blocks bytes)) (block_number (text_block (padded bytes) i) ∷ []))
    ∙ ap (horner h y) (sym (padded_blocks-more bytes i within))

small_part : (xs : List ℕ) (i : ℕ) → ((j : ℕ) → get_or xs j zero < 256) → (j : ℕ) → get_or (text_block xs i) j zero < 256
unfolding text_block
small_part xs i small j =
    ⊎_elim
    (λ (h : j < 16). rw (text_block-at xs i j h) (small (16 * i + j)))
    (λ (h : 16 ≤ j). rw (get_or_past (take 16 (drop (16 * i) xs)) j zero (omega (arith, length-take 16 (drop (16 * i) xs)))) (omega arith))
    (cases_lt j 16)

pub padded_blocks-fit : (bytes : List ℕ) → ((i : ℕ) → get_or bytes i zero < 256) → All (λ b. b < 2 ^ 128) (padded_blocks bytes)
unfolding padded_blocks
padded_blocks-fit bytes small =
    All-map (λ b. b < 2 ^ 128) (λ i. block_number (text_block (padded bytes) i)) (range_with_len 0 (length (padded bytes) / 16))
    (All-from_get_or (λ i. block_number (text_block (padded bytes) i) < 2 ^ 128) (range_with_len 0 (length (padded bytes) / 16)) 0
    (λ i h. block_number-lt (text_block (padded bytes) (get_or (range_with_len 0 (length (padded bytes) / 16)) i 0))
    (small_part (padded bytes) (get_or (range_with_len 0 (length (padded bytes) / 16)) i 0) (λ j. rw (padded-at bytes j) (small j)))))
