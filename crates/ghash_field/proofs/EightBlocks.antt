-- Horner's form over blocks of a text that are taken several at a time.
use Rattle.std.proofs.Common.{◌≡◌, ℕ, zero, suc, ◌+◌, ◌-◌, ◌*◌, ◌^◌, ◌<◌, ◌≤◌, bit_xor, refl, sym, ap, ap₂, ◌∙◌, arith, List, [], ◌∷◌, get_or, take, drop, length, All}
use Rattle.std.specs.Int.{div_ceil}
use Rattle.std.specs.Int.Bits.{xor_zero_r, xor_assoc}
use Rattle.std.proofs.lemmas.List.{take_all, take-take, drop-take}
use Rattle.std.proofs.lemmas.Grind.{common_steps}
use Rattle.std_defs.specs.Blocks.{block_number, text_block}
use Rattle.std_defs.specs.Gcm.{padded_blocks}
use Rattle.std_defs.specs.GhashField.{field_product, field_power, ghash}
use Rattle.std_defs.proofs.Field.{field_product-xor_left, field_power-lt}
use Rattle.std_defs.proofs.Horner.{horner, horner-ghash}
use Rattle.std_defs.proofs.PaddedBlocks.{horner_more, padded_blocks-length}
use Rattle.std_defs.proofs.FieldBytes.{block_number-lt}
use Rattle.ghash_field.specs.ByteRows.{sum_of_eight}
use Rattle.ghash_field.proofs.MovedOn.{AreSmall, small_take}
use Rattle.ghash_field.proofs.LaneRows.{first_field_power}

-- the numbers of n blocks from block m on
unfoldable pub numbers : List ℕ → ℕ → ℕ → List ℕ
numbers text m zero = []
numbers text m (suc n) = block_number (text_block text m) ∷ numbers text (m + 1) n

pub numbers-on : (h y z : ℕ) (text : List ℕ) (m n : ℕ) → m + n ≤ div_ceil (length text) 16 → z ≡ horner h y (take m (padded_blocks text))
    → horner h z (numbers text m n) ≡ horner h y (take (m + n) (padded_blocks text))
unfolding numbers horner
numbers-on h y z text m zero room e = e ∙ ap (λ (t : ℕ). horner h y (take t (padded_blocks text))) (let e : m ≡ m + 0 = omega arith in e)
numbers-on h y z text m (suc n) room e =
    numbers-on h y (field_product (bit_xor z (block_number (text_block text m))) h) text (m + 1) n (omega arith) (horner_more h y z text m (omega arith) e)
    ∙ ap (λ (t : ℕ). horner h y (take t (padded_blocks text))) (let e : m + 1 + n ≡ m + suc n = omega arith in e)

numbers-same : (n : ℕ) (s t : List ℕ) (m k : ℕ) → ((j : ℕ) → j < n → text_block s (m + j) ≡ text_block t (k + j)) → numbers s m n ≡ numbers t k n
unfolding numbers
numbers-same zero s t m k same = refl
numbers-same (suc n) s t m k same =
    ap₂ (λ (a : ℕ) (b : List ℕ). a ∷ b)
    (ap block_number (ap (text_block s) (let e : m ≡ m + 0 = omega arith in e) ∙ same 0 (omega arith) ∙ ap (text_block t) (let e : k + 0 ≡ k = omega arith in e)))
    (numbers-same n s t (m + 1) (k + 1) (λ j h.
    ap (text_block s) (let e : m + 1 + j ≡ m + suc j = omega arith in e) ∙ same (suc j) (omega arith) ∙ ap (text_block t) (let e : k + suc j ≡ k + 1 + j = omega arith in e)))

pub all_eight : (h y : ℕ) (eight : List ℕ) → length eight ≡ 128 → horner h y (numbers eight 0 8) ≡ horner h y (padded_blocks eight)
unfolding horner
all_eight h y eight long =
    numbers-on h y y eight 0 8 (room (length eight) long) refl
    ∙ ap (horner h y) (take_all 8 (padded_blocks eight) (omega (arith, padded_blocks-length eight, count (length eight) long)))
  where
    count : (n : ℕ) → n ≡ 128 → div_ceil n 16 ≡ 8
    count n e = omega arith

    room : (n : ℕ) → n ≡ 128 → 0 + 8 ≤ div_ceil n 16
    room n e = omega arith

drop-drop : (a m : ℕ) (xs : List ℕ) → drop m (drop a xs) ≡ drop (a + m) xs
drop-drop a m xs = grind (arith, common_steps)

inner : (m n : ℕ) (xs : List ℕ) → m + 16 ≤ n → take 16 (drop m (take n xs)) ≡ take 16 (drop m xs)
inner m n xs l =
    ap (λ (t : ℕ). take 16 (drop m (take t xs))) (let e : n ≡ m + (n - m) = omega arith in e)
    ∙ ap (take 16) (drop-take m (n - m) xs) ∙ take-take 16 (n - m) (drop m xs) (omega arith)

part_of : (a j : ℕ) (text : List ℕ) → 16 * j + 16 ≤ 128 → take 16 (drop (16 * j) (take 128 (drop a text))) ≡ take 16 (drop (a + 16 * j) text)
part_of a j text h = inner (16 * j) 128 (drop a text) h ∙ ap (take 16) (drop-drop a (16 * j) text)

-- eight blocks more
pub eight_more : (h y z : ℕ) (text eight : List ℕ) (i : ℕ) → 128 * i + 128 ≤ length text → eight ≡ take 128 (drop (128 * i) text) → length eight ≡ 128
    → z ≡ horner h y (take (8 * i) (padded_blocks text))
    → horner h z (padded_blocks eight) ≡ horner h y (take (8 * (i + 1)) (padded_blocks text))
unfolding text_block
eight_more h y z text eight i room is long e =
    sym (all_eight h z eight long)
    ∙ ap (horner h z) (numbers-same 8 eight text 0 (8 * i) (λ j l.
    ap (λ (v : List ℕ). take 16 (drop (16 * (0 + j)) v)) is
    ∙ ap (λ (n : ℕ). take 16 (drop n (take 128 (drop (128 * i) text)))) (let e : 16 * (0 + j) ≡ 16 * j = omega arith in e)
    ∙ part_of (128 * i) j text (omega arith)
    ∙ ap (λ (n : ℕ). take 16 (drop n text)) (let e : 128 * i + 16 * j ≡ 16 * (8 * i + j) = omega arith in e)))
    ∙ numbers-on h y z text (8 * i) 8 (within (length text) i room) e
    ∙ ap (λ (t : ℕ). horner h y (take t (padded_blocks text))) (let e : 8 * i + 8 ≡ 8 * (i + 1) = omega arith in e)
  where
    within : (n i : ℕ) → 128 * i + 128 ≤ n → 8 * i + 8 ≤ div_ceil n 16
    within n i l = omega arith

-- ---- eight turns, as a sum of products by powers

drop_at : (n i : ℕ) (xs : List ℕ) → get_or (drop n xs) i zero ≡ get_or xs (n + i) zero
drop_at n i xs = grind (arith, common_steps)

small_block : (text : List ℕ) (m : ℕ) → AreSmall text → AreSmall (text_block text m)
unfolding text_block
small_block text m small = small_take 16 (drop (16 * m) text) (λ i. rw (drop_at (16 * m) i text) (small (16 * m + i)))

number_lt : (text : List ℕ) (m : ℕ) → AreSmall text → block_number (text_block text m) < 2 ^ 128
number_lt text m small = block_number-lt (text_block text m) (small_block text m small)

numbers-fit : (text : List ℕ) → AreSmall text → (m n : ℕ) → All (λ b. b < 2 ^ 128) (numbers text m n)
unfolding numbers
numbers-fit text small m zero i d l = absurd (omega arith)
numbers-fit text small m (suc n) zero d l = number_lt text m small
numbers-fit text small m (suc n) (suc i) d l = numbers-fit text small (m + 1) n i d (omega arith)

four : (e f g h : ℕ) → bit_xor e (bit_xor f (bit_xor g (bit_xor h 0))) ≡ bit_xor (bit_xor e f) (bit_xor g h)
four e f g h = ap (λ (t : ℕ). bit_xor e (bit_xor f (bit_xor g t))) (xor_zero_r h) ∙ sym (xor_assoc e f (bit_xor g h))

regrouped : (y a b c d e f g h : ℕ) → bit_xor y (bit_xor a (bit_xor b (bit_xor c (bit_xor d (bit_xor e (bit_xor f (bit_xor g (bit_xor h 0)))))))) ≡ sum_of_eight (bit_xor y a) b c d e f g h
regrouped y a b c d e f g h =
    ap (λ (t : ℕ). bit_xor y (bit_xor a (bit_xor b (bit_xor c (bit_xor d t))))) (four e f g h)
    ∙ sym (xor_assoc y a (bit_xor b (bit_xor c (bit_xor d t))))
    ∙ sym (xor_assoc (bit_xor y a) b (bit_xor c (bit_xor d t)))
    ∙ ap (bit_xor (bit_xor (bit_xor y a) b)) (sym (xor_assoc c d t))
    ∙ sym (xor_assoc (bit_xor (bit_xor y a) b) (bit_xor c d) t)
  where
    t : ℕ
    t = bit_xor (bit_xor e f) (bit_xor g h)

-- the sum of the products of eight blocks of a text, of which the first has y added, and powers
pub eight_products : (h y p2 p3 p4 p5 p6 p7 p8 : ℕ) (text : List ℕ) → h < 2 ^ 128 → y < 2 ^ 128 → AreSmall text → length text ≡ 128
    → p2 ≡ field_power h 2 → p3 ≡ field_power h 3 → p4 ≡ field_power h 4 → p5 ≡ field_power h 5 → p6 ≡ field_power h 6 → p7 ≡ field_power h 7 → p8 ≡ field_power h 8
    → sum_of_eight
    (field_product (bit_xor y (block_number (text_block text 0))) p8) (field_product (block_number (text_block text 1)) p7) (field_product (block_number (text_block text 2)) p6) (field_product (block_number (text_block text 3)) p5)
    (field_product (block_number (text_block text 4)) p4) (field_product (block_number (text_block text 5)) p3) (field_product (block_number (text_block text 6)) p2) (field_product (block_number (text_block text 7)) h)
    ≡ horner h y (padded_blocks text)
unfolding numbers ghash
eight_products h y p2 p3 p4 p5 p6 p7 p8 text fits below small long e2 e3 e4 e5 e6 e7 e8 =
    ap₂ bit_xor
    (ap₂ bit_xor (ap₂ bit_xor (ap (field_product (bit_xor y (B 0))) e8 ∙ field_product-xor_left y (B 0) (field_power h 8) below (number_lt text 0 small) (field_power-lt h 8)) (ap (field_product (B 1)) e7)) (ap₂ bit_xor (ap (field_product (B 2)) e6) (ap (field_product (B 3)) e5)))
    (ap₂ bit_xor (ap₂ bit_xor (ap (field_product (B 4)) e4) (ap (field_product (B 5)) e3)) (ap₂ bit_xor (ap (field_product (B 6)) e2) (ap (field_product (B 7)) (first_field_power h fits))))
    ∙ sym (regrouped (field_product y (field_power h 8)) (field_product (B 0) (field_power h 8)) (field_product (B 1) (field_power h 7)) (field_product (B 2) (field_power h 6)) (field_product (B 3) (field_power h 5))
    (field_product (B 4) (field_power h 4)) (field_product (B 5) (field_power h 3)) (field_product (B 6) (field_power h 2)) (field_product (B 7) (field_power h 1)))
    ∙ sym (horner-ghash h y (numbers text 0 8) fits below (numbers-fit text small 0 8))
    ∙ all_eight h y text long
  where
    B : ℕ → ℕ
    B j = block_number (text_block text j)

pub eight_count : (n : ℕ) → n ≡ 128 → div_ceil n 16 ≡ 8
eight_count n e = omega arith

long : (n a : ℕ) (xs : List ℕ) → a + n ≤ length xs → length (take n (drop a xs)) ≡ n
long n a xs h = grind (arith, common_steps)

-- what a slice of 128 bytes is
pub part_is : (i : ℕ) (text : List ℕ) → take (128 * i + 128 - 128 * i) (drop (128 * i) text) ≡ take 128 (drop (128 * i) text)
part_is i text = ap (λ (n : ℕ). take n (drop (128 * i) text)) (let e : 128 * i + 128 - 128 * i ≡ 128 = omega arith in e)

pub part_long : (i : ℕ) (text : List ℕ) → 128 * i + 128 ≤ length text → length (take (128 * i + 128 - 128 * i) (drop (128 * i) text)) ≡ 128
part_long i text h = ap length (part_is i text) ∙ long 128 (128 * i) text (omega arith)
