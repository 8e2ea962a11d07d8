-- rounds of eight blocks by rows
use Rattle.std.specs.Prelude.{◌≡◌, ℕ, zero, suc, ◌+◌, ◌-◌, ◌*◌, ◌/◌, ◌%◌, ◌<◌, ◌≤◌, List, [], ◌∷◌, ◌++◌, map, length, slice_index, slice_index_or, bit_xor, refl}
use Rattle.std.specs.List.{range_with_len}
use Rattle.std.specs.Int.Bits.{xor_zero_r}
use Rattle.std.proofs.Common.{sym, ◌∙◌, ap, ap₂, arith, subst, get_or, w8, Fits}
use Rattle.std.proofs.lemmas.List.{length-map, map-append}
use Rattle.std.proofs.lemmas.Nat.{xor_lt}
use Rattle.std.proofs.lemmas.Simd.{map-map, pick_l_whole}
use lib.Lanes.{zip2, Each1}
use Rattle.std_defs.specs.Aes.{product, remainder, mul8, mixed_byte, places, sbox, add_round_key, sub_bytes, shift_rows, mix_columns, after_rounds, key_schedule, seal}
use Rattle.std_defs.proofs.Mul8.{mul8-xor, xor_swap}
use Rattle.std_defs.proofs.Tables.{sbox-lt}
use Rattle.aes_block.specs.Schedule.{IsSchedule, key_of}
use Rattle.aes_block.proofs.Rounds.{sealing_more, sealed_all}
use Rattle.aes_block.specs.KeyBlock.{key_block}
use Rattle.aes_block.proofs.KeyBlocks.{first_key, block_long}
use Rattle.aes_block.proofs.EquivalentInverse.{row, row-xor}
use Rattle.aes_lanes.specs.Pairs.{each_half, blocks_of}
use Rattle.aes_lanes.specs.Places.{columns_on}
use Rattle.aes_lanes.specs.SealingTower.{tower_byte, less_sbox}
use Rattle.aes_lanes.specs.Rows.{block_from, eight_blocks, with_sealing_key}
use Rattle.aes_lanes.specs.RowKeys.{row_of, four_rows, less_constant}
use Rattle.aes_lanes.proofs.Transposed.{of_four, mapped_blocks}
use Rattle.aes_lanes.proofs.RowsMixed.{AreBytes, mixed_row}
use Rattle.aes_lanes.proofs.RowsUnsealed.{each_same, rows_keyed, front_rows, blocks_mapped, key_long}
use Rattle.aes_lanes.proofs.Sides.{each_half_of_map, blocks_of_each}
use Rattle.aes_lanes.proofs.SealingTerms.{tower_byte-lt}

-- ---- ShiftRows

pub all_shifted_rows : (g f : ℕ → ℕ) (a b c d : List ℕ) → length a ≡ 32 → length b ≡ 32 → length c ≡ 32 → length d ≡ 32
    → map (map g) (map (map f) (eight_blocks (a ∷ columns_on 1 b ∷ columns_on 2 c ∷ columns_on 3 d ∷ []))) ≡ map shift_rows (map (map g) (map (map f) (eight_blocks (a ∷ b ∷ c ∷ d ∷ []))))
unfolding eight_blocks shift_rows
all_shifted_rows g f =
    of_four (λ a b c d. map (map g) (map (map f) (eight_blocks (a ∷ columns_on 1 b ∷ columns_on 2 c ∷ columns_on 3 d ∷ []))) ≡ map shift_rows (map (map g) (map (map f) (eight_blocks (a ∷ b ∷ c ∷ d ∷ []))))) (λ w x y z. refl)

-- ---- SubBytes and MixColumns

-- a row behind the S-box, less its constant
abbrev pub made_row : List ℕ → List ℕ
made_row y = map (λ y. less_sbox (tower_byte y)) y

pub made_long : (y : List ℕ) → length y ≡ 32 → length (made_row y) ≡ 32
made_long y long = length-map y (λ y. less_sbox (tower_byte y)) ∙ long

pub less_sbox-lt : (x : ℕ) → x < 256 → less_sbox x < 256
unfolding less_sbox
less_sbox-lt x h = xor_lt 8 (sbox x) 0x63 (sbox-lt x h) (omega arith)

pub made_bytes : (y : List ℕ) → Each1 (Fits w8) y → AreBytes (made_row y)
made_bytes [] h i = omega arith
made_bytes (x ∷ xs) h zero = less_sbox-lt (tower_byte x) (tower_byte-lt x h.0.fits)
made_bytes (x ∷ xs) h (suc i) = made_bytes xs h.1 i

pub twice_sum : (a b : List ℕ) → zip2 bit_xor (map (mul8 2) a) (map (mul8 2) b) ≡ map (mul8 2) (zip2 bit_xor a b)
twice_sum [] b = refl
twice_sum (x ∷ xs) [] = refl
twice_sum (x ∷ xs) (y ∷ ys) = λ j. sym (mul8-xor 2 x y) j ∷ twice_sum xs ys j

-- a row from what the function `made_and_mixed` adds up
pub made_row_is : (a b c d qa qb pb pc pd twice most cd r : List ℕ)
    → map tower_byte qa ≡ map (λ y. mul8 2 (less_sbox (tower_byte y))) a → map tower_byte qb ≡ map (λ y. mul8 2 (less_sbox (tower_byte y))) b
    → map tower_byte pb ≡ made_row b → map tower_byte pc ≡ made_row c → map tower_byte pd ≡ made_row d
    → map tower_byte twice ≡ zip2 bit_xor (map tower_byte qa) (map tower_byte qb) → map tower_byte most ≡ zip2 bit_xor (map tower_byte twice) (map tower_byte pb)
    → map tower_byte cd ≡ zip2 bit_xor (map tower_byte pc) (map tower_byte pd) → map tower_byte r ≡ zip2 bit_xor (map tower_byte most) (map tower_byte cd)
    → map tower_byte r ≡ mixed_row (made_row a) (made_row b) (made_row c) (made_row d)
made_row_is a b c d qa qb pb pc pd twice most cd r eqa eqb epb epc epd et em ecd e =
    let two : (y : List ℕ) → map (λ y. mul8 2 (less_sbox (tower_byte y))) y ≡ map (mul8 2) (made_row y) = λ y. sym (map-map (mul8 2) (λ y. less_sbox (tower_byte y)) y) in
    e ∙ ap₂ (zip2 bit_xor)
    (em ∙ ap₂ (zip2 bit_xor) (et ∙ ap₂ (zip2 bit_xor) (eqa ∙ two a) (eqb ∙ two b) ∙ twice_sum (made_row a) (made_row b)) epb)
    (ecd ∙ ap₂ (zip2 bit_xor) epc epd)

-- ---- the constant of the S-box

constant_0 : row 2 3 1 1 0x63 0x63 0x63 0x63 ≡ 0x63
unfolding product remainder mul8
constant_0 = refl

constant_1 : row 1 2 3 1 0x63 0x63 0x63 0x63 ≡ 0x63
unfolding product remainder mul8
constant_1 = refl

constant_2 : row 1 1 2 3 0x63 0x63 0x63 0x63 ≡ 0x63
unfolding product remainder mul8
constant_2 = refl

constant_3 : row 3 1 1 2 0x63 0x63 0x63 0x63 ≡ 0x63
unfolding product remainder mul8
constant_3 = refl

keyed_byte : (p q s t a b c d k : ℕ) → row p q s t 0x63 0x63 0x63 0x63 ≡ 0x63
    → bit_xor (row p q s t (bit_xor a 0x63) (bit_xor b 0x63) (bit_xor c 0x63) (bit_xor d 0x63)) (bit_xor k 0x63) ≡ bit_xor (row p q s t a b c d) k
keyed_byte p q s t a b c d k e =
    ap (λ v. bit_xor v (bit_xor k 0x63)) (sym (row-xor p q s t a b c d 0x63 0x63 0x63 0x63) ∙ ap (bit_xor (row p q s t a b c d)) e)
    ∙ xor_swap (row p q s t a b c d) 0x63 k 0x63 ∙ xor_zero_r (bit_xor (row p q s t a b c d) k)

-- a key with the constant is added to a state without it as the key to the state
pub keyed_block : (ws : List (List ℕ)) (r : ℕ) (z : ℕ → ℕ)
    → zip2 bit_xor (mix_columns (shift_rows (map less_sbox (map z places)))) (map less_constant (key_block ws r)) ≡ add_round_key ws r (mix_columns (shift_rows (sub_bytes (map z places))))
unfolding less_sbox mixed_byte mix_columns shift_rows add_round_key key_block
keyed_block ws r z =
    let s : ℕ → ℕ = λ i. sbox (z i) in
    let k : ℕ → ℕ = λ i. slice_index (slice_index_or ws (4 * r + i / 4) []) (i % 4) in
    λ j.
    keyed_byte 2 3 1 1 (s 0) (s 5) (s 10) (s 15) (k 0) constant_0 j
    ∷ keyed_byte 1 2 3 1 (s 0) (s 5) (s 10) (s 15) (k 1) constant_1 j
    ∷ keyed_byte 1 1 2 3 (s 0) (s 5) (s 10) (s 15) (k 2) constant_2 j
    ∷ keyed_byte 3 1 1 2 (s 0) (s 5) (s 10) (s 15) (k 3) constant_3 j
    ∷ keyed_byte 2 3 1 1 (s 4) (s 9) (s 14) (s 3) (k 4) constant_0 j
    ∷ keyed_byte 1 2 3 1 (s 4) (s 9) (s 14) (s 3) (k 5) constant_1 j
    ∷ keyed_byte 1 1 2 3 (s 4) (s 9) (s 14) (s 3) (k 6) constant_2 j
    ∷ keyed_byte 3 1 1 2 (s 4) (s 9) (s 14) (s 3) (k 7) constant_3 j
    ∷ keyed_byte 2 3 1 1 (s 8) (s 13) (s 2) (s 7) (k 8) constant_0 j
    ∷ keyed_byte 1 2 3 1 (s 8) (s 13) (s 2) (s 7) (k 9) constant_1 j
    ∷ keyed_byte 1 1 2 3 (s 8) (s 13) (s 2) (s 7) (k 10) constant_2 j
    ∷ keyed_byte 3 1 1 2 (s 8) (s 13) (s 2) (s 7) (k 11) constant_3 j
    ∷ keyed_byte 2 3 1 1 (s 12) (s 1) (s 6) (s 11) (k 12) constant_0 j
    ∷ keyed_byte 1 2 3 1 (s 12) (s 1) (s 6) (s 11) (k 13) constant_1 j
    ∷ keyed_byte 1 1 2 3 (s 12) (s 1) (s 6) (s 11) (k 14) constant_2 j
    ∷ keyed_byte 3 1 1 2 (s 12) (s 1) (s 6) (s 11) (k 15) constant_3 j ∷ []

-- ---- keys by rows

pub rows_of_sealing_key : (ws : List (List ℕ)) (r : ℕ) (x : List ℕ) → x ≡ key_block ws r ++ key_block ws r → four_rows (map less_constant x) ≡ four_rows (map less_constant (key_block ws r))
rows_of_sealing_key ws r x e =
    let k : List ℕ = key_block ws r in
    ap (λ v. four_rows (map less_constant v)) e ∙ ap four_rows (map-append less_constant k k)
    ∙ front_rows (map less_constant k) (map less_constant k) (length-map k less_constant ∙ block_long ws r)

pub rows_with_sealing_key : (m : List ℕ) → length m ≡ 16 → (f g h i : List ℕ) → map tower_byte f ∷ map tower_byte g ∷ map tower_byte h ∷ map tower_byte i ∷ [] ≡ four_rows m
    → (a b c d : List ℕ) → length a ≡ 32 → length b ≡ 32 → length c ≡ 32 → length d ≡ 32
    → eight_blocks (with_sealing_key a f ∷ with_sealing_key b g ∷ with_sealing_key c h ∷ with_sealing_key d i ∷ []) ≡ map (λ s. zip2 bit_xor s m) (map (map tower_byte) (eight_blocks (a ∷ b ∷ c ∷ d ∷ [])))
rows_with_sealing_key m long f g h i e a b c d ha hb hc hd =
    let t : List ℕ → List ℕ = map tower_byte in
    let tl : (v : List ℕ) → length v ≡ 32 → length (map tower_byte v) ≡ 32 = λ v l. length-map v tower_byte ∙ l in
    let both : (n : ℕ) (key : List ℕ) → map tower_byte key ≡ row_of n m → map tower_byte (key ++ key) ≡ row_of n m ++ row_of n m
    = λ n key e. map-append tower_byte key key ∙ (λ j. e j ++ e j) in
    let at : (n : ℕ) (key : List ℕ) → map tower_byte key ≡ slice_index_or (map tower_byte f ∷ map tower_byte g ∷ map tower_byte h ∷ map tower_byte i ∷ []) n []
    → slice_index_or (four_rows m) n [] ≡ row_of n m → map tower_byte key ≡ row_of n m
    = λ n key p q. p ∙ ap (λ l. slice_index_or l n []) e ∙ q in
    (λ j. eight_blocks (zip2 bit_xor (t a) (both 0 f (at 0 f refl refl) j) ∷ zip2 bit_xor (t b) (both 1 g (at 1 g refl refl) j)
    ∷ zip2 bit_xor (t c) (both 2 h (at 2 h refl refl) j) ∷ zip2 bit_xor (t d) (both 3 i (at 3 i refl refl) j) ∷ []))
    ∙ rows_keyed m long (t a) (t b) (t c) (t d) (tl a ha) (tl b hb) (tl c hc) (tl d hd)
    ∙ ap (map (λ s. zip2 bit_xor s m)) (sym (mapped_blocks tower_byte a b c d ha hb hc hd))

-- ---- a round of all blocks

pub sealed_round_of_all : (ws : List (List ℕ)) (r : ℕ) (rows : List (List ℕ))
    → map (λ s. zip2 bit_xor s (map less_constant (key_block ws r))) (map mix_columns (map shift_rows (map (map less_sbox) (map (map tower_byte) (eight_blocks rows)))))
    ≡ map (λ b. add_round_key ws r (mix_columns (shift_rows (sub_bytes b)))) (map (map tower_byte) (eight_blocks rows))
unfolding eight_blocks
sealed_round_of_all ws r rows =
    let m : List ℕ → List ℕ = λ s. zip2 bit_xor s (map less_constant (key_block ws r)) in
    let js : List ℕ = range_with_len 0 8 in
    let b : ℕ → List ℕ = λ j. block_from rows (16 * (j % 2) + 4 * (j / 2)) in
    ap (λ bs. map m (map mix_columns (map shift_rows (map (map less_sbox) bs)))) (map-map (map tower_byte) b js)
    ∙ ap (λ bs. map m (map mix_columns (map shift_rows bs))) (map-map (map less_sbox) (λ j. map tower_byte (b j)) js)
    ∙ ap (λ bs. map m (map mix_columns bs)) (map-map shift_rows (λ j. map less_sbox (map tower_byte (b j))) js)
    ∙ ap (map m) (map-map mix_columns (λ j. shift_rows (map less_sbox (map tower_byte (b j)))) js)
    ∙ map-map m (λ j. mix_columns (shift_rows (map less_sbox (map tower_byte (b j))))) js
    ∙ each_same (λ j. m (mix_columns (shift_rows (map less_sbox (map tower_byte (b j)))))) (λ j. add_round_key ws r (mix_columns (shift_rows (sub_bytes (map tower_byte (b j))))))
    (λ j. keyed_block ws r (λ i. tower_byte (slice_index (slice_index_or rows (i % 4) []) (16 * (j % 2) + 4 * (j / 2) + i / 4)))) js
    ∙ sym (map-map (λ b. add_round_key ws r (mix_columns (shift_rows (sub_bytes b)))) (λ j. map tower_byte (b j)) js)
    ∙ ap (map (λ b. add_round_key ws r (mix_columns (shift_rows (sub_bytes b))))) (sym (map-map (map tower_byte) b js))

-- ---- all rounds

-- blocks after n rounds with MixColumns
abbrev pub rounded : ℕ → List (List ℕ) → ℕ → List (List ℕ) → List (List ℕ)
rounded r ws n blocks = map (λ b. after_rounds (key_schedule (key_of r ws)) b n) blocks

pub all_begun : (r : ℕ) (ws : List (List ℕ)) (x : List (List ℕ)) (p q s t : List ℕ) (blocks : List (List ℕ)) → IsSchedule r ws → length x ≡ 4
    → map tower_byte p ≡ each_half (add_round_key ws 0) (get_or x 0 []) → map tower_byte q ≡ each_half (add_round_key ws 0) (get_or x 1 [])
    → map tower_byte s ≡ each_half (add_round_key ws 0) (get_or x 2 []) → map tower_byte t ≡ each_half (add_round_key ws 0) (get_or x 3 [])
    → blocks ≡ blocks_of (p ∷ q ∷ s ∷ t ∷ []) → map (map tower_byte) blocks ≡ rounded r ws 0 (blocks_of x)
all_begun r ws x p q s t blocks h long ep eq es et e =
    let a : List ℕ → List ℕ = add_round_key ws 0 in
    ap (map (map tower_byte)) e ∙ sym (blocks_mapped tower_byte (p ∷ q ∷ s ∷ t ∷ []))
    ∙ (λ j. blocks_of (ep j ∷ eq j ∷ es j ∷ et j ∷ []))
    ∙ ap (λ xs. blocks_of (map (each_half a) xs)) (pick_l_whole [] x 4 long)
    ∙ blocks_of_each a (key_long ws 0) x
    ∙ each_same a (λ b. after_rounds (key_schedule (key_of r ws)) b 0) (λ b. first_key r ws b h) (blocks_of x)

pub all_more : (r : ℕ) (ws : List (List ℕ)) (i : ℕ) (x before after : List (List ℕ)) → IsSchedule r ws → 1 ≤ i → i < r → before ≡ rounded r ws (i - 1) x
    → after ≡ map (λ b. add_round_key ws i (mix_columns (shift_rows (sub_bytes b)))) before → after ≡ rounded r ws (i + 1 - 1) x
all_more r ws i x before after h from below done e =
    let k : List (List ℕ) = key_schedule (key_of r ws) in
    let one : List ℕ → List ℕ = λ b. add_round_key ws i (mix_columns (shift_rows (sub_bytes b))) in
    e ∙ ap (map one) done ∙ map-map one (λ b. after_rounds k b (i - 1)) x
    ∙ each_same (λ b. one (after_rounds k b (i - 1))) (λ b. after_rounds k b (i + 1 - 1)) (λ b. sealing_more r ws b (after_rounds k b (i - 1)) i h from below refl) x

-- the bytes behind the last round
abbrev out : ℕ → ℕ
out y = sbox (tower_byte y)

pub all_sealed : (r : ℕ) (ws : List (List ℕ)) (n : ℕ) (x y : List (List ℕ)) (p q s t : List ℕ) (blocks shifted : List (List ℕ)) → IsSchedule r ws → n ≡ r → length y ≡ 4
    → p ≡ each_half (add_round_key ws r) (map (λ y. sbox (tower_byte y)) (get_or y 0 [])) → q ≡ each_half (add_round_key ws r) (map (λ y. sbox (tower_byte y)) (get_or y 1 []))
    → s ≡ each_half (add_round_key ws r) (map (λ y. sbox (tower_byte y)) (get_or y 2 [])) → t ≡ each_half (add_round_key ws r) (map (λ y. sbox (tower_byte y)) (get_or y 3 []))
    → blocks_of y ≡ shifted → map sub_bytes (map (map tower_byte) shifted) ≡ map shift_rows (map sub_bytes blocks)
    → blocks ≡ rounded r ws (n - 1) x → blocks_of (p ∷ q ∷ s ∷ t ∷ []) ≡ map (seal (key_of r ws)) x
all_sealed r ws n x y p q s t blocks shifted h at long ep eq es et e shift done =
    let k : List (List ℕ) = key_schedule (key_of r ws) in
    let a : List ℕ → List ℕ = add_round_key ws r in
    let done' : blocks ≡ rounded r ws (r - 1) x = subst (λ (m : ℕ). blocks ≡ rounded r ws (m - 1) x) at done in
    (λ j. blocks_of (ep j ∷ eq j ∷ es j ∷ et j ∷ []))
    ∙ ap (λ ys. blocks_of (map (λ y. each_half a (map out y)) ys)) (pick_l_whole [] y 4 long)
    ∙ ap blocks_of (each_same (λ y. each_half a (map out y)) (each_half (λ s. a (map out s))) (λ y. each_half_of_map out a y) y)
    ∙ blocks_of_each (λ s. a (map out s)) (λ s. key_long ws r (map out s)) y
    ∙ ap (map (λ s. a (map out s))) e
    ∙ each_same (λ s. a (map out s)) (λ s. a (sub_bytes (map tower_byte s))) (λ s. ap a (sym (map-map sbox tower_byte s))) shifted
    ∙ sym (map-map (λ s. a (sub_bytes s)) (map tower_byte) shifted)
    ∙ sym (map-map a sub_bytes (map (map tower_byte) shifted))
    ∙ ap (map a) (shift ∙ map-map shift_rows sub_bytes blocks)
    ∙ map-map a (λ b. shift_rows (sub_bytes b)) blocks
    ∙ ap (map (λ b. a (shift_rows (sub_bytes b)))) done'
    ∙ map-map (λ b. a (shift_rows (sub_bytes b))) (λ b. after_rounds k b (r - 1)) x
    ∙ each_same (λ b. a (shift_rows (sub_bytes (after_rounds k b (r - 1))))) (seal (key_of r ws)) (λ b. sealed_all r ws b (after_rounds k b (r - 1)) h refl) x
