-- rounds of eight blocks by rows, undone
use Rattle.std.specs.Prelude.{◌≡◌, ℕ, suc, ◌-◌, ◌<◌, List, [], ◌∷◌, ◌++◌, map, length, take, drop, slice_index_or, bit_xor, refl}
use Rattle.std.proofs.Common.{sym, ◌∙◌, ap, subst, get_or}
use Rattle.std.proofs.lemmas.List.{take-map, drop-map, map-append}
use Rattle.std.proofs.lemmas.Simd.{map-map, pick_l_whole}
use lib.Lanes.{zip2}
use Rattle.std_defs.specs.Aes.{places, inverse_sbox, add_round_key, inverse_sub_bytes, inverse_shift_rows, inverse_mix_columns, before_rounds, key_schedule, unseal}
use Rattle.aes_block.specs.Schedule.{IsSchedule, key_of}
use Rattle.aes_block.proofs.Rounds.{unsealing_none, unsealing_more}
use Rattle.aes_block.specs.KeyBlock.{key_block}
use Rattle.aes_block.proofs.KeyBlocks.{block_long, of_places, first_key_back}
use Rattle.aes_block.proofs.EquivalentInverse.{key_behind, back_long, sub_shift}
use Rattle.aes_lanes.specs.Pairs.{each_half, blocks_of}
use Rattle.aes_lanes.specs.Rows.{eight_blocks, with_key}
use Rattle.aes_lanes.specs.RowKeys.{row_of, four_rows}
use Rattle.aes_lanes.proofs.Halves.{front}
use Rattle.aes_lanes.proofs.Transposed.{of_four, mapped_blocks}
use Rattle.aes_lanes.proofs.RowsMixed.{term_long}
use Rattle.aes_lanes.proofs.Sides.{each_half_of_map, blocks_of_each}
use Rattle.aes_lanes.specs.Tower.{state_byte, term_byte}

-- the same of each
pub each_same : {A B : Type 0} (f g : A → B) → ((a : A) → f a ≡ g a) → (xs : List A) → map f xs ≡ map g xs
each_same f g e xs = λ j. map (λ a. e a j) xs

-- ---- a key by rows

pub rows_keyed : (m : List ℕ) → length m ≡ 16 → (a b c d : List ℕ) → length a ≡ 32 → length b ≡ 32 → length c ≡ 32 → length d ≡ 32
    → eight_blocks (zip2 bit_xor a (row_of 0 m ++ row_of 0 m) ∷ zip2 bit_xor b (row_of 1 m ++ row_of 1 m) ∷ zip2 bit_xor c (row_of 2 m ++ row_of 2 m) ∷ zip2 bit_xor d (row_of 3 m ++ row_of 3 m) ∷ [])
    ≡ map (λ s. zip2 bit_xor s m) (eight_blocks (a ∷ b ∷ c ∷ d ∷ []))
unfolding eight_blocks
rows_keyed = of_places 16 (λ m. (a b c d : List ℕ) → length a ≡ 32 → length b ≡ 32 → length c ≡ 32 → length d ≡ 32
    → eight_blocks (zip2 bit_xor a (row_of 0 m ++ row_of 0 m) ∷ zip2 bit_xor b (row_of 1 m ++ row_of 1 m) ∷ zip2 bit_xor c (row_of 2 m ++ row_of 2 m) ∷ zip2 bit_xor d (row_of 3 m ++ row_of 3 m) ∷ [])
    ≡ map (λ s. zip2 bit_xor s m) (eight_blocks (a ∷ b ∷ c ∷ d ∷ [])))
    (λ k. of_four (λ a b c d. eight_blocks (zip2 bit_xor a (row_of 0 (map k places) ++ row_of 0 (map k places)) ∷ zip2 bit_xor b (row_of 1 (map k places) ++ row_of 1 (map k places)) ∷ zip2 bit_xor c (row_of 2 (map k places) ++ row_of 2 (map k places)) ∷ zip2 bit_xor d (row_of 3 (map k places) ++ row_of 3 (map k places)) ∷ [])
    ≡ map (λ s. zip2 bit_xor s (map k places)) (eight_blocks (a ∷ b ∷ c ∷ d ∷ []))) (λ w x y z. refl))

-- rows are read from the front alone
pub front_rows : (l m : List ℕ) → length m ≡ 16 → four_rows (m ++ l) ≡ four_rows m
front_rows l = of_places 16 (λ m. four_rows (m ++ l) ≡ four_rows m) (λ z. refl)

pub rows_of_twice : (ws : List (List ℕ)) (r : ℕ) (x : List ℕ) → x ≡ key_block ws r ++ key_block ws r → four_rows (each_half inverse_mix_columns x) ≡ four_rows (inverse_mix_columns (key_block ws r))
rows_of_twice ws r x e =
    let k : List ℕ = key_block ws r in
    ap (λ v. four_rows (each_half inverse_mix_columns v)) e
    ∙ front_rows (inverse_mix_columns (drop 16 (k ++ k))) (inverse_mix_columns (take 16 (k ++ k))) (back_long (take 16 (k ++ k)))
    ∙ ap (λ v. four_rows (inverse_mix_columns v)) (front k k (block_long ws r))

-- rows of terms, and of a key whose bytes are those of the block m by rows
pub rows_with_key : (m : List ℕ) → length m ≡ 16 → (f g h i : List ℕ) → map state_byte f ∷ map state_byte g ∷ map state_byte h ∷ map state_byte i ∷ [] ≡ four_rows m
    → (a b c d : List ℕ) → length a ≡ 32 → length b ≡ 32 → length c ≡ 32 → length d ≡ 32
    → eight_blocks (with_key a f ∷ with_key b g ∷ with_key c h ∷ with_key d i ∷ []) ≡ map (λ s. zip2 bit_xor s m) (map (map term_byte) (eight_blocks (a ∷ b ∷ c ∷ d ∷ [])))
rows_with_key m long f g h i e a b c d ha hb hc hd =
    let t : List ℕ → List ℕ = map term_byte in
    let both : (n : ℕ) (key : List ℕ) → map state_byte key ≡ row_of n m → map state_byte (key ++ key) ≡ row_of n m ++ row_of n m
    = λ n key e. map-append state_byte key key ∙ (λ j. e j ++ e j) in
    let at : (n : ℕ) (key : List ℕ) → map state_byte key ≡ slice_index_or (map state_byte f ∷ map state_byte g ∷ map state_byte h ∷ map state_byte i ∷ []) n []
    → slice_index_or (four_rows m) n [] ≡ row_of n m → map state_byte key ≡ row_of n m
    = λ n key p q. p ∙ ap (λ l. slice_index_or l n []) e ∙ q in
    (λ j. eight_blocks (zip2 bit_xor (t a) (both 0 f (at 0 f refl refl) j) ∷ zip2 bit_xor (t b) (both 1 g (at 1 g refl refl) j)
    ∷ zip2 bit_xor (t c) (both 2 h (at 2 h refl refl) j) ∷ zip2 bit_xor (t d) (both 3 i (at 3 i refl refl) j) ∷ []))
    ∙ rows_keyed m long (t a) (t b) (t c) (t d) (term_long a ha) (term_long b hb) (term_long c hc) (term_long d hd)
    ∙ ap (map (λ s. zip2 bit_xor s m)) (sym (mapped_blocks term_byte a b c d ha hb hc hd))

-- ---- a round of all blocks

pub round_of_all : (ws : List (List ℕ)) (r : ℕ) (blocks : List (List ℕ))
    → map (λ s. zip2 bit_xor s (inverse_mix_columns (key_block ws r))) (map inverse_mix_columns (map inverse_sub_bytes (map inverse_shift_rows blocks)))
    ≡ map (λ b. inverse_mix_columns (add_round_key ws r (inverse_sub_bytes (inverse_shift_rows b)))) blocks
round_of_all ws r blocks =
    let m : List ℕ → List ℕ = λ s. zip2 bit_xor s (inverse_mix_columns (key_block ws r)) in
    ap (map m) (ap (map inverse_mix_columns) (map-map inverse_sub_bytes inverse_shift_rows blocks) ∙ map-map inverse_mix_columns sub_shift blocks)
    ∙ map-map m (λ b. inverse_mix_columns (sub_shift b)) blocks
    ∙ each_same (λ b. m (inverse_mix_columns (sub_shift b))) (λ b. inverse_mix_columns (add_round_key ws r (sub_shift b))) (key_behind ws r) blocks

-- ---- all rounds

-- what n more rounds come to
abbrev pub unrounded : ℕ → List (List ℕ) → ℕ → List (List ℕ) → List (List ℕ)
unrounded r ws n blocks = map (λ b. before_rounds (key_schedule (key_of r ws)) (inverse_sub_bytes (inverse_shift_rows b)) n) blocks

pub blocks_mapped : (f : ℕ → ℕ) (xs : List (List ℕ)) → blocks_of (map (map f) xs) ≡ map (map f) (blocks_of xs)
blocks_mapped f [] = refl
blocks_mapped f (x ∷ xs) = λ j. take-map f 16 x j ∷ drop-map f 16 x j ∷ blocks_mapped f xs j

pub key_long : (ws : List (List ℕ)) (r : ℕ) (s : List ℕ) → length (add_round_key ws r s) ≡ 16
unfolding add_round_key
key_long ws r s = refl

pub all_entered : (r : ℕ) (ws : List (List ℕ)) (x : List (List ℕ)) (p q s t : List ℕ) (blocks : List (List ℕ)) → IsSchedule r ws → length x ≡ 4
    → map state_byte p ≡ each_half (add_round_key ws r) (get_or x 0 []) → map state_byte q ≡ each_half (add_round_key ws r) (get_or x 1 [])
    → map state_byte s ≡ each_half (add_round_key ws r) (get_or x 2 []) → map state_byte t ≡ each_half (add_round_key ws r) (get_or x 3 [])
    → blocks ≡ blocks_of (p ∷ q ∷ s ∷ t ∷ []) → unrounded r ws (r - 1) (map (map state_byte) blocks) ≡ map (unseal (key_of r ws)) (blocks_of x)
all_entered r ws x p q s t blocks h long ep eq es et e =
    let k : List (List ℕ) = key_schedule (key_of r ws) in
    let a : List ℕ → List ℕ = add_round_key ws r in
    ap (unrounded r ws (r - 1))
    (ap (map (map state_byte)) e ∙ sym (blocks_mapped state_byte (p ∷ q ∷ s ∷ t ∷ []))
    ∙ (λ j. blocks_of (ep j ∷ eq j ∷ es j ∷ et j ∷ []))
    ∙ ap (λ xs. blocks_of (map (each_half a) xs)) (pick_l_whole [] x 4 long)
    ∙ blocks_of_each a (key_long ws r) x)
    ∙ map-map (λ b. before_rounds k (sub_shift b) (r - 1)) a (blocks_of x)
    ∙ each_same (λ b. before_rounds k (sub_shift (a b)) (r - 1)) (unseal (key_of r ws)) (λ b. unsealing_none r ws b h) (blocks_of x)

pub round_more : (r : ℕ) (ws : List (List ℕ)) (i n : ℕ) (x before after : List (List ℕ)) → IsSchedule r ws → i ≡ suc n → i < r
    → unrounded r ws i before ≡ map (unseal (key_of r ws)) x
    → after ≡ map (λ b. inverse_mix_columns (add_round_key ws i (inverse_sub_bytes (inverse_shift_rows b)))) before
    → unrounded r ws n after ≡ map (unseal (key_of r ws)) x
round_more r ws i n x before after h next below done e =
    let k : List (List ℕ) = key_schedule (key_of r ws) in
    let one : List ℕ → List ℕ = λ b. inverse_mix_columns (add_round_key ws i (sub_shift b)) in
    ap (unrounded r ws n) e
    ∙ map-map (λ b. before_rounds k (sub_shift b) n) one before
    ∙ each_same (λ b. before_rounds k (sub_shift (one b)) n) (λ b. before_rounds k (sub_shift b) i) (λ b. unsealing_more r ws (sub_shift b) i n h next below) before
    ∙ done

-- the bytes behind the last round
abbrev out : ℕ → ℕ
out y = inverse_sbox (state_byte y)

pub all_left : (r : ℕ) (ws : List (List ℕ)) (n : ℕ) (x y : List (List ℕ)) (p q s t : List ℕ) (blocks shifted : List (List ℕ)) → IsSchedule r ws → n ≡ 0 → length y ≡ 4
    → p ≡ each_half (add_round_key ws 0) (map (λ y. inverse_sbox (state_byte y)) (get_or y 0 [])) → q ≡ each_half (add_round_key ws 0) (map (λ y. inverse_sbox (state_byte y)) (get_or y 1 []))
    → s ≡ each_half (add_round_key ws 0) (map (λ y. inverse_sbox (state_byte y)) (get_or y 2 [])) → t ≡ each_half (add_round_key ws 0) (map (λ y. inverse_sbox (state_byte y)) (get_or y 3 []))
    → blocks_of y ≡ shifted → map (map state_byte) shifted ≡ map inverse_shift_rows blocks
    → unrounded r ws n blocks ≡ map (unseal (key_of r ws)) x → blocks_of (p ∷ q ∷ s ∷ t ∷ []) ≡ map (unseal (key_of r ws)) x
all_left r ws n x y p q s t blocks shifted h at long ep eq es et e shift done =
    let k : List (List ℕ) = key_schedule (key_of r ws) in
    let a : List ℕ → List ℕ = add_round_key ws 0 in
    (λ j. blocks_of (ep j ∷ eq j ∷ es j ∷ et j ∷ []))
    ∙ ap (λ ys. blocks_of (map (λ y. each_half a (map out y)) ys)) (pick_l_whole [] y 4 long)
    ∙ ap blocks_of (each_same (λ y. each_half a (map out y)) (each_half (λ s. a (map out s))) (λ y. each_half_of_map out a y) y)
    ∙ blocks_of_each (λ s. a (map out s)) (λ s. key_long ws 0 (map out s)) y
    ∙ ap (map (λ s. a (map out s))) e
    ∙ each_same (λ s. a (map out s)) (λ s. a (inverse_sub_bytes (map state_byte s))) (λ s. ap a (sym (map-map inverse_sbox state_byte s))) shifted
    ∙ sym (map-map (λ s. a (inverse_sub_bytes s)) (map state_byte) shifted)
    ∙ ap (map (λ s. a (inverse_sub_bytes s))) shift
    ∙ map-map (λ s. a (inverse_sub_bytes s)) inverse_shift_rows blocks
    ∙ each_same (λ b. a (sub_shift b)) (λ b. before_rounds k (sub_shift b) 0) (λ b. first_key_back r ws (sub_shift b) h) blocks
    ∙ subst (λ (m : ℕ). unrounded r ws m blocks ≡ map (unseal (key_of r ws)) x) at done
