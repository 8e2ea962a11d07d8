-- the entries of the tables, and sums of words byte by byte
use Rattle.std.specs.Prelude.{◌≡◌, ℕ, zero, suc, ◌+◌, ◌/◌, ◌%◌, ◌^◌, ◌<◌, List, [], ◌∷◌, slice_index, bit_xor, refl}
use Rattle.std.specs.Int.{from_le_bytes, w32}
use Rattle.std.specs.Int.Bits.{xor_zero_r, xor_assoc}
use Rattle.std.proofs.Common.{sym, ◌∙◌, ap, ap₂, arith}
use Rattle.std.proofs.lemmas.Nat.{xor_mod, xor_shr, xor_comm, le_bytes_4}
use Rattle.std_defs.specs.Aes.{product, remainder, mul8, sbox, inverse_sbox, xor_words}
use Rattle.std_defs.proofs.Enumerate.{same_below}
use Rattle.std_defs.proofs.Tables.{sbox_table, inverse_sbox_table, sbox_at, inverse_sbox_at}
use Rattle.aes_table.specs.Words.{bytes_of, times}
use Rattle.aes_table.specs.declared.tables.TheConstants.{SEALING, BACK_FIRST, BACK_SECOND, BACK_THIRD, BACK_FOURTH}

byte_of_sum : (a b k : ℕ) → bit_xor a b / 2 ^ k % 2 ^ 8 ≡ bit_xor (a / 2 ^ k % 2 ^ 8) (b / 2 ^ k % 2 ^ 8)
byte_of_sum a b k = ap (λ (t : ℕ). t % 2 ^ 8) (xor_shr a b k) ∙ xor_mod (a / 2 ^ k) (b / 2 ^ k) 8

pub bytes_of-xor : (a b : ℕ) → bytes_of (bit_xor a b) ≡ xor_words (bytes_of a) (bytes_of b)
bytes_of-xor a b = λ j. xor_mod a b 8 j ∷ byte_of_sum a b 8 j ∷ byte_of_sum a b 16 j ∷ byte_of_sum a b 24 j ∷ []

pub bytes_of_sum : (x y : ℕ) (v w : List ℕ) → bytes_of x ≡ v → bytes_of y ≡ w → bytes_of (bit_xor x y) ≡ xor_words v w
bytes_of_sum x y v w e f = bytes_of-xor x y ∙ ap₂ xor_words e f

pub column_is : (f s t u key : ℕ) (cf cs ct cu : List ℕ) → bytes_of f ≡ cf → bytes_of s ≡ cs → bytes_of t ≡ ct → bytes_of u ≡ cu
    → bytes_of (bit_xor (bit_xor (bit_xor f s) (bit_xor t u)) key) ≡ xor_words (xor_words (xor_words cf cs) (xor_words ct cu)) (bytes_of key)
column_is f s t u key cf cs ct cu ef es et eu =
    bytes_of_sum (bit_xor (bit_xor f s) (bit_xor t u)) key (xor_words (xor_words cf cs) (xor_words ct cu)) (bytes_of key)
    (bytes_of_sum (bit_xor f s) (bit_xor t u) (xor_words cf cs) (xor_words ct cu) (bytes_of_sum f s cf cs ef es) (bytes_of_sum t u ct cu et eu)) refl

-- the key of a column may come first
pub key_first : (k f s t u : ℕ) → bit_xor (bit_xor (bit_xor (bit_xor k f) s) t) u ≡ bit_xor (bit_xor (bit_xor f s) (bit_xor t u)) k
key_first k f s t u =
    xor_assoc (bit_xor (bit_xor k f) s) t u
    ∙ ap (λ (x : ℕ). bit_xor x (bit_xor t u)) (xor_assoc k f s)
    ∙ xor_assoc k (bit_xor f s) (bit_xor t u)
    ∙ xor_comm k (bit_xor (bit_xor f s) (bit_xor t u))

pub plus_zero : (a b c d : ℕ) → xor_words (a ∷ b ∷ c ∷ d ∷ []) (bytes_of 0) ≡ a ∷ b ∷ c ∷ d ∷ []
plus_zero a b c d = λ j. xor_zero_r a j ∷ xor_zero_r b j ∷ xor_zero_r c j ∷ xor_zero_r d j ∷ []

-- a word from its bytes
pub word_of_bytes : (n a b c d : ℕ) → n ≡ from_le_bytes w32 (a ∷ b ∷ c ∷ d ∷ []) → a < 256 → b < 256 → c < 256 → d < 256 → bytes_of n ≡ a ∷ b ∷ c ∷ d ∷ []
word_of_bytes n a b c d e ha hb hc hd = le_bytes_4 (a ∷ b ∷ c ∷ d ∷ []) n refl small e
  where
    small : (i : ℕ) → slice_index (a ∷ b ∷ c ∷ d ∷ []) i < 256
    small zero = ha
    small (suc zero) = hb
    small (suc (suc zero)) = hc
    small (suc (suc (suc zero))) = hd
    small (suc (suc (suc (suc i)))) = omega arith

pub four_bytes_of : (n a b c d p q r s : ℕ) → n ≡ from_le_bytes w32 (a ∷ b ∷ c ∷ d ∷ []) → a ≡ p → b ≡ q → c ≡ r → d ≡ s
    → a < 256 → b < 256 → c < 256 → d < 256 → bytes_of n ≡ p ∷ q ∷ r ∷ s ∷ []
four_bytes_of n a b c d p q r s e ep eq er es ha hb hc hd =
    word_of_bytes n a b c d e ha hb hc hd ∙ (λ j. ep j ∷ eq j ∷ er j ∷ es j ∷ [])

pub first_entry : (x : ℕ) → x < 256 → bytes_of (slice_index SEALING x) ≡ times 2 1 1 3 (sbox x)
unfolding product remainder mul8 sbox_table
first_entry x h =
    same_below (λ x. bytes_of (slice_index SEALING x)) (λ x. times 2 1 1 3 (slice_index sbox_table x)) 256 refl x h
    ∙ ap (times 2 1 1 3) (sym (sbox_at x h))

pub second_entry : (x : ℕ) → x < 256 → bytes_of (slice_index SEALING (256 + x)) ≡ times 3 2 1 1 (sbox x)
unfolding product remainder mul8 sbox_table
second_entry x h =
    same_below (λ x. bytes_of (slice_index SEALING (256 + x))) (λ x. times 3 2 1 1 (slice_index sbox_table x)) 256 refl x h
    ∙ ap (times 3 2 1 1) (sym (sbox_at x h))

pub third_entry : (x : ℕ) → x < 256 → bytes_of (slice_index SEALING (512 + x)) ≡ times 1 3 2 1 (sbox x)
unfolding product remainder mul8 sbox_table
third_entry x h =
    same_below (λ x. bytes_of (slice_index SEALING (512 + x))) (λ x. times 1 3 2 1 (slice_index sbox_table x)) 256 refl x h
    ∙ ap (times 1 3 2 1) (sym (sbox_at x h))

pub fourth_entry : (x : ℕ) → x < 256 → bytes_of (slice_index SEALING (768 + x)) ≡ times 1 1 3 2 (sbox x)
unfolding product remainder mul8 sbox_table
fourth_entry x h =
    same_below (λ x. bytes_of (slice_index SEALING (768 + x))) (λ x. times 1 1 3 2 (slice_index sbox_table x)) 256 refl x h
    ∙ ap (times 1 1 3 2) (sym (sbox_at x h))

pub back_first_entry : (x : ℕ) → x < 256 → bytes_of (slice_index BACK_FIRST x) ≡ times 14 9 13 11 (inverse_sbox x)
unfolding product remainder mul8 inverse_sbox_table
back_first_entry x h =
    same_below (λ x. bytes_of (slice_index BACK_FIRST x)) (λ x. times 14 9 13 11 (slice_index inverse_sbox_table x)) 256 refl x h
    ∙ ap (times 14 9 13 11) (sym (inverse_sbox_at x h))

pub back_second_entry : (x : ℕ) → x < 256 → bytes_of (slice_index BACK_SECOND x) ≡ times 11 14 9 13 (inverse_sbox x)
unfolding product remainder mul8 inverse_sbox_table
back_second_entry x h =
    same_below (λ x. bytes_of (slice_index BACK_SECOND x)) (λ x. times 11 14 9 13 (slice_index inverse_sbox_table x)) 256 refl x h
    ∙ ap (times 11 14 9 13) (sym (inverse_sbox_at x h))

pub back_third_entry : (x : ℕ) → x < 256 → bytes_of (slice_index BACK_THIRD x) ≡ times 13 11 14 9 (inverse_sbox x)
unfolding product remainder mul8 inverse_sbox_table
back_third_entry x h =
    same_below (λ x. bytes_of (slice_index BACK_THIRD x)) (λ x. times 13 11 14 9 (slice_index inverse_sbox_table x)) 256 refl x h
    ∙ ap (times 13 11 14 9) (sym (inverse_sbox_at x h))

pub back_fourth_entry : (x : ℕ) → x < 256 → bytes_of (slice_index BACK_FOURTH x) ≡ times 9 13 11 14 (inverse_sbox x)
unfolding product remainder mul8 inverse_sbox_table
back_fourth_entry x h =
    same_below (λ x. bytes_of (slice_index BACK_FOURTH x)) (λ x. times 9 13 11 14 (slice_index inverse_sbox_table x)) 256 refl x h
    ∙ ap (times 9 13 11 14) (sym (inverse_sbox_at x h))

pub times_one : (x : ℕ) → x < 256 → mul8 1 x ≡ x
unfolding product remainder mul8
times_one x h = same_below (mul8 1) (λ x. x) 256 refl x h

pub times_all : (x : ℕ) → x < 256 → bit_xor (bit_xor (mul8 14 x) (mul8 9 x)) (bit_xor (mul8 13 x) (mul8 11 x)) ≡ x
unfolding product remainder mul8
times_all x h = same_below (λ x. bit_xor (bit_xor (mul8 14 x) (mul8 9 x)) (bit_xor (mul8 13 x) (mul8 11 x))) (λ x. x) 256 refl x h

abbrev pub all_four : List ℕ → ℕ
all_four v = bit_xor (bit_xor (slice_index v 0) (slice_index v 1)) (bit_xor (slice_index v 2) (slice_index v 3))
