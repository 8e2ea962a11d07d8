-- Texts in parts, and the blocks of padded bytes.
use Rattle.std.specs.Prelude.{◌≡◌, ℕ, zero, suc, ◌+◌, ◌-◌, ◌*◌, ◌/◌, ◌%◌, ◌^◌, ◌<◌, ◌≤◌, List, [], ◌∷◌, ◌++◌, length, take, drop, replicate, slice_set}
use Rattle.std.specs.Int.{div_ceil}
use Rattle.std.proofs.Common.{arith, ap, ap₂, refl, sym, ◌∙◌, append_assoc, append-nil, length-append}
use Rattle.std.proofs.Math.Seq.{drop-append-add, drop-append-le, take-append-le}
use Rattle.std.proofs.lemmas.List.{length-replicate, replicate-append-replicate, length-drop, take_all}
use Rattle.std_defs.specs.Blocks.{text_block}
use Rattle.std_defs.specs.Gcm.{padded}
use Rattle.std_defs.specs.Poly1305.{prime, accumulated, little_endian, poly_block, message_block, key_r, poly_tag, poly1305}
use Rattle.poly1305.specs.Limbs.{fronted}
use Rattle.poly1305.proofs.Words.{full_block, in_parts}
use Rattle.poly1305.proofs.Horner.{Same, accumulated_blocks, accumulated_parts, accumulated_same}

-- sixteen bytes of the first part
in_first : (a b : List ℕ) (i : ℕ) → 16 * i + 16 ≤ length a → take 16 (drop (16 * i) (a ++ b)) ≡ take 16 (drop (16 * i) a)
in_first a b i within =
    ap (take 16) (drop-append-le (16 * i) a b (omega arith))
    ∙ take-append-le 16 (drop (16 * i) a) b (omega (arith, length-drop (16 * i) a))

first_block : (a b : List ℕ) (i : ℕ) → 16 * i + 16 ≤ length a → message_block (a ++ b) i ≡ message_block a i
unfolding message_block text_block
first_block a b i within = ap poly_block (in_first a b i within)

second_block : (a b : List ℕ) (m i : ℕ) → length a ≡ 16 * m → message_block (a ++ b) (m + i) ≡ message_block b i
unfolding message_block text_block
second_block a b m i long =
    let place : 16 * (m + i) ≡ length a + 16 * i = omega arith in
    ap (λ k. poly_block (take 16 (drop k (a ++ b)))) place ∙ ap (λ t. poly_block (take 16 t)) (drop-append-add a b (16 * i))

-- what is accumulated of a text in two parts, the first of whole blocks
pub in_two_parts : (r v : ℕ) (a b : List ℕ) (m n : ℕ) → length a ≡ 16 * m
    → accumulated r (message_block (a ++ b)) v (m + n) ≡ accumulated r (message_block b) (accumulated r (message_block a) v m) n
in_two_parts r v a b m n long =
    accumulated_parts r (message_block (a ++ b)) v m n
    ∙ accumulated_blocks r (λ i. message_block (a ++ b) (m + i)) (message_block b) (accumulated r (message_block (a ++ b)) v m) n (λ i lt. second_block a b m i long)
    ∙ ap (λ x. accumulated r (message_block b) x n)
    (accumulated_blocks r (message_block (a ++ b)) (message_block a) v m (λ i lt. first_block a b i (omega arith)))

pub length-padded : (bytes : List ℕ) → length (padded bytes) ≡ 16 * div_ceil (length bytes) 16
unfolding padded
length-padded bytes =
    omega (arith, length-append bytes (replicate ((16 - length bytes % 16) % 16) 0), length-replicate {A = ℕ} ((16 - length bytes % 16) % 16) 0)

pub padded-whole : (a : List ℕ) → length a % 16 ≡ 0 → padded a ≡ a
unfolding padded
padded-whole a whole =
    let none : (16 - length a % 16) % 16 ≡ 0 = omega arith in
    ap (λ (n : ℕ). a ++ replicate n 0) none ∙ append-nil a

padded-append : (a b : List ℕ) → length a % 16 ≡ 0 → padded (a ++ b) ≡ a ++ padded b
unfolding padded
padded-append a b whole =
    let same : (16 - length (a ++ b) % 16) % 16 ≡ (16 - length b % 16) % 16 = omega (arith, length-append a b) in
    ap (λ (n : ℕ). a ++ b ++ replicate n 0) same ∙ append_assoc a b (replicate ((16 - length b % 16) % 16) 0)

-- a whole block is what stands in its place, with the byte 01 behind it
whole_block : (bytes : List ℕ) (i : ℕ) → 16 * i + 16 ≤ length bytes → fronted (2 ^ 24) (take 16 (drop (16 * i) bytes)) ≡ message_block bytes i
unfolding message_block text_block
whole_block bytes i within = full_block bytes (16 * i) within

-- 64 bytes with zeros behind the text have the padded text in front
filled_is : (rest : List ℕ) → length rest ≤ 64 → (k : ℕ) → k ≡ (16 - length rest % 16) % 16
    → rest ++ replicate (64 - length rest) 0 ≡ padded rest ++ replicate (64 - length rest - k) 0
unfolding padded
filled_is rest short k is =
    let more : 64 - length rest ≡ k + (64 - length rest - k) = omega arith in
    ap (λ n. rest ++ replicate n 0) more
    ∙ ap (λ t. rest ++ t) (sym (replicate-append-replicate k (64 - length rest - k) 0))
    ∙ sym (append_assoc rest (replicate k 0) (replicate (64 - length rest - k) 0))
    ∙ ap (λ n. (rest ++ replicate n 0) ++ replicate (64 - length rest - k) 0) is

pub filled_block : (rest : List ℕ) (i : ℕ) → length rest ≤ 64 → i < div_ceil (length rest) 16
    → fronted (2 ^ 24) (take 16 (drop (16 * i) (rest ++ replicate (64 - length rest) 0))) ≡ message_block (padded rest) i
filled_block rest i short within =
    let k : ℕ = (16 - length rest % 16) % 16 in
    let inside : 16 * i + 16 ≤ length (padded rest) = omega (arith, length-padded rest) in
    ap (λ t. fronted (2 ^ 24) (take 16 (drop (16 * i) t))) (filled_is rest short k refl)
    ∙ ap (fronted (2 ^ 24)) (in_first (padded rest) (replicate (64 - length rest - k) 0) i inside)
    ∙ whole_block (padded rest) i inside

-- the value after whole groups, and then after the rest
pub groups_and_rest : (r v v1 v2 : ℕ) (bytes groups rest : List ℕ) → bytes ≡ groups ++ rest → length groups % 16 ≡ 0
    → Same v1 (accumulated r (message_block groups) v (length groups / 16))
    → Same v2 (accumulated r (message_block (padded rest)) v1 (length (padded rest) / 16))
    → Same v2 (accumulated r (message_block (padded bytes)) v (length (padded bytes) / 16))
groups_and_rest r v v1 v2 bytes groups rest is whole first second =
    let m : ℕ = length groups / 16 in
    let n : ℕ = length (padded rest) / 16 in
    let text : padded bytes ≡ groups ++ padded rest = ap padded is ∙ padded-append groups rest whole in
    let count : length (padded bytes) / 16 ≡ m + n = omega (arith, ap length text, length-append groups (padded rest)) in
    second ∙ accumulated_same r (message_block (padded rest)) v1 (accumulated r (message_block groups) v m) n first
    ∙ ap (λ x. x % prime) (sym (in_two_parts r v groups (padded rest) m n (omega arith)))
    ∙ ap₂ (λ t k. accumulated r (message_block t) v k % prime) (sym text) (sym count)

-- ---- a short block

pub set_behind : (a : List ℕ) (x z : ℕ) (zs : List ℕ) → slice_set (a ++ z ∷ zs) (length a) x ≡ a ++ x ∷ zs
set_behind [] x z zs = refl
set_behind (y ∷ a) x z zs = ap (λ t. y ∷ t) (set_behind a x z zs)

no_value : (n : ℕ) → little_endian (replicate n 0) ≡ 0
unfolding little_endian
no_value zero = refl
no_value (suc n) = let rest = no_value n in omega arith

take_front : (a b : List ℕ) → length a ≡ 16 → take 16 (a ++ b) ≡ a
take_front a b long = take-append-le 16 a b (omega arith) ∙ take_all 16 a (omega arith)

-- a short block, a byte 01 and zeros behind it
pub marked_block : (last : List ℕ) → 0 < length last → length last < 16
    → fronted 0 (take 16 (drop (16 * 0) (last ++ 1 ∷ replicate (63 - length last) 0))) ≡ message_block last 0
unfolding little_endian message_block text_block poly_block
marked_block last some short =
    let n : ℕ = length last in
    let more : 63 - n ≡ (15 - n) + 48 = omega arith in
    let cut : take 16 (last ++ 1 ∷ replicate (63 - n) 0) ≡ last ++ 1 ∷ replicate (15 - n) 0 =
    ap (λ k. take 16 (last ++ 1 ∷ replicate k 0)) more
    ∙ ap (λ t. take 16 (last ++ 1 ∷ t)) (sym (replicate-append-replicate (15 - n) 48 0))
    ∙ ap (take 16) (sym (append_assoc last (1 ∷ replicate (15 - n) 0) (replicate 48 0)))
    ∙ take_front (last ++ 1 ∷ replicate (15 - n) 0) (replicate 48 0) (omega (arith, length-append last (1 ∷ replicate (15 - n) 0), length-replicate {A = ℕ} (15 - n) 0)) in
    let none : little_endian (replicate (15 - n) 0) ≡ 0 = no_value (15 - n) in
    let all : take 16 last ≡ last = take_all 16 last (omega arith) in
    ap (fronted 0) cut
    ∙ ap (λ k. k + 2 ^ 104 * 0) (in_parts last (1 ∷ replicate (15 - n) 0))
    ∙ rw (none, all) (omega arith)

-- the tag of a message in two parts, the first of whole blocks
pub tag_in_parts : (key message whole last : List ℕ) → message ≡ whole ++ last → length whole % 16 ≡ 0
    → poly_tag key (accumulated (key_r key) (message_block last)
    (accumulated (key_r key) (message_block (padded whole)) 0 (length (padded whole) / 16)) (div_ceil (length last) 16))
    ≡ poly1305 key message
unfolding poly1305
tag_in_parts key message whole last is blocks =
    let r : ℕ = key_r key in
    let m : ℕ = length whole / 16 in
    let n : ℕ = div_ceil (length last) 16 in
    let count : m + n ≡ div_ceil (length (whole ++ last)) 16 = omega (arith, length-append whole last) in
    ap (λ t. poly_tag key (accumulated r (message_block last) (accumulated r (message_block t) 0 (length t / 16)) n)) (padded-whole whole blocks)
    ∙ ap (poly_tag key) (sym (in_two_parts r 0 whole last m n (omega arith)))
    ∙ ap (λ k. poly_tag key (accumulated r (message_block (whole ++ last)) 0 k)) count
    ∙ ap (λ t. poly_tag key (accumulated r (message_block t) 0 (div_ceil (length t) 16))) (sym is)
