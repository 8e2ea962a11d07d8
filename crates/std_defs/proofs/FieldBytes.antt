-- Blocks of 16 bytes and the numbers that they write.
use Rattle.std.proofs.Common.{◌≡◌, ℕ, zero, suc, ◌+◌, ◌-◌, ◌*◌, ◌/◌, ◌%◌, ◌^◌, ◌<◌, ◌≤◌, refl, sym, ap, ap₂, ◌∙◌, arith, List, ◌∷◌, get_or, slice_index, pow-suc, lit<, mul_comm}
use Rattle.std.specs.Int.{bytes_high_first, byte_at, byte_worth, sum_through}
use Rattle.std.proofs.lemmas.Nat.{mul-add-lt}
use Rattle.std_defs.specs.Blocks.{block_number, block_bytes}
use Rattle.std.proofs.Math.Arith.{mod-mul}

-- ---- the number of k + 1 bytes

abbrev number_of : ℕ → List ℕ → ℕ
number_of k bytes = sum_through (λ i. byte_worth (k - i) (slice_index bytes i)) k

sum_through-same : (f g : ℕ → ℕ) (k : ℕ) → ((i : ℕ) → i ≤ k → f i ≡ g i) → sum_through f k ≡ sum_through g k
sum_through-same f g zero same = same 0 (omega arith)
sum_through-same f g (suc k) same = ap₂ (λ (a b : ℕ). a + b) (sum_through-same f g k (λ i h. same i (omega arith))) (same (suc k) (omega arith))

sum_through-first : (f : ℕ → ℕ) (k : ℕ) → sum_through f (suc k) ≡ f 0 + sum_through (λ i. f (suc i)) k
sum_through-first f zero = refl
sum_through-first f (suc k) = let ih : sum_through f (suc k) ≡ f 0 + sum_through (λ i. f (suc i)) k = sum_through-first f k in omega arith

-- the number depends on the 16 bytes alone
pub block_number-same : (xs ys : List ℕ) → ((i : ℕ) → i < 16 → get_or xs i 0 ≡ get_or ys i 0) → block_number xs ≡ block_number ys
unfolding block_number
block_number-same xs ys same =
    sum_through-same (λ i. byte_worth (15 - i) (slice_index xs i)) (λ i. byte_worth (15 - i) (slice_index ys i)) 15
    (λ i h. ap (byte_worth (15 - i)) (same i (omega arith)))

number_of-cons : (k b : ℕ) (bytes : List ℕ) → number_of (suc k) (b ∷ bytes) ≡ b * 256 ^ suc k + number_of k bytes
number_of-cons k b bytes =
    sum_through-first (λ i. byte_worth (suc k - i) (slice_index (b ∷ bytes) i)) k
    ∙ ap₂ (λ (x y : ℕ). x + y)
    (ap (λ (t : ℕ). byte_worth t b) (let e : suc k - 0 ≡ suc k = omega arith in e))
    (sum_through-same (λ i. byte_worth (suc k - suc i) (slice_index (b ∷ bytes) (suc i))) (λ i. byte_worth (k - i) (slice_index bytes i)) k
    (λ i h. ap (λ (t : ℕ). byte_worth t (slice_index bytes i)) (let e : suc k - suc i ≡ k - i = omega arith in e)))

top_byte : (n p : ℕ) → 0 < p → n / p % 256 * p + n % p ≡ n % (p * 256)
top_byte n p pos = sym (mod-mul n {m = 256} (lit< tt) pos) ∙ ap (λ (t : ℕ). n % t) (mul_comm 256 p)

power_pos : (k : ℕ) → 0 < 256 ^ k
power_pos zero = lit< tt
power_pos (suc k) = let ih : 0 < 256 ^ k = power_pos k in let pw : 256 ^ suc k ≡ 256 ^ k * 256 = pow-suc 256 k in omega arith

number_of-bytes : (k n : ℕ) → number_of k (bytes_high_first (suc k) n) ≡ n % 256 ^ suc k
number_of-bytes zero n = refl
number_of-bytes (suc k) n =
    number_of-cons k (byte_at (suc k) n) (bytes_high_first (suc k) n)
    ∙ ap (λ (t : ℕ). n / 256 ^ suc k % 256 * 256 ^ suc k + t) (number_of-bytes k n)
    ∙ top_byte n (256 ^ suc k) (power_pos (suc k))
    ∙ ap (λ (t : ℕ). n % t) (sym (pow-suc 256 (suc k)))

pub block_number-block_bytes : (n : ℕ) → n < 2 ^ 128 → block_number (block_bytes n) ≡ n
unfolding block_number block_bytes
block_number-block_bytes n h = number_of-bytes 15 n ∙ (let e : n % 2 ^ 128 ≡ n = omega arith in e)

sum_of_bytes-lt : (k : ℕ) (byte : ℕ → ℕ) → ((i : ℕ) → byte i < 256) → sum_through (λ i. byte_worth (k - i) (byte i)) k < 256 ^ suc k
sum_of_bytes-lt zero byte small = small 0
sum_of_bytes-lt (suc k) byte small =
    let ih : sum_through (λ i. byte_worth (k - i) (byte (suc i))) k < 256 ^ suc k = sum_of_bytes-lt k (λ i. byte (suc i)) (λ i. small (suc i)) in
    let first : sum_through (λ i. byte_worth (suc k - i) (byte i)) (suc k) ≡ byte 0 * 256 ^ suc k + sum_through (λ i. byte_worth (k - i) (byte (suc i))) k =
    sum_through-first (λ i. byte_worth (suc k - i) (byte i)) k
    ∙ ap₂ (λ (x y : ℕ). x + y)
    (ap (λ (t : ℕ). byte_worth t (byte 0)) (let e : suc k - 0 ≡ suc k = omega arith in e))
    (sum_through-same (λ i. byte_worth (suc k - suc i) (byte (suc i))) (λ i. byte_worth (k - i) (byte (suc i))) k
    (λ i h. ap (λ (t : ℕ). byte_worth t (byte (suc i))) (let e : suc k - suc i ≡ k - i = omega arith in e))) in
    rw (first, pow-suc 256 (suc k)) (carry (byte 0) (256 ^ suc k) (sum_through (λ i. byte_worth (k - i) (byte (suc i))) k) (small 0) ih)
  where
    carry : (b p r : ℕ) → b < 256 → r < p → b * p + r < p * 256
    carry b p r hb hr = mul-add-lt b p r 256 hb hr

pub block_number-lt : (bytes : List ℕ) → ((i : ℕ) → get_or bytes i 0 < 256) → block_number bytes < 2 ^ 128
unfolding block_number
block_number-lt bytes small = sum_of_bytes-lt 15 (slice_index bytes) small
