-- Blocks as sums over their bytes: byte j of sixteen, at the front of a block, times x^(8j).
use Rattle.std.proofs.Common.{◌≡◌, ℕ, zero, suc, ◌+◌, ◌*◌, ◌^◌, ◌<◌, bit_xor, refl, sym, ap, ap₂, ◌∙◌, arith, List, get_or, pow-suc, lit<, mul_assoc, subst}
use Rattle.std.specs.Int.Bits.{xor_zero_r, xor_comm, xor_assoc, xor_shifted}
use Rattle.std.proofs.lemmas.Nat.{pow-add, shl_below, xor_block, mul-add-lt}
use Rattle.std_defs.specs.Blocks.{block_number}
use Rattle.std_defs.specs.GhashField.{Polynomial}
use Rattle.std_defs.proofs.Multiples.{times_x, times_power, times_power-xor, times_power-zero, times_power-add, multiple, multiple-xor, multiple-zero, multiple-times_power, xor_swap}
use Rattle.ghash_field.specs.ByteRows.{front, spread}
use Rattle.ghash_field.proofs.HalfBytes.{times_x-even}

-- a block times x^8
abbrev pub shift : ℕ → ℕ
shift v = times_power 8 v

pub spread-same : (n : ℕ) (f g : ℕ → ℕ) → ((i : ℕ) → i < n → f i ≡ g i) → spread n f ≡ spread n g
unfolding spread
spread-same zero f g same = refl
spread-same (suc n) f g same = ap₂ (λ (a b : ℕ). bit_xor a (shift b)) (same 0 (omega arith)) (spread-same n (λ i. f (suc i)) (λ i. g (suc i)) (λ i h. same (suc i) (omega arith)))

pub spread-zero : (n : ℕ) → spread n (λ i. 0) ≡ 0
unfolding spread
spread-zero zero = refl
spread-zero (suc n) = ap (λ (t : ℕ). bit_xor 0 (shift t)) (spread-zero n) ∙ ap (bit_xor 0) (times_power-zero 8) ∙ xor_zero_r 0

pub spread-xor : (n : ℕ) (f g : ℕ → ℕ) → spread n (λ i. bit_xor (f i) (g i)) ≡ bit_xor (spread n f) (spread n g)
unfolding spread
spread-xor zero f g = refl
spread-xor (suc n) f g =
    ap (λ (t : ℕ). bit_xor (bit_xor (f 0) (g 0)) (shift t)) (spread-xor n (λ i. f (suc i)) (λ i. g (suc i)))
    ∙ ap (bit_xor (bit_xor (f 0) (g 0))) (times_power-xor 8 (spread n (λ i. f (suc i))) (spread n (λ i. g (suc i))))
    ∙ xor_swap (f 0) (g 0) (shift (spread n (λ i. f (suc i)))) (shift (spread n (λ i. g (suc i))))

pub spread-shift : (n : ℕ) (f : ℕ → ℕ) → spread n (λ i. shift (f i)) ≡ shift (spread n f)
unfolding spread
spread-shift zero f = sym (times_power-zero 8)
spread-shift (suc n) f =
    ap (λ (t : ℕ). bit_xor (shift (f 0)) (shift t)) (spread-shift n (λ i. f (suc i)))
    ∙ sym (times_power-xor 8 (f 0) (shift (spread n (λ i. f (suc i)))))

-- rows and columns
pub spread-swap : (m n : ℕ) (f : ℕ → ℕ → ℕ) → spread m (λ j. spread n (λ k. f j k)) ≡ spread n (λ k. spread m (λ j. f j k))
unfolding spread
spread-swap zero n f = sym (spread-zero n)
spread-swap (suc m) n f =
    ap (λ (t : ℕ). bit_xor (spread n (f 0)) (shift t)) (spread-swap m n (λ j k. f (suc j) k))
    ∙ ap (bit_xor (spread n (f 0))) (sym (spread-shift n (λ k. spread m (λ j. f (suc j) k))))
    ∙ sym (spread-xor n (f 0) (λ k. shift (spread m (λ j. f (suc j) k))))

times_power-none : (v : ℕ) → v ≡ times_power 0 v
unfolding times_power
times_power-none v = refl

-- one more at the end
pub spread-last : (n : ℕ) (f : ℕ → ℕ) → spread (suc n) f ≡ bit_xor (spread n f) (times_power (8 * n) (f n))
unfolding spread
spread-last zero f =
    ap (bit_xor (f 0)) (times_power-zero 8) ∙ xor_comm (f 0) 0 ∙ ap (bit_xor 0) (times_power-none (f 0))
spread-last (suc n) f =
    ap (λ (t : ℕ). bit_xor (f 0) (shift t)) (spread-last n (λ i. f (suc i)))
    ∙ ap (bit_xor (f 0)) (times_power-xor 8 (spread n (λ i. f (suc i))) (times_power (8 * n) (f (suc n)))
    ∙ ap (bit_xor (shift (spread n (λ i. f (suc i))))) (sym (times_power-add 8 (8 * n) (f (suc n))) ∙ ap (λ (t : ℕ). times_power t (f (suc n))) (let e : 8 + 8 * n ≡ 8 * suc n = omega arith in e)))
    ∙ sym (xor_assoc (f 0) (shift (spread n (λ i. f (suc i)))) (times_power (8 * suc n) (f (suc n))))

-- a multiple of each
pub multiple-spread : (n : ℕ) (p : Polynomial) (f : ℕ → ℕ) → multiple 128 p (spread n f) ≡ spread n (λ i. multiple 128 p (f i))
unfolding spread
multiple-spread zero p f = multiple-zero 128 p
multiple-spread (suc n) p f =
    multiple-xor 128 p (f 0) (shift (spread n (λ i. f (suc i))))
    ∙ ap (bit_xor (multiple 128 p (f 0))) (multiple-times_power 128 p 8 (spread n (λ i. f (suc i))) ∙ ap shift (multiple-spread n p (λ i. f (suc i))))

-- ---- times a power of x, where nothing falls out

pub times_power-down : (n m a : ℕ) → times_power n (a * 2 ^ (n + m)) ≡ a * 2 ^ m
unfolding times_power
times_power-down zero m a = ap (λ (t : ℕ). a * 2 ^ t) (let e : 0 + m ≡ m = omega arith in e)
times_power-down (suc n) m a =
    ap (λ (t : ℕ). times_x (times_power n (a * 2 ^ t))) (let e : suc n + m ≡ n + suc m = omega arith in e)
    ∙ ap times_x (times_power-down n (suc m) a ∙ ap (λ (t : ℕ). a * t) (pow-suc 2 m) ∙ sym (mul_assoc a (2 ^ m) 2))
    ∙ times_x-even (a * 2 ^ m)

-- ---- the bytes of a block

pub front-xor : (a b : ℕ) → bit_xor (front a) (front b) ≡ front (bit_xor a b)
front-xor a b =
    ap₂ bit_xor (let e : front a ≡ a * 2 ^ 120 + 0 = omega arith in e) (let e : front b ≡ b * 2 ^ 120 + 0 = omega arith in e)
    ∙ xor_block 120 a b 0 0 (lit< tt) (lit< tt)
    ∙ (let e : bit_xor a b * 2 ^ 120 + bit_xor 0 0 ≡ bit_xor a b * 2 ^ 120 = omega (arith, xor_zero_r 0) in e)

-- the number of n bytes, the first of the greatest worth
unfoldable pub number : ℕ → (ℕ → ℕ) → ℕ
number zero b = 0
number (suc n) b = b 0 * 2 ^ (8 * n) + number n (λ i. b (suc i))

number-lt : (n : ℕ) (b : ℕ → ℕ) → ((i : ℕ) → b i < 256) → number n b < 2 ^ (8 * n)
unfolding number
number-lt zero b small = lit< tt
number-lt (suc n) b small =
    let ih : number n (λ i. b (suc i)) < 2 ^ (8 * n) = number-lt n (λ i. b (suc i)) (λ i. small (suc i)) in
    subst (λ (t : ℕ). b 0 * 2 ^ (8 * n) + number n (λ i. b (suc i)) < t)
    (sym (pow-add 2 (8 * n) 8) ∙ ap (λ (t : ℕ). 2 ^ t) (let e : 8 * n + 8 ≡ 8 * suc n = omega arith in e))
    (mul-add-lt (b 0) (2 ^ (8 * n)) (number n (λ i. b (suc i))) 256 (small 0) ih)

pub spread-number : (n k : ℕ) (b : ℕ → ℕ) → ((i : ℕ) → b i < 256) → 8 * n + k ≡ 128 → spread n (λ i. front (b i)) ≡ number n b * 2 ^ k
unfolding spread number
spread-number zero k b small e = omega arith
spread-number (suc n) k b small e =
    let rest : ℕ = number n (λ i. b (suc i)) in
    let fits : rest * 2 ^ k < 2 ^ (8 * n + k) = shl_below rest (8 * n) k (number-lt n (λ i. b (suc i)) (λ i. small (suc i))) in
    let place : 8 * n + k ≡ 120 = omega arith in
    ap (λ (t : ℕ). bit_xor (front (b 0)) (shift t)) (spread-number n (8 + k) (λ i. b (suc i)) (λ i. small (suc i)) (omega arith))
    ∙ ap (bit_xor (front (b 0))) (times_power-down 8 k rest)
    ∙ xor_shifted (b 0) 120 (rest * 2 ^ k) (subst (λ (t : ℕ). rest * 2 ^ k < 2 ^ t) place fits)
    ∙ ap (λ (t : ℕ). b 0 * 2 ^ t + rest * 2 ^ k) (sym place)
    ∙ ap (λ (t : ℕ). b 0 * t + rest * 2 ^ k) (pow-add 2 (8 * n) k)
    ∙ ap (λ (t : ℕ). t + rest * 2 ^ k) (sym (mul_assoc (b 0) (2 ^ (8 * n)) (2 ^ k)))
    ∙ sym (distributes (b 0 * 2 ^ (8 * n)) rest (2 ^ k))
  where
    distributes : (x y z : ℕ) → (x + y) * z ≡ x * z + y * z
    distributes x y z = grind arith

-- the number of a block, as a sum over its bytes
pub block_number-spread : (bytes : List ℕ) → ((i : ℕ) → get_or bytes i 0 < 256) → block_number bytes ≡ spread 16 (λ i. front (get_or bytes i 0))
unfolding block_number number
block_number-spread bytes small =
    (let e : block_number bytes ≡ number 16 (λ i. get_or bytes i 0) * 2 ^ 0 = omega arith in e)
    ∙ sym (spread-number 16 0 (λ i. get_or bytes i 0) small refl)

number-last : (n : ℕ) (b : ℕ → ℕ) → number (suc n) b ≡ number n b * 2 ^ 8 + b n
unfolding number
number-last zero b = omega arith
number-last (suc n) b =
    let ih : number (suc n) (λ i. b (suc i)) ≡ number n (λ i. b (suc i)) * 2 ^ 8 + b (suc n) = number-last n (λ i. b (suc i)) in
    let pw : 2 ^ (8 * suc n) ≡ 2 ^ (8 * n) * 2 ^ 8 = ap (λ (t : ℕ). 2 ^ t) (let e : 8 * suc n ≡ 8 * n + 8 = omega arith in e) ∙ pow-add 2 (8 * n) 8 in
    ap₂ (λ (x y : ℕ). b 0 * x + y) pw ih ∙ regroup (b 0) (2 ^ (8 * n)) (number n (λ i. b (suc i))) (b (suc n))
  where
    regroup : (x p r l : ℕ) → x * (p * 2 ^ 8) + (r * 2 ^ 8 + l) ≡ (x * p + r) * 2 ^ 8 + l
    regroup x p r l = grind arith

-- a block whose last byte is 0
pub spread-bytes : (bytes : List ℕ) → ((i : ℕ) → get_or bytes i 0 < 256) → get_or bytes 15 0 ≡ 0 → (a : ℕ) × (block_number bytes ≡ a * 2 ^ 8)
spread-bytes bytes small none = (
  number 15 (λ i. get_or bytes i 0),
  block_number-spread bytes small
      ∙ spread-number 16 0 (λ i. get_or bytes i 0) small refl
      ∙ (let e : number 16 (λ i. get_or bytes i 0) ≡ number 15 (λ i. get_or bytes i 0) * 2 ^ 8 + get_or bytes 15 0 = number-last 15 (λ i. get_or bytes i 0) in omega arith),
)
