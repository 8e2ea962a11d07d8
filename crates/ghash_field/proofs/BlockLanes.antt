-- The bytes of a block, and how lanes have them.
use Rattle.std.proofs.Common.{◌≡◌, ℕ, zero, suc, ◌+◌, ◌-◌, ◌*◌, ◌/◌, ◌%◌, ◌^◌, ◌<◌, refl, sym, ap, ap₂, ◌∙◌, arith, List, [], ◌∷◌, get_or, length, pow-suc, bit_and}
use Rattle.std.specs.Int.{bytes_high_first, byte_at}
use Rattle.std.proofs.lemmas.Nat.{pow-add, and_mask}
use Rattle.std_defs.specs.Blocks.{block_bytes}
use Rattle.ghash_field.specs.ByteRows.{byte_of}

pow_256 : (m : ℕ) → 256 ^ m ≡ 2 ^ (8 * m)
pow_256 zero = refl
pow_256 (suc m) =
    pow-suc 256 m ∙ ap (λ (t : ℕ). t * 256) (pow_256 m) ∙ sym (pow-add 2 (8 * m) 8) ∙ ap (λ (t : ℕ). 2 ^ t) (let e : 8 * m + 8 ≡ 8 * suc m = omega arith in e)

byte_at-pow : (k n : ℕ) → byte_at k n ≡ n / 2 ^ (8 * k) % 2 ^ 8
byte_at-pow zero n = omega arith
byte_at-pow (suc k) n = ap (λ (t : ℕ). n / t % 256) (pow_256 (suc k))

bytes_at : (m n k : ℕ) → k < m → get_or (bytes_high_first m n) k 0 ≡ n / 2 ^ (8 * m - 8 - 8 * k) % 2 ^ 8
bytes_at zero n k h = absurd (omega arith)
bytes_at (suc m) n zero h = byte_at-pow m n ∙ ap (λ (t : ℕ). n / 2 ^ t % 2 ^ 8) (let e : 8 * m ≡ 8 * suc m - 8 - 8 * 0 = omega arith in e)
bytes_at (suc m) n (suc k) h = bytes_at m n k (omega arith) ∙ ap (λ (t : ℕ). n / 2 ^ t % 2 ^ 8) (let e : 8 * m - 8 - 8 * k ≡ 8 * suc m - 8 - 8 * suc k = omega arith in e)

pub block_bytes-at : (v k : ℕ) → k < 16 → get_or (block_bytes v) k 0 ≡ byte_of v k
unfolding block_bytes
block_bytes-at v k h = bytes_at 16 v k h

pub length-block_bytes : (v : ℕ) → length (block_bytes v) ≡ 16
unfolding block_bytes
length-block_bytes v = refl

cons : {x y : ℕ} {xs ys : List ℕ} → x ≡ y → xs ≡ ys → x ∷ xs ≡ y ∷ ys
cons e f = ap₂ (λ (a : ℕ) (t : List ℕ). a ∷ t) e f

-- the bytes of a number, highest first
high_first : (t : ℕ) → t / 256 / 256 / 256 / 256 / 256 / 256 / 256 / 256 / 256 / 256 / 256 / 256 / 256 / 256 / 256 % 256 ∷ t / 256 / 256 / 256 / 256 / 256 / 256 / 256 / 256 / 256 / 256 / 256 / 256 / 256 / 256 % 256 ∷ t / 256 / 256 / 256 / 256 / 256 / 256 / 256 / 256 / 256 / 256 / 256 / 256 / 256 % 256 ∷ t / 256 / 256 / 256 / 256 / 256 / 256 / 256 / 256 / 256 / 256 / 256 / 256 % 256 ∷ t / 256 / 256 / 256 / 256 / 256 / 256 / 256 / 256 / 256 / 256 / 256 % 256 ∷ t / 256 / 256 / 256 / 256 / 256 / 256 / 256 / 256 / 256 / 256 % 256 ∷ t / 256 / 256 / 256 / 256 / 256 / 256 / 256 / 256 / 256 % 256 ∷ t / 256 / 256 / 256 / 256 / 256 / 256 / 256 / 256 % 256 ∷ t / 256 / 256 / 256 / 256 / 256 / 256 / 256 % 256 ∷ t / 256 / 256 / 256 / 256 / 256 / 256 % 256 ∷ t / 256 / 256 / 256 / 256 / 256 % 256 ∷ t / 256 / 256 / 256 / 256 % 256 ∷ t / 256 / 256 / 256 % 256 ∷ t / 256 / 256 % 256 ∷ t / 256 % 256 ∷ t % 256 ∷ [] ≡ bytes_high_first 16 t
high_first t =
    cons (omega arith)
    (cons (omega arith)
    (cons (omega arith)
    (cons (omega arith)
    (cons (omega arith)
    (cons (omega arith)
    (cons (omega arith)
    (cons (omega arith)
    (cons (omega arith)
    (cons (omega arith)
    (cons (omega arith)
    (cons (omega arith)
    (cons (omega arith)
    (cons (omega arith)
    (cons (omega arith)
    (cons (omega arith) refl)))))))))))))))

pub from_halves : (t x : ℕ) → t ≡ bit_and x 0xffff_ffff_ffff_ffff + 2 ^ 64 * (x / 2 ^ 64 + 0)
    → t / 256 / 256 / 256 / 256 / 256 / 256 / 256 / 256 / 256 / 256 / 256 / 256 / 256 / 256 / 256 % 256 ∷ t / 256 / 256 / 256 / 256 / 256 / 256 / 256 / 256 / 256 / 256 / 256 / 256 / 256 / 256 % 256 ∷ t / 256 / 256 / 256 / 256 / 256 / 256 / 256 / 256 / 256 / 256 / 256 / 256 / 256 % 256 ∷ t / 256 / 256 / 256 / 256 / 256 / 256 / 256 / 256 / 256 / 256 / 256 / 256 % 256 ∷ t / 256 / 256 / 256 / 256 / 256 / 256 / 256 / 256 / 256 / 256 / 256 % 256 ∷ t / 256 / 256 / 256 / 256 / 256 / 256 / 256 / 256 / 256 / 256 % 256 ∷ t / 256 / 256 / 256 / 256 / 256 / 256 / 256 / 256 / 256 % 256 ∷ t / 256 / 256 / 256 / 256 / 256 / 256 / 256 / 256 % 256 ∷ t / 256 / 256 / 256 / 256 / 256 / 256 / 256 % 256 ∷ t / 256 / 256 / 256 / 256 / 256 / 256 % 256 ∷ t / 256 / 256 / 256 / 256 / 256 % 256 ∷ t / 256 / 256 / 256 / 256 % 256 ∷ t / 256 / 256 / 256 % 256 ∷ t / 256 / 256 % 256 ∷ t / 256 % 256 ∷ t % 256 ∷ [] ≡ block_bytes x
unfolding block_bytes
from_halves t x e = high_first t ∙ ap (bytes_high_first 16) (e ∙ ap (λ (s : ℕ). s + 2 ^ 64 * (x / 2 ^ 64 + 0)) (and_mask x 64) ∙ both x)
  where
    both : (x : ℕ) → x % 2 ^ 64 + 2 ^ 64 * (x / 2 ^ 64 + 0) ≡ x
    both x = omega arith
