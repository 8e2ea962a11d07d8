-- The bytes of a block are those of its two halves.
use Rattle.std.proofs.Common.{◌≡◌, ℕ, ◌+◌, ◌*◌, ◌<◌, [], ◌/◌, ◌%◌, ◌^◌, refl, ap₂, arith, List, ◌∷◌, ◌++◌, bit_and, ap, ◌∙◌}
use Rattle.std.specs.Int.{bytes_high_first, to_le_bytes, swap_bytes, w64}
use Rattle.std.proofs.lemmas.Nat.{and_mask}
use Rattle.std_defs.specs.Blocks.{block_bytes}

cons : {x y : ℕ} {xs ys : List ℕ} → x ≡ y → xs ≡ ys → x ∷ xs ≡ y ∷ ys
cons e f = ap₂ (λ (a : ℕ) (t : List ℕ). a ∷ t) e f

low_half : (n : ℕ) → bytes_high_first 8 (n % 2 ^ 64) ≡ bytes_high_first 8 n
low_half n =
    cons (omega arith) (cons (omega arith) (cons (omega arith) (cons (omega arith)
    (cons (omega arith) (cons (omega arith) (cons (omega arith) (cons (omega arith) refl)))))))

both_halves : (n : ℕ) → bytes_high_first 8 (n / 2 ^ 64) ++ bytes_high_first 8 n ≡ bytes_high_first 16 n
both_halves n =
    cons (omega arith) (cons (omega arith) (cons (omega arith) (cons (omega arith)
    (cons (omega arith) (cons (omega arith) (cons (omega arith) (cons (omega arith) refl)))))))

pub block_bytes-halves : (n : ℕ) → bytes_high_first 8 (n / 2 ^ 64) ++ bytes_high_first 8 (bit_and n 0xffff_ffff_ffff_ffff) ≡ block_bytes n
unfolding block_bytes
block_bytes-halves n =
    ap (λ (t : List ℕ). bytes_high_first 8 (n / 2 ^ 64) ++ t) (ap (bytes_high_first 8) (and_mask n 64) ∙ low_half n) ∙ both_halves n

-- the bytes of a number that eight bytes make, lowest first
eight_bytes : (a b c d e f g h : ℕ) → a < 256 → b < 256 → c < 256 → d < 256 → e < 256 → f < 256 → g < 256 → h < 256
    → to_le_bytes w64 (a * 72057594037927936 + b * 281474976710656 + c * 1099511627776 + d * 4294967296 + e * 16777216 + f * 65536 + g * 256 + h) ≡ h ∷ g ∷ f ∷ e ∷ d ∷ c ∷ b ∷ a ∷ []
eight_bytes a b c d e f g h la lb lc ld le lf lg lh =
    cons (omega arith) (cons (omega arith) (cons (omega arith) (cons (omega arith)
    (cons (omega arith) (cons (omega arith) (cons (omega arith) (cons (omega arith) refl)))))))

pub le_of_swapped : (n : ℕ) → to_le_bytes w64 (swap_bytes w64 n) ≡ bytes_high_first 8 n
le_of_swapped n =
    eight_bytes (n % 256) (n / 256 % 256) (n / 65536 % 256) (n / 16777216 % 256) (n / 4294967296 % 256) (n / 1099511627776 % 256) (n / 281474976710656 % 256) (n / 72057594037927936 % 256)
    (omega arith) (omega arith) (omega arith) (omega arith) (omega arith) (omega arith) (omega arith) (omega arith)
