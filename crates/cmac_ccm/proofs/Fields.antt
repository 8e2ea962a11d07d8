-- Numbers in few bytes.
use Rattle.std.proofs.Common.{◌≡◌, ℕ, zero, suc, ◌+◌, ◌-◌, ◌*◌, ◌/◌, ◌%◌, ◌^◌, ◌<◌, ◌≤◌, refl, ap, ap₂, arith, List, ◌∷◌, ◌++◌, length, drop, length-append, length-take, length-drop}
use Rattle.std.specs.Prelude.{slice_index, Bool, if◌then◌else◌}
use Rattle.std.specs.Int.{bytes_high_first, byte_at}
use Rattle.std_defs.specs.Ccm.{ccm_q, ccm_nonce, ccm_flags, ccm_first_block, ccm_counter}

same_byte : (x y j : ℕ) → x % 2 ^ 64 ≡ y % 2 ^ 64 → j < 8 → byte_at j x ≡ byte_at j y
same_byte x y zero e h = omega arith
same_byte x y (suc zero) e h = omega arith
same_byte x y (suc (suc zero)) e h = omega arith
same_byte x y (suc (suc (suc zero))) e h = omega arith
same_byte x y (suc (suc (suc (suc zero)))) e h = omega arith
same_byte x y (suc (suc (suc (suc (suc zero))))) e h = omega arith
same_byte x y (suc (suc (suc (suc (suc (suc zero)))))) e h = omega arith
same_byte x y (suc (suc (suc (suc (suc (suc (suc zero))))))) e h = omega arith
same_byte x y (suc (suc (suc (suc (suc (suc (suc (suc j)))))))) e h = absurd (omega arith)

-- the low bytes of a number, of which at most eight are written
pub same_bytes : (x y k : ℕ) → x % 2 ^ 64 ≡ y % 2 ^ 64 → k ≤ 8 → bytes_high_first k x ≡ bytes_high_first k y
same_bytes x y zero e h = refl
same_bytes x y (suc k) e h = ap₂ (λ (b : ℕ) (t : List ℕ). b ∷ t) (same_byte x y k e (omega arith)) (same_bytes x y k e (omega arith))

pub same_counter : (iv : List ℕ) (i j : ℕ) → slice_index iv 0 ≤ 7 → i % 2 ^ 64 ≡ j % 2 ^ 64 → ccm_counter iv i ≡ ccm_counter iv j
unfolding ccm_counter
same_counter iv i j taken e = ap (λ (t : List ℕ). (ccm_q iv - 1) ∷ ccm_nonce iv ++ t) (same_bytes i j (ccm_q iv) e (omega arith))

pub cons : {x y : List ℕ} {xs ys : List (List ℕ)} → x ≡ y → xs ≡ ys → x ∷ xs ≡ y ∷ ys
cons e f = ap₂ (λ (a : List ℕ) (t : List (List ℕ)). a ∷ t) e f

-- the flags of B 0, by whether there are associated bytes
pub flags_are : (none : Bool) (adata s t v : ℕ) → adata ≡ (if none then 0 else 64) → s ≡ t - 2
    → adata + 8 * (s / 2) + v ≡ (if none then 0 else 64) + 8 * ((t - 2) / 2) + (v + 1 - 1)
flags_are none adata s t v is e = omega arith

bytes_high_first-length : (k n : ℕ) → length (bytes_high_first k n) ≡ k
bytes_high_first-length zero n = refl
bytes_high_first-length (suc k) n = omega (arith, bytes_high_first-length k n)

pub first_block-length : (t : ℕ) (iv aad text : List ℕ) → length iv ≡ 16 → slice_index iv 0 ≤ 7 → length (ccm_first_block t iv aad text) ≡ 16
unfolding ccm_first_block
first_block-length t iv aad text long taken =
    omega (arith, length-append (ccm_flags t iv aad ∷ ccm_nonce iv) (bytes_high_first (ccm_q iv) (length text)), length-take (15 - ccm_q iv) (drop 1 iv), length-drop 1 iv, bytes_high_first-length (ccm_q iv) (length text))
