-- counter blocks in one step
use Rattle.std.proofs.Common.{◌≡◌, ℕ, zero, suc, ◌+◌, ◌*◌, ◌/◌, ◌%◌, ◌^◌, arith, sym, ap, ◌∙◌}
use Rattle.std_defs.specs.Gcm.{inc32, counter_block}

next : (x n m : ℕ) → m ≡ x / 2 ^ 32 * 2 ^ 32 + (x % 2 ^ 32 + n) % 2 ^ 32 → m / 2 ^ 32 * 2 ^ 32 + (m % 2 ^ 32 + 1) % 2 ^ 32 ≡ x / 2 ^ 32 * 2 ^ 32 + (x % 2 ^ 32 + suc n) % 2 ^ 32
next x n m e = omega arith

pub counted : (x n : ℕ) → counter_block x n ≡ x / 2 ^ 32 * 2 ^ 32 + (x % 2 ^ 32 + n) % 2 ^ 32
unfolding counter_block inc32
counted x zero = omega arith
counted x (suc n) = next x n (counter_block x n) (counted x n)

-- one row of counter blocks behind another
pub counted_on : (x y n m : ℕ) → y ≡ counter_block x m → counter_block y n ≡ counter_block x (n + m)
counted_on x y n m e = counted y n ∙ joined (e ∙ counted x m) ∙ sym (counted x (n + m))
  where
    joined : y ≡ x / 2 ^ 32 * 2 ^ 32 + (x % 2 ^ 32 + m) % 2 ^ 32 → y / 2 ^ 32 * 2 ^ 32 + (y % 2 ^ 32 + n) % 2 ^ 32 ≡ x / 2 ^ 32 * 2 ^ 32 + (x % 2 ^ 32 + (n + m)) % 2 ^ 32
    joined h = omega arith

-- the row behind a first block
pub behind : (x y n : ℕ) → x ≡ y → counter_block x (n + 1) ≡ counter_block (inc32 y) n
unfolding counter_block
behind x y n e = sym (counted_on x (inc32 y) n 1 (ap inc32 (sym e)))
