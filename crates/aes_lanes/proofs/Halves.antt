-- two blocks side by side
use Rattle.std.specs.Prelude.{◌≡◌, ℕ, List, [], ◌∷◌, ◌++◌, map, take, drop, length, refl}
use Rattle.std.specs.List.{range_with_len}
use Rattle.std.proofs.Common.{subst}
use Rattle.std.proofs.Math.Seq.{take-append_seam, drop-append_seam}
use lib.Lanes.{pick_l}
use Rattle.std_defs.specs.Aes.{shift_rows, inverse_shift_rows}
use Rattle.aes_lanes.specs.Pairs.{each_half}

pub all_shifted : (z : ℕ → ℕ) → pick_l 0 (map z (range_with_len 0 32) ++ map z (range_with_len 0 32)) (0 ∷ 5 ∷ 10 ∷ 15 ∷ 4 ∷ 9 ∷ 14 ∷ 3 ∷ 8 ∷ 13 ∷ 2 ∷ 7 ∷ 12 ∷ 1 ∷ 6 ∷ 11 ∷ 16 ∷ 21 ∷ 26 ∷ 31 ∷ 20 ∷ 25 ∷ 30 ∷ 19 ∷ 24 ∷ 29 ∷ 18 ∷ 23 ∷ 28 ∷ 17 ∷ 22 ∷ 27 ∷ [])
    ≡ each_half shift_rows (map z (range_with_len 0 32))
unfolding shift_rows
all_shifted z = refl

pub all_shifted_back : (z : ℕ → ℕ) → pick_l 0 (map z (range_with_len 0 32) ++ map z (range_with_len 0 32)) (0 ∷ 13 ∷ 10 ∷ 7 ∷ 4 ∷ 1 ∷ 14 ∷ 11 ∷ 8 ∷ 5 ∷ 2 ∷ 15 ∷ 12 ∷ 9 ∷ 6 ∷ 3 ∷ 16 ∷ 29 ∷ 26 ∷ 23 ∷ 20 ∷ 17 ∷ 30 ∷ 27 ∷ 24 ∷ 21 ∷ 18 ∷ 31 ∷ 28 ∷ 25 ∷ 22 ∷ 19 ∷ [])
    ≡ each_half inverse_shift_rows (map z (range_with_len 0 32))
unfolding inverse_shift_rows
all_shifted_back z = refl

pub dropped_places : (z : ℕ → ℕ) → pick_l 0 (map z (range_with_len 0 32) ++ map z (range_with_len 0 32)) (range_with_len 16 16) ≡ drop 16 (map z (range_with_len 0 32))
dropped_places z = refl

-- ---- two lists behind one another

pub front : (xs ys : List ℕ) → length xs ≡ 16 → take 16 (xs ++ ys) ≡ xs
front xs ys e = subst (λ (n : ℕ). take n (xs ++ ys) ≡ xs) e (take-append_seam xs ys)

pub back : (xs ys : List ℕ) → length xs ≡ 16 → drop 16 (xs ++ ys) ≡ ys
back xs ys e = subst (λ (n : ℕ). drop n (xs ++ ys) ≡ ys) e (drop-append_seam xs ys)
