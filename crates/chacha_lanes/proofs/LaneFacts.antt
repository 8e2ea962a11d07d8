-- Vectors of eight lanes, lane by lane.
use Rattle.std.specs.Prelude.{◌≡◌, ℕ, zero, suc, ◌+◌, ◌-◌, ◌*◌, ◌/◌, ◌%◌, ◌^◌, ◌<◌, List, [], ◌∷◌, length, slice_index, bit_or, bit_xor}
use Rattle.std.proofs.Common.{arith, ap₂, ◌∙◌, refl, subst}
use Rattle.std.proofs.lemmas.Simd.{get_or-zip2, get_or-replicate, length-zip2}
use Rattle.std_defs.specs.ChaCha20.{xor_roll}
use Rattle.chacha_lanes.specs.Lanes.{lane, lane_at}
use lib.Lanes.{zip2}

-- what holds of each of the eight lanes
pub below_eight : (P : ℕ → Type 0) → P 0 → P 1 → P 2 → P 3 → P 4 → P 5 → P 6 → P 7 → (j : ℕ) → j < 8 → P j
below_eight P p0 p1 p2 p3 p4 p5 p6 p7 zero h = p0
below_eight P p0 p1 p2 p3 p4 p5 p6 p7 (suc zero) h = p1
below_eight P p0 p1 p2 p3 p4 p5 p6 p7 (suc (suc zero)) h = p2
below_eight P p0 p1 p2 p3 p4 p5 p6 p7 (suc (suc (suc zero))) h = p3
below_eight P p0 p1 p2 p3 p4 p5 p6 p7 (suc (suc (suc (suc zero)))) h = p4
below_eight P p0 p1 p2 p3 p4 p5 p6 p7 (suc (suc (suc (suc (suc zero))))) h = p5
below_eight P p0 p1 p2 p3 p4 p5 p6 p7 (suc (suc (suc (suc (suc (suc zero)))))) h = p6
below_eight P p0 p1 p2 p3 p4 p5 p6 p7 (suc (suc (suc (suc (suc (suc (suc zero))))))) h = p7
below_eight P p0 p1 p2 p3 p4 p5 p6 p7 (suc (suc (suc (suc (suc (suc (suc (suc n)))))))) h = absurd (omega arith)

-- what holds of each of the sixteen words
pub below_sixteen : (P : ℕ → Type 0) → P 0 → P 1 → P 2 → P 3 → P 4 → P 5 → P 6 → P 7
    → P 8 → P 9 → P 10 → P 11 → P 12 → P 13 → P 14 → P 15 → (k : ℕ) → k < 16 → P k
below_sixteen P a0 a1 a2 a3 a4 a5 a6 a7 b0 b1 b2 b3 b4 b5 b6 b7 k h =
    let place : 8 * (k / 8) + k % 8 ≡ k = omega arith in
    subst P place (below_eight (λ row. row < 2 → (col : ℕ) → col < 8 → P (8 * row + col))
    (λ _. below_eight _ a0 a1 a2 a3 a4 a5 a6 a7) (λ _. below_eight _ b0 b1 b2 b3 b4 b5 b6 b7)
    (λ l. absurd (omega arith)) (λ l. absurd (omega arith)) (λ l. absurd (omega arith)) (λ l. absurd (omega arith)) (λ l. absurd (omega arith)) (λ l. absurd (omega arith))
    (k / 8) (omega arith) (omega arith) (k % 8) (omega arith))

pub at : (f : ℕ → ℕ → ℕ) (x y : List ℕ) (j : ℕ) → length x ≡ 8 → length y ≡ 8 → j < 8
    → slice_index (zip2 f x y) j ≡ f (slice_index x j) (slice_index y j)
at f x y j ex ey lt = get_or-zip2 f x y j 0 0 0 (omega arith) (omega arith)

abbrev splat : ℕ → List ℕ
splat v = v ∷ v ∷ v ∷ v ∷ v ∷ v ∷ v ∷ v ∷ []

-- two shifts of each lane and an or are a rotation
pub shifts_rotate : (k : ℕ) → 0 < k → k < 32 → (a b : List ℕ) → length a ≡ 8 → length b ≡ 8 → (j : ℕ) → j < 8
    → slice_index (zip2 bit_or
    (zip2 (λ x n. x * 2 ^ n % 2 ^ 32) (zip2 bit_xor a b) (splat k))
    (zip2 (λ x n. x / 2 ^ n) (zip2 bit_xor a b) (splat (32 - k)))) j
    ≡ xor_roll (slice_index a j) (slice_index b j) k
shifts_rotate k low high a b ea eb j lt =
    let f : ℕ → ℕ → ℕ = λ x n. x * 2 ^ n % 2 ^ 32 in
    let g : ℕ → ℕ → ℕ = λ x n. x / 2 ^ n in
    let x : List ℕ = zip2 bit_xor a b in
    let ex : length x ≡ 8 = length-zip2 bit_xor a b (omega arith) ∙ ea in
    let up : k % 32 ≡ k = omega arith in
    let down : (32 - k) % 32 ≡ 32 - k = omega arith in
    at bit_or (zip2 f x (splat k)) (zip2 g x (splat (32 - k))) j (length-zip2 f x (splat k) ex ∙ ex) (length-zip2 g x (splat (32 - k)) ex ∙ ex) lt
    ∙ ap₂ bit_or
    (at f x (splat k) j ex refl lt ∙ ap₂ f (at bit_xor a b j ea eb lt) (get_or-replicate 8 j k 0 lt))
    (at g x (splat (32 - k)) j ex refl lt ∙ ap₂ g (at bit_xor a b j ea eb lt) (get_or-replicate 8 j (32 - k) 0 lt))
    ∙ rw (up, down) refl

-- word k of the state in lane j
pub slice_index-lane : (x : List (List ℕ)) (j k : ℕ) → k < 16 → slice_index (lane j x) k ≡ lane_at x k j
slice_index-lane x j =
    below_sixteen _ refl refl refl refl refl refl refl refl refl refl refl refl refl refl refl refl
