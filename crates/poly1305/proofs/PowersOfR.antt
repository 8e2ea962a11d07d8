-- Powers of r in lanes.
use Rattle.std.specs.Prelude.{◌≡◌, ℕ, zero, suc, ◌*◌, ◌%◌, ◌^◌, ◌<◌, ◌≤◌, List, [], ◌∷◌, slice_index}
use Rattle.std.proofs.Common.{arith, ap, refl, ◌∙◌}
use Rattle.std_defs.specs.Poly1305.{prime}
use Rattle.poly1305.specs.Limbs.{limb, value_in, AreBelow, HasPowers}
use Rattle.poly1305.proofs.Horner.{Same, same_product}

-- what holds of each of the four lanes
pub below_four : (P : ℕ → Type 0) → P 0 → P 1 → P 2 → P 3 → (j : ℕ) → j < 4 → P j
below_four P p0 p1 p2 p3 zero h = p0
below_four P p0 p1 p2 p3 (suc zero) h = p1
below_four P p0 p1 p2 p3 (suc (suc zero)) h = p2
below_four P p0 p1 p2 p3 (suc (suc (suc zero))) h = p3
below_four P p0 p1 p2 p3 (suc (suc (suc (suc n)))) h = absurd (omega arith)

-- what follows from each number of blocks
pub one_to_four : {P : Type 0} → (n : ℕ) → 1 ≤ n → n ≤ 4 → (n ≡ 1 → P) → (n ≡ 2 → P) → (n ≡ 3 → P) → (n ≡ 4 → P) → P
one_to_four zero low high one two three four = absurd (omega arith)
one_to_four (suc zero) low high one two three four = one refl
one_to_four (suc (suc zero)) low high one two three four = two refl
one_to_four (suc (suc (suc zero))) low high one two three four = three refl
one_to_four (suc (suc (suc (suc zero)))) low high one two three four = four refl
one_to_four (suc (suc (suc (suc (suc n))))) low high one two three four = absurd (omega arith)

-- the bounds of lanes that are known
pub lanes_below : {w0 w1 w2 w3 w4 : List ℕ} (m : ℕ) (v0 v1 v2 v3 v4 : List ℕ) → v0 ≡ w0 → v1 ≡ w1 → v2 ≡ w2 → v3 ≡ w3 → v4 ≡ w4
    → AreBelow m (w0 ∷ w1 ∷ w2 ∷ w3 ∷ w4 ∷ []) 0 → AreBelow m (w0 ∷ w1 ∷ w2 ∷ w3 ∷ w4 ∷ []) 1
    → AreBelow m (w0 ∷ w1 ∷ w2 ∷ w3 ∷ w4 ∷ []) 2 → AreBelow m (w0 ∷ w1 ∷ w2 ∷ w3 ∷ w4 ∷ []) 3
    → (j : ℕ) → j < 4 → AreBelow m (v0 ∷ v1 ∷ v2 ∷ v3 ∷ v4 ∷ []) j
lanes_below {w0} {w1} {w2} {w3} {w4} m v0 v1 v2 v3 v4 e0 e1 e2 e3 e4 a b c d =
    rw (e0, e1, e2, e3, e4) (below_four (AreBelow m (w0 ∷ w1 ∷ w2 ∷ w3 ∷ w4 ∷ [])) a b c d)

pub wider : (m n : ℕ) (x : List (List ℕ)) (j : ℕ) → m < n → AreBelow m x j → AreBelow n x j
wider m n x j more b = record { b0 = omega arith; b1 = omega arith; b2 = omega arith; b3 = omega arith; b4 = omega arith }

lane_below : (n : ℕ) (x y : List (List ℕ)) (i j : ℕ) → ((k : ℕ) → limb x k i ≡ limb y k j) → AreBelow n y j → AreBelow n x i
lane_below n x y i j e b =
    let e0 = e 0 in
    let e1 = e 1 in
    let e2 = e 2 in
    let e3 = e 3 in
    let e4 = e 4 in
    record { b0 = omega arith; b1 = omega arith; b2 = omega arith; b3 = omega arith; b4 = omega arith }

lane_value : (x y : List (List ℕ)) (i j : ℕ) → ((k : ℕ) → limb x k i ≡ limb y k j) → value_in x i ≡ value_in y j
lane_value x y i j e =
    let e0 = e 0 in
    let e1 = e 1 in
    let e2 = e 2 in
    let e3 = e 3 in
    let e4 = e 4 in
    omega arith

-- limbs in the first lane, beside zeros
pub first_lane_below : (h : List (List ℕ)) (x : List ℕ) → ((k : ℕ) → limb h k 0 ≡ slice_index x k) → ((j k : ℕ) → 0 < j → limb h k j ≡ 0)
    → ((k : ℕ) → slice_index x k < 2 ^ 29) → (j : ℕ) → j < 4 → AreBelow (2 ^ 61) h j
first_lane_below h x first zeros below zero lt =
    let e0 = first 0 in
    let e1 = first 1 in
    let e2 = first 2 in
    let e3 = first 3 in
    let e4 = first 4 in
    let l0 = below 0 in
    let l1 = below 1 in
    let l2 = below 2 in
    let l3 = below 3 in
    let l4 = below 4 in
    record { b0 = omega arith; b1 = omega arith; b2 = omega arith; b3 = omega arith; b4 = omega arith }
first_lane_below h x first zeros below (suc j) lt =
    let e0 = zeros (suc j) 0 (omega arith) in
    let e1 = zeros (suc j) 1 (omega arith) in
    let e2 = zeros (suc j) 2 (omega arith) in
    let e3 = zeros (suc j) 3 (omega arith) in
    let e4 = zeros (suc j) 4 (omega arith) in
    record { b0 = omega arith; b1 = omega arith; b2 = omega arith; b3 = omega arith; b4 = omega arith }

module _ (r : ℕ) (f s t q l : List (List ℕ))
    (below_f : (j : ℕ) → j < 4 → AreBelow (2 ^ 27) f j) (is_f : (j : ℕ) → j < 4 → value_in f j ≡ r)
    (below_s : (j : ℕ) → j < 4 → AreBelow (2 ^ 27) s j) (is_s : (j : ℕ) → j < 4 → Same (value_in s j) (value_in f j * value_in f j))
    (below_t : (j : ℕ) → j < 4 → AreBelow (2 ^ 27) t j) (is_t : (j : ℕ) → j < 4 → Same (value_in t j) (value_in s j * value_in f j))
    (below_q : (j : ℕ) → j < 4 → AreBelow (2 ^ 27) q j) (is_q : (j : ℕ) → j < 4 → Same (value_in q j) (value_in s j * value_in s j))
    (lane0 : (k : ℕ) → limb l k 0 ≡ limb q k 0) (lane1 : (k : ℕ) → limb l k 1 ≡ limb t k 0)
    (lane2 : (k : ℕ) → limb l k 2 ≡ limb s k 0) (lane3 : (k : ℕ) → limb l k 3 ≡ limb f k 0) where
  square : (j : ℕ) → j < 4 → Same (value_in s j) (r * r)
  square j lt = is_s j lt ∙ rw (is_f j lt) refl

  cube : (j : ℕ) → j < 4 → Same (value_in t j) (r * r * r)
  cube j lt =
      let e : Same (value_in f j) r = ap (λ n. n % prime) (is_f j lt) in
      is_t j lt ∙ same_product (value_in s j) (r * r) (value_in f j) r (square j lt) e

  fourth_power : (j : ℕ) → j < 4 → Same (value_in q j) (r * r * r * r)
  fourth_power j lt =
      let e : r * r * (r * r) ≡ r * r * r * r = omega arith in
      is_q j lt ∙ same_product (value_in s j) (r * r) (value_in s j) (r * r) (square j lt) (square j lt) ∙ ap (λ n. n % prime) e

  pub powers_of : HasPowers r q l
  powers_of = record {
    each_below = below_q;
    last_below = below_four (AreBelow (2 ^ 27) l)
        (lane_below (2 ^ 27) l q 0 0 lane0 (below_q 0 (omega arith))) (lane_below (2 ^ 27) l t 1 0 lane1 (below_t 0 (omega arith)))
        (lane_below (2 ^ 27) l s 2 0 lane2 (below_s 0 (omega arith))) (lane_below (2 ^ 27) l f 3 0 lane3 (below_f 0 (omega arith)));
    each_fourth = fourth_power;
    last_row = record {
      lane0 = ap (λ n. n % prime) (lane_value l q 0 0 lane0) ∙ fourth_power 0 (omega arith);
      lane1 = ap (λ n. n % prime) (lane_value l t 1 0 lane1) ∙ cube 0 (omega arith);
      lane2 = ap (λ n. n % prime) (lane_value l s 2 0 lane2) ∙ square 0 (omega arith);
      lane3 = ap (λ n. n % prime) (lane_value l f 3 0 lane3 ∙ is_f 0 (omega arith));
    };
  }
