-- Four blocks at a time, each in a lane.
use Rattle.std.specs.Prelude.{◌≡◌, ℕ, zero, suc, ◌+◌, ◌*◌, ◌%◌, ◌<◌}
use Rattle.std.proofs.Common.{arith, sym, ap, ap₂, ◌∙◌, refl, add-one, add-zero, add-suc}
use Rattle.std.proofs.lemmas.Nat.{mul-mod}
use Rattle.std_defs.specs.Poly1305.{prime, accumulated}

-- the same remainder
abbrev pub Same : ℕ → ℕ → Type 0
Same a b = a % prime ≡ b % prime

pub same_sum : (a b c d : ℕ) → Same a b → Same c d → Same (a + c) (b + d)
same_sum a b c d e f = omega arith

pub same_product : (a b c d : ℕ) → Same a b → Same c d → Same (a * c) (b * d)
same_product a b c d e f = mul-mod a c prime ∙ rw (e, f) (sym (mul-mod b d prime))

pub four_same : (a b c d e f g h : ℕ) → Same a e → Same b f → Same c g → Same d h → Same (a + b + c + d) (e + f + g + h)
four_same a b c d e f g h ae bf cg dh =
    same_sum (a + b + c) (e + f + g) d h (same_sum (a + b) (e + f) c g (same_sum a e b f ae bf) cg) dh

-- one block after another
abbrev pub four_more : ℕ → ℕ → ℕ → ℕ → ℕ → ℕ → ℕ
four_more r a m0 m1 m2 m3 = ((((a + m0) * r + m1) * r + m2) * r + m3) * r

-- the sum over the lanes
abbrev pub over_lanes : ℕ → ℕ → ℕ → ℕ → ℕ → ℕ
over_lanes r v0 v1 v2 v3 = v0 * (r * r * r) + v1 * (r * r) + v2 * r + v3

over_lanes_same : (r v0 v1 v2 v3 w0 w1 w2 w3 : ℕ) → Same v0 w0 → Same v1 w1 → Same v2 w2 → Same v3 w3
    → Same (over_lanes r v0 v1 v2 v3) (over_lanes r w0 w1 w2 w3)
over_lanes_same r v0 v1 v2 v3 w0 w1 w2 w3 e0 e1 e2 e3 =
    same_sum (v0 * (r * r * r) + v1 * (r * r) + v2 * r) (w0 * (r * r * r) + w1 * (r * r) + w2 * r) v3 w3
    (same_sum (v0 * (r * r * r) + v1 * (r * r)) (w0 * (r * r * r) + w1 * (r * r)) (v2 * r) (w2 * r)
    (same_sum (v0 * (r * r * r)) (w0 * (r * r * r)) (v1 * (r * r)) (w1 * (r * r))
    (same_product v0 w0 (r * r * r) (r * r * r) e0 refl) (same_product v1 w1 (r * r) (r * r) e1 refl))
    (same_product v2 w2 r r e2 refl)) e3

regrouped : (r v0 v1 v2 v3 m0 m1 m2 m3 : ℕ)
    → over_lanes r ((v0 + m0) * (r * r * r * r)) ((v1 + m1) * (r * r * r * r)) ((v2 + m2) * (r * r * r * r)) ((v3 + m3) * (r * r * r * r))
    ≡ (over_lanes r v0 v1 v2 v3 + over_lanes r m0 m1 m2 m3) * (r * r * r * r)
regrouped r v0 v1 v2 v3 m0 m1 m2 m3 = omega arith

one_by_one : (r a m0 m1 m2 m3 : ℕ) → (a * (r * r * r) + over_lanes r m0 m1 m2 m3) * (r * r * r * r) ≡ four_more r a m0 m1 m2 m3 * (r * r * r)
one_by_one r a m0 m1 m2 m3 = omega arith

-- each lane with a block more, times r^4
pub next_group : (r a m0 m1 m2 m3 v0 v1 v2 v3 w0 w1 w2 w3 : ℕ)
    → Same w0 ((v0 + m0) * (r * r * r * r)) → Same w1 ((v1 + m1) * (r * r * r * r)) → Same w2 ((v2 + m2) * (r * r * r * r)) → Same w3 ((v3 + m3) * (r * r * r * r))
    → Same (over_lanes r v0 v1 v2 v3) (a * (r * r * r))
    → Same (over_lanes r w0 w1 w2 w3) (four_more r a m0 m1 m2 m3 * (r * r * r))
next_group r a m0 m1 m2 m3 v0 v1 v2 v3 w0 w1 w2 w3 e0 e1 e2 e3 e =
    let q : ℕ = r * r * r * r in
    let m : ℕ = over_lanes r m0 m1 m2 m3 in
    over_lanes_same r w0 w1 w2 w3 ((v0 + m0) * q) ((v1 + m1) * q) ((v2 + m2) * q) ((v3 + m3) * q) e0 e1 e2 e3
    ∙ ap (λ n. n % prime) (regrouped r v0 v1 v2 v3 m0 m1 m2 m3)
    ∙ same_product (over_lanes r v0 v1 v2 v3 + m) (a * (r * r * r) + m) q q (same_sum (over_lanes r v0 v1 v2 v3) (a * (r * r * r)) m m e refl) refl
    ∙ ap (λ n. n % prime) (one_by_one r a m0 m1 m2 m3)

last_regrouped : (r v0 v1 v2 v3 m0 m1 m2 m3 : ℕ)
    → (v0 + m0) * (r * r * r * r) + (v1 + m1) * (r * r * r) + (v2 + m2) * (r * r) + (v3 + m3) * r
    ≡ (over_lanes r v0 v1 v2 v3 + over_lanes r m0 m1 m2 m3) * r
last_regrouped r v0 v1 v2 v3 m0 m1 m2 m3 = omega arith

last_one_by_one : (r a m0 m1 m2 m3 : ℕ) → (a * (r * r * r) + over_lanes r m0 m1 m2 m3) * r ≡ four_more r a m0 m1 m2 m3
last_one_by_one r a m0 m1 m2 m3 = omega arith

-- the last group, whose lanes are multiplied by r^4, r^3, r^2 and r, and then added
pub last_group : (r a m0 m1 m2 m3 v0 v1 v2 v3 w0 w1 w2 w3 : ℕ)
    → Same w0 ((v0 + m0) * (r * r * r * r)) → Same w1 ((v1 + m1) * (r * r * r)) → Same w2 ((v2 + m2) * (r * r)) → Same w3 ((v3 + m3) * r)
    → Same (over_lanes r v0 v1 v2 v3) (a * (r * r * r))
    → Same (w0 + w1 + w2 + w3) (four_more r a m0 m1 m2 m3)
last_group r a m0 m1 m2 m3 v0 v1 v2 v3 w0 w1 w2 w3 e0 e1 e2 e3 e =
    let m : ℕ = over_lanes r m0 m1 m2 m3 in
    same_sum (w0 + w1 + w2) ((v0 + m0) * (r * r * r * r) + (v1 + m1) * (r * r * r) + (v2 + m2) * (r * r)) w3 ((v3 + m3) * r)
    (same_sum (w0 + w1) ((v0 + m0) * (r * r * r * r) + (v1 + m1) * (r * r * r)) w2 ((v2 + m2) * (r * r))
    (same_sum w0 ((v0 + m0) * (r * r * r * r)) w1 ((v1 + m1) * (r * r * r)) e0 e1) e2) e3
    ∙ ap (λ n. n % prime) (last_regrouped r v0 v1 v2 v3 m0 m1 m2 m3)
    ∙ same_product (over_lanes r v0 v1 v2 v3 + m) (a * (r * r * r) + m) r r (same_sum (over_lanes r v0 v1 v2 v3) (a * (r * r * r)) m m e refl) refl
    ∙ ap (λ n. n % prime) (last_one_by_one r a m0 m1 m2 m3)

step : (r : ℕ) (block : ℕ → ℕ) (a n : ℕ) → accumulated r block a (n + 1) ≡ (accumulated r block a n + block n) * r % prime
unfolding accumulated
step r block a n = rw add-one refl

-- a block more
once : (r m x y : ℕ) → Same x y → Same ((x + m) * r) ((y + m) * r)
once r m x y e = same_product (x + m) (y + m) r r (same_sum x y m m e refl) refl

again : (r m x y z : ℕ) → z ≡ (x + m) * r % prime → Same x y → Same z ((y + m) * r)
again r m x y z e same =
    let f : Same ((x + m) * r) ((y + m) * r) = once r m x y same in
    let g : Same z ((x + m) * r) = omega arith in
    g ∙ f

-- one to four blocks more of what the specification accumulates
module _ (r : ℕ) (block : ℕ → ℕ) (a n : ℕ) where
  pub one_accumulated : Same (accumulated r block a (n + 1)) ((accumulated r block a n + block n) * r)
  one_accumulated =
      again r (block n) (accumulated r block a n) (accumulated r block a n) (accumulated r block a (n + 1)) (step r block a n) refl

  pub two_accumulated : Same (accumulated r block a (n + 2)) (((accumulated r block a n + block n) * r + block (n + 1)) * r)
  two_accumulated =
      let two : n + 2 ≡ n + 1 + 1 = omega arith in
      again r (block (n + 1)) (accumulated r block a (n + 1)) ((accumulated r block a n + block n) * r) (accumulated r block a (n + 2))
      (ap (accumulated r block a) two ∙ step r block a (n + 1)) one_accumulated

  pub three_accumulated : Same (accumulated r block a (n + 3)) ((((accumulated r block a n + block n) * r + block (n + 1)) * r + block (n + 2)) * r)
  three_accumulated =
      let three : n + 3 ≡ n + 2 + 1 = omega arith in
      again r (block (n + 2)) (accumulated r block a (n + 2)) (((accumulated r block a n + block n) * r + block (n + 1)) * r) (accumulated r block a (n + 3))
      (ap (accumulated r block a) three ∙ step r block a (n + 2)) two_accumulated

  pub four_accumulated : accumulated r block a (n + 4)
      ≡ four_more r (accumulated r block a n) (block n) (block (n + 1)) (block (n + 2)) (block (n + 3)) % prime
  four_accumulated =
      let four : n + 4 ≡ n + 3 + 1 = omega arith in
      ap (accumulated r block a) four ∙ step r block a (n + 3)
      ∙ once r (block (n + 3)) (accumulated r block a (n + 3)) ((((accumulated r block a n + block n) * r + block (n + 1)) * r + block (n + 2)) * r) three_accumulated

-- four lanes, each with a block more and times a power, and then added
pub lanes_added : (v0 v1 v2 v3 b0 b1 b2 b3 p0 p1 p2 p3 q0 q1 q2 q3 w0 w1 w2 w3 : ℕ)
    → Same w0 ((v0 + b0) * p0) → Same w1 ((v1 + b1) * p1) → Same w2 ((v2 + b2) * p2) → Same w3 ((v3 + b3) * p3)
    → Same p0 q0 → Same p1 q1 → Same p2 q2 → Same p3 q3
    → Same (w0 + w1 + w2 + w3) ((v0 + b0) * q0 + (v1 + b1) * q1 + (v2 + b2) * q2 + (v3 + b3) * q3)
lanes_added v0 v1 v2 v3 b0 b1 b2 b3 p0 p1 p2 p3 q0 q1 q2 q3 w0 w1 w2 w3 e0 e1 e2 e3 f0 f1 f2 f3 =
    same_sum (w0 + w1 + w2) ((v0 + b0) * q0 + (v1 + b1) * q1 + (v2 + b2) * q2) w3 ((v3 + b3) * q3)
    (same_sum (w0 + w1) ((v0 + b0) * q0 + (v1 + b1) * q1) w2 ((v2 + b2) * q2)
    (same_sum w0 ((v0 + b0) * q0) w1 ((v1 + b1) * q1)
    (e0 ∙ same_product (v0 + b0) (v0 + b0) p0 q0 refl f0) (e1 ∙ same_product (v1 + b1) (v1 + b1) p1 q1 refl f1))
    (e2 ∙ same_product (v2 + b2) (v2 + b2) p2 q2 refl f2))
    (e3 ∙ same_product (v3 + b3) (v3 + b3) p3 q3 refl f3)

-- what is accumulated from two values of the same remainder
pub accumulated_same : (r : ℕ) (block : ℕ → ℕ) (x y n : ℕ) → Same x y → Same (accumulated r block x n) (accumulated r block y n)
unfolding accumulated
accumulated_same r block x y zero e = e
accumulated_same r block x y (suc n) e =
    let f : Same ((accumulated r block x n + block n) * r) ((accumulated r block y n + block n) * r) =
    once r (block n) (accumulated r block x n) (accumulated r block y n) (accumulated_same r block x y n e) in
    omega arith

-- what is accumulated of the same blocks
pub accumulated_blocks : (r : ℕ) (f g : ℕ → ℕ) (x n : ℕ) → ((i : ℕ) → i < n → f i ≡ g i) → accumulated r f x n ≡ accumulated r g x n
unfolding accumulated
accumulated_blocks r f g x zero e = refl
accumulated_blocks r f g x (suc n) e =
    ap₂ (λ u v. (u + v) * r % prime) (accumulated_blocks r f g x n (λ i lt. e i (omega arith))) (e n (omega arith))

-- what is accumulated in two parts
pub accumulated_parts : (r : ℕ) (block : ℕ → ℕ) (x m n : ℕ)
    → accumulated r block x (m + n) ≡ accumulated r (λ i. block (m + i)) (accumulated r block x m) n
unfolding accumulated
accumulated_parts r block x m zero = ap (accumulated r block x) (add-zero m)
accumulated_parts r block x m (suc n) =
    ap (accumulated r block x) (add-suc m n) ∙ ap (λ u. (u + block (m + n)) * r % prime) (accumulated_parts r block x m n)

-- a value below the prime stays so
pub accumulated_below : (r : ℕ) (block : ℕ → ℕ) (x n : ℕ) → x < prime → accumulated r block x n < prime
unfolding accumulated
accumulated_below r block x zero lt = lt
accumulated_below r block x (suc n) lt = omega arith

-- a value that was carried on from limbs, by its remainder
pub carried_on : (r q : ℕ) (block : ℕ → ℕ) (x y n : ℕ) → r ≡ q → Same y (accumulated r block x n) → y % prime ≡ accumulated q block (x % prime) n
carried_on r q block x y n same e =
    let start : Same x (x % prime) = omega arith in
    let below : accumulated r block (x % prime) n < prime = accumulated_below r block (x % prime) n (omega arith) in
    let f : Same (accumulated r block x n) (accumulated r block (x % prime) n) = accumulated_same r block x (x % prime) n start in
    let g : y % prime ≡ accumulated r block (x % prime) n = omega arith in
    g ∙ ap (λ k. accumulated k block (x % prime) n) same
