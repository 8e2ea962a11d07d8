-- CBC on its way over a text
use Rattle.std.specs.Prelude.{◌≡◌, ℕ, zero, suc, ◌+◌, ◌*◌, ◌/◌, ◌%◌, ◌<◌, ◌≤◌, List, [], ◌++◌, length, take, drop}
use Rattle.std.proofs.Common.{refl, sym, ap, ap₂, ◌∙◌, arith, add-zero, add-suc, length-append, length-drop}
use Rattle.std.proofs.Math.Seq.{drop-append-add, drop-append-le, take-append-le}
use Rattle.std_defs.specs.Blocks.{xor_blocks, text_block, joined}
use Rattle.std_defs.specs.Modes.{cbc_block, cbc_before, cbc_plain_block}
use Rattle.std_defs.proofs.Joined.{joined_same, joined-add}

-- From a cipher and a ciphertext block on, a text of whole blocks is sealed. The cipher stays, and the last ciphertext
-- block follows.
pub record Seals {C : Type 0} (sealed : C → List ℕ → List ℕ) (before : C × List ℕ) (text new : List ℕ) (after : C × List ℕ) : Type 0 where
  pub same : after.0 ≡ before.0
  pub made : length text % 16 ≡ 0 → new ≡ joined (λ j. cbc_block (sealed before.0) before.1 text (suc j)) (length text / 16)
  pub last : length text % 16 ≡ 0 → after.1 ≡ cbc_block (sealed before.0) before.1 text (length text / 16)

-- the same, of unsealing
pub record Unseals {C : Type 0} (unsealed : C → List ℕ → List ℕ) (before : C × List ℕ) (text new : List ℕ) (after : C × List ℕ) : Type 0 where
  pub same : after.0 ≡ before.0
  pub made : length text % 16 ≡ 0 → new ≡ joined (cbc_plain_block (unsealed before.0) before.1 text) (length text / 16)
  pub last : length text % 16 ≡ 0 → after.1 ≡ cbc_before before.1 text (length text / 16)

-- ---- the blocks of two texts

module _ (a b : List ℕ) (n : ℕ) (long : length a ≡ 16 * n) where
  block_in_first : (j : ℕ) → j < n → text_block (a ++ b) j ≡ text_block a j
  unfolding text_block
  block_in_first j h =
      ap (take 16) (drop-append-le (16 * j) a b (omega arith)) ∙ take-append-le 16 (drop (16 * j) a) b (omega (arith, length-drop (16 * j) a))

  block_in_second : (j : ℕ) → text_block (a ++ b) (n + j) ≡ text_block b j
  unfolding text_block
  block_in_second j =
      let place : 16 * (n + j) ≡ length a + 16 * j = omega arith in
      ap (λ (k : ℕ). take 16 (drop k (a ++ b))) place ∙ ap (take 16) (drop-append-add a b (16 * j))

  module _ (sealed : List ℕ → List ℕ) (iv : List ℕ) where
    chain_in_first : (j : ℕ) → j ≤ n → cbc_block sealed iv (a ++ b) j ≡ cbc_block sealed iv a j
    unfolding cbc_block
    chain_in_first zero h = refl
    chain_in_first (suc j) h = ap₂ (λ (x y : List ℕ). sealed (xor_blocks x y)) (block_in_first j (omega arith)) (chain_in_first j (omega arith))

    chain_in_second : (j : ℕ) → cbc_block sealed iv (a ++ b) (n + j) ≡ cbc_block sealed (cbc_block sealed iv a n) b j
    unfolding cbc_block
    chain_in_second zero = ap (cbc_block sealed iv (a ++ b)) (add-zero n) ∙ chain_in_first n (omega arith)
    chain_in_second (suc j) =
        ap (cbc_block sealed iv (a ++ b)) (add-suc n j)
        ∙ ap₂ (λ (x y : List ℕ). sealed (xor_blocks x y)) (block_in_second j) (chain_in_second j)

    sealed-append : (m : ℕ) → joined (λ j. cbc_block sealed iv (a ++ b) (suc j)) (n + m)
        ≡ joined (λ j. cbc_block sealed iv a (suc j)) n ++ joined (λ j. cbc_block sealed (cbc_block sealed iv a n) b (suc j)) m
    sealed-append m =
        joined-add (λ j. cbc_block sealed iv (a ++ b) (suc j)) n m
        ∙ ap₂ (λ (x y : List ℕ). x ++ y)
        (joined_same (λ j. cbc_block sealed iv (a ++ b) (suc j)) (λ j. cbc_block sealed iv a (suc j)) n (λ j h. chain_in_first (suc j) (omega arith)))
        (joined_same (λ j. cbc_block sealed iv (a ++ b) (suc (n + j))) (λ j. cbc_block sealed (cbc_block sealed iv a n) b (suc j)) m
        (λ j h. ap (cbc_block sealed iv (a ++ b)) (sym (add-suc n j)) ∙ chain_in_second (suc j)))

  module _ (iv : List ℕ) where
    before_in_first : (j : ℕ) → j ≤ n → cbc_before iv (a ++ b) j ≡ cbc_before iv a j
    unfolding cbc_before
    before_in_first zero h = refl
    before_in_first (suc j) h = block_in_first j (omega arith)

    before_in_second : (j : ℕ) → cbc_before iv (a ++ b) (n + j) ≡ cbc_before (cbc_before iv a n) b j
    unfolding cbc_before
    before_in_second zero = ap (cbc_before iv (a ++ b)) (add-zero n) ∙ before_in_first n (omega arith)
    before_in_second (suc j) = ap (cbc_before iv (a ++ b)) (add-suc n j) ∙ block_in_second j

    unsealed-append : (unsealed : List ℕ → List ℕ) (m : ℕ) → joined (cbc_plain_block unsealed iv (a ++ b)) (n + m)
        ≡ joined (cbc_plain_block unsealed iv a) n ++ joined (cbc_plain_block unsealed (cbc_before iv a n) b) m
    unfolding cbc_plain_block
    unsealed-append unsealed m =
        joined-add (cbc_plain_block unsealed iv (a ++ b)) n m
        ∙ ap₂ (λ (x y : List ℕ). x ++ y)
        (joined_same (cbc_plain_block unsealed iv (a ++ b)) (cbc_plain_block unsealed iv a) n
        (λ j h. ap₂ (λ (x y : List ℕ). xor_blocks (unsealed x) y) (block_in_first j h) (before_in_first j (omega arith))))
        (joined_same (λ j. cbc_plain_block unsealed iv (a ++ b) (n + j)) (cbc_plain_block unsealed (cbc_before iv a n) b) m
        (λ j h. ap₂ (λ (x y : List ℕ). xor_blocks (unsealed x) y) (block_in_second j) (before_in_second j)))

-- ---- the laws

pub seals_none : {C : Type 0} (sealed : C → List ℕ → List ℕ) (u : C × List ℕ) → Seals sealed u [] [] u
unfolding joined cbc_block
seals_none sealed u = record { same = refl; made = λ _. refl; last = λ _. refl }

pub seals_on : {C : Type 0} (sealed : C → List ℕ → List ℕ) (u v w : C × List ℕ) (a b made_a made_b : List ℕ) → length a % 16 ≡ 0
    → Seals sealed u a made_a v → Seals sealed v b made_b w → Seals sealed u (a ++ b) (made_a ++ made_b) w
seals_on {C} sealed u v w a b made_a made_b whole first second =
    let n : ℕ = length a / 16 in
    let long : length a ≡ 16 * n = omega arith in
    let rest : length (a ++ b) % 16 ≡ 0 → length b % 16 ≡ 0 = λ h. omega (arith, length-append a b) in
    let blocks : length (a ++ b) / 16 ≡ n + length b / 16 = omega (arith, length-append a b) in
    record {
      same = second.same ∙ first.same;
      made = λ h.
          ap₂ (λ (x y : List ℕ). x ++ y) (first.made whole)
          (second.made (rest h)
          ∙ ap₂ (λ (c : C) (iv : List ℕ). joined (λ j. cbc_block (sealed c) iv b (suc j)) (length b / 16)) first.same (first.last whole))
          ∙ sym (sealed-append a b n long (sealed u.0) u.1 (length b / 16))
          ∙ ap (joined (λ j. cbc_block (sealed u.0) u.1 (a ++ b) (suc j))) (sym blocks);
      last = λ h.
          second.last (rest h)
          ∙ ap₂ (λ (c : C) (iv : List ℕ). cbc_block (sealed c) iv b (length b / 16)) first.same (first.last whole)
          ∙ sym (chain_in_second a b n long (sealed u.0) u.1 (length b / 16))
          ∙ ap (cbc_block (sealed u.0) u.1 (a ++ b)) (sym blocks);
    }

pub unseals_none : {C : Type 0} (unsealed : C → List ℕ → List ℕ) (u : C × List ℕ) → Unseals unsealed u [] [] u
unfolding joined cbc_before
unseals_none unsealed u = record { same = refl; made = λ _. refl; last = λ _. refl }

pub unseals_on : {C : Type 0} (unsealed : C → List ℕ → List ℕ) (u v w : C × List ℕ) (a b made_a made_b : List ℕ) → length a % 16 ≡ 0
    → Unseals unsealed u a made_a v → Unseals unsealed v b made_b w → Unseals unsealed u (a ++ b) (made_a ++ made_b) w
unseals_on {C} unsealed u v w a b made_a made_b whole first second =
    let n : ℕ = length a / 16 in
    let long : length a ≡ 16 * n = omega arith in
    let rest : length (a ++ b) % 16 ≡ 0 → length b % 16 ≡ 0 = λ h. omega (arith, length-append a b) in
    let blocks : length (a ++ b) / 16 ≡ n + length b / 16 = omega (arith, length-append a b) in
    record {
      same = second.same ∙ first.same;
      made = λ h.
          ap₂ (λ (x y : List ℕ). x ++ y) (first.made whole)
          (second.made (rest h)
          ∙ ap₂ (λ (c : C) (iv : List ℕ). joined (cbc_plain_block (unsealed c) iv b) (length b / 16)) first.same (first.last whole))
          ∙ sym (unsealed-append a b n long u.1 (unsealed u.0) (length b / 16))
          ∙ ap (joined (cbc_plain_block (unsealed u.0) u.1 (a ++ b))) (sym blocks);
      last = λ h.
          second.last (rest h)
          ∙ ap (λ (iv : List ℕ). cbc_before iv b (length b / 16)) (first.last whole)
          ∙ sym (before_in_second a b n long u.1 (length b / 16))
          ∙ ap (cbc_before u.1 (a ++ b)) (sym blocks);
    }
