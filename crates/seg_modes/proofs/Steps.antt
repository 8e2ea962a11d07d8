-- One step of CBC and of CTR, over a piece of a text.
use Rattle.std.proofs.Common.{◌≡◌, ℕ, zero, suc, ◌+◌, ◌-◌, ◌*◌, ◌/◌, ◌%◌, ◌^◌, ◌<◌, ◌≤◌, refl, sym, ap, ap₂, ◌∙◌, arith, ⊎_elim, List, length, drop, Some, None, Result, Ok, Err, cond, eqb, ltb, eq-eqb, lt-ltb, le-ltb, length-drop}
use Rattle.std.specs.Prelude.{All}
use Rattle.std.proofs.lemmas.Bool.{cond-true, cond-false, cases_lt}
use Rattle.std.proofs.lemmas.List.{take_all}
use Rattle.kc_base.specs.declared.error_numbers.Errno.{Errno}
use Rattle.std_defs.specs.Aes.{IsBlock}
use Rattle.std_defs.specs.Blocks.{block_number, block_bytes, xor_blocks, text_block, joined}
use Rattle.std_defs.specs.Modes.{of_whole_blocks, cbc_block, cbc_before, cbc_plain_block, cbc_seal, cbc_unseal}
use Rattle.std_defs.proofs.FieldBytes.{block_number-block_bytes}
use Rattle.std_defs.proofs.Joined.{drop-joined, text_block-bytes, xor_blocks_is_block}
use Rattle.aes_block.specs.Cipher.{AreInverse}
use Rattle.aes_block.specs.Outcome.{Becomes}
use Rattle.seg_modes.specs.Cbc.{Seals, Unseals}

-- a text of whole blocks is taken
pub taken : (r : Result (Unit {0}) Errno) (text made new : List ℕ) → Becomes r (of_whole_blocks text made) text new → length text % 16 ≡ 0 → new ≡ made
taken (Ok x) text made new is whole =
    let given : of_whole_blocks text made ≡ Some made = cond-true (eqb (length text % 16) 0) (Some made) None (eq-eqb (length text % 16) 0 whole) in
    let both : Some made ≡ Some new = sym given ∙ is in
    cc
taken (Err e) text made new is whole =
    let given : of_whole_blocks text made ≡ Some made = cond-true (eqb (length text % 16) 0) (Some made) None (eq-eqb (length text % 16) 0 whole) in
    let both : Some made ≡ None = sym given ∙ is.1 in
    absurd (cc)

-- a text of any length is taken
pub taken_any : (r : Result (Unit {0}) Errno) (text made new : List ℕ) → Becomes r (Some made) text new → new ≡ made
taken_any (Ok x) text made new is = let both : Some made ≡ Some new = is in cc
taken_any (Err e) text made new is = let both : Some made ≡ None = is.1 in absurd (cc)

-- ---- the counter block

pub counter_made : (counter blocks sum : ℕ) (after : List ℕ) → sum ≡ (counter + blocks) % 2 ^ 128 → after ≡ block_bytes sum → block_number after % 2 ^ 128 ≡ (counter + blocks) % 2 ^ 128
counter_made counter blocks sum after is made =
    let small : sum < 2 ^ 128 = omega arith in
    ap (λ (b : List ℕ). block_number b % 2 ^ 128) made
    ∙ ap (λ (n : ℕ). n % 2 ^ 128) (block_number-block_bytes sum small)
    ∙ (let same : sum % 2 ^ 128 ≡ (counter + blocks) % 2 ^ 128 = omega arith in same)

-- ---- the last block

module _ (sealed unsealed : List ℕ → List ℕ) (inverse : AreInverse sealed unsealed) (iv text : List ℕ) (iv_is : IsBlock iv) (of_text : All (λ x. x < 256) text) where
  chain_is_block : (j : ℕ) → IsBlock (cbc_block sealed iv text j)
  unfolding cbc_block
  chain_is_block zero = iv_is
  chain_is_block (suc j) =
      inverse.sealed_is_block (xor_blocks (text_block text j) (cbc_block sealed iv text j))
      (xor_blocks_is_block (text_block text j) (cbc_block sealed iv text j) (text_block-bytes text j of_text) (chain_is_block j).1)

  -- the last ciphertext block
  last_sealed : (n : ℕ) (new : List ℕ) → new ≡ joined (λ j. cbc_block sealed iv text (suc j)) (suc n) → length new ≡ 16 * suc n → drop (length new - 16) new ≡ cbc_block sealed iv text (suc n)
  unfolding joined
  last_sealed n new is long =
      let place : length new - 16 ≡ 16 * n = omega arith in
      ap₂ drop place is ∙ drop-joined (λ j. cbc_block sealed iv text (suc j)) (cbc_block sealed iv text (suc n)) n (λ i h. (chain_is_block (suc i)).0)

last_given : (iv text : List ℕ) (n : ℕ) → length text ≡ 16 * suc n → drop (length text - 16) text ≡ cbc_before iv text (suc n)
unfolding cbc_before text_block
last_given iv text n long =
    let place : length text - 16 ≡ 16 * n = omega arith in
    ap (λ (k : ℕ). drop k text) place ∙ sym (take_all 16 (drop (16 * n) text) (omega (arith, length-drop (16 * n) text)))

-- ---- a step

-- a piece was sealed, and the last block is taken from it
pub sealed_step : {C : Type 0} (sealed unsealed : C → List ℕ → List ℕ) (c : C) (before piece new last : List ℕ) (r : Result (Unit {0}) Errno) → AreInverse (sealed c) (unsealed c) → IsBlock before
    → All (λ x. x < 256) piece → length new ≡ length piece → Becomes r (cbc_seal (sealed c) before piece) piece new
    → last ≡ cond (ltb (length new) 16) before (drop (length new - 16) new) → Seals sealed (c, before) piece new (c, last)
unfolding cbc_block
sealed_step sealed unsealed c before piece new last r inverse is_block bytes long becomes taken_last =
    let made : length piece % 16 ≡ 0 → new ≡ joined (λ j. cbc_block (sealed c) before piece (suc j)) (length piece / 16) =
    taken r piece (joined (λ j. cbc_block (sealed c) before piece (suc j)) (length piece / 16)) new becomes in
    record {
      same = refl;
      made = made;
      last = λ whole. taken_last ∙ ⊎_elim
          (λ (h : length new < 16).
          let none : 0 ≡ length piece / 16 = omega arith in
          cond-true (ltb (length new) 16) before (drop (length new - 16) new) (lt-ltb (length new) 16 h) ∙ ap (cbc_block (sealed c) before piece) none)
          (λ (h : 16 ≤ length new).
          let n : ℕ = length piece / 16 - 1 in
          let count : length piece / 16 ≡ suc n = omega arith in
          cond-false (ltb (length new) 16) before (drop (length new - 16) new) (le-ltb (length new) 16 h)
          ∙ last_sealed (sealed c) (unsealed c) inverse before piece is_block bytes n new
          (made whole ∙ ap (joined (λ j. cbc_block (sealed c) before piece (suc j))) count) (omega arith)
          ∙ ap (cbc_block (sealed c) before piece) (sym count))
          (cases_lt (length new) 16);
    }

-- the last block is taken from a piece, which was unsealed then
pub unsealed_step : {C : Type 0} (unsealed : C → List ℕ → List ℕ) (c : C) (before piece new last : List ℕ) (r : Result (Unit {0}) Errno)
    → Becomes r (cbc_unseal (unsealed c) before piece) piece new
    → last ≡ cond (ltb (length piece) 16) before (drop (length piece - 16) piece) → Unseals unsealed (c, before) piece new (c, last)
unfolding cbc_before
unsealed_step unsealed c before piece new last r becomes taken_last =
    record {
      same = refl;
      made = taken r piece (joined (cbc_plain_block (unsealed c) before piece) (length piece / 16)) new becomes;
      last = λ whole. taken_last ∙ ⊎_elim
          (λ (h : length piece < 16).
          let none : 0 ≡ length piece / 16 = omega arith in
          cond-true (ltb (length piece) 16) before (drop (length piece - 16) piece) (lt-ltb (length piece) 16 h) ∙ ap (cbc_before before piece) none)
          (λ (h : 16 ≤ length piece).
          let n : ℕ = length piece / 16 - 1 in
          let count : length piece / 16 ≡ suc n = omega arith in
          cond-false (ltb (length piece) 16) before (drop (length piece - 16) piece) (le-ltb (length piece) 16 h)
          ∙ last_given before piece n (omega arith)
          ∙ ap (cbc_before before piece) (sym count))
          (cases_lt (length piece) 16);
    }
