-- the law of CBC
use Rattle.std.specs.Prelude.{◌≡◌, ◌*◌, ◌/◌, ◌%◌, ◌<◌, ◌≤◌, ◌==◌, ℕ, zero, suc, List, [], length, All, Some, None, Bool, true, false, if◌then◌else◌}
use Rattle.std.proofs.Common.{refl, sym, ap, ap₂, ◌∙◌, arith}
use Rattle.std.proofs.lemmas.Bool.{cond-true, eqb-true, eq-eqb}
use Rattle.std.proofs.lemmas.List.{take_all, append-nil}
use Rattle.std_defs.specs.Aes.{IsBlock}
use Rattle.std_defs.specs.Blocks.{xor_blocks, text_block, joined}
use Rattle.std_defs.specs.Modes.{cbc_block, cbc_before, cbc_plain_block, cbc_seal, cbc_unseal}
use Rattle.std_defs.proofs.Joined.{length-joined, joined_same, text_block-joined, joined-text_block, text_block-bytes, text_block-length, xor_blocks_is_block, xor_blocks-twice}
use Rattle.aes_block.specs.Cipher.{AreInverse}
use Rattle.aes_block.specs.Mode.{UndoesSealing}

-- ---- a text of n blocks, sealed

module _ (sealed unsealed : List ℕ → List ℕ) (inverse : AreInverse sealed unsealed) (iv text : List ℕ) (iv_is : IsBlock iv) (of_text : All (λ x. x < 256) text) where
  -- the ciphertext's blocks, the IV first
  chain : ℕ → List ℕ
  chain j = cbc_block sealed iv text j

  chain_is_block : (j : ℕ) → IsBlock (chain j)
  unfolding chain cbc_block
  chain_is_block zero = iv_is
  chain_is_block (suc j) =
      inverse.sealed_is_block (xor_blocks (text_block text j) (chain j)) (xor_blocks_is_block (text_block text j) (chain j) (text_block-bytes text j of_text) (chain_is_block j).1)

  -- the ciphertext of the first n blocks
  made : ℕ → List ℕ
  made n = joined (λ j. chain (suc j)) n

  made-length : (n : ℕ) → length (made n) ≡ 16 * n
  unfolding made
  made-length n = length-joined (λ j. chain (suc j)) n (λ j below. (chain_is_block (suc j)).0)

  made_at : (n j : ℕ) → j < n → text_block (made n) j ≡ chain (suc j)
  unfolding made
  made_at n j below =
      ap (λ (t : List ℕ). text_block t j) (sym (append-nil (joined (λ j. chain (suc j)) n)))
      ∙ text_block-joined (λ i. chain (suc i)) [] n j (λ i h. (chain_is_block (suc i)).0) below

  -- the chain is read back from the ciphertext
  chain_read : (n j : ℕ) → j ≤ n → cbc_before iv (made n) j ≡ chain j
  unfolding cbc_before chain cbc_block made
  chain_read n zero below = refl
  chain_read n (suc j) below = made_at n j (omega arith)

  block_back : (n j : ℕ) → 16 * n ≤ length text → j < n → cbc_plain_block unsealed iv (made n) j ≡ text_block text j
  unfolding cbc_plain_block chain cbc_block
  block_back n j room below =
      ap₂ xor_blocks
      (ap unsealed (made_at n j below) ∙ inverse.unseals (xor_blocks (text_block text j) (chain j)) (xor_blocks_is_block (text_block text j) (chain j) (text_block-bytes text j of_text) (chain_is_block j).1))
      (chain_read n j (omega arith))
      ∙ xor_blocks-twice (text_block text j) (chain j) (text_block-length text j (omega arith))

  all_back : (n : ℕ) → length text ≡ 16 * n → joined (cbc_plain_block unsealed iv (made n)) n ≡ text
  all_back n long =
      joined_same (cbc_plain_block unsealed iv (made n)) (text_block text) n (λ j below. block_back n j (omega arith) below)
      ∙ joined-text_block text n ∙ take_all (16 * n) text (omega arith)

-- ---- texts of whole blocks alone are taken

taken : (whole : Bool) (made given : List ℕ) → (if whole then Some made else None) ≡ Some given → (whole ≡ true) × (made ≡ given)
taken true made given is = (refl, cc)
taken false made given is = absurd (cc)

-- CBC over a cipher gives back what CBC over it sealed
pub cbc_unseals_what_it_sealed : (sealed unsealed : List ℕ → List ℕ) → AreInverse sealed unsealed
    → UndoesSealing 16 (cbc_seal sealed) (cbc_unseal unsealed)
unfolding made chain
cbc_unseals_what_it_sealed sealed unsealed inverse = record {
  unseals_sealed = λ iv text given iv_long iv_bytes text_bytes is.
      let n : ℕ = length text / 16 in
      let ciphertext : List ℕ = joined (λ j. cbc_block sealed iv text (suc j)) n in
      let took : (length text % 16 == 0 ≡ true) × (ciphertext ≡ given) = taken (length text % 16 == 0) ciphertext given is in
      let whole : length text % 16 ≡ 0 = eqb-true (length text % 16) 0 took.0 in
      let long : length ciphertext ≡ 16 * n = made-length sealed unsealed inverse iv text (iv_long, iv_bytes) text_bytes n in
      let blocks : length ciphertext / 16 ≡ n = omega arith in
      let back : joined (cbc_plain_block unsealed iv ciphertext) n ≡ text = all_back sealed unsealed inverse iv text (iv_long, iv_bytes) text_bytes n (omega arith) in
      let opened : cbc_unseal unsealed iv ciphertext ≡ Some text =
      cond-true (length ciphertext % 16 == 0) (Some (joined (cbc_plain_block unsealed iv ciphertext) (length ciphertext / 16))) None (eq-eqb (length ciphertext % 16) 0 (omega arith))
      ∙ ap (λ (k : ℕ). Some (joined (cbc_plain_block unsealed iv ciphertext) k)) blocks ∙ ap Some back in
      ap (cbc_unseal unsealed iv) (sym took.1) ∙ opened;
}
