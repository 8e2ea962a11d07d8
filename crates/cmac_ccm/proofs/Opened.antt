-- Sealing and opening, by the full tag.
use Rattle.std.proofs.Common.{◌≡◌, ℕ, ◌+◌, Bool, true, false, ◌≤◌, refl, sym, ap, ap₂, ◌∙◌, arith, List, length, take, Some, None, bytes_eq}
use Rattle.std.specs.Prelude.{Option, if◌then◌else◌}
use Rattle.std.proofs.lemmas.Bool.{cond-true, cond-false}
use Rattle.std.proofs.lemmas.List.{length-take-le}
use Rattle.std.proofs.lemmas.Slice.Eq.{bytes_eq-Decides}
use Rattle.std_defs.specs.Blocks.{xor_blocks}
use Rattle.std_defs.specs.Ccm.{ccm_takes_iv, ccm_counter, ccm_chained, ccm_text, ccm_tag, ccm_seal, ccm_open}
use Rattle.std_defs.specs.Value.{Value}
use Rattle.std_defs.specs.Value.Value.{bytes, bad_message, invalid}
use Rattle.std_defs.proofs.Joined.{xor_blocks-length}
use Rattle.std_defs.proofs.KeyStream.{with_stream-twice}

module _ (f : List ℕ → List ℕ) (iv aad : List ℕ) where
  pub text-twice : (text : List ℕ) → ccm_text f iv (ccm_text f iv text) ≡ text
  unfolding ccm_text
  text-twice text = with_stream-twice (λ i. f (ccm_counter iv (i + 1))) text

  pub not_sealed : (n : ℕ) (text : List ℕ) → ccm_takes_iv iv ≡ false → ccm_seal f n iv aad text ≡ None
  unfolding ccm_seal
  not_sealed n text untaken = cond-false (ccm_takes_iv iv) (Some (ccm_text f iv text, ccm_tag f n iv aad text)) None untaken

  pub sealed_so : (n : ℕ) (text full tag made : List ℕ) → ccm_takes_iv iv ≡ true → full ≡ xor_blocks (ccm_chained f n iv aad text) (f (ccm_counter iv 0))
      → tag ≡ take n full → made ≡ ccm_text f iv text → ccm_seal f n iv aad text ≡ Some (made, tag)
  unfolding ccm_seal ccm_tag
  sealed_so n text full tag made taken is_full is_tag is_made =
      cond-true (ccm_takes_iv iv) (Some (ccm_text f iv text, take n (xor_blocks (ccm_chained f n iv aad text) (f (ccm_counter iv 0))))) None taken
      ∙ ap₂ (λ (x y : List ℕ). some (x, y)) (sym is_made) (sym (is_tag ∙ ap (take n) is_full))
    where
      some : List ℕ × List ℕ → Option (List ℕ × List ℕ)
      some p = Some p

  module _ (text tag full plain : List ℕ) where
    verdict : Bool → Bool → Value
    verdict valid same = if valid then (if same then bytes (ccm_text f iv text) else bad_message) else invalid

    pub not_opened : ccm_takes_iv iv ≡ false → ccm_open f iv aad text tag ≡ invalid
    unfolding ccm_open verdict
    not_opened untaken = ap (λ (b : Bool). verdict b (bytes_eq (ccm_tag f (length tag) iv aad (ccm_text f iv text)) tag)) untaken

    module _ (taken : ccm_takes_iv iv ≡ true) (is_plain : plain ≡ ccm_text f iv text)
        (is_full : full ≡ xor_blocks (ccm_chained f (length tag) iv aad plain) (f (ccm_counter iv 0))) where
      by_tag : (same : Bool) → bytes_eq (take (length tag) full) tag ≡ same → ccm_open f iv aad text tag ≡ verdict true same
      unfolding ccm_open ccm_tag verdict
      by_tag same e =
          ap₂ verdict taken
          (ap (λ (t : List ℕ). bytes_eq (take (length tag) t) tag)
          (ap (λ (p : List ℕ). xor_blocks (ccm_chained f (length tag) iv aad p) (f (ccm_counter iv 0))) (sym is_plain) ∙ sym is_full) ∙ e)

      pub wrong_tag : bytes_eq (take (length tag) full) tag ≡ false → ccm_open f iv aad text tag ≡ bad_message
      unfolding verdict
      wrong_tag e = by_tag false e

      pub right_tag : bytes_eq (take (length tag) full) tag ≡ true → ccm_open f iv aad text tag ≡ bytes plain
      unfolding verdict
      right_tag e = by_tag true e ∙ ap (λ (t : List ℕ). opened t) (sym is_plain)
        where
          opened : List ℕ → Value
          opened t = bytes t

sealed_pair : (valid : Bool) (p q : List ℕ × List ℕ) → (if valid then Some p else None) ≡ Some q → (valid ≡ true) × (p ≡ q)
sealed_pair true p q is = (refl, cc)
sealed_pair false p q is = absurd (cc)

pub opens_sealed : (f : List ℕ → List ℕ) (n : ℕ) (iv aad text made tag : List ℕ) → n ≤ 16 → ccm_seal f n iv aad text ≡ Some (made, tag) → ccm_open f iv aad made tag ≡ bytes text
unfolding ccm_seal ccm_tag
opens_sealed f n iv aad text made tag few is =
    let pair : List ℕ × List ℕ = (ccm_text f iv text, ccm_tag f n iv aad text) in
    let given : List ℕ × List ℕ = (made, tag) in
    let so : (ccm_takes_iv iv ≡ true) × (pair ≡ given) = sealed_pair (ccm_takes_iv iv) pair given is in
    let made_is : ccm_text f iv text ≡ made = ap (λ (p : List ℕ × List ℕ). p.0) so.1 in
    let tag_is : ccm_tag f n iv aad text ≡ tag = ap (λ (p : List ℕ × List ℕ). p.1) so.1 in
    let sum : List ℕ = xor_blocks (ccm_chained f n iv aad text) (f (ccm_counter iv 0)) in
    let long : length tag ≡ n = ap length (sym tag_is) ∙ length-take-le n sum (omega (arith, xor_blocks-length (ccm_chained f n iv aad text) (f (ccm_counter iv 0)))) in
    let full : List ℕ = xor_blocks (ccm_chained f (length tag) iv aad text) (f (ccm_counter iv 0)) in
    let same : take (length tag) full ≡ tag = ap (λ (k : ℕ). take k (xor_blocks (ccm_chained f k iv aad text) (f (ccm_counter iv 0)))) long ∙ tag_is in
    right_tag f iv aad made tag full text so.0 (sym (text-twice f iv aad text) ∙ ap (ccm_text f iv) made_is) refl ((bytes_eq-Decides (take (length tag) full) tag).1 same)
