-- the laws of CTR and of key streams
use Rattle.std.specs.Prelude.{◌≡◌, ℕ, ◌+◌, ◌-◌, ◌/◌, ◌%◌, ◌<◌, ◌≤◌, List, ◌++◌, length, bit_xor, Some}
use Rattle.std.proofs.Common.{refl, sym, ap, ap₂, ◌∙◌, arith, ⊎_elim, get_or, zero-add, length-append}
use Rattle.std.proofs.lemmas.Bool.{cases_lt}
use Rattle.std.proofs.lemmas.List.{get_or_append_left, get_or-append_right}
use Rattle.std.proofs.lemmas.List.FromFn.{get_or-map-range_with_len}
use Rattle.std_defs.specs.Blocks.{block_number, with_stream}
use Rattle.std_defs.specs.Modes.{ctr, ctr_stream}
use Rattle.std_defs.proofs.KeyStream.{key_stream_all, length-with_stream, with_stream-twice}
use Rattle.aes_block.specs.Mode.{UndoesSealing}

-- CTR undoes itself, whichever the first counter block of an IV is
pub ctr_undoes_itself : (sealed : List ℕ → List ℕ) (iv_size : ℕ) (first : List ℕ → List ℕ)
    → UndoesSealing iv_size (λ iv text. Some (ctr sealed (first iv) text)) (λ iv text. Some (ctr sealed (first iv) text))
ctr_undoes_itself sealed iv_size first = record {
  unseals_sealed = λ iv text made is_size iv_bytes text_bytes is.
      let sealed_once : ctr sealed (first iv) text ≡ made = cc in
      ap Some (ap (ctr sealed (first iv)) (sym sealed_once) ∙ with_stream-twice (ctr_stream sealed (block_number (first iv))) text);
}

-- ---- a key stream over two texts

with_stream-at : (stream : ℕ → List ℕ) (text : List ℕ) (k : ℕ) → k < length text
    → get_or (with_stream stream text) k 0 ≡ bit_xor (get_or text k 0) (get_or (stream (k / 16)) (k % 16) 0)
unfolding with_stream
with_stream-at stream text k h =
    get_or-map-range_with_len (λ i. bit_xor (get_or text i 0) (get_or (stream (i / 16)) (i % 16) 0)) 0 (length text) k k 0 h (zero-add k)

module _ (stream behind : ℕ → List ℕ) (a b : List ℕ) (whole : length a % 16 ≡ 0) (on : (j : ℕ) → behind j ≡ stream (length a / 16 + j)) where
  length-both : length (with_stream stream a ++ with_stream behind b) ≡ length (a ++ b)
  length-both =
      length-append (with_stream stream a) (with_stream behind b)
      ∙ ap₂ (λ (m n : ℕ). m + n) (length-with_stream stream a) (length-with_stream behind b) ∙ sym (length-append a b)

  in_first : (k : ℕ) → k < length a
      → get_or (with_stream stream a ++ with_stream behind b) k 0 ≡ bit_xor (get_or (a ++ b) k 0) (get_or (stream (k / 16)) (k % 16) 0)
  in_first k h =
      get_or_append_left (with_stream stream a) (with_stream behind b) 0 k (omega (arith, length-with_stream stream a))
      ∙ with_stream-at stream a k h
      ∙ ap (λ (t : ℕ). bit_xor t (get_or (stream (k / 16)) (k % 16) 0)) (sym (get_or_append_left a b 0 k h))

  in_second : (k : ℕ) → length a ≤ k → k < length (a ++ b)
      → get_or (with_stream stream a ++ with_stream behind b) k 0 ≡ bit_xor (get_or (a ++ b) k 0) (get_or (stream (k / 16)) (k % 16) 0)
  in_second k h within =
      let block : length a / 16 + (k - length a) / 16 ≡ k / 16 = omega arith in
      let place : (k - length a) % 16 ≡ k % 16 = omega arith in
      get_or-append_right (with_stream stream a) (with_stream behind b) (length a) k 0 (length-with_stream stream a) h
      ∙ with_stream-at behind b (k - length a) (omega (arith, length-append a b))
      ∙ ap₂ bit_xor (sym (get_or-append_right a b (length a) k 0 refl h))
      (ap₂ (λ (s : List ℕ) (i : ℕ). get_or s i 0) (on ((k - length a) / 16) ∙ ap stream block) place)

  -- a text of whole blocks and a text behind it, each under its own stream
  pub with_stream-append : with_stream stream (a ++ b) ≡ with_stream stream a ++ with_stream behind b
  with_stream-append =
      sym (key_stream_all stream (with_stream stream a ++ with_stream behind b) (a ++ b) length-both
      (λ k within. ⊎_elim (in_first k) (λ h. in_second k h (omega (arith, length-both))) (cases_lt k (length a))))
