-- A key stream over a text: byte by byte, and twice.
use Rattle.std.proofs.Common.{◌≡◌, ℕ, zero, ◌/◌, ◌%◌, ◌<◌, sym, ap, ◌∙◌, arith, List, length, get_or, bit_xor, zero-add}
use Rattle.std.specs.Int.Bits.{xor_zero_r, xor_self, xor_assoc}
use Rattle.std.proofs.lemmas.List.FromFn.{fill_by_all, get_or-map-range_with_len, length-map-range_with_len}
use Rattle.std_defs.specs.Blocks.{with_stream}

pub key_stream_all : (stream : ℕ → List ℕ) (text orig : List ℕ) → length text ≡ length orig
    → ((k : ℕ) → k < length text → get_or text k zero ≡ bit_xor (get_or orig k zero) (get_or (stream (k / 16)) (k % 16) zero))
    → text ≡ with_stream stream orig
unfolding with_stream
key_stream_all stream text orig long done =
    fill_by_all (λ i. bit_xor (get_or orig i zero) (get_or (stream (i / 16)) (i % 16) zero)) text (length orig) 0 long (λ k h. done k (omega arith))

pub length-with_stream : (stream : ℕ → List ℕ) (text : List ℕ) → length (with_stream stream text) ≡ length text
unfolding with_stream
length-with_stream stream text =
    length-map-range_with_len (λ i. bit_xor (get_or text i zero) (get_or (stream (i / 16)) (i % 16) zero)) 0 (length text)

with_stream-at : (stream : ℕ → List ℕ) (text : List ℕ) (k : ℕ) → k < length text
    → get_or (with_stream stream text) k zero ≡ bit_xor (get_or text k zero) (get_or (stream (k / 16)) (k % 16) zero)
unfolding with_stream
with_stream-at stream text k h =
    get_or-map-range_with_len (λ i. bit_xor (get_or text i zero) (get_or (stream (i / 16)) (i % 16) zero)) 0 (length text) k k zero h (zero-add k)

xor_twice : (a b : ℕ) → a ≡ bit_xor (bit_xor a b) b
xor_twice a b = sym (xor_assoc a b b ∙ ap (bit_xor a) (xor_self b) ∙ xor_zero_r a)

-- the same stream a second time gives the text back
pub with_stream-twice : (stream : ℕ → List ℕ) (text : List ℕ) → with_stream stream (with_stream stream text) ≡ text
with_stream-twice stream text =
    sym (key_stream_all stream text (with_stream stream text) (sym (length-with_stream stream text))
    (λ k h. xor_twice (get_or text k zero) (get_or (stream (k / 16)) (k % 16) zero)
    ∙ ap (λ (t : ℕ). bit_xor t (get_or (stream (k / 16)) (k % 16) zero)) (sym (with_stream-at stream text k h))))
