-- CTR of a text by its pieces
use Rattle.std.specs.Prelude.{◌≡◌, ℕ, ◌+◌, ◌*◌, ◌/◌, ◌%◌, ◌^◌, ◌<◌, List, length, slice_index, bit_xor}
use Rattle.std.proofs.Common.{sym, ◌∙◌, ap, ap₂, arith, get_or, zero-add, inl, inr}
use Rattle.std.proofs.lemmas.Nat.{div-add-mod', mul-mod_second}
use Rattle.std.proofs.lemmas.List.FromFn.{get_or-map-range_with_len}
use Rattle.std_defs.specs.Blocks.{block_number, block_bytes, with_stream}
use Rattle.std_defs.specs.Modes.{ctr, ctr_stream}
use Rattle.std_defs.proofs.KeyStream.{key_stream_all}
use Rattle.mt_jobs.specs.Jobs.{CutsAt}
use Rattle.mt_jobs.specs.Pieces.{key_byte, IsSealedAt}

with_stream-at : (stream : ℕ → List ℕ) (text : List ℕ) (k : ℕ) → k < length text
    → get_or (with_stream stream text) k 0 ≡ bit_xor (get_or text k 0) (get_or (stream (k / 16)) (k % 16) 0)
unfolding with_stream
with_stream-at stream text k h =
    get_or-map-range_with_len (λ i. bit_xor (get_or text i 0) (get_or (stream (i / 16)) (i % 16) 0)) 0 (length text) k k 0 h (zero-add k)

later_block : (sealed : List ℕ → List ℕ) (t start first k : ℕ) → start % 16 ≡ 0 → first ≡ (t + start / 16) % 2 ^ 128
    → sealed (block_bytes ((first + k / 16) % 2 ^ 128)) ≡ ctr_stream sealed t ((start + k) / 16)
unfolding ctr_stream
later_block sealed t start first k between at =
    let row : start / 16 + k / 16 ≡ (start + k) / 16 = omega (arith, between) in
    let number : (first + k / 16) % 2 ^ 128 ≡ (t + (start + k) / 16) % 2 ^ 128 = omega (arith, at, row) in
    ap (λ (n : ℕ). sealed (block_bytes n)) number

-- the CTR of a piece, whose first counter block lies as many blocks on as the piece does
pub sealed_at : (sealed : List ℕ → List ℕ) (t : List ℕ) (start first : ℕ) (old new : List ℕ) → start % 16 ≡ 0
    → first ≡ (block_number t + start / 16) % 2 ^ 128
    → new ≡ with_stream (λ n. sealed (block_bytes ((first + n) % 2 ^ 128))) old → IsSealedAt sealed t start old new
sealed_at sealed t start first old new between at made k h =
    let place : k % 16 ≡ (start + k) % 16 = omega (arith, between) in
    ap (λ (v : List ℕ). get_or v k 0) made
    ∙ with_stream-at (λ n. sealed (block_bytes ((first + n) % 2 ^ 128))) old k h
    ∙ ap (bit_xor (get_or old k 0)) (ap₂ (λ (b : List ℕ) (i : ℕ). get_or b i 0) (later_block sealed (block_number t) start first k between at) place)

-- a whole text
pub sealed_all : (sealed : List ℕ → List ℕ) (t old new : List ℕ) → length new ≡ length old
    → ((k : ℕ) → k < length old → slice_index new k ≡ bit_xor (slice_index old k) (key_byte sealed t k)) → new ≡ ctr sealed t old
sealed_all sealed t old new long each = key_stream_all (ctr_stream sealed (block_number t)) new old long (λ k h. each k (omega (arith, long)))

-- a byte of a piece
pub sealed_in : (sealed : List ℕ → List ℕ) (t old new text made : List ℕ) (start offset k : ℕ) → IsSealedAt sealed t start old new
    → start + offset ≡ k → offset < length old → get_or old offset 0 ≡ slice_index text k → get_or new offset 0 ≡ slice_index made k
    → slice_index made k ≡ bit_xor (slice_index text k) (key_byte sealed t k)
sealed_in sealed t old new text made start offset k each at inside was is =
    sym is ∙ each offset inside ∙ ap₂ bit_xor was (ap (key_byte sealed t) at)

-- a piece begins between two blocks
pub begins_between : (chunk size start : ℕ) → CutsAt 16 chunk size → chunk < size → start % chunk ≡ 0 → start % 16 ≡ 0
begins_between chunk size start (inl cuts) more at =
    let whole : start / chunk * chunk ≡ start = omega (arith, div-add-mod' start chunk, at) in
    let none : start / chunk * 0 ≡ 0 = omega arith in
    let blocks : (start / chunk * chunk) % 16 ≡ 0 =
    sym (mul-mod_second (start / chunk) chunk 16) ∙ ap (λ (n : ℕ). (start / chunk * n) % 16) cuts.1 ∙ ap (λ (n : ℕ). n % 16) none in
    sym (ap (λ (n : ℕ). n % 16) whole) ∙ blocks
begins_between chunk size start (inr one) more at = absurd (omega arith)
