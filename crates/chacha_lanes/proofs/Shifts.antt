-- The key stream from one counter, as a part of that from another.
use Rattle.std.specs.Prelude.{◌≡◌, ℕ, ◌+◌, ◌*◌, ◌/◌, ◌%◌, ◌^◌, ◌<◌, List, [], ◌∷◌, take, drop, replicate, slice_index, bit_xor}
use Rattle.std.specs.Int.{w32, from_le_bytes}
use Rattle.std.proofs.Common.{arith, ap, ap₂, refl, sym, ◌∙◌}
use Rattle.std.specs.Int.Bits.{xor_zero_l}
use Rattle.std.proofs.lemmas.List.{get_or-take, get_or-drop, get_or-replicate}
use Rattle.std_defs.specs.ChaCha20.{chacha20, stream_byte, words}
use Rattle.std_defs.proofs.ChaChaOpened.{chacha20-at}

pub shifted : (key nonce : List ℕ) (c d j k : ℕ) → c + j / 64 ≡ d + k / 64 → j % 64 ≡ k % 64 → stream_byte key nonce c j ≡ stream_byte key nonce d k
unfolding stream_byte
shifted key nonce c d j k blocks within =
    let byte : j % 4 ≡ k % 4 = omega arith in
    rw (blocks, within, byte) refl

-- a number of four bytes
pub word_of : (t : List ℕ) (a b c d : ℕ) → slice_index t 0 ≡ a → slice_index t 1 ≡ b → slice_index t 2 ≡ c → slice_index t 3 ≡ d
    → from_le_bytes w32 (a ∷ b ∷ c ∷ d ∷ []) ≡ from_le_bytes w32 t
word_of t a b c d e0 e1 e2 e3 = rw (← e0, ← e1, ← e2, ← e3) refl

pub byte_within : (bytes : List ℕ) (at n k : ℕ) → k < n → slice_index (take n (drop at bytes)) k ≡ slice_index bytes (at + k)
byte_within bytes at n k lt = get_or-take n (drop at bytes) k 0 lt ∙ get_or-drop at bytes k 0

-- zeros under the key stream are the key stream
pub of_zeros : (n i s : ℕ) → i < n → bit_xor (slice_index (replicate n 0) i) s ≡ s
of_zeros n i s lt = ap (λ b. bit_xor b s) (get_or-replicate n i 0 0 lt) ∙ xor_zero_l s

-- the first blocks, from their second on
pub first_at : (key nonce first : List ℕ) (k : ℕ) → first ≡ chacha20 key nonce 0 (replicate 512 0) → 64 + k < 512
    → slice_index first (64 + k) ≡ stream_byte (words 8 key) (words 3 nonce) 1 k
first_at key nonce first k is lt =
    ap (λ t. slice_index t (64 + k)) is
    ∙ chacha20-at key nonce 0 (replicate 512 0) (64 + k) lt
    ∙ of_zeros 512 (64 + k) (stream_byte (words 8 key) (words 3 nonce) 0 (64 + k)) lt
    ∙ shifted (words 8 key) (words 3 nonce) 0 1 (64 + k) k (omega arith) (omega arith)
