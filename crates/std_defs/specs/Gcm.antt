-- GCM (NIST SP 800-38D) with IVs of 96 bits, over the forward cipher function of a block cipher under a key, which
-- takes blocks of sixteen bytes to such blocks.
use Rattle.std.specs.Prelude.{ℕ, zero, suc, ◌+◌, ◌-◌, ◌*◌, ◌/◌, ◌%◌, ◌^◌, ◌==◌, ◌&&◌, ◌||◌, nat_le, Bool, Option, Some, None, if◌then◌else◌, List, [], ◌∷◌, ◌++◌, length, take, replicate, map, bytes_eq}
use Rattle.std.specs.List.{range_with_len}
use Rattle.std_defs.specs.Blocks.{block_number, block_bytes, text_block, with_stream}
use Rattle.std_defs.specs.GhashField.{ghash}

-- the forward cipher function CIPH of a key (5.1)
abbrev pub BlockFunction : Type 0
BlockFunction = List ℕ → List ℕ

-- the hash subkey H: the cipher of the block of zeros (7.1, step 1)
unfoldable pub hash_subkey : BlockFunction → ℕ
hash_subkey cipher = block_number (cipher (replicate 16 0))

-- the pre-counter block J0: the IV, then the bytes 00 00 00 01 (7.1, step 2)
unfoldable pub pre_counter_block : List ℕ → ℕ
pre_counter_block iv = block_number (iv ++ 0 ∷ 0 ∷ 0 ∷ 1 ∷ [])

-- inc32: 1 is added to the rightmost 32 bits, modulo 2^32 (6.2)
unfoldable pub inc32 : ℕ → ℕ
inc32 block = block / 2 ^ 32 * 2 ^ 32 + (block % 2 ^ 32 + 1) % 2 ^ 32

-- the counter block number n, from 0, where the first is `initial` (6.5, step 5)
unfoldable pub counter_block : ℕ → ℕ → ℕ
counter_block initial zero = initial
counter_block initial (suc n) = inc32 (counter_block initial n)

-- the cipher of the counter block number n
unfoldable pub key_stream_block : BlockFunction → ℕ → ℕ → List ℕ
key_stream_block cipher initial n = cipher (block_bytes (counter_block initial n))

-- GCTR: the stream of the ciphers of the counter blocks, over the text (6.5)
unfoldable pub gctr : BlockFunction → ℕ → List ℕ → List ℕ
gctr cipher initial text = with_stream (key_stream_block cipher initial) text

-- the bytes, and the zeros that make whole blocks of them (7.1, steps 4 and 5)
unfoldable pub padded : List ℕ → List ℕ
padded bytes = bytes ++ replicate ((16 - length bytes % 16) % 16) 0

-- the blocks of the padded bytes
unfoldable pub padded_blocks : List ℕ → List ℕ
padded_blocks bytes = map (λ i. block_number (text_block (padded bytes) i)) (range_with_len 0 (length (padded bytes) / 16))

-- the block of the two lengths in bits, 64 bits each (7.1, step 5)
unfoldable pub lengths_block : List ℕ → List ℕ → ℕ
lengths_block associated ciphertext = 8 * length associated * 2 ^ 64 + 8 * length ciphertext

-- the block S: GHASH of the associated bytes, the ciphertext and their lengths (7.1, step 5)
unfoldable pub gcm_hash : BlockFunction → List ℕ → List ℕ → ℕ
gcm_hash cipher associated ciphertext =
    ghash (hash_subkey cipher) (padded_blocks associated ++ padded_blocks ciphertext ++ lengths_block associated ciphertext ∷ [])

-- the full tag, of 16 bytes: S by GCTR from J0 (7.1, step 6)
unfoldable pub gcm_tag : BlockFunction → List ℕ → List ℕ → List ℕ → List ℕ
gcm_tag cipher iv associated ciphertext = gctr cipher (pre_counter_block iv) (block_bytes (gcm_hash cipher associated ciphertext))

-- the text by GCTR from the block after J0: the ciphertext of a plaintext (7.1, step 3), and the plaintext of a
-- ciphertext (7.2, step 4)
unfoldable pub gcm_text : BlockFunction → List ℕ → List ℕ → List ℕ
gcm_text cipher iv text = gctr cipher (inc32 (pre_counter_block iv)) text

-- authenticated encryption: the ciphertext and the full tag (7.1)
unfoldable pub gcm_seal : BlockFunction → List ℕ → List ℕ → List ℕ → List ℕ × List ℕ
gcm_seal cipher iv associated plaintext = (gcm_text cipher iv plaintext, gcm_tag cipher iv associated (gcm_text cipher iv plaintext))

-- authenticated decryption: the plaintext where the given tag is the front of the full tag, and otherwise nothing (7.2)
unfoldable pub gcm_open : BlockFunction → List ℕ → List ℕ → List ℕ → List ℕ → Option (List ℕ)
gcm_open cipher iv associated ciphertext tag =
    if bytes_eq (take (length tag) (gcm_tag cipher iv associated ciphertext)) tag then Some (gcm_text cipher iv ciphertext) else None

-- the lengths of a tag, in bytes (5.2.1.2)
abbrev pub gcm_takes_tag : ℕ → Bool
gcm_takes_tag n = n == 4 || (n == 8 || (nat_le 12 n && nat_le n 16))
