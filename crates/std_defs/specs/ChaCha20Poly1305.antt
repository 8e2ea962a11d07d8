-- The AEAD of ChaCha20 and Poly1305 (RFC 8439, 2.6 and 2.8). A key has 32 bytes, a nonce 12, a tag 16.
use Rattle.std.specs.Prelude.{ℕ, Option, Some, None, if◌then◌else◌, List, ◌++◌, length, replicate, bytes_eq}
use Rattle.std.specs.Int.{w64, to_le_bytes}
use Rattle.std_defs.specs.ChaCha20.{chacha20}
use Rattle.std_defs.specs.Gcm.{padded}
use Rattle.std_defs.specs.Poly1305.{poly1305}

-- the one-time key of a nonce: the first 32 bytes of the block of the counter 0 (2.6)
unfoldable pub one_time_key : List ℕ → List ℕ → List ℕ
one_time_key key nonce = chacha20 key nonce 0 (replicate 32 0)

-- what the tag is made of: the associated bytes and the ciphertext, each with zeros behind it to whole blocks of 16, and
-- their lengths in bytes (2.8)
unfoldable pub mac_data : List ℕ → List ℕ → List ℕ
mac_data associated ciphertext =
    padded associated ++ padded ciphertext ++ to_le_bytes w64 (length associated) ++ to_le_bytes w64 (length ciphertext)

-- the tag of a ciphertext (2.8)
unfoldable pub chacha20_poly1305_tag : List ℕ → List ℕ → List ℕ → List ℕ → List ℕ
chacha20_poly1305_tag key nonce associated ciphertext = poly1305 (one_time_key key nonce) (mac_data associated ciphertext)

-- the text under the key stream from the counter 1 on: the ciphertext of a plaintext, and the plaintext of a ciphertext
-- (2.8)
unfoldable pub chacha20_poly1305_text : List ℕ → List ℕ → List ℕ → List ℕ
chacha20_poly1305_text key nonce text = chacha20 key nonce 1 text

-- authenticated encryption: the ciphertext and its tag (2.8)
unfoldable pub chacha20_poly1305_seal : List ℕ → List ℕ → List ℕ → List ℕ → List ℕ × List ℕ
chacha20_poly1305_seal key nonce associated plaintext = (
  chacha20_poly1305_text key nonce plaintext,
  chacha20_poly1305_tag key nonce associated (chacha20_poly1305_text key nonce plaintext),
)

-- authenticated decryption: the plaintext where the given tag is that of the ciphertext, and otherwise nothing (2.8)
unfoldable pub chacha20_poly1305_open : List ℕ → List ℕ → List ℕ → List ℕ → List ℕ → Option (List ℕ)
chacha20_poly1305_open key nonce associated ciphertext tag =
    if bytes_eq (chacha20_poly1305_tag key nonce associated ciphertext) tag
    then Some (chacha20_poly1305_text key nonce ciphertext)
    else None
