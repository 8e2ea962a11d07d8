-- authenc: a cipher, and HMAC with SHA-256 over the associated bytes and what the cipher made (encrypt, then MAC).
-- `block` is the MAC key as a block; `seals` and `unseals` are what the cipher makes of a text, or nothing where it
-- doesn't take the text's length.
use Rattle.std.specs.Prelude.{ℕ, ◌-◌, Bool, ◌&&◌, nat_le, bytes_eq, Option, Some, None, if◌then◌else◌, List, [], ◌∷◌, ◌++◌, length, take, drop}
use Rattle.std.specs.Int.{w32, from_be_bytes}
use Rattle.std.specs.Option.{option_map}
use Rattle.std_defs.specs.Hmac.{hmac_under}
use Rattle.std_defs.specs.Value.{Value, or_invalid}
use Rattle.std_defs.specs.Value.Value.{bad_message}

-- the ciphertext, and the whole MAC of the associated bytes and the ciphertext
unfoldable pub authenc_seal : List ℕ → (List ℕ → Option (List ℕ)) → List ℕ → List ℕ → Option (List ℕ × List ℕ)
authenc_seal block seals associated text = option_map (λ c. (c, hmac_under block (associated ++ c))) (seals text)

-- the plaintext of a ciphertext under a tag of 1 to 32 bytes: one that isn't the front of its MAC is refused first,
-- then a length
unfoldable pub authenc_open : List ℕ → (List ℕ → Option (List ℕ)) → List ℕ → List ℕ → List ℕ → Value
authenc_open block unseals associated text tag =
    if bytes_eq (take (length tag) (hmac_under block (associated ++ text))) tag then or_invalid (unseals text) else bad_message

-- ---- the key blob: a header of eight bytes, the MAC key and the cipher key. The header is an attribute's length, 8,
-- and type, 1, in two bytes each with the low one first, and then the cipher key's length in four, with the high one
-- first.

-- the length of the cipher key
unfoldable pub cipher_key_length : List ℕ → ℕ
cipher_key_length key = from_be_bytes w32 (take 4 (drop 4 key))

-- what follows the header
unfoldable pub blob_keys : List ℕ → List ℕ
blob_keys key = drop 8 key

-- the header is whole, and what follows it has a cipher key of that length
unfoldable pub is_blob : List ℕ → Bool
is_blob key =
    nat_le 8 (length key) && bytes_eq (take 4 key) (0x08 ∷ 0x00 ∷ 0x01 ∷ 0x00 ∷ []) && nat_le (cipher_key_length key) (length (blob_keys key))

-- the length of the MAC key
unfoldable pub mac_key_length : List ℕ → ℕ
mac_key_length key = length (blob_keys key) - cipher_key_length key

-- the MAC key and the cipher key, where the blob reads
unfoldable pub blob : List ℕ → Option (List ℕ × List ℕ)
blob key = if is_blob key then Some (take (mac_key_length key) (blob_keys key), drop (mac_key_length key) (blob_keys key)) else None
