-- For the contracts inside this crate: what a mode gives under what it keeps of a key.
use Rattle.std.specs.Prelude.{ℕ, Option, List}
use Rattle.std.specs.Option.{option_map}
use Rattle.std_defs.specs.Aes.{seal}
use Rattle.std_defs.specs.Gcm.{gcm_seal, gcm_open}
use Rattle.std_defs.specs.Ccm.{ccm_seal, ccm_open}
use Rattle.std_defs.specs.Rfc4106.{rfc4106_seal, rfc4106_open}
use Rattle.std_defs.specs.Authenc.{authenc_seal, authenc_open}
use Rattle.std_defs.specs.Value.{Value, or_invalid, or_bad_message}
use Rattle.std_defs.specs.Value.Value.{bytes}
use Rattle.transforms.specs.RequestValue.{by_direction, ciphertext_in, tag_in}
use Rattle.transforms.specs.Tagged.{tagged, joined}
use Rattle.transforms.specs.declared.request.Request.{Request}

-- for a tag size, an IV, associated bytes and a text
abbrev pub Seals : Type 0
Seals = ℕ → List ℕ → List ℕ → List ℕ → Value

-- for an IV, associated bytes, a ciphertext and a tag
abbrev pub Opens : Type 0
Opens = List ℕ → List ℕ → List ℕ → List ℕ → Value

abbrev pub gcm_seals : List ℕ → Seals
gcm_seals key n iv aad text = bytes (tagged n (gcm_seal (seal key) iv aad text))

abbrev pub gcm_opens : List ℕ → Opens
gcm_opens key iv aad text tag = or_bad_message (gcm_open (seal key) iv aad text tag)

-- RFC 4106 under a key of AES and a salt
abbrev pub rfc4106_seals : List ℕ → List ℕ → Seals
rfc4106_seals key salt n iv aad text = or_invalid (option_map (tagged n) (rfc4106_seal (seal key) salt iv aad text))

abbrev pub rfc4106_opens : List ℕ → List ℕ → Opens
rfc4106_opens key salt iv aad text tag = rfc4106_open (seal key) salt iv aad text tag

abbrev pub ccm_seals : List ℕ → Seals
ccm_seals key n iv aad text = or_invalid (option_map joined (ccm_seal (seal key) n iv aad text))

abbrev pub ccm_opens : List ℕ → Opens
ccm_opens key iv aad text tag = ccm_open (seal key) iv aad text tag

-- authenc over the block of its MAC's key, and what its cipher gives at an IV and a text
abbrev pub authenc_seals : List ℕ → (List ℕ → List ℕ → Option (List ℕ)) → Seals
authenc_seals block gives n iv aad text = or_invalid (option_map (tagged n) (authenc_seal block (gives iv) aad text))

abbrev pub authenc_opens : List ℕ → (List ℕ → List ℕ → Option (List ℕ)) → Opens
authenc_opens block gives iv aad text tag = authenc_open block (gives iv) aad text tag

-- a request to a cipher without a tag, by what it seals and unseals at an IV and a text
abbrev pub cipher_value : (List ℕ → List ℕ → Option (List ℕ)) → (List ℕ → List ℕ → Option (List ℕ)) → Request → Value
cipher_value seals unseals q = by_direction q (or_invalid (seals q.iv q.text.text)) (or_invalid (unseals q.iv q.text.text))

-- a request to a mode with a tag of n bytes
abbrev pub aead_value : Seals → Opens → ℕ → Request → Value
aead_value seals opens n q = by_direction q (seals n q.iv q.aad q.text.text) (opens q.iv q.aad (ciphertext_in n q) (tag_in n q))
