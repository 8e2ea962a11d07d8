-- The table of plans: the kind of each, the keys, IVs and tags that it takes, and its AES.
use Rattle.std.specs.Prelude.{ℕ, ◌-◌, ◌/◌, ◌==◌, ◌&&◌, ◌||◌, nat_le, nat_lt, Bool, true, false, Option, Some, None, List, length, take, drop}
use Rattle.std_defs.specs.Authenc.{blob}
use Rattle.std_defs.specs.Ccm.{ccm_takes_iv, ccm_takes_tag}
use Rattle.std_defs.specs.Gcm.{gcm_takes_tag}
use Rattle.std_defs.specs.Rfc4106.{rfc4106_takes_tag}
use Rattle.templates.specs.declared.driver_plans.AesForm.{AesForm}
use Rattle.templates.specs.declared.driver_plans.Plan.{Plan}
use Rattle.templates.specs.declared.driver_plans.Plan.TheVariants.{Cbc, Ctr, Rfc3686, Xts, Gcm, Rfc4106, Ccm, Hmac, Cmac, AuthencCbc, AuthencCtr, AuthencRfc3686, AuthencXts}

-- a cipher without a tag, a MAC, a cipher with a tag
pub data PlanKind : Type 0 where
  skcipher : PlanKind
  mac : PlanKind
  aead : PlanKind

abbrev pub kind_of : Plan → PlanKind
kind_of (Cbc aes) = skcipher
kind_of (Ctr aes) = skcipher
kind_of (Rfc3686 aes) = skcipher
kind_of (Xts aes) = skcipher
kind_of (Gcm aes ghash) = aead
kind_of (Rfc4106 aes ghash) = aead
kind_of (Ccm aes) = aead
kind_of Hmac = mac
kind_of (Cmac aes) = mac
kind_of (AuthencCbc aes) = aead
kind_of (AuthencCtr aes) = aead
kind_of (AuthencRfc3686 aes) = aead
kind_of (AuthencXts aes) = aead

-- ---- keys

-- the length of a key of AES
abbrev pub is_key_length : ℕ → Bool
is_key_length n = n == 16 || (n == 24 || n == 32)

-- the length of such a key and four bytes behind it: the nonce of RFC 3686 (5.1), the salt of RFC 4106 (8.1)
abbrev pub is_salted_length : ℕ → Bool
is_salted_length n = nat_le 4 n && is_key_length (n - 4)

-- the length of two keys of AES-128 or of AES-256, Key1 and behind it Key2 (IEEE Std 1619, 5.1)
abbrev pub is_doubled_length : ℕ → Bool
is_doubled_length n = n == 32 || n == 64

abbrev pub first_half : List ℕ → List ℕ
first_half key = take (length key / 2) key

abbrev pub second_half : List ℕ → List ℕ
second_half key = drop (length key / 2) key

abbrev pub front_key : List ℕ → List ℕ
front_key key = take (length key - 4) key

abbrev pub last_four : List ℕ → List ℕ
last_four key = drop (length key - 4) key

-- by the MAC's key and the cipher's key in a blob, where it reads
abbrev pub by_keys : {X : Type 0} → (List ℕ → List ℕ → X) → X → Option (List ℕ × List ℕ) → X
by_keys f none (Some keys) = f keys.0 keys.1
by_keys f none None = none

abbrev pub takes_key : Plan → List ℕ → Bool
takes_key (Cbc aes) key = is_key_length (length key)
takes_key (Ctr aes) key = is_key_length (length key)
takes_key (Rfc3686 aes) key = is_salted_length (length key)
takes_key (Xts aes) key = is_doubled_length (length key)
takes_key (Gcm aes ghash) key = is_key_length (length key)
takes_key (Rfc4106 aes ghash) key = is_salted_length (length key)
takes_key (Ccm aes) key = is_key_length (length key)
takes_key Hmac key = true
takes_key (Cmac aes) key = is_key_length (length key)
takes_key (AuthencCbc aes) key = by_keys (λ mk ck. is_key_length (length ck)) false (blob key)
takes_key (AuthencCtr aes) key = by_keys (λ mk ck. is_key_length (length ck)) false (blob key)
takes_key (AuthencRfc3686 aes) key = by_keys (λ mk ck. is_salted_length (length ck)) false (blob key)
takes_key (AuthencXts aes) key = by_keys (λ mk ck. is_doubled_length (length ck)) false (blob key)

-- the key of AES inside that key, where there is one alone
abbrev pub aes_key_in : Plan → List ℕ → Option (List ℕ)
aes_key_in (Cbc aes) key = Some key
aes_key_in (Ctr aes) key = Some key
aes_key_in (Rfc3686 aes) key = Some (front_key key)
aes_key_in (Xts aes) key = None
aes_key_in (Gcm aes ghash) key = Some key
aes_key_in (Rfc4106 aes ghash) key = Some (front_key key)
aes_key_in (Ccm aes) key = Some key
aes_key_in Hmac key = None
aes_key_in (Cmac aes) key = Some key
aes_key_in (AuthencCbc aes) key = by_keys (λ mk ck. Some ck) None (blob key)
aes_key_in (AuthencCtr aes) key = by_keys (λ mk ck. Some ck) None (blob key)
aes_key_in (AuthencRfc3686 aes) key = by_keys (λ mk ck. Some (front_key ck)) None (blob key)
aes_key_in (AuthencXts aes) key = None

-- the form of the AES that computes, where there is one alone
abbrev pub form_in : Plan → Option AesForm
form_in (Cbc aes) = Some aes
form_in (Ctr aes) = Some aes
form_in (Rfc3686 aes) = Some aes
form_in (Xts aes) = None
form_in (Gcm aes ghash) = Some aes
form_in (Rfc4106 aes ghash) = Some aes
form_in (Ccm aes) = Some aes
form_in Hmac = None
form_in (Cmac aes) = Some aes
form_in (AuthencCbc aes) = Some aes
form_in (AuthencCtr aes) = Some aes
form_in (AuthencRfc3686 aes) = Some aes
form_in (AuthencXts aes) = None

-- ---- IVs and tags, in bytes

abbrev pub iv_size : Plan → ℕ
iv_size (Cbc aes) = 16
iv_size (Ctr aes) = 16
iv_size (Rfc3686 aes) = 8
iv_size (Xts aes) = 16
iv_size (Gcm aes ghash) = 12
iv_size (Rfc4106 aes ghash) = 8
iv_size (Ccm aes) = 16
iv_size Hmac = 0
iv_size (Cmac aes) = 0
iv_size (AuthencCbc aes) = 16
iv_size (AuthencCtr aes) = 16
iv_size (AuthencRfc3686 aes) = 8
iv_size (AuthencXts aes) = 16

-- CCM takes an IV whose byte 0 is 1 to 7 (SP 800-38C, A.1), fewer than 2^16 - 2^8 associated bytes, whose number then
-- stands in two bytes (A.2.2), and fewer than 2^16 bytes of text, whose number then stands in q bytes for each q
abbrev pub ccm_takes_input : List ℕ → ℕ → ℕ → Bool
ccm_takes_input iv associated text = ccm_takes_iv iv && nat_lt associated 65280 && nat_lt text 65536

-- whether a plan takes an IV of its size, by the numbers of associated bytes and of bytes of text
abbrev pub takes_input : Plan → List ℕ → ℕ → ℕ → Bool
takes_input (Ccm aes) iv associated text = ccm_takes_input iv associated text
takes_input _ iv associated text = true

-- a tag of authenc
abbrev pub authenc_takes_tag : ℕ → Bool
authenc_takes_tag n = nat_le 1 n && nat_le n 32

abbrev pub takes_tag : Plan → ℕ → Bool
takes_tag (Cbc aes) n = false
takes_tag (Ctr aes) n = false
takes_tag (Rfc3686 aes) n = false
takes_tag (Xts aes) n = false
takes_tag (Gcm aes ghash) n = gcm_takes_tag n
takes_tag (Rfc4106 aes ghash) n = rfc4106_takes_tag n
takes_tag (Ccm aes) n = ccm_takes_tag n
takes_tag Hmac n = false
takes_tag (Cmac aes) n = false
takes_tag (AuthencCbc aes) n = authenc_takes_tag n
takes_tag (AuthencCtr aes) n = authenc_takes_tag n
takes_tag (AuthencRfc3686 aes) n = authenc_takes_tag n
takes_tag (AuthencXts aes) n = authenc_takes_tag n

-- the greatest tag, and 0 on a plan that has none
abbrev pub tag_size_of : Plan → ℕ
tag_size_of (Cbc aes) = 0
tag_size_of (Ctr aes) = 0
tag_size_of (Rfc3686 aes) = 0
tag_size_of (Xts aes) = 0
tag_size_of (Gcm aes ghash) = 16
tag_size_of (Rfc4106 aes ghash) = 16
tag_size_of (Ccm aes) = 16
tag_size_of Hmac = 0
tag_size_of (Cmac aes) = 0
tag_size_of (AuthencCbc aes) = 32
tag_size_of (AuthencCtr aes) = 32
tag_size_of (AuthencRfc3686 aes) = 32
tag_size_of (AuthencXts aes) = 32

-- the tag size of a transform: one that the plan takes, or 0 on a plan that has no tag
abbrev pub fits_kind : PlanKind → Bool → ℕ → Bool
fits_kind skcipher taken n = n == 0
fits_kind mac taken n = n == 0
fits_kind aead taken n = taken

abbrev pub fits_tag : Plan → ℕ → Bool
fits_tag plan n = fits_kind (kind_of plan) (takes_tag plan n) n
