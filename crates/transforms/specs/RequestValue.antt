-- The value of a request, by recursion on the tree of its driver's name.
use Rattle.std.specs.Prelude.{ℕ, ◌-◌, Option, Some, if◌then◌else◌, List, [], ◌∷◌, ◌++◌, length, take, drop, bytes_eq}
use Rattle.std.specs.Option.{option_map}
use Rattle.std_defs.specs.Aes.{seal, unseal}
use Rattle.std_defs.specs.Modes.{cbc_seal, cbc_unseal, ctr as ctr_of, rfc3686_counter}
use Rattle.std_defs.specs.Xts.{xts_seal, xts_unseal}
use Rattle.std_defs.specs.Gcm.{gcm_seal, gcm_open}
use Rattle.std_defs.specs.Rfc4106.{rfc4106_takes, rfc4106_iv, rfc4106_associated}
use Rattle.std_defs.specs.Ccm.{ccm_seal, ccm_open}
use Rattle.std_defs.specs.Hmac.{hmac}
use Rattle.std_defs.specs.Cmac.{cmac}
use Rattle.std_defs.specs.Authenc.{blob}
use Rattle.std_defs.specs.Value.{Value, or_invalid, or_bad_message}
use Rattle.std_defs.specs.Value.Value.{bytes, bad_message, invalid}
use Rattle.alg_names.specs.Name.{Tree, Args, node, end, arg}
use Rattle.templates.specs.Words.{template_named}
use Rattle.templates.specs.declared.template_words.Template.{Template}
use Rattle.templates.specs.declared.template_words.Template.TheVariants.{Cbc, Ctr, Rfc3686, Xts, GcmBase, Rfc4106, Ccm, Hmac, Cmac, Authenc, Pcrypt, Cryptd}
use Rattle.transforms.specs.Cuts.{in_one}
use Rattle.transforms.specs.Plans.{front_key, last_four, first_half, second_half, by_keys}
use Rattle.transforms.specs.Tagged.{tagged, joined}
use Rattle.transforms.specs.declared.request.Dir.TheVariants.{Enc, Dec, Mac}
use Rattle.transforms.specs.declared.request.Request.{Request}

-- what a driver gives for a key, a tag size and a request
abbrev pub Gives : Type 0
Gives = List ℕ → ℕ → Request → Value

-- sealing and opening, by the request's direction
abbrev pub by_direction : Request → Value → Value → Value
by_direction q sealed opened = elim q.dir [ Enc ↦ sealed | Dec ↦ opened | Mac ↦ invalid ]

-- the text of a decryption without its tag of n bytes, and that tag
abbrev pub ciphertext_in : ℕ → Request → List ℕ
ciphertext_in n q = take (length q.text.text - n) q.text.text

abbrev pub tag_in : ℕ → Request → List ℕ
tag_in n q = drop (length q.text.text - n) q.text.text

abbrev pub cbc_gives : Gives
cbc_gives key n q = by_direction q (or_invalid (cbc_seal (seal key) q.iv q.text.text)) (or_invalid (cbc_unseal (unseal key) q.iv q.text.text))

-- the same in both directions
abbrev pub ctr_gives : Gives
ctr_gives key n q = by_direction q (bytes (ctr_of (seal key) q.iv q.text.text)) (bytes (ctr_of (seal key) q.iv q.text.text))

-- x under the key without its last four bytes, from the counter block of these, the IV and 1
abbrev pub rfc3686_gives : Gives → Gives
rfc3686_gives x key n q = x (front_key key) n (record q { iv = rfc3686_counter (last_four key) q.iv })

-- Key1 and Key2 are the halves of the key, and the IV is the tweak value
abbrev pub xts_gives : Gives
xts_gives key n q =
    by_direction q (or_invalid (xts_seal (seal (first_half key)) (seal (second_half key)) q.iv q.text.text))
    (or_invalid (xts_unseal (unseal (first_half key)) (seal (second_half key)) q.iv q.text.text))

abbrev pub hmac_gives : Gives
hmac_gives key n q = bytes (hmac key q.text.text)

abbrev pub cmac_gives : Gives
cmac_gives key n q = bytes (cmac (seal key) q.text.text)

-- the ciphertext and the first n bytes of its tag; the plaintext of a ciphertext under such a tag
abbrev pub gcm_gives : Gives
gcm_gives key n q =
    by_direction q (bytes (tagged n (gcm_seal (seal key) q.iv q.aad q.text.text)))
    (or_bad_message (gcm_open (seal key) q.iv q.aad (ciphertext_in n q) (tag_in n q)))

-- x under the key without its last four bytes, at the IV of these and the packet's, and without the packet's IV in the
-- associated bytes
abbrev pub rfc4106_gives : Gives → Gives
rfc4106_gives x key n q =
    if rfc4106_takes q.aad
    then x (front_key key) n (record q { iv = rfc4106_iv (last_four key) q.iv; aad = rfc4106_associated q.aad })
    else invalid

-- the ciphertext and its tag of n bytes; the plaintext of a ciphertext under such a tag
abbrev pub ccm_gives : Gives
ccm_gives key n q =
    by_direction q (or_invalid (option_map joined (ccm_seal (seal key) n q.iv q.aad q.text.text)))
    (ccm_open (seal key) q.iv q.aad (ciphertext_in n q) (tag_in n q))

-- bytes, and behind them the first n of their MAC
abbrev pub with_mac : (List ℕ → List ℕ) → ℕ → Value → Value
with_mac mac n (bytes made) = bytes (made ++ take n (mac made))
with_mac mac n bad_message = bad_message
with_mac mac n invalid = invalid

-- the value under a tag that is the front of that MAC
abbrev pub under_mac : List ℕ → List ℕ → Value → Value
under_mac mac tag opened = if bytes_eq (take (length tag) mac) tag then opened else bad_message

-- a request to the cipher of an authenc
abbrev pub cipher_request : List ℕ → Request → Request
cipher_request text q = record q { aad = []; text = in_one text }

-- by the two keys of the blob: what e makes of the text, and the MAC of the associated bytes and that; what e makes of
-- a ciphertext, where its MAC is right
abbrev pub authenc_gives : Gives → Gives
authenc_gives e key n q =
    by_keys
    (λ mk ck.
    by_direction q
    (with_mac (λ made. hmac mk (q.aad ++ made)) n (e ck 0 (cipher_request q.text.text q)))
    (under_mac (hmac mk (q.aad ++ ciphertext_in n q)) (tag_in n q) (e ck 0 (cipher_request (ciphertext_in n q) q))))
    invalid (blob key)

-- by the word at the root, and what the names in its parentheses give
abbrev pub gives_over : Option Template → List Gives → Gives
gives_over (Some Pcrypt) (x ∷ []) = x
gives_over (Some Cryptd) (x ∷ []) = x
gives_over (Some Cbc) (x ∷ []) = cbc_gives
gives_over (Some Ctr) (x ∷ []) = ctr_gives
gives_over (Some Rfc3686) (x ∷ []) = rfc3686_gives x
gives_over (Some Xts) (x ∷ []) = xts_gives
gives_over (Some Hmac) (x ∷ []) = hmac_gives
gives_over (Some Cmac) (x ∷ []) = cmac_gives
gives_over (Some GcmBase) (c ∷ g ∷ []) = gcm_gives
gives_over (Some Rfc4106) (x ∷ []) = rfc4106_gives x
gives_over (Some Ccm) (x ∷ []) = ccm_gives
gives_over (Some Authenc) (m ∷ e ∷ []) = authenc_gives e
gives_over _ _ = λ key n q. invalid

unfoldable mutual
  pub request_value : Tree → Gives
  request_value (node word args) = gives_over (template_named word) (values_of args)

  pub values_of : Args → List Gives
  values_of end = []
  values_of (arg t ts) = request_value t ∷ values_of ts
