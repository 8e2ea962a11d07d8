-- What is kept of a key is the plan's.
use Rattle.std.proofs.Common.{◌≡◌, ℕ, List, refl, ap, ap₂, ◌∙◌}
use Rattle.templates.specs.declared.driver_plans.AesForm.{AesForm}
use Rattle.templates.specs.declared.driver_plans.Plan.{Plan}
use Rattle.templates.specs.declared.driver_plans.Plan.TheVariants as plan
use Rattle.transforms.specs.Aeads as aeads
use Rattle.transforms.specs.Asked.{kind_takes, takes, aead_takes}
use Rattle.transforms.specs.Ciphers as ciphers
use Rattle.transforms.specs.Keys.{IsKeyed}
use Rattle.transforms.specs.Macs.{IsMac}
use Rattle.transforms.specs.Plans.{takes_input, iv_size}
use Rattle.transforms.specs.declared.any_aead.AnyAead.{AnyAead}
use Rattle.transforms.specs.declared.any_cipher.AnyCipher.{AnyCipher}
use Rattle.transforms.specs.declared.any_cipher.CipherMode.{CipherMode}
use Rattle.transforms.specs.declared.any_cipher.CipherMode.TheVariants as mode
use Rattle.transforms.specs.declared.any_mac.AnyMac.{AnyMac}
use Rattle.transforms.specs.declared.inner.Inner.TheVariants.{Skcipher, Mac, Aead}
use Rattle.transforms.specs.declared.request.Request.{Request}

pub kept_hmac : (m : AnyMac) (key : List ℕ) → IsMac m plan.Hmac key → IsKeyed (Mac m) plan.Hmac key
kept_hmac m key h = record { kind = refl; form = h.form; aes_key = h.aes_key; iv = refl; tags = λ n. refl; input = refl; mac_room = h.room; gives = h.gives }

pub kept_cipher : (c : AnyCipher) (m : CipherMode) (form : AesForm) (key : List ℕ) → ciphers.IsCipher c (ciphers.cipher_plan m form) key
    → IsKeyed (Skcipher c) (ciphers.cipher_plan m form) key
kept_cipher c mode.Cbc form key h = record { kind = refl; form = h.form; aes_key = h.aes_key; iv = h.iv; tags = λ n. refl; input = refl; mac_room = λ text. refl; gives = h.gives }
kept_cipher c mode.Ctr form key h = record { kind = refl; form = h.form; aes_key = h.aes_key; iv = h.iv; tags = λ n. refl; input = refl; mac_room = λ text. refl; gives = h.gives }
kept_cipher c mode.Rfc3686 form key h = record { kind = refl; form = h.form; aes_key = h.aes_key; iv = h.iv; tags = λ n. refl; input = refl; mac_room = λ text. refl; gives = h.gives }
kept_cipher c mode.Xts form key h = record { kind = refl; form = h.form; aes_key = h.aes_key; iv = h.iv; tags = λ n. refl; input = refl; mac_room = λ text. refl; gives = h.gives }

pub kept_authenc : (a : AnyAead) (m : CipherMode) (form : AesForm) (key : List ℕ) → aeads.IsAead a (ciphers.authenc_plan m form) key
    → IsKeyed (Aead a) (ciphers.authenc_plan m form) key
kept_authenc a mode.Cbc form key h = record { kind = refl; form = h.form; aes_key = h.aes_key; iv = h.iv; tags = h.tags; input = h.input; mac_room = λ text. refl; gives = h.gives }
kept_authenc a mode.Ctr form key h = record { kind = refl; form = h.form; aes_key = h.aes_key; iv = h.iv; tags = h.tags; input = h.input; mac_room = λ text. refl; gives = h.gives }
kept_authenc a mode.Rfc3686 form key h = record { kind = refl; form = h.form; aes_key = h.aes_key; iv = h.iv; tags = h.tags; input = h.input; mac_room = λ text. refl; gives = h.gives }
kept_authenc a mode.Xts form key h = record { kind = refl; form = h.form; aes_key = h.aes_key; iv = h.iv; tags = h.tags; input = h.input; mac_room = λ text. refl; gives = h.gives }

-- a mode with a tag takes what its plan takes
pub kept_takes : (a : AnyAead) (p : Plan) (key : List ℕ) (n : ℕ) (q : Request) → IsKeyed (Aead a) p key
    → aead_takes (aeads.takes_input_of a) (aeads.iv_size_of a) n q ≡ takes p n q
kept_takes a p key n q k =
    ap₂ (λ input size. aead_takes input size n q) k.input k.iv
    ∙ ap (λ kind. kind_takes kind (takes_input p) (iv_size p) n q) k.kind
