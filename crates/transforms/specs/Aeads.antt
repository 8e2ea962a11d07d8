-- For the contracts inside this crate: a mode with a tag, under the key that it has.
use Rattle.std.specs.Prelude.{◌≡◌, ℕ, Bool, true, List, Option, Some}
use Rattle.std.specs.Option.{option_map}
use Rattle.std_defs.specs.Ccm.{ccm_takes_tag}
use Rattle.std_defs.specs.Gcm.{gcm_takes_tag}
use Rattle.std_defs.specs.Rfc4106.{rfc4106_takes_tag}
use Rattle.templates.specs.declared.driver_plans.Plan.{Plan}
use Rattle.transforms.specs.Ciphers as ciphers
use Rattle.transforms.specs.Asked.{TakesInput}
use Rattle.transforms.specs.Drivers.{driver_of}
use Rattle.transforms.specs.Forms.{key_of, form_of}
use Rattle.transforms.specs.Modes.{Seals, Opens, gcm_seals, gcm_opens, rfc4106_seals, rfc4106_opens, ccm_seals, ccm_opens, authenc_seals, authenc_opens, aead_value}
use Rattle.transforms.specs.Plans.{form_in, aes_key_in, iv_size, takes_tag, takes_input, ccm_takes_input, authenc_takes_tag}
use Rattle.transforms.specs.RequestValue.{request_value}
use Rattle.transforms.specs.declared.request.Request.{Request}
use Rattle.transforms.specs.declared.any_aes.AnyAes.{AnyAes}
use Rattle.transforms.specs.declared.any_aead.AnyAead.{AnyAead}
use Rattle.transforms.specs.declared.any_aead.AnyAead.TheVariants.{BitGcm, LaneGcm, BitRfc4106, LaneRfc4106, Ccm, Authenc}

abbrev pub iv_size_of : AnyAead → ℕ
iv_size_of (BitGcm aes) = 12
iv_size_of (LaneGcm boxed) = 12
iv_size_of (BitRfc4106 salted) = 8
iv_size_of (LaneRfc4106 boxed) = 8
iv_size_of (Ccm aes) = 16
iv_size_of (Authenc mode) = ciphers.iv_size_of mode.1

abbrev pub tag_size_of : AnyAead → ℕ
tag_size_of (BitGcm aes) = 16
tag_size_of (LaneGcm boxed) = 16
tag_size_of (BitRfc4106 salted) = 16
tag_size_of (LaneRfc4106 boxed) = 16
tag_size_of (Ccm aes) = 16
tag_size_of (Authenc mode) = 32

abbrev pub takes_tag_of : AnyAead → ℕ → Bool
takes_tag_of (BitGcm aes) n = gcm_takes_tag n
takes_tag_of (LaneGcm boxed) n = gcm_takes_tag n
takes_tag_of (BitRfc4106 salted) n = rfc4106_takes_tag n
takes_tag_of (LaneRfc4106 boxed) n = rfc4106_takes_tag n
takes_tag_of (Ccm aes) n = ccm_takes_tag n
takes_tag_of (Authenc mode) n = authenc_takes_tag n

abbrev pub takes_input_of : AnyAead → TakesInput
takes_input_of (Ccm aes) iv associated text = ccm_takes_input iv associated text
takes_input_of _ iv associated text = true

abbrev pub seals_of : AnyAead → Seals
seals_of (BitGcm aes) = gcm_seals (key_of aes)
seals_of (LaneGcm boxed) = gcm_seals (key_of boxed.value)
seals_of (BitRfc4106 salted) = rfc4106_seals (key_of salted.0) salted.1
seals_of (LaneRfc4106 boxed) = rfc4106_seals (key_of boxed.value.0) boxed.value.1
seals_of (Ccm aes) = ccm_seals (key_of aes)
seals_of (Authenc mode) = authenc_seals mode.0 (ciphers.seals_of mode.1)

abbrev pub opens_of : AnyAead → Opens
opens_of (BitGcm aes) = gcm_opens (key_of aes)
opens_of (LaneGcm boxed) = gcm_opens (key_of boxed.value)
opens_of (BitRfc4106 salted) = rfc4106_opens (key_of salted.0) salted.1
opens_of (LaneRfc4106 boxed) = rfc4106_opens (key_of boxed.value.0) boxed.value.1
opens_of (Ccm aes) = ccm_opens (key_of aes)
opens_of (Authenc mode) = authenc_opens mode.0 (ciphers.unseals_of mode.1)

-- its cipher, where it has one alone
abbrev pub aes_of : AnyAead → Option AnyAes
aes_of (BitGcm aes) = Some aes
aes_of (LaneGcm boxed) = Some boxed.value
aes_of (BitRfc4106 salted) = Some salted.0
aes_of (LaneRfc4106 boxed) = Some boxed.value.0
aes_of (Ccm aes) = Some aes
aes_of (Authenc mode) = ciphers.aes_of mode.1

-- the mode is that of the plan under the key
pub record IsAead (a : AnyAead) (p : Plan) (key : List ℕ) : Type 0 where
  pub form : option_map form_of (aes_of a) ≡ form_in p
  pub aes_key : option_map key_of (aes_of a) ≡ aes_key_in p key
  pub iv : iv_size_of a ≡ iv_size p
  pub tags : (n : ℕ) → takes_tag_of a n ≡ takes_tag p n
  pub input : takes_input_of a ≡ takes_input p
  pub gives : (n : ℕ) (q : Request) → aead_value (seals_of a) (opens_of a) n q ≡ request_value (driver_of p) key n q
