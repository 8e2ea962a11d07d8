-- For the contracts inside this crate: a mode without a tag, under the key that it has.
use Rattle.std.specs.Prelude.{◌≡◌, ℕ, List, Option, Some, None}
use Rattle.std.specs.Option.{option_map}
use Rattle.std_defs.specs.Aes.{seal, unseal}
use Rattle.std_defs.specs.Modes.{cbc_seal, cbc_unseal, ctr as ctr_of, rfc3686_counter}
use Rattle.std_defs.specs.Xts.{xts_seal, xts_unseal}
use Rattle.templates.specs.declared.driver_plans.AesForm.{AesForm}
use Rattle.templates.specs.declared.driver_plans.Plan.{Plan}
use Rattle.templates.specs.declared.driver_plans.Plan.TheVariants as plan
use Rattle.transforms.specs.Drivers.{driver_of}
use Rattle.transforms.specs.Forms.{key_of, form_of}
use Rattle.transforms.specs.Modes.{cipher_value}
use Rattle.transforms.specs.Plans.{form_in, aes_key_in, iv_size}
use Rattle.transforms.specs.RequestValue.{request_value}
use Rattle.transforms.specs.declared.request.Request.{Request}
use Rattle.transforms.specs.declared.any_aes.AnyAes.{AnyAes}
use Rattle.transforms.specs.declared.any_cipher.CipherMode.{CipherMode}
use Rattle.transforms.specs.declared.any_cipher.CipherMode.TheVariants as mode
use Rattle.transforms.specs.declared.any_cipher.AnyCipher.{AnyCipher}
use Rattle.transforms.specs.declared.any_cipher.AnyCipher.TheVariants.{Cbc, Ctr, Rfc3686, Xts}

-- the plan of a mode over a form of AES, and that of authenc over it
abbrev pub cipher_plan : CipherMode → AesForm → Plan
cipher_plan mode.Cbc aes = plan.Cbc aes
cipher_plan mode.Ctr aes = plan.Ctr aes
cipher_plan mode.Rfc3686 aes = plan.Rfc3686 aes
cipher_plan mode.Xts aes = plan.Xts aes

abbrev pub authenc_plan : CipherMode → AesForm → Plan
authenc_plan mode.Cbc aes = plan.AuthencCbc aes
authenc_plan mode.Ctr aes = plan.AuthencCtr aes
authenc_plan mode.Rfc3686 aes = plan.AuthencRfc3686 aes
authenc_plan mode.Xts aes = plan.AuthencXts aes

abbrev pub iv_size_of : AnyCipher → ℕ
iv_size_of (Cbc aes) = 16
iv_size_of (Ctr aes) = 16
iv_size_of (Rfc3686 salted) = 8
iv_size_of (Xts halves) = 16

abbrev pub seals_of : AnyCipher → List ℕ → List ℕ → Option (List ℕ)
seals_of (Cbc aes) iv text = cbc_seal (seal (key_of aes)) iv text
seals_of (Ctr aes) iv text = Some (ctr_of (seal (key_of aes)) iv text)
seals_of (Rfc3686 salted) iv text = Some (ctr_of (seal (key_of salted.0)) (rfc3686_counter salted.1 iv) text)
seals_of (Xts halves) iv text = xts_seal (seal (key_of halves.0)) (seal (key_of halves.1)) iv text

abbrev pub unseals_of : AnyCipher → List ℕ → List ℕ → Option (List ℕ)
unseals_of (Cbc aes) iv text = cbc_unseal (unseal (key_of aes)) iv text
unseals_of (Ctr aes) iv text = Some (ctr_of (seal (key_of aes)) iv text)
unseals_of (Rfc3686 salted) iv text = Some (ctr_of (seal (key_of salted.0)) (rfc3686_counter salted.1 iv) text)
unseals_of (Xts halves) iv text = xts_unseal (unseal (key_of halves.0)) (seal (key_of halves.1)) iv text

-- its cipher, where it has one alone
abbrev pub aes_of : AnyCipher → Option AnyAes
aes_of (Cbc aes) = Some aes
aes_of (Ctr aes) = Some aes
aes_of (Rfc3686 salted) = Some salted.0
aes_of (Xts halves) = None

-- the cipher is that of the plan under the key
pub record IsCipher (c : AnyCipher) (p : Plan) (key : List ℕ) : Type 0 where
  pub form : option_map form_of (aes_of c) ≡ form_in p
  pub aes_key : option_map key_of (aes_of c) ≡ aes_key_in p key
  pub iv : iv_size_of c ≡ iv_size p
  pub gives : (n : ℕ) (q : Request) → cipher_value (seals_of c) (unseals_of c) q ≡ request_value (driver_of p) key n q
