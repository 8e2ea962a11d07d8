-- a MAC under its key
use Rattle.std.proofs.Common.{◌≡◌, ℕ, List, refl, ap, Option, Some}
use Rattle.std_defs.specs.Aes.{seal}
use Rattle.std_defs.specs.Cmac.{cmac}
use Rattle.std_defs.specs.Hmac.{block_key}
use Rattle.std_defs.specs.Value.Value.{bytes}
use Rattle.templates.specs.Words.{template_named}
use Rattle.templates.specs.declared.driver_plans.AesForm.{AesForm}
use Rattle.templates.specs.declared.driver_plans.Plan.TheVariants as plan
use Rattle.transforms.specs.Forms.{key_of, form_of}
use Rattle.transforms.specs.Macs.{IsMac}
use Rattle.transforms.specs.RequestValue.{request_value}
use Rattle.transforms.specs.declared.any_aes.AnyAes.{AnyAes}
use Rattle.transforms.specs.declared.any_mac.AnyMac.TheVariants.{Hmac, Cmac}

some : List ℕ → Option (List ℕ)
some x = Some x

some_form : AesForm → Option AesForm
some_form x = Some x

pub under_hmac : (key : List ℕ) → IsMac (Hmac (block_key key)) plan.Hmac key
unfolding request_value template_named
under_hmac key = record { form = refl; aes_key = refl; room = λ text. refl; gives = λ n q. refl }

pub under_cmac : (a : AnyAes) (form : AesForm) (key : List ℕ) → key_of a ≡ key → form_of a ≡ form → IsMac (Cmac a) (plan.Cmac form) key
unfolding some some_form request_value template_named
under_cmac a form key e f = record {
  form = ap some_form f;
  aes_key = ap some e;
  room = λ text. refl;
  gives = λ n q. ap (λ k. bytes (cmac (seal k) q.text.text)) e;
}
